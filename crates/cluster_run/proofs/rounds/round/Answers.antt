use Rattle.cluster_run.proofs.LaneLists.{keys_kept}
use Rattle.cluster_run.proofs.rounds.round.Goals as goal

pub returns-then-works-le-FEW_LANES : goal.returns-then-works-le-FEW_LANES
returns-then-works-le-FEW_LANES g c =
    let calls = c.for_each_mut in
    keys_kept _ _ _ calls.auto.s (λ i work below. c.requires.in_threads.keeps _ _ _ (calls.ensures i work below).1)

pub returns-else-works-le-FEW_LANES : goal.returns-else-works-le-FEW_LANES
returns-else-works-le-FEW_LANES g c =
    let calls = c.for_each_mut-else-works-le-FEW_LANES in
    keys_kept _ _ _ calls.auto.s (λ i work below. c.requires.in_turn.keeps _ _ _ (calls.ensures i work below).1)
