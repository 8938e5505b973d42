use Rattle.std.proofs.Common.{refl}
use Rattle.std.proofs.lemmas.Bool.{true≢false}
use Rattle.cluster_run.proofs.Streams.KeptItems.{few_with, kept_more}
use Rattle.cluster_run.proofs.stream.sink.Sink.keep.Goals as goal

pub invariant_of-self : goal.invariant_of-self
invariant_of-self g c =
    kept_more c.self.inside _ _ c.self.invariant refl refl refl c.in-Ok.ensures.items
    (few_with _ c.self.inside.receiver.items _ _ c.items.ensures c.len-kept.ensures c.self.invariant.few c.turns_within-turns.ensures) (λ calm. (calm, c.in-Ok.ensures.taken))

pub invariant_of-self-in-Err : goal.invariant_of-self-in-Err
invariant_of-self-in-Err g c =
    kept_more c.self.inside _ _ c.self.invariant refl refl refl c.in-Err.ensures.items
    (few_with _ c.self.inside.receiver.items _ _ c.items.ensures c.len-kept.ensures c.self.invariant.few c.turns_within-turns.ensures) (λ calm. absurd (true≢false calm))
