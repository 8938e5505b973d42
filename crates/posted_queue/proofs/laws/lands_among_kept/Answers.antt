use Rattle.posted_queue.proofs.LawLemmas.{may_land-among_kept}
use Rattle.posted_queue.proofs.laws.lands_among_kept.Goals as goal

pub returns : goal.returns
returns g c = may_land-among_kept g.W.Ordered.order
