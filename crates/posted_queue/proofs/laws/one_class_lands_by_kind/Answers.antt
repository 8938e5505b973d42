use Rattle.posted_queue.proofs.LawLemmas.{may_land-one_class}
use Rattle.posted_queue.proofs.laws.one_class_lands_by_kind.Goals as goal

pub returns : goal.returns
returns c = may_land-one_class
