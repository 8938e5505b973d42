use Rattle.posted_queue.proofs.LawLemmas.{may_land-relaxed_or_first_of_class}
use Rattle.posted_queue.proofs.laws.relaxed_or_first_of_class_lands.Goals as goal

pub returns : goal.returns
returns c = may_land-relaxed_or_first_of_class
