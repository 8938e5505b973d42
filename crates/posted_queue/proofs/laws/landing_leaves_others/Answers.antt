use Rattle.posted_queue.proofs.LawLemmas.{filter-split_other}
use Rattle.posted_queue.proofs.laws.landing_leaves_others.Goals as goal

pub returns : goal.returns
returns g c = λ kept before after write left_out. filter-split_other kept before write after left_out
