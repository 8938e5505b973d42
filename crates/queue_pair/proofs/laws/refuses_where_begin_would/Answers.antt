-- The law is a lemma of the crate.
use Rattle.queue_pair.proofs.Refusals.{refuses_where_begin_would as law}
use Rattle.queue_pair.proofs.laws.refuses_where_begin_would.Goals as goal

pub returns : goal.returns
returns c = law
