use Rattle.pair_model.proofs.Lookups.{lookup-below}
use Rattle.pair_model.proofs.laws.found_is_below.Goals as goal

pub returns : goal.returns
returns c = lookup-below
