use Rattle.pair_model.proofs.Lookups.{learned-below}
use Rattle.pair_model.proofs.laws.ports_are_below.Goals as goal

pub returns : goal.returns
returns c = learned-below
