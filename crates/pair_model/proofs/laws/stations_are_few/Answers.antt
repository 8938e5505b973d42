use Rattle.pair_model.proofs.Lookups.{learned-few}
use Rattle.pair_model.proofs.laws.stations_are_few.Goals as goal

pub returns : goal.returns
returns c = learned-few
