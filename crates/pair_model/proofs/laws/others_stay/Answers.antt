use Rattle.pair_model.proofs.Lookups.{lookup-other}
use Rattle.pair_model.proofs.laws.others_stay.Goals as goal

pub returns : goal.returns
returns c = lookup-other
