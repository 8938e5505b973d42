use Rattle.pair_model.proofs.Floods.{flood-reaches}
use Rattle.pair_model.proofs.laws.flood_reaches_others.Goals as goal

pub returns : goal.returns
returns c = flood-reaches
