use Rattle.pair_model.proofs.Floods.{flood-spares}
use Rattle.pair_model.proofs.laws.flood_spares_its_port.Goals as goal

pub returns : goal.returns
returns c = flood-spares
