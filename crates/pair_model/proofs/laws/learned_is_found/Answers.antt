use Rattle.pair_model.proofs.Lookups.{lookup-learned}
use Rattle.pair_model.proofs.laws.learned_is_found.Goals as goal

pub returns : goal.returns
returns c = lookup-learned
