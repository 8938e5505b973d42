use Rattle.fabric_core.proofs.SameFabrics.{one_list_makes_same}
use Rattle.fabric_core.proofs.same.one_list_makes_same.Goals as goal

pub returns : goal.returns
returns c = one_list_makes_same
