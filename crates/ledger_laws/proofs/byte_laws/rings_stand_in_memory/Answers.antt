use Rattle.ledger_laws.proofs.RingsStand.{rings_stand_in_memory}
use Rattle.ledger_laws.proofs.byte_laws.rings_stand_in_memory.Goals as goal

pub returns : goal.returns
returns c = rings_stand_in_memory
