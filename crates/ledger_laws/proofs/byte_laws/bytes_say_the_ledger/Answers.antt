use Rattle.ledger_laws.proofs.BytesSayTheLedger.{bytes_say_the_ledger}
use Rattle.ledger_laws.proofs.byte_laws.bytes_say_the_ledger.Goals as goal

pub returns : goal.returns
returns c = bytes_say_the_ledger
