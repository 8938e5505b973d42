use Rattle.bridge_regs.proofs.BitByBit.{keeps_masked}
use Rattle.bridge_regs.proofs.laws.masked_bits_stay.Goals as goal

pub returns : goal.returns
returns c = keeps_masked
