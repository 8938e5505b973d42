use Rattle.bridge_regs.proofs.BitByBit.{takes_unmasked}
use Rattle.bridge_regs.proofs.laws.take_is_bit_by_bit.Goals as goal

pub returns : goal.returns
returns c = takes_unmasked
