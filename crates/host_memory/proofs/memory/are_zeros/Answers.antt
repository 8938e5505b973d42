use Rattle.host_memory.proofs.OnPage.{told_zero_page}
use Rattle.host_memory.proofs.memory.are_zeros.Goals as goal

pub returns : goal.returns
returns c = told_zero_page c.args.bytes.now c.eq.result c.requires c.eq.ensures
