use Rattle.script_text.specs.Script.{script_of}
use Rattle.explore_command.proofs.OneStatus.{too_many_exactly}
use Rattle.explore_command.proofs.laws.too_many_is_exact.Goals as goal

pub returns : goal.returns
returns c = λ bytes. too_many_exactly (script_of bytes)
