use Rattle.script_text.specs.Script.{script_of}
use Rattle.explore_command.proofs.OneStatus.{same_status}
use Rattle.explore_command.proofs.laws.one_status.Goals as goal

pub returns : goal.returns
returns c = λ bytes. same_status (script_of bytes)
