use Rattle.read_path.proofs.NumbersInLogs
use Rattle.read_path.proofs.laws.reads_are_numbered.Goals as goal

pub returns : goal.returns
returns c = NumbersInLogs.reads_are_numbered
