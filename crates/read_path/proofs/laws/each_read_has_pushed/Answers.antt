use Rattle.read_path.proofs.ReadsPush
use Rattle.read_path.proofs.laws.each_read_has_pushed.Goals as goal

pub returns : goal.returns
returns c = ReadsPush.each_read_has_pushed
