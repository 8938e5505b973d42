use Rattle.read_path.proofs.NumbersInLogs
use Rattle.read_path.proofs.laws.requests_land_once.Goals as goal

pub returns : goal.returns
returns c = NumbersInLogs.requests_land_once
