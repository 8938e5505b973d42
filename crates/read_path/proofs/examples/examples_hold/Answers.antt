use Rattle.std.proofs.Common.{refl}
use Rattle.read_path.proofs.WrongLog.{not_pushed}
use Rattle.read_path.proofs.examples.examples_hold.Goals as goal

pub returns : goal.returns
returns c = record {
  waits = refl;
  passes = refl;
  posted = refl;
  landed = refl;
  posted_by_peer = refl;
  landed_at_data = refl;
  not_pushed = not_pushed;
}
