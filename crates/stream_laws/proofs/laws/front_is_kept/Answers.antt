use Rattle.stream_laws.proofs.Sessions.{front_is_kept}
use Rattle.stream_laws.proofs.laws.front_is_kept.Goals as goal

pub returns : goal.returns
returns c = front_is_kept
