use Rattle.stream_laws.proofs.Sessions.{sessions_keep_front}
use Rattle.stream_laws.proofs.laws.sessions_keep_front.Goals as goal

pub returns : goal.returns
returns c = sessions_keep_front
