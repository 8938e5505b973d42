use Rattle.stream_laws.proofs.Sessions.{sessions_grow}
use Rattle.stream_laws.proofs.laws.sessions_grow.Goals as goal

pub returns : goal.returns
returns c = sessions_grow
