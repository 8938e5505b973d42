use Rattle.stream_laws.proofs.Sessions.{whole_session_brings_all}
use Rattle.stream_laws.proofs.laws.whole_session_brings_all.Goals as goal

pub returns : goal.returns
returns c = whole_session_brings_all
