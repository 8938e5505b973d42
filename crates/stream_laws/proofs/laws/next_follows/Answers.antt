use Rattle.stream_laws.proofs.Senders.{next_follows}
use Rattle.stream_laws.proofs.laws.next_follows.Goals as goal

pub returns : goal.returns
returns c = next_follows
