use Rattle.stream_laws.proofs.Senders.{largest_counts}
use Rattle.stream_laws.proofs.laws.largest_counts.Goals as goal

pub returns : goal.returns
returns c = largest_counts
