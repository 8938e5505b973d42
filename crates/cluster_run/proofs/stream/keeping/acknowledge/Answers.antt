use Rattle.std.proofs.Common.{sym, ◌∙◌}
use Rattle.cluster_run.proofs.Streams.NextFrame.{number_has_byte}
use Rattle.cluster_run.proofs.stream.keeping.acknowledge.Goals as goal

pub send-requires-clause-byte : goal.send-requires-clause-byte
send-requires-clause-byte c none = number_has_byte _ (sym c.in_ok-frame.ensures ∙ none)
