use Rattle.std.proofs.Common.{◌∙◌, ap, length, refl}
use Rattle.cluster_run.proofs.Streams.KeptItems.{new_sink}
use Rattle.cluster_run.proofs.stream.sink.Sink.new.Goals as goal

pub invariant_of-result : goal.invariant_of-result
invariant_of-result c = new_sink _ (c.len-begun.ensures ∙ ap length c.items.ensures) refl c.requires.fresh c.requires.got c.requires.sent c.requires.few
