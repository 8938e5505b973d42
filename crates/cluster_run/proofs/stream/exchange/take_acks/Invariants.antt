use Rattle.std.proofs.Common.{◌≡◌, length, fold}
use Rattle.stream_model.specs.Sender.{ack_taken}
use Rattle.cluster_run.proofs.stream.exchange.take_acks.Given as goal

abbrev pub invariant-loop-frame : goal.invariant-loop-frame
invariant-loop-frame l = fold ack_taken l.sender l.acks.frames ≡ fold ack_taken l.fn.sender l.fn.acks.frames

abbrev pub decreases-loop-frame : goal.decreases-loop-frame
decreases-loop-frame l = length l.acks.frames
