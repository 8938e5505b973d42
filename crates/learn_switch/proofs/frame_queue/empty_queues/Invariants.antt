use Rattle.std.proofs.Common.{◌≡◌, [], replicate}
use Rattle.learn_switch.proofs.frame_queue.empty_queues.Given as goal

abbrev pub invariant-loop-place : goal.invariant-loop-place
invariant-loop-place l = l.queues.items ≡ replicate l._place []
