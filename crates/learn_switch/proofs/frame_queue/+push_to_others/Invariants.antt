use Rattle.std.proofs.Common.{length}
use Rattle.learn_switch.proofs.frame_queue.+push_to_others.Given as goal

abbrev pub decreases-push_to_others : goal.decreases-push_to_others
decreases-push_to_others l = length l.queues.now
