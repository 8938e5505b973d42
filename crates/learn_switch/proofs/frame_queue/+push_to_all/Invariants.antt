use Rattle.std.proofs.Common.{length}
use Rattle.learn_switch.proofs.frame_queue.+push_to_all.Given as goal

abbrev pub decreases-push_to_all : goal.decreases-push_to_all
decreases-push_to_all l = length l.queues.now
