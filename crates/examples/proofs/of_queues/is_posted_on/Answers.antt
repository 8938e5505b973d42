use Rattle.std.proofs.Common.{subst, sym}
use Rattle.examples.specs.Queues.{IsQueueOn}
use Rattle.examples.proofs.Queues.{fresh_is_on}
use Rattle.examples.proofs.of_queues.is_posted_on.Goals as goal

pub is_posted-requires : goal.is_posted-requires
is_posted-requires c = subst (IsQueueOn c.args.pair.now) (sym c.new_queue-queue.ensures) (fresh_is_on c.args.pair.now c.requires)
