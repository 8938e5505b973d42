use Rattle.examples.specs.Queues.{IsQueueOn}
use Rattle.examples.proofs.of_queues.posts.Given as goal

abbrev pub invariant-loop-label : goal.invariant-loop-label
invariant-loop-label l = IsQueueOn l.pair l.queue
