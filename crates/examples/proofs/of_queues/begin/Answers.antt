use Rattle.examples.proofs.Queues.{begin_is_on}
use Rattle.examples.proofs.of_queues.begin.Goals as goal

pub returns : goal.returns
returns c =
    begin_is_on c.args.queue.now c.begin.new.self c.args.pair.now c.begin.new.pair _ _ c.requires c.in_ok-begun.ensures.after c.begin.ensures.rest c.in_ok-begun.ensures.ready
