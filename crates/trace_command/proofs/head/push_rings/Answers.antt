use Rattle.report_text.proofs.Facade.{grown}
use Rattle.std.specs.List.{flat_map, range_with_len}
use Rattle.trace_command.specs.Head.{ring_after}
use Rattle.trace_command.proofs.Heads.{rings_more}
use Rattle.trace_command.proofs.head.push_rings.Goals as goal

pub loop-queue-preserved : goal.loop-queue-preserved
loop-queue-preserved c =
    grown c.loop-queue.text.items c.push_ring.new.text.items c.args.text.now.items (flat_map (ring_after c.args.pair.now c.args.side) (range_with_len 0 c.loop-queue.queue))
    (ring_after c.args.pair.now c.args.side c.loop-queue.queue) _ c.loop-queue.invariant c.in_ok-push_ring.ensures (rings_more c.args.pair.now c.args.side c.loop-queue.queue)
