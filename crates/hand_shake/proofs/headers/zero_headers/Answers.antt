use Rattle.std.proofs.Common.{◌-◌, ap, ◌∙◌, arith}
use Rattle.bridge_pair.specs.Bridge.{Bridge, bridge_bytes_of, pages_of, with_bytes}
use Rattle.bridge_pair.specs.Ends.{bytes_after}
use Rattle.bridge_pair.proofs.Facade.{bytes_again}
use Rattle.hand_shake.specs.Headers.{AreHeadersOfReady, ring_stores}
use Rattle.hand_shake.proofs.HeaderPages.{ring_before}
use Rattle.hand_shake.proofs.ZeroHeaders.{ready_after_rings, stored_again}
use Rattle.hand_shake.proofs.headers.zero_headers.Goals as goal

pub zero_headers_of-requires-clause-ready : goal.zero_headers_of-requires-clause-ready
zero_headers_of-requires-clause-ready c =
    let queue = c.loop-queue.queue - 1 in
    stored_again c.args.pair.now c.loop-queue.pair c.args.side _ (λ plan bytes pages. AreHeadersOfReady plan c.args.side queue bytes pages) c.loop-queue.invariant.so_far
    (ready_after_rings c.args.pair.now.plan c.args.side queue _ (bridge_bytes_of c.args.pair.now c.args.side) (pages_of c.args.pair.now c.args.side)
    (c.requires.ready queue (omega (arith, c.loop-queue.invariant.all, c.loop-queue.auto.queue, c.loop-queue-test.true))))

pub loop-queue-preserved : goal.loop-queue-preserved
loop-queue-preserved c =
    let same = ap (λ (bridge : Bridge). bridge.plan) c.loop-queue.invariant.so_far in
    let queue = c.loop-queue.queue - 1 in
    let left = c.side_plan-queues.result.queues - c.loop-queue.queue in
    let stored =
    ring_before c.args.pair.now.plan c.loop-queue.pair.plan c.args.side queue c.loop-queue.queue left (c.side_plan-queues.result.queues - queue) (bridge_bytes_of c.args.pair.now c.args.side) same
    (omega (arith, c.loop-queue-test.true)) (omega (arith, c.loop-queue-test.true, c.loop-queue.auto.queue)) in
    record {
      all = c.loop-queue.invariant.all;
      so_far =
          bytes_again c.args.pair.now c.loop-queue.pair c.zero_headers_of.new.pair c.args.side _ (bytes_after (ring_stores c.loop-queue.pair.plan c.args.side queue)) c.loop-queue.invariant.so_far c.zero_headers_of.ensures
          ∙ ap (λ stored. with_bytes c.args.pair.now c.args.side stored) stored;
    }
