use Rattle.std.proofs.Common.{arith}
use Rattle.bridge_pair.proofs.Facade.{pages_again}
use Rattle.hand_shake.proofs.HeaderPages.{ring_grows, ring_ready}
use Rattle.hand_shake.proofs.headers.promise_headers.Goals as goal

pub returns-in_err-promise_headers_of-clause-grown : goal.returns-in_err-promise_headers_of-clause-grown
returns-in_err-promise_headers_of-clause-grown c =
    let so_far = c.loop-queue.invariant.grown in
    let next = c.promise_headers_of.ensures.grown in
    record {
      rest = pages_again c.args.pair.now c.loop-queue.pair c.promise_headers_of.new.pair c.args.side so_far.rest next.rest;
      pages = ring_grows c.args.pair.now c.loop-queue.pair c.args.side c.loop-queue.queue _ so_far.rest (omega (arith, c.loop-queue.invariant.all, c.loop-queue-test.true)) so_far.pages next.pages;
    }

pub loop-queue-preserved : goal.loop-queue-preserved
loop-queue-preserved c =
    let so_far = c.loop-queue.invariant.grown in
    let next = c.promise_headers_of.ensures.grown in
    record {
      all = c.loop-queue.invariant.all;
      grown = record {
        rest = pages_again c.args.pair.now c.loop-queue.pair c.promise_headers_of.new.pair c.args.side so_far.rest next.rest;
        pages = ring_grows c.args.pair.now c.loop-queue.pair c.args.side c.loop-queue.queue _ so_far.rest (omega (arith, c.loop-queue.invariant.all, c.loop-queue-test.true)) so_far.pages next.pages;
      };
      done =
          ring_ready c.args.pair.now c.loop-queue.pair c.args.side c.loop-queue.queue _ so_far.rest c.loop-queue.invariant.done next.pages
          (rw c.in_ok-promise_headers_of.was at c.promise_headers_of.ensures.ok);
    }

pub returns-clause-ok : goal.returns-clause-ok
returns-clause-ok c = λ queue less. c.loop-queue.invariant.done queue (omega (arith, less, c.loop-queue.invariant.all, c.loop-queue-test.false))
