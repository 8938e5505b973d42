use Rattle.std.proofs.Common.{ap, arith}
use Rattle.bridge_pair.specs.Bridge.{Bridge}
use Rattle.hand_shake.proofs.Books.{with_ready}
use Rattle.hand_shake.proofs.queues.ready.Goals as goal

pub has_bit-requires : goal.has_bit-requires
has_bit-requires c = omega (arith, c.requires, c.book-book.ensures.few)

pub with_bit-ready-requires : goal.with_bit-ready-requires
with_bit-ready-requires c = omega (arith, c.requires, c.book-book.ensures.few)

pub set_book-requires : goal.set_book-requires
set_book-requires c =
    let posted = rw c.in_ok-post_pad.was at c.post_pad.ensures.ok in
    with_ready c.args.pair.now.plan c.post_pad.new.pair.plan c.args.side c.book-book.result c.args.queue c.with_bit-ready.result (ap (λ (bridge : Bridge). bridge.plan) posted)
    c.book-book.ensures.fits c.requires c.with_bit-ready.ensures
