use Rattle.std.proofs.Common.{arith}
use Rattle.hand_shake.proofs.Books.{with_joined}
use Rattle.hand_shake.proofs.queues.join.Goals as goal

pub has_bit-requires : goal.has_bit-requires
has_bit-requires c = omega (arith, c.requires, c.book-book.ensures.few)

pub has_bit-requires-2 : goal.has_bit-requires-2
has_bit-requires-2 c = omega (arith, c.requires, c.book-book.ensures.few)

pub has_bit-requires-3 : goal.has_bit-requires-3
has_bit-requires-3 c = omega (arith, c.requires, c.book-book.ensures.few)

pub with_bit-joined-requires : goal.with_bit-joined-requires
with_bit-joined-requires c = omega (arith, c.requires, c.book-book.ensures.few)

pub set_book-requires : goal.set_book-requires
set_book-requires c =
    with_joined c.args.pair.now.plan c.args.side c.book-book.result c.args.queue c.with_bit-joined.result c.book-book.ensures.fits c.requires c.with_bit-joined.ensures
