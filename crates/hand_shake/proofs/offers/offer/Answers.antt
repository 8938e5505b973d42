use Rattle.std.proofs.Common.{◌<◌, ap, sym, subst, arith}
use Rattle.bridge_pair.specs.Bridge.{Bridge, offer_length}
use Rattle.bridge_pair.specs.declared.book.SideBook.{SideBook}
use Rattle.hand_shake.proofs.Books.{with_offered}
use Rattle.hand_shake.proofs.offers.offer.Goals as goal

pub overflow_add-book : goal.overflow_add-book
overflow_add-book c =
    let offered = ap (λ (book : SideBook). book.offered) c.book-book.ensures.value in
    omega (arith, c.next_pad-pad.ensures.few, offered)

pub set_book-requires : goal.set_book-requires
set_book-requires c =
    let posted = rw c.in_ok-post_pad.was at c.post_pad.ensures.ok in
    let left = subst (λ (book : SideBook). book.offered < offer_length c.args.pair.now.plan c.args.side) (sym c.book-book.ensures.value) c.next_pad-pad.ensures.left in
    with_offered c.args.pair.now.plan c.post_pad.new.pair.plan c.args.side c.book-book.result (ap (λ (bridge : Bridge). bridge.plan) posted) c.book-book.ensures.fits left
