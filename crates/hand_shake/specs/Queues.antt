-- Queues: a side says which are ready, and joins those that are ready on both sides.
use Rattle.std.specs.Prelude.{ℕ, not, slice_index, if◌then◌else◌}
use Rattle.step_kinds.specs.Bits.{has_bit, with_bit}
use Rattle.step_kinds.specs.declared.names.Side.{Side}
use Rattle.pair_model.specs.Link.{is_up}
use Rattle.pair_model.specs.Pads.{links_pad}
use Rattle.pair_model.specs.Refusals.{Test, OfLink, OfCheck, OfReady, OfJoined, OfPeer, in_ready_order, in_join_order}
use Rattle.bridge_pair.specs.Bridge.{Bridge, book_of, pads_of, with_book}
use Rattle.bridge_pair.specs.Writes.{pad_write}
use Rattle.hand_shake.specs.Offers.{with_posted}
use Rattle.hand_shake.specs.declared.ReadyAnswer.{ReadyAnswer}
use Rattle.hand_shake.specs.declared.ReadyAnswer.TheVariants.{Ok as IsReady, Already, NotChecked, LinkDown}
use Rattle.hand_shake.specs.declared.JoinAnswer.{JoinAnswer}
use Rattle.hand_shake.specs.declared.JoinAnswer.TheVariants.{Joined, Already as JoinedAlready, NotReady, NotYet, LinkDown as JoinLinkDown}

abbrev pub ready_tests : Bridge → Side → ℕ → Test → ReadyAnswer → ReadyAnswer
ready_tests bridge side queue OfLink later = if not (is_up bridge.link.state) then LinkDown else later
ready_tests bridge side queue OfCheck later = if not (book_of bridge side).up then NotChecked else later
ready_tests bridge side queue OfReady later = if has_bit (book_of bridge side).ready queue then Already else later
ready_tests bridge side queue test later = later

abbrev pub ready_answer : Bridge → Side → ℕ → ReadyAnswer
ready_answer bridge side queue = in_ready_order (ready_tests bridge side queue) IsReady

-- the queue is ready, and the peer is told of all that are
abbrev pub made_ready : Bridge → Side → ℕ → Bridge
made_ready bridge side queue =
    with_book (with_posted bridge side (pad_write links_pad (with_bit (book_of bridge side).ready queue))) side
    (record (book_of bridge side) { ready = with_bit (book_of bridge side).ready queue })

abbrev pub after_ready_answer : Bridge → Side → ℕ → ReadyAnswer → Bridge
after_ready_answer bridge side queue IsReady = made_ready bridge side queue
after_ready_answer bridge side queue answer = bridge

abbrev pub after_ready : Bridge → Side → ℕ → Bridge
after_ready bridge side queue = after_ready_answer bridge side queue (ready_answer bridge side queue)

abbrev pub join_tests : Bridge → Side → ℕ → Test → JoinAnswer → JoinAnswer
join_tests bridge side queue OfLink later = if not (is_up bridge.link.state) then JoinLinkDown else later
join_tests bridge side queue OfReady later = if not (has_bit (book_of bridge side).ready queue) then NotReady else later
join_tests bridge side queue OfJoined later = if has_bit (book_of bridge side).joined queue then JoinedAlready else later
join_tests bridge side queue OfPeer later = if not (has_bit (slice_index (pads_of bridge side) links_pad) queue) then NotYet else later
join_tests bridge side queue test later = later

abbrev pub join_answer : Bridge → Side → ℕ → JoinAnswer
join_answer bridge side queue = in_join_order (join_tests bridge side queue) Joined

abbrev pub after_join_answer : Bridge → Side → ℕ → JoinAnswer → Bridge
after_join_answer bridge side queue Joined = with_book bridge side (record (book_of bridge side) { joined = with_bit (book_of bridge side).joined queue })
after_join_answer bridge side queue answer = bridge

abbrev pub after_join : Bridge → Side → ℕ → Bridge
after_join bridge side queue = after_join_answer bridge side queue (join_answer bridge side queue)
