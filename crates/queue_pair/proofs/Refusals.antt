-- A queue refuses where a begin would be refused.
use Rattle.std.proofs.Common.{◌≡◌, ◌||◌, ℕ, Bool, true, false, not, Some, None, is_some, refl, nat_lt, if◌then◌else◌}
use Rattle.step_kinds.specs.declared.lanes.Begun.TheVariants.{Ok as BegunOk, TooLong as FrameTooLong, Busy as PortBusy, NoRoom as RingFull}
use Rattle.frame_ring.specs.Calls.{free_seen, head_seen, index_word_seen, sizes_seen}
use Rattle.frame_ring.specs.Port.{is_port_busy}
use Rattle.pair_model.specs.Link.{is_up}
use Rattle.pair_model.specs.Sizes.{pieces_in}
use Rattle.queue_pair.specs.Gates.{answer_unless, is_joined}
use Rattle.queue_pair.specs.Laws.{RefusesWhereBeginWould, is_refusal}
use Rattle.queue_pair.specs.declared.BeginAnswer.TheVariants.{LinkDown, NotReady, Closed}

by_tests : (len most head tail told : ℕ) (up joined closed long busy few : Bool)
    → is_some (if not up then Some LinkDown else if not joined then Some NotReady else if closed then Some Closed else None) || (long || busy)
    ≡ is_refusal (answer_unless (if not up then Some LinkDown else if not joined then Some NotReady else if closed then Some Closed else None)
    (if long then FrameTooLong len most else if busy then PortBusy else if few then RingFull head tail else BegunOk told))
by_tests len most head tail told false joined closed long busy few = refl
by_tests len most head tail told true false closed long busy few = refl
by_tests len most head tail told true true true long busy few = refl
by_tests len most head tail told true true false true busy few = refl
by_tests len most head tail told true true false false true few = refl
by_tests len most head tail told true true false false false true = refl
by_tests len most head tail told true true false false false false = refl

-- A queue refuses frames of a length if and only if a begin of one would be refused for a reason other than no room.
pub refuses_where_begin_would : RefusesWhereBeginWould
refuses_where_begin_would queue bridge len =
    by_tests len (sizes_seen queue.port).most (head_seen queue.port) (index_word_seen queue.port bridge) queue.port.sending.told
    (is_up bridge.link.state) (is_joined queue bridge) queue.closed
    (nat_lt (sizes_seen queue.port).most len) (is_port_busy queue.port.sending) (nat_lt (free_seen queue.port bridge) (pieces_in (sizes_seen queue.port).largest len))
