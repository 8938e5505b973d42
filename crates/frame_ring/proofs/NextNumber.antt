-- A frame and an entry are begun under the number that is told next.
use Rattle.std.proofs.Common.{◌≡◌, ◌∙◌, ℕ, Bool, true, false, List, length, nat_lt, refl, ap, if◌then◌else◌}
use Rattle.step_kinds.specs.declared.lanes.Begun.TheVariants.{Ok as BegunOk, TooLong, Busy, NoRoom}
use Rattle.pair_model.specs.Sizes.{pieces_in}
use Rattle.bridge_pair.specs.Bridge.{Bridge}
use Rattle.bridge_pair.specs.Pages.{PagesGrow}
use Rattle.bridge_pair.proofs.Facade.{grows_further, grows_nothing}
use Rattle.frame_ring.specs.Calls.{TouchedByBegin, TouchedByDown, port_begin_answer, port_down_answer, down_begun, port_frame_begun, free_seen, head_seen, index_word_seen, sizes_seen}
use Rattle.frame_ring.specs.Port.{PortState, is_port_busy, writes_left}
use Rattle.frame_ring.specs.PortView.{TouchesLeft}

told_by_room : (head tail told number : ℕ) (few : Bool) → BegunOk number ≡ (if few then NoRoom head tail else BegunOk told) → (if few then NoRoom head tail else BegunOk told) ≡ BegunOk told
told_by_room head tail told number true e = absurd (cc e)
told_by_room head tail told number false e = refl

told_by_down : (head tail told number : ℕ) (busy few : Bool) → BegunOk number ≡ (if busy then Busy else if few then NoRoom head tail else BegunOk told)
    → (if busy then Busy else if few then NoRoom head tail else BegunOk told) ≡ BegunOk told
told_by_down head tail told number true few e = absurd (cc e)
told_by_down head tail told number false few e = told_by_room head tail told number few e

told_by_begin : (len most head tail told number : ℕ) (long busy few : Bool) → BegunOk number ≡ (if long then TooLong len most else if busy then Busy else if few then NoRoom head tail else BegunOk told)
    → (if long then TooLong len most else if busy then Busy else if few then NoRoom head tail else BegunOk told) ≡ BegunOk told
told_by_begin len most head tail told number true busy few e = absurd (cc e)
told_by_begin len most head tail told number false busy few e = told_by_down head tail told number busy few e

-- A begin that is answered ok is answered with the number of frames that the port has begun so far.
pub begin_told : (port : PortState) (bridge : Bridge) (frame : List ℕ) (len number : ℕ) → len ≡ length frame → BegunOk number ≡ port_begin_answer port bridge len
    → port_begin_answer port bridge (length frame) ≡ BegunOk port.sending.told
begin_told port bridge frame len number is_len ok =
    told_by_begin (length frame) (sizes_seen port).most (head_seen port) (index_word_seen port bridge) port.sending.told number
    (nat_lt (sizes_seen port).most (length frame)) (is_port_busy port.sending) (nat_lt (free_seen port bridge) (pieces_in (sizes_seen port).largest (length frame))) (ok ∙ ap (port_begin_answer port bridge) is_len)

-- A going down that is answered ok is answered with the number of frames that the port has begun so far.
pub down_told : (port : PortState) (bridge : Bridge) (number : ℕ) → BegunOk number ≡ port_down_answer port bridge → port_down_answer port bridge ≡ BegunOk port.sending.told
down_told port bridge number ok = told_by_down (head_seen port) (index_word_seen port bridge) port.sending.told number (is_port_busy port.sending) (nat_lt (free_seen port bridge) 1) ok

-- If a begin is ok, pages that grow only by the frame's writes grow only by what the begin may promise.
pub begin_touches : (port : PortState) (bridge : Bridge) (frame : List ℕ) (len number : ℕ) (old new : List ℕ) → len ≡ length frame → BegunOk number ≡ port_begin_answer port bridge len
    → PagesGrow (TouchesLeft port.plan port.side (writes_left (port_frame_begun port frame))) old new → PagesGrow (TouchedByBegin port bridge frame) old new
begin_touches port bridge frame len number old new is_len ok grow =
    let told = begin_told port bridge frame len number is_len ok in
    grows_further (TouchedByBegin port bridge frame) (TouchesLeft port.plan port.side (writes_left (port_frame_begun port frame))) old old new (grows_nothing (TouchedByBegin port bridge frame) old) grow
    (λ page touch. (told, touch))

-- If a going down is ok, pages that grow only by its entry's writes grow only by what the call may promise.
pub down_touches : (port : PortState) (bridge : Bridge) (number : ℕ) (old new : List ℕ) → BegunOk number ≡ port_down_answer port bridge
    → PagesGrow (TouchesLeft port.plan port.side (writes_left (down_begun port))) old new → PagesGrow (TouchedByDown port bridge) old new
down_touches port bridge number old new ok grow =
    let told = down_told port bridge number ok in
    grows_further (TouchedByDown port bridge) (TouchesLeft port.plan port.side (writes_left (down_begun port))) old old new (grows_nothing (TouchedByDown port bridge) old) grow
    (λ page touch. (told, touch))
