-- The contract of each call of a port, over the port and the pair before and after it. `early` and `late` are the pair
-- as the call begins and ends. A call that only reads the pair has it once, as `bridge`.
use Rattle.std.specs.Prelude.{◌≡◌, ℕ, ◌+◌, ◌-◌, List, Option, length, IfOk, IsSome, OnErr, OnOk, Result}
use Rattle.step_kinds.specs.Sides.{other_side}
use Rattle.step_kinds.specs.declared.lanes.Begun.{Begun}
use Rattle.step_kinds.specs.declared.lanes.Begun.TheVariants.{Ok as BegunOk}
use Rattle.step_kinds.specs.declared.lanes.LaneCopy.{LaneCopy}
use Rattle.step_kinds.specs.declared.steps.Label.{Label}
use Rattle.bridge_pair.specs.Bridge.{Bridge, flight_of, pages_of, with_pages}
use Rattle.bridge_pair.specs.Pages.{PagesGrow}
use Rattle.frame_ring.specs.Calls.{PortFindsEntry, TouchedByBegin, TouchedByDown, TouchedByFlags, TouchedByLook, port_ack_answer, port_acked_by, port_after_ack, port_after_begin, port_after_clear, port_after_copy, after_down, port_after_look, port_after_post, port_begin_answer, port_clear_answer, cleared_by, port_copy_answer, port_down_answer, port_frame_due, port_look_answer, port_post_answer, posted_by, reset_by}
use Rattle.frame_ring.specs.Port.{PortState, fresh_port, unused_of}
use Rattle.frame_ring.specs.PortView.{HasPagesIn, with_room}
use Rattle.frame_ring.specs.declared.RingLook.{RingLook}

-- What calls promise

-- the pair is as it was, but for pages promised at the peer, and for room that the port has more of than it has used
abbrev pub IsGrown : PortState → PortState → Bridge → Bridge → Type 0
IsGrown old new early late =
    late ≡ with_room (with_pages early (other_side old.side) (pages_of late (other_side old.side))) old.side (unused_of new - unused_of old)

-- the same where pages of the side's own memory may be promised too
abbrev pub IsGrownBoth : PortState → PortState → Bridge → Bridge → Type 0
IsGrownBoth old new early late =
    late ≡ with_room (with_pages (with_pages early (other_side old.side) (pages_of late (other_side old.side))) old.side (pages_of late old.side)) old.side (unused_of new - unused_of old)

-- what a call promised so that an entry can be posted, whatever its result is
pub record HasPromised {X E : Type 0} (Touched : ℕ → Type 0) (old new : PortState) (early late : Bridge) (result : Result X E) : Type 0 where
  -- no more of the pair changed than promises
  pub rest : IsGrown old new early late
  -- of the peer's pages those alone became promised that the call lets be written
  pub pages : PagesGrow Touched (pages_of early (other_side old.side)) (pages_of late (other_side old.side))
  -- all pages that the port needs are promised, if they were before
  pub ready : OnOk result (HasPagesIn old early → HasPagesIn new late)

-- and so that an entry that was found can be taken and given back
pub record HasPromisedBoth {X E : Type 0} (Touched Flags : ℕ → Type 0) (old new : PortState) (early late : Bridge) (result : Result X E) : Type 0 where
  -- no more of the pair changed than promises
  pub rest : IsGrownBoth old new early late
  -- of the peer's pages those alone became promised that the index write needs
  pub pages : PagesGrow Touched (pages_of early (other_side old.side)) (pages_of late (other_side old.side))
  -- of the side's own pages those alone that the flags need
  pub flags : PagesGrow Flags (pages_of early old.side) (pages_of late old.side)
  -- all pages that the port needs are promised, if they were before
  pub ready : OnOk result (HasPagesIn old early → HasPagesIn new late)

-- promises of room are used and given back together with what they were for
abbrev pub KeepsSpare : PortState → PortState → Bridge → Bridge → Type 0
KeepsSpare old new early late = (flight_of late old.side).spare + unused_of old ≡ (flight_of early old.side).spare + unused_of new

-- Sending

pub record HasBegun {E : Type 0} (old new : PortState) (early late : Bridge) (frame : List ℕ) (result : Result Begun E) : Type 0 where
  -- the frame is begun, or refused for the first reason that holds
  pub answer : IfOk result (λ answer. answer ≡ port_begin_answer old early (length frame))
  -- where it is begun its writes are left to post; a refusal changes nothing
  pub after : OnOk result (new ≡ port_after_begin old early frame)
  -- out of memory leaves the port as it was
  pub err : OnErr result (new ≡ old)
  -- and comes only if the frame was to be begun
  pub wants : OnErr result (port_begin_answer old early (length frame) ≡ BegunOk old.sending.told)
  -- the pages and the room of its writes are promised
  pub promises : HasPromised (TouchedByBegin old early frame) old new early late result
  pub open promises use *

-- the same of a frame that isn't refused
pub record HasBegunUnrefused {E : Type 0} (old new : PortState) (early late : Bridge) (frame : List ℕ) (result : Result ℕ E) : Type 0 where
  -- the result is the number under which it is begun
  pub number : IfOk result (λ number. port_begin_answer old early (length frame) ≡ BegunOk number)
  -- its writes are left to post
  pub after : OnOk result (new ≡ port_after_begin old early frame)
  -- out of memory leaves the port as it was
  pub err : OnErr result (new ≡ old)
  -- the pages and the room of its writes are promised
  pub promises : HasPromised (TouchedByBegin old early frame) old new early late result
  pub open promises use *

pub record HasGoneDown {E : Type 0} (old new : PortState) (early late : Bridge) (result : Result Begun E) : Type 0 where
  -- a link-down entry is begun, or refused for the first reason that holds
  pub answer : IfOk result (λ answer. answer ≡ port_down_answer old early)
  -- where it is begun its writes are left to post; a refusal changes nothing
  pub after : OnOk result (new ≡ after_down old early)
  -- out of memory leaves the port as it was
  pub err : OnErr result (new ≡ old)
  -- and comes only if the entry was to be begun
  pub wants : OnErr result (port_down_answer old early ≡ BegunOk old.sending.told)
  -- the pages and the room of its writes are promised
  pub promises : HasPromised (TouchedByDown old early) old new early late result
  pub open promises use *

pub record HasPosted (old new : PortState) (early late : Bridge) (result : Option Label) : Type 0 where
  -- the answer is the label of the first write that is left to post, if one is
  pub answer : result ≡ port_post_answer old
  -- it is left no longer
  pub after : new ≡ port_after_post old
  -- that write alone goes out on the pair, or is lost
  pub pair : late ≡ posted_by old early
  -- its room was promised
  pub spare : KeepsSpare old new early late
  -- the pages of what is left stay promised
  pub ready : HasPagesIn new late

-- Receiving

pub record HasLooked {E : Type 0} (old new : PortState) (early late : Bridge) (result : Result RingLook E) : Type 0 where
  -- the answer is what stands in the next slot, by its header in memory
  pub answer : IfOk result (λ answer. answer ≡ port_look_answer old early)
  -- an entry that is found is at hand to be copied; all other answers change nothing
  pub after : OnOk result (new ≡ port_after_look old early)
  -- out of memory leaves the port as it was
  pub err : OnErr result (new ≡ old)
  -- and comes only if an entry is found
  pub wants : OnErr result (PortFindsEntry old early)
  -- the pages and the room to take the entry and to give it back are promised
  pub promises : HasPromisedBoth (TouchedByLook old early) (TouchedByFlags old early) old new early late result
  pub open promises use *

-- the same of an entry that is there
pub record HasFound {X E : Type 0} (old new : PortState) (early late : Bridge) (result : Result X E) : Type 0 where
  -- the entry is at hand to be copied
  pub after : OnOk result (new ≡ port_after_look old early)
  -- out of memory leaves the port as it was
  pub err : OnErr result (new ≡ old)
  -- the pages and the room to take the entry and to give it back are promised
  pub promises : HasPromisedBoth (TouchedByLook old early) (TouchedByFlags old early) old new early late result
  pub open promises use *

pub record HasCopied (old new : PortState) (bridge : Bridge) (result : LaneCopy) : Type 0 where
  -- the answer is the next part of the entry at hand, or the whole frame with its last part
  pub answer : result ≡ port_copy_answer old bridge
  -- the part is gathered, as it is in memory
  pub after : new ≡ port_after_copy old bridge
  -- all pages that the port needs are promised, if they were before
  pub ready : HasPagesIn old bridge → HasPagesIn new bridge

-- what the next copy is to deliver
pub record IsDue {E : Type 0} (port : PortState) (bridge : Bridge) (result : Result (Option (List ℕ)) E) : Type 0 where
  -- the frame, if that copy delivers one
  pub value : IfOk result (λ due. due ≡ port_frame_due port bridge)
  -- out of memory comes only if it does
  pub wants : OnErr result (IsSome (port_frame_due port bridge))

pub record HasCleared (old new : PortState) (early late : Bridge) (result : Option ℕ) : Type 0 where
  -- the answer is the number of the entry that was copied, if one was
  pub answer : result ≡ port_clear_answer old
  -- it is cleared
  pub after : new ≡ port_after_clear old
  -- its flags alone change in the side's memory
  pub pair : late ≡ cleared_by old early
  -- the pages of what is left stay promised
  pub ready : HasPagesIn new late

pub record HasAcknowledged (old new : PortState) (early late : Bridge) (result : Option ℕ) : Type 0 where
  -- the answer is the number of the entry that was cleared, if one was
  pub answer : result ≡ port_ack_answer old
  -- the port is ready to look for the next one
  pub after : new ≡ port_after_ack old
  -- the index write that names the entry's slot goes out on the pair, or is lost
  pub pair : late ≡ port_acked_by old early
  -- its room was promised
  pub spare : KeepsSpare old new early late
  -- the pages of what is left stay promised
  pub ready : HasPagesIn new late

-- Between two sessions

pub record HasReset (old new : PortState) (early late : Bridge) : Type 0 where
  -- nothing was sent and nothing received
  pub after : new ≡ fresh_port old.plan old.side old.queue
  -- room that was promised and not used is given back
  pub pair : late ≡ reset_by old early
