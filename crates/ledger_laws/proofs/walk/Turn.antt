-- What a step can be for a lane: one constructor for each kind of thing that can happen to it. What the step has passed
-- stands there in a record, and the sight after it in closed form. Steps on other lanes of the pair arrive as resting,
-- as another lane's write that is said or lands, or as a queue that is shut.
use Rattle.std.specs.Prelude.{◌≡◌, ◌⊎◌, ℕ, ◌+◌, ◌==◌, ◌≤◌, Bool, true, false, Some, None, List, [], ◌∷◌, ◌++◌, length, map, remove, replicate, slice_get, slice_set, slice_index, slice_index_or, nat_lt, bit_and}
use Rattle.step_kinds.specs.Bits.{has_bit, with_bit, without_bits}
use Rattle.step_kinds.specs.declared.names.LaneName.{LaneName}
use Rattle.step_kinds.specs.declared.plan.Plan.{Plan}
use Rattle.step_kinds.specs.declared.plan.SidePlan.{SidePlan}
use Rattle.step_kinds.specs.declared.steps.Label.{Label}
use Rattle.step_kinds.specs.declared.steps.Label.TheVariants.{Chunk, Len, Ver, Flag, Down, Bell, Index, Pad}
use Rattle.std.specs.List.{list_all}
use Rattle.step_kinds.specs.Sides.{other_side}
use Rattle.step_kinds.specs.declared.names.Side.{Side}
use Rattle.step_kinds.specs.declared.plan.PairPlan.{PairPlan}
use Rattle.lane_model.specs.Lane.{Entry, Carries, GoesDown, chunks_in}
use Rattle.ledger_model.specs.Pieces.{pieces_of}
use Rattle.ledger_model.specs.Reading.{part_in_ledger}
use Rattle.lane_model.specs.declared.Field.{Field}
use Rattle.lane_model.specs.declared.Phase.{Phase}
use Rattle.lane_model.specs.declared.Phase.TheVariants.{Idle, Copying, Copied, Cleared}
use Rattle.lane_model.specs.declared.Write.{Write}
use Rattle.lane_model.specs.declared.Write.TheVariants.{Data, Flag as EntryFlag}
use Rattle.ledger_model.specs.Handshake.{check_refusal}
use Rattle.pair_model.specs.Pads.{offers}
use Rattle.ledger_model.specs.Labels.{labels_of, write_of, label_index_of}
use Rattle.ledger_model.specs.Ledger.{LanePart, Tally, entry_in, free_of, updated}
use Rattle.pair_model.specs.Link.{is_up, is_down, is_closing}
use Rattle.ledger_model.specs.LinkSteps.{fresh_lane}
use Rattle.ledger_model.specs.Log.{Answered}
use Rattle.ledger_model.specs.Receiving.{is_idle, is_copying, is_copied, is_cleared}
use Rattle.ledger_model.specs.Sending.{begun_lane, frame_begun}
use Rattle.pair_model.specs.declared.LinkState.TheVariants.{Down as LinkIsDown, Up as LinkIsUp, Closing}
use Rattle.pair_model.specs.Pads.{links_pad}
use Rattle.pair_model.specs.Plans.{pair_plan, side_plan}
use Rattle.pair_model.specs.Sizes.{Sizes, sizes_of, pieces_in}
use Rattle.order_rules.specs.Order.{may_land}
use Rattle.pair_model.specs.Orders.{order_of}
use Rattle.ledger_laws.specs.LaneChanges.{LaneChange, LinkIsLost, FlightIsDropped, EntryIsBegun, WriteIsPosted, WriteLands, IndexLands, EntryIsFound, PartIsCopied, FlagsAreCleared, IndexIsPosted}
use Rattle.ledger_laws.specs.Laws.{IsOrdinaryOn}
use Rattle.ledger_laws.proofs.walk.Sight.{End, Sight, Role, Sender, Receiver, peer_of, end_at, on_sender, on_receiver, with_up, with_pads, with_flight, with_clean, with_enabled, side_at, posted, with_number, ReadyQueues, JoinedQueues, ClosedQueues, OffersMade, PendingBells, MaskedBells}
use Rattle.ledger_laws.proofs.walk.News.{News, no_news, Tells, looked_news, change_heard, pads_landed, ring_landed, ring_freed, ring_checked, ring_cleared, sees_taken}

-- What a step has passed

pub record MayEnable (s : Sight) (e : Role) : Type 0 where
  pub down : is_down s.state ≡ true
  pub clean : (end_at s e).clean ≡ true

pub record MayTrain (s : Sight) : Type 0 where
  pub down : is_down s.state ≡ true
  pub sender : s.sender.enabled ≡ true
  pub receiver : s.receiver.enabled ≡ true

abbrev pub is_pad : Label → Bool
is_pad (Pad i value) = true
is_pad label = false

-- whether a label writes the scratchpad of the queues that are ready
abbrev pub is_link_pad : Label → Bool
is_link_pad (Pad i value) = i == links_pad
is_link_pad label = false

pub record MayBreak (s : Sight) : Type 0 where
  pub up : is_up s.state ≡ true

pub record MayDrop (s : Sight) : Type 0 where
  pub closing : is_closing s.state ≡ true

pub record MayForget (s : Sight) : Type 0 where
  pub down : is_down s.state ≡ true

-- the handshake, `own` being the side's numbers
pub record MayOffer (own : SidePlan) (s : Sight) (e : Role) (label : Label) : Type 0 where
  pub up : is_up s.state ≡ true
  pub is_next : label ≡ slice_index_or (offers own) (end_at s e).offered (Pad 0 0)
  pub a_pad : is_pad label ≡ true
  pub no_link : is_link_pad label ≡ false
  pub more : ((end_at s e).offered == length (offers own)) ≡ false

pub record MayCheck (own : SidePlan) (s : Sight) (e : Role) : Type 0 where
  pub up : is_up s.state ≡ true
  pub not_yet : (end_at s e).up ≡ false
  pub passes : check_refusal own (end_at s e).part (is_up s.state) ≡ None

pub record MayReady (s : Sight) (e : Role) : Type 0 where
  pub up : is_up s.state ≡ true
  pub checked : (end_at s e).up ≡ true

pub record MayJoin (s : Sight) (e : Role) (queue : ℕ) : Type 0 where
  pub up : is_up s.state ≡ true
  pub ready : has_bit (end_at s e).ready queue ≡ true
  pub asked : has_bit (slice_index (end_at s e).pads links_pad) queue ≡ true

-- a frame of this many bytes, which needs this many entries, is begun on queue `q`. On a raw pair the bytes say whether
-- there is room
pub record MayBegin (raw : Bool) (sizes : Sizes) (q : ℕ) (s : Sight) (len needed : ℕ) : Type 0 where
  pub up : is_up s.state ≡ true
  pub joined : has_bit s.sender.joined q ≡ true
  pub not_closed : has_bit s.sender.closed q ≡ false
  pub not_busy : s.lane.todo ≡ []
  pub none_waiting : s.lane.waiting ≡ []
  pub room : raw ≡ false → needed ≤ free_of sizes s.lane
  pub fits : len ≤ sizes.most

-- a write of a lane on this queue
abbrev pub on_queue : ℕ → Label → Bool
on_queue q (Chunk p n part) = p == q
on_queue q (Len p n) = p == q
on_queue q (Ver p n) = p == q
on_queue q (Flag p n) = p == q
on_queue q (Down p n) = p == q
on_queue q (Bell p) = p == q
on_queue q label = false

pub record MayPost (q : ℕ) (s : Sight) (label : Label) (rest : List Label) : Type 0 where
  pub next : s.lane.todo ≡ label ∷ rest
  pub own : on_queue q label ≡ true

-- the next of the entries that wait is begun, and its first write is posted
pub record MayPostNext (q : ℕ) (s : Sight) (entry : Entry) (others : List Entry) (label : Label) (rest : List Label) : Type 0 where
  pub idle : s.lane.todo ≡ []
  pub waits : s.lane.waiting ≡ entry ∷ others
  pub next : labels_of q (length s.lane.sent) entry ≡ label ∷ rest
  pub own : on_queue q label ≡ true

-- where a receiver stands: its phase, and how many entries it took, cleared, and put together to frames
pub record Hand : Type 0 where
  pub phase : Phase
  pub got : ℕ
  pub cleared : ℕ
  pub done : ℕ

abbrev pub hand_of : LanePart → Hand
hand_of lane = record { phase = lane.phase; got = lane.got; cleared = lane.cleared; done = lane.done }

-- what a lane is after a write of a raw pair was lost, its receiver's index write or one of its sender's
pub record MayStray (raw : Bool) (q : ℕ) (before after : LanePart) : Type 0 where
  pub raw_pair : raw ≡ true
  pub own : list_all (on_queue q) after.todo ≡ true
  pub hand : (hand_of after ≡ hand_of before) ⊎ ((is_cleared before.phase ≡ true) × (hand_of after ≡ record (hand_of before) { phase = Idle }))

-- not a write of this lane, if this end posts it
abbrev pub IsForeign : ℕ → Role → Label → Type 0
IsForeign q Sender label = write_of q label ≡ None
IsForeign q Receiver label = label_index_of q label ≡ None

-- whether a label writes a scratchpad of the handshake
abbrev pub is_handshake : Label → Bool
is_handshake (Pad i value) = nat_lt i 12
is_handshake label = false

-- what an end says beside its lane; on an ordinary pair it writes no scratchpad of the handshake by hand
pub record IsAside (lane : LaneName) (made : Answered) (e : Role) (label : Label) : Type 0 where
  pub foreign : IsForeign lane.queue e label
  pub no_handshake : IsOrdinaryOn lane.pair made.step → is_handshake label ≡ false

-- the write at a place lands, which a side has posted
pub record MayLand (own : PairPlan) (side : Side) (s : Sight) (e : Role) (place : ℕ) (label : Label) : Type 0 where
  pub there : slice_get (end_at s e).flight place ≡ Some label
  pub may : may_land (map (order_of own side) (end_at s e).flight) place ≡ true

-- a write of the lane lands, and one that isn't the lane's
pub record MayLandWrite (own : PairPlan) (side : Side) (q : ℕ) (s : Sight) (place : ℕ) (label : Label) (write : Write) : Type 0 where
  pub land : MayLand own side s Sender place label
  pub is : write_of q label ≡ Some write

pub record MayLandAside (own : PairPlan) (side : Side) (q : ℕ) (s : Sight) (e : Role) (place : ℕ) (label : Label) : Type 0 where
  pub land : MayLand own side s e place label
  pub foreign : IsForeign q e label
  pub no_handshake : is_handshake label ≡ false

-- the receiver looks, and finds nothing or a frame
pub record MayFindNone (raw : Bool) (q : ℕ) (s : Sight) : Type 0 where
  pub joined : has_bit s.receiver.joined q ≡ true
  pub not_closed : has_bit s.receiver.closed q ≡ false
  pub idle : is_idle s.lane.phase ≡ true
  pub none : raw ≡ false → (s.lane.flagged == s.lane.got) ≡ true

-- entry `got` is a piece of this many bytes, which this many entries of its frame follow
pub record IsPiece (lane : LanePart) (len left : ℕ) : Type 0 where
  pub some : (lane.flagged == lane.got) ≡ false
  pub bytes : List ℕ
  pub at : entry_in lane lane.got ≡ Carries bytes left
  pub size : length bytes ≡ len

pub record MayLook (raw : Bool) (q : ℕ) (s : Sight) (len left : ℕ) : Type 0 where
  pub joined : has_bit s.receiver.joined q ≡ true
  pub not_closed : has_bit s.receiver.closed q ≡ false
  pub idle : is_idle s.lane.phase ≡ true
  pub found : raw ≡ false → IsPiece s.lane len left

-- it copies a part, with more parts after it or not
pub record MayCopy (raw : Bool) (s : Sight) (more_parts : Bool) (bytes : List ℕ) : Type 0 where
  pub turn : is_copying s.lane.phase ≡ true
  pub more : nat_lt (s.lane.part + 1) (chunks_in s.lane.len) ≡ more_parts
  pub are : raw ≡ false → bytes ≡ part_in_ledger s.lane

-- it copies the last part of an entry, with entries of its frame after it or not
pub record MayTake (raw : Bool) (s : Sight) (more_entries : Bool) (bytes : List ℕ) : Type 0 where
  pub copy : MayCopy raw s false bytes
  pub left : nat_lt 0 s.lane.left ≡ more_entries

pub record MayClear (s : Sight) : Type 0 where
  pub turn : is_copied s.lane.phase ≡ true

pub record MayAck (s : Sight) : Type 0 where
  pub turn : is_cleared s.lane.phase ≡ true

-- What a step leaves

-- a write of an end is taken out of those in flight
abbrev pub taken : Role → ℕ → Sight → Sight
taken e place s = with_flight e (remove (end_at s e).flight place) s

-- an end forgets its session
abbrev pub forgotten_lane : Role → LanePart → LanePart
forgotten_lane e lane = record lane { todo = on_sender e [] lane.todo; waiting = on_sender e [] lane.waiting; phase = on_receiver e Idle lane.phase; part = on_receiver e 0 lane.part; gathered = on_receiver e [] lane.gathered }

abbrev pub forgotten : Role → Sight → Sight
forgotten e s =
    let less = with_number ClosedQueues e 0 (with_number JoinedQueues e 0 (with_number ReadyQueues e 0 (with_up e false s))) in
    record (with_clean e true (with_number PendingBells e 0 (with_pads e (replicate 16 0) (with_number OffersMade e 0 less)))) { lane = forgotten_lane e s.lane }

abbrev pub dropped_end : End → End
dropped_end own = record { part = record own.part { flight = [] }; clean = false; enabled = false }

abbrev pub more_accepted : Tally → Tally
more_accepted tally = record tally { accepted = tally.accepted + 1 }

abbrev pub more_delivered : Tally → Tally
more_delivered tally = record tally { delivered = tally.delivered + 1 }

-- the next of the entries that wait is begun
abbrev pub picked : ℕ → LanePart → Entry → List Entry → LanePart
picked q lane entry others = record lane { sent = lane.sent ++ entry ∷ []; waiting = others; todo = labels_of q (length lane.sent) entry }

-- The turns

-- the numbers of a lane's ring, and whether its pair is raw
abbrev pub SizesOf : Plan → LaneName → Sizes
SizesOf plan lane = sizes_of (pair_plan plan lane.pair) lane.from lane.queue

abbrev pub IsRaw : Plan → LaneName → Bool
IsRaw plan lane = (pair_plan plan lane.pair).raw

pub data Turn (plan : Plan) (lane : LaneName) (s : Sight) (made : Answered) : News → Sight → Type 0 where
  -- nothing happens to the lane; its receiver may have looked and found no reason to think that nothing is there
  Rests : (looked : Bool) → Turn plan lane s made (looked_news looked) s
  FindsNone : MayFindNone (IsRaw plan lane) lane.queue s → Turn plan lane s made (record no_news { sees = λ saw. true }) s
  -- the link
  Enables : (e : Role) → MayEnable s e → Turn plan lane s made no_news (with_enabled e true s)
  Trains : MayTrain s → Turn plan lane s made (record no_news { starts = true }) (record s { state = LinkIsUp; session = s.session + 1; lane = fresh_lane })
  Breaks : MayBreak s → Turn plan lane s made (record no_news { ends = true; change = LinkIsLost }) (record s { state = Closing })
  Drops : MayDrop s → Turn plan lane s made (record no_news { change = FlightIsDropped }) (record s { state = LinkIsDown; sender = dropped_end s.sender; receiver = dropped_end s.receiver })
  Forgets : (e : Role) → MayForget s → Turn plan lane s made no_news (forgotten e s)
  -- the handshake
  Offers : (e : Role) (label : Label) → MayOffer (side_plan (pair_plan plan lane.pair) (side_at lane.from e)) s e label
      → Turn plan lane s made no_news (posted e label (with_number OffersMade e ((end_at s e).offered + 1) s))
  Checks : (e : Role) → MayCheck (side_plan (pair_plan plan lane.pair) (side_at lane.from e)) s e → Turn plan lane s made (record no_news { ring = ring_checked e }) (with_up e true s)
  Readies : (e : Role) (queue : ℕ) → MayReady s e → Turn plan lane s made no_news (posted e (Pad links_pad (with_bit (end_at s e).ready queue)) (with_number ReadyQueues e (with_bit (end_at s e).ready queue) s))
  Joins : (e : Role) (queue : ℕ) → MayJoin s e queue → Turn plan lane s made no_news (with_number JoinedQueues e (with_bit (end_at s e).joined queue) s)
  -- sending
  Begins : (bytes : List ℕ) (first : Entry) (others : List Entry)
      → MayBegin (IsRaw plan lane) (SizesOf plan lane) lane.queue s (length bytes) (pieces_in (SizesOf plan lane).largest (length bytes))
      → pieces_of (SizesOf plan lane).largest bytes ≡ first ∷ others
      → Turn plan lane s made (record no_news { takes = pieces_in (SizesOf plan lane).largest (length bytes); accepted = record { number = s.lane.told; bytes = bytes } ∷ []; change = EntryIsBegun })
      (record s { lane = frame_begun lane.queue s.lane (first ∷ others); tally = updated s.tally s.session (more_accepted (s.tally s.session)) })
  Closes : MayBegin (IsRaw plan lane) (SizesOf plan lane) lane.queue s 0 1 → Turn plan lane s made (record no_news { takes = 1; change = EntryIsBegun })
      (record s { sender = record s.sender { part = record s.sender.part { closed = with_bit s.sender.closed lane.queue } }; lane = begun_lane lane.queue s.lane (GoesDown ∷ []) })
  Posts : (label : Label) (rest : List Label) → MayPost lane.queue s label rest → Turn plan lane s made (record no_news { change = WriteIsPosted }) (posted Sender label (record s { lane = record s.lane { todo = rest } }))
  PostsNext : (entry : Entry) (others : List Entry) (label : Label) (rest : List Label) → MayPostNext lane.queue s entry others label rest
      → Turn plan lane s made (record no_news { change = WriteIsPosted }) (posted Sender label (record s { lane = record (picked lane.queue s.lane entry others) { todo = rest } }))
  -- a write of a raw pair is lost, whichever of the lane's ends it was to be posted by
  Strays : {change : LaneChange} (after : LanePart) → MayStray (IsRaw plan lane) lane.queue s.lane after → Turn plan lane s made (record no_news { change = change }) (record s { lane = after })
  -- a queue is closed on an end, and a write that isn't the lane's is posted
  Shuts : (e : Role) (queue : ℕ) (looked : Bool) → Turn plan lane s made (looked_news looked) (with_number ClosedQueues e (with_bit (end_at s e).closed queue) s)
  Says : (e : Role) (label : Label) → IsAside lane made e label → Turn plan lane s made no_news (posted e label s)
  -- landing
  LandsFlag : (place : ℕ) (label : Label) (n : ℕ) → MayLandWrite (pair_plan plan lane.pair) lane.from lane.queue s place label (EntryFlag n)
      → Turn plan lane s made (record no_news { ring = ring_landed s.lane (EntryFlag n); change = WriteLands (EntryFlag n) }) (record (taken Sender place s) { lane = record s.lane { flagged = s.lane.flagged + 1 } })
  LandsField : (place : ℕ) (label : Label) (n : ℕ) (field : Field) → MayLandWrite (pair_plan plan lane.pair) lane.from lane.queue s place label (Data n field)
      → Turn plan lane s made (record no_news { ring = ring_landed s.lane (Data n field); change = WriteLands (Data n field) }) (taken Sender place s)
  LandsIndex : (place : ℕ) (n : ℕ) → MayLand (pair_plan plan lane.pair) (other_side lane.from) s Receiver place (Index lane.queue n)
      → Turn plan lane s made (record no_news { gives = true; ring = ring_freed n; change = IndexLands n }) (record (taken Receiver place s) { lane = record s.lane { freed = n + 1 } })
  LandsBell : (e : Role) (place queue : ℕ) → MayLand (pair_plan plan lane.pair) (side_at lane.from e) s e place (Bell queue)
      → Turn plan lane s made (record no_news { change = change_heard lane.queue e (Bell queue) }) (with_number PendingBells (peer_of e) (with_bit (end_at s (peer_of e)).pending queue) (taken e place s))
  LandsPad : (e : Role) (place i value : ℕ) → MayLand (pair_plan plan lane.pair) (side_at lane.from e) s e place (Pad i value)
      → Turn plan lane s made (record no_news { pads = pads_landed e i value }) (with_pads (peer_of e) (slice_set (end_at s (peer_of e)).pads i value) (taken e place s))
  LandsAside : (e : Role) (place : ℕ) (label : Label) → MayLandAside (pair_plan plan lane.pair) (side_at lane.from e) lane.queue s e place label
      → Turn plan lane s made no_news (taken e place s)
  -- receiving
  Looks : (len left : ℕ) → MayLook (IsRaw plan lane) lane.queue s len left
      → Turn plan lane s made (record (looked_news true) { change = EntryIsFound }) (record s { lane = record s.lane { phase = Copying; part = 0; len = len; left = left } })
  CopiesPart : (bytes : List ℕ) → MayCopy (IsRaw plan lane) s true bytes
      → Turn plan lane s made (record no_news { change = PartIsCopied }) (record s { lane = record s.lane { part = s.lane.part + 1; gathered = s.lane.gathered ++ bytes } })
  CopiesEntry : (bytes : List ℕ) → MayTake (IsRaw plan lane) s true bytes
      → Turn plan lane s made (record no_news { change = PartIsCopied }) (record s { lane = record s.lane { got = s.lane.got + 1; phase = Copied; gathered = s.lane.gathered ++ bytes } })
  CopiesLast : (bytes : List ℕ) → MayTake (IsRaw plan lane) s false bytes
      → Turn plan lane s made (record no_news { delivered = record { number = s.lane.done; bytes = s.lane.gathered ++ bytes } ∷ []; change = PartIsCopied })
      (record s {
        lane = record s.lane { got = s.lane.got + 1; phase = Copied; gathered = []; done = s.lane.done + 1 };
        tally = updated s.tally s.session (more_delivered (s.tally s.session));
      })
  Clears : MayClear s → Turn plan lane s made (record no_news { ring = ring_cleared s.lane.cleared; change = FlagsAreCleared }) (record s { lane = record s.lane { cleared = s.lane.cleared + 1; phase = Cleared } })
  Acks : MayAck s → Turn plan lane s made (record no_news { change = IndexIsPosted }) (posted Receiver (Index lane.queue s.lane.acked) (record s { lane = record s.lane { acked = s.lane.acked + 1; phase = Idle } }))
  -- doorbells
  TakesBells : (e : Role) → Turn plan lane s made (record no_news { sees = sees_taken lane.queue e (without_bits (end_at s e).pending (end_at s e).masked) }) (with_number PendingBells e (bit_and (end_at s e).pending (end_at s e).masked) s)
  Masks : (e : Role) (masked : ℕ) → Turn plan lane s made no_news (with_number MaskedBells e masked s)

-- a turn, with what the step tells
pub record Turned (plan : Plan) (lane : LaneName) (s : Sight) (made : Answered) (t : Sight) : Type 0 where
  pub news : News
  pub tells : Tells plan lane s.lane made news
  pub turn : Turn plan lane s made news t

-- A step that makes a turn of a lane and tells the log's readers that turn's news has turned the lane.
pub turned : {plan : Plan} {lane : LaneName} {s : Sight} {made : Answered} {news : News} {t : Sight} → Turn plan lane s made news t → Tells plan lane s.lane made news
    → Turned plan lane s made t
turned {news} turn tells = record { news = news; tells = tells; turn = turn }
