-- When what a fabric keeps of a pair represents the ledger of the steps that were made. Link, registers, books, counts
-- and lists in flight are the ledger's. Each byte of its memories is the last one that was stored there, and what a
-- port keeps of the entry at hand is that entry.
use Rattle.std.specs.Prelude.{◌≡◌, ℕ, ◌<◌, ◌&&◌, ◌⊎◌, Bool, true, false, Option, Some, None, List, [], ◌∷◌, length, slice_index_or, if◌then◌else◌}
use Rattle.step_kinds.specs.Bits.{has_bit}
use Rattle.step_kinds.specs.Sides.{other_side}
use Rattle.step_kinds.specs.declared.names.Side.{Side}
use Rattle.step_kinds.specs.declared.names.Side.TheVariants.{A, B}
use Rattle.step_kinds.specs.declared.plan.DevPlan.{DevPlan}
use Rattle.step_kinds.specs.declared.plan.PairPlan.{PairPlan}
use Rattle.step_kinds.specs.declared.steps.Label.{Label}
use Rattle.step_kinds.specs.declared.steps.Label.TheVariants.{Chunk, Len, Ver, Flag, Down, Bell, Index, Pad, Raw}
use Rattle.lane_model.specs.Lane.{Entry, GoesDown}
use Rattle.lane_model.specs.Tests.{is_empty_list}
use Rattle.pair_model.specs.Both.{Both, at_side}
use Rattle.pair_model.specs.DeclaredPlans.{SizesFit}
use Rattle.pair_model.specs.Link.{Link, is_down}
use Rattle.pair_model.specs.Plans.{dev_plan, side_plan}
use Rattle.pair_model.specs.RingWrites.{WindowWrite, entry_write, index_write}
use Rattle.pair_model.specs.Stores.{Store, bytes_in}
use Rattle.ledger_model.specs.Ledger.{DevPart, LanePart, PairPart, SidePart, side_of, lane_of, lane_to, dev_of, tally_of}
use Rattle.ledger_model.specs.Memory.{Site}
use Rattle.bridge_regs.specs.Doorbell.{Doorbell}
use Rattle.host_memory.specs.Memory.{Contents}
use Rattle.posted_queue.specs.Flight.{Flight}
use Rattle.plan_numbers.specs.Memories.{memory_size}
use Rattle.bridge_pair.specs.Bridge.{Bridge}
use Rattle.bridge_pair.specs.Flights.{Flying, flying_of}
use Rattle.bridge_pair.specs.Writes.{PostedWrite, bell_write, memory_write, pad_write}
use Rattle.bridge_pair.specs.declared.book.SideBook.{SideBook}
use Rattle.frame_ring.specs.Port.{PortState, Sending, fresh_port}
use Rattle.fabric_rule.specs.InPlace.{FlightInPlace, IsForgotten, LinkInPlace, ReceivingEnd, ReceivingInPlace, SendingEnd, SendingInPlace, last_entry, fabric_receiver_of, fabric_sender_of}
use Rattle.fabric_rule.specs.Parts.{PairState, QueuePart, count_in, no_queue, plain_bridge, queues_of}

-- Writes in flight

-- the sent entry that a labelled write belongs to, by queue
abbrev pub fabric_entry_among : (ℕ → List Entry) → Label → Entry
fabric_entry_among sent (Chunk queue n part) = slice_index_or (sent queue) n GoesDown
fabric_entry_among sent (Len queue n) = slice_index_or (sent queue) n GoesDown
fabric_entry_among sent (Ver queue n) = slice_index_or (sent queue) n GoesDown
fabric_entry_among sent (Flag queue n) = slice_index_or (sent queue) n GoesDown
fabric_entry_among sent (Down queue n) = slice_index_or (sent queue) n GoesDown
fabric_entry_among sent label = GoesDown

abbrev pub write_through : Label → Option WindowWrite → PostedWrite
write_through label None = memory_write label 0 0 []
write_through label (Some write) = memory_write label write.window write.offset write.bytes

-- the write of a label that is of this entry, `raw` being the bytes of a raw one
abbrev pub fabric_write_of : PairPlan → Side → Entry → List ℕ → Label → PostedWrite
fabric_write_of plan side entry raw (Bell queue) = bell_write queue
fabric_write_of plan side entry raw (Pad i value) = pad_write i value
fabric_write_of plan side entry raw (Raw window offset len) = memory_write (Raw window offset len) window offset raw
fabric_write_of plan side entry raw (Index queue n) = write_through (Index queue n) (Some (index_write plan side queue n))
fabric_write_of plan side entry raw label = write_through label (entry_write plan side entry label)

-- a raw label takes the first of the bytes of raw writes, and leaves the others
abbrev pub raw_bytes : Label → List (List ℕ) → List ℕ
raw_bytes (Raw window offset len) (bytes ∷ poked) = bytes
raw_bytes label poked = []

abbrev pub raws_behind : Label → List (List ℕ) → List (List ℕ)
raws_behind (Raw window offset len) (bytes ∷ poked) = poked
raws_behind label poked = poked

-- the write in flight of a label
abbrev pub flying_labelled : PairPlan → Side → (ℕ → List Entry) → List ℕ → Label → Flying
flying_labelled plan side sent raw label = flying_of plan side (fabric_write_of plan side (fabric_entry_among sent label) raw label)

-- the writes of the labels in flight, the raw ones with their bytes in order
abbrev pub writes_labelled : PairPlan → Side → (ℕ → List Entry) → List Label → List (List ℕ) → List Flying
writes_labelled plan side sent [] poked = []
writes_labelled plan side sent (label ∷ labels) poked =
    flying_labelled plan side sent (raw_bytes label poked) label ∷ writes_labelled plan side sent labels (raws_behind label poked)

-- The pair in bytes, promises aside

abbrev pub book_for : SidePart → SideBook
book_for part = record { up = part.up; ready = part.ready; joined = part.joined; offered = part.offered }

abbrev pub bells_for : SidePart → Doorbell
bells_for part = record { pending = part.pending; masked = part.masked }

abbrev pub memory_for : PairPlan → Side → List Store → Contents
memory_for plan side stores = record { bytes = bytes_in stores 0 (memory_size plan side); promised = [] }

abbrev pub flight_for : PairPlan → Side → (ℕ → List Entry) → SidePart → Flight Flying
flight_for plan side sent part = record { writes = writes_labelled plan side sent part.flight part.poked; spare = 0 }

-- the bridge of a pair with this link and these sides, whose lanes have these entries, and in whose memories this was
-- stored
abbrev pub bridge_with : PairPlan → Link → Both SidePart → Both (ℕ → List Entry) → Both (List Store) → Bridge
bridge_with plan link sides sent stores =
    record {
      plan = plan;
      link = link;
      books = record { a = book_for sides.a; b = book_for sides.b };
      pads = record { a = sides.a.pads; b = sides.b.pads };
      bells = record { a = bells_for sides.a; b = bells_for sides.b };
      memories = record { a = memory_for plan A stores.a; b = memory_for plan B stores.b };
      flights = record { a = flight_for plan A sent.a sides.a; b = flight_for plan B sent.b sides.b };
    }

-- the entries of all lanes
abbrev pub sent_of : (ℕ → LanePart) → ℕ → List Entry
sent_of lanes queue = (lanes queue).sent

abbrev pub all_sent : Both (ℕ → LanePart) → Both (ℕ → List Entry)
all_sent lanes = record { a = sent_of lanes.a; b = sent_of lanes.b }

abbrev pub bridge_for : PairPlan → Site → Bridge
bridge_for plan site = bridge_with plan site.pair.link site.pair.sides (all_sent site.pair.lanes) site.stores

-- A queue of a side

-- what a side sees of one of its queues: both lanes, each from its end, its device, the frames of both lanes by
-- session, and whether the queue is closed
pub record QueueView : Type 0 where
  pub sends : SendingEnd
  pub receives : ReceivingEnd
  pub dev : DevPart
  pub accepted : ℕ → ℕ
  pub delivered : ℕ → ℕ
  pub closed : Bool

abbrev pub view_of : PairPart → Side → ℕ → QueueView
view_of pair side queue =
    record {
      sends = fabric_sender_of (lane_of pair side queue);
      receives = fabric_receiver_of (lane_to pair side queue);
      dev = dev_of pair side queue;
      accepted = λ session. (tally_of pair side queue session).accepted;
      delivered = λ session. (tally_of pair (other_side side) queue session).delivered;
      closed = has_bit (side_of pair side).closed queue;
    }

-- whether something is left to post
abbrev pub is_left : SendingEnd → Bool
is_left sends = if is_empty_list sends.todo then (if is_empty_list sends.waiting then false else true) else true

abbrev pub sending_for : SendingEnd → Entry → Sending
sending_for sends entry = record { begun = length sends.sent; told = sends.told; entry = entry; todo = sends.todo; waiting = sends.waiting }

-- the port's counts are the ledger's, but that they are 0 once its side has forgotten the session
abbrev pub port_for : PairPlan → Side → ℕ → Bool → QueueView → Entry → PortState
port_for plan side queue true view entry = fresh_port plan side queue
port_for plan side queue false view entry =
    record { plan = plan; side = side; queue = queue; sending = sending_for view.sends entry; receiving = view.receives.port }

-- the device of this number is on the queue
pub record IsOn (dev : DevPlan) (pair : ℕ) (side : Side) (queue : ℕ) : Type 0 where
  pub its_pair : dev.pair ≡ pair
  pub its_side : dev.side ≡ side
  pub its_queue : dev.queue ≡ queue

pub record QueueStands (devs : List DevPlan) (plan : PairPlan) (k : ℕ) (side : Side) (queue : ℕ) (forgotten : Bool) (view : QueueView) (part : QueuePart) : Type 0 where
  pub port : part.queue.port ≡ port_for plan side queue forgotten view part.queue.port.sending.entry
  pub entry : forgotten ≡ false → is_left view.sends ≡ true → part.queue.port.sending.entry ≡ last_entry view.sends
  pub closed : part.queue.closed ≡ view.closed
  pub stopped : part.flow.stopped ≡ view.dev.stopped
  pub limits : (d : ℕ) → d < length devs → IsOn (dev_plan devs d) k side queue
      → (part.flow.stop ≡ (dev_plan devs d).stop) × (part.flow.start ≡ (dev_plan devs d).start)
  pub counters : part.counters ≡ view.dev.counters
  pub accepted : (session : ℕ) → count_in part.accepted session ≡ view.accepted session
  pub delivered : (session : ℕ) → count_in part.delivered session ≡ view.delivered session
  pub sending : SendingInPlace plan side queue view.sends
  pub receiving : ReceivingInPlace plan side queue forgotten view.receives
  pub forgets : forgotten ≡ true → IsForgotten view.sends view.receives view.dev.stopped
  pub stops : (view.dev.stopped ≡ false) ⊎ SizesFit plan

-- A side

-- a side that has forgotten its session: from its clean to the next train
abbrev pub has_link_forgotten : Link → Side → Bool
has_link_forgotten link side = is_down link.state && at_side link.clean side

-- the entries that are sent on each queue
abbrev pub sent_in : (ℕ → QueueView) → ℕ → List Entry
sent_in view queue = (view queue).sends.sent

pub record SideStands (devs : List DevPlan) (plan : PairPlan) (k : ℕ) (side : Side) (down forgotten : Bool) (joined : ℕ) (flight : List Label) (poked : List (List ℕ)) (view : ℕ → QueueView) (parts : List QueuePart) : Type 0 where
  pub none_joined : forgotten ≡ true → joined ≡ 0
  pub in_flight : FlightInPlace plan side down (sent_in view) flight poked (writes_labelled plan side (sent_in view) flight poked)
  pub all_queues : length parts ≡ (side_plan plan side).queues
  pub queues : (queue : ℕ) → queue < (side_plan plan side).queues → QueueStands devs plan k side queue forgotten (view queue) (slice_index_or parts queue no_queue)

abbrev pub SideStandsIn : List DevPlan → PairPlan → ℕ → PairPart → Side → List QueuePart → Type 0
SideStandsIn devs plan k pair side parts =
    SideStands devs plan k side (is_down pair.link.state) (has_link_forgotten pair.link side) (side_of pair side).joined (side_of pair side).flight (side_of pair side).poked (view_of pair side) parts

-- A pair, whose number is k

pub record PairStands (devs : List DevPlan) (plan : PairPlan) (k : ℕ) (site : Site) (state : PairState) : Type 0 where
  pub bridge : plain_bridge state.bridge ≡ bridge_for plan site
  pub link : LinkInPlace site.pair.link
  pub sides : (side : Side) → SideStandsIn devs plan k site.pair side (queues_of state side)
