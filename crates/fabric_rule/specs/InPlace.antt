-- What holds of the ledger of every pair, raw ones too, so that what a port reads and writes lies in its memories. That
-- is what a side that has forgotten its session is left with, and how far a receiver is with the entry at hand. It is
-- also which labels are left to post and in flight, and where their writes go.
use Rattle.std.specs.Prelude.{◌≡◌, ℕ, ◌+◌, ◌-◌, ◌<◌, ◌≤◌, ◌⊎◌, Bool, true, false, List, [], ◌∷◌, length, slice_index_or}
use Rattle.std.specs.List.{AllByRecursion}
use Rattle.step_kinds.specs.Sides.{other_side}
use Rattle.step_kinds.specs.declared.names.Side.{Side}
use Rattle.step_kinds.specs.declared.plan.PairPlan.{PairPlan}
use Rattle.step_kinds.specs.declared.steps.Label.{Label}
use Rattle.step_kinds.specs.declared.steps.Label.TheVariants.{Chunk, Len, Ver, Flag, Down, Bell, Raw}
use Rattle.lane_model.specs.Lane.{Entry, GoesDown, bytes_of, chunks_in}
use Rattle.lane_model.specs.Tests.{is_copying}
use Rattle.lane_model.specs.declared.Phase.{Phase}
use Rattle.lane_model.specs.declared.Phase.TheVariants.{Idle, Copying, Copied, Cleared}
use Rattle.ring_geometry.specs.Geometry.{max_payload_of}
use Rattle.pair_model.specs.DeclaredPlans.{SizesFit}
use Rattle.pair_model.specs.Both.{at_side}
use Rattle.pair_model.specs.Link.{Link, is_down}
use Rattle.pair_model.specs.Sizes.{layout_of, layout_to}
use Rattle.ledger_model.specs.Ledger.{LanePart}
use Rattle.frame_ring.specs.Port.{Receiving}
use Rattle.plan_numbers.specs.Memories.{memory_size}
use Rattle.bridge_pair.specs.Flights.{Flying}
use Rattle.bridge_pair.specs.declared.flying_write.Arrival.{Arrival}
use Rattle.bridge_pair.specs.declared.flying_write.Arrival.TheVariants.{AtAddress}

-- A lane from each of its ends

-- what a lane's sender knows of it
pub record SendingEnd : Type 0 where
  pub sent : List Entry
  pub waiting : List Entry
  pub todo : List Label
  pub told : ℕ

abbrev pub fabric_sender_of : LanePart → SendingEnd
fabric_sender_of lane = record { sent = lane.sent; waiting = lane.waiting; todo = lane.todo; told = lane.told }

-- the entry that was begun last
abbrev pub last_entry : SendingEnd → Entry
last_entry sends = slice_index_or sends.sent (length sends.sent - 1) GoesDown

-- what its receiver knows of it: what its port keeps, and how many entries it cleared and gave back
pub record ReceivingEnd : Type 0 where
  pub port : Receiving
  pub cleared : ℕ
  pub acked : ℕ

abbrev pub fabric_receiver_of : LanePart → ReceivingEnd
fabric_receiver_of lane =
    record {
      port = record {
        got = lane.got;
        done = lane.done;
        phase = lane.phase;
        part = lane.part;
        len = lane.len;
        left = lane.left;
        gathered = lane.gathered;
      };
      cleared = lane.cleared;
      acked = lane.acked;
    }

-- The link

-- on a link that is down a side agreed to bring it up only after it forgot the session
abbrev pub LinkInPlace : Link → Type 0
LinkInPlace link = (side : Side) → is_down link.state ≡ true → at_side link.enabled side ≡ true → at_side link.clean side ≡ true

-- What a side sends on a queue

-- a label is one of the writes of entry n, which is this one, on this queue
abbrev pub IsWriteOf : ℕ → ℕ → Entry → Label → Type 0
IsWriteOf queue n entry (Chunk q m part) = (q ≡ queue) × (m ≡ n) × (part < chunks_in (length (bytes_of entry)))
IsWriteOf queue n entry (Len q m) = (q ≡ queue) × (m ≡ n)
IsWriteOf queue n entry (Ver q m) = (q ≡ queue) × (m ≡ n)
IsWriteOf queue n entry (Flag q m) = (q ≡ queue) × (m ≡ n)
IsWriteOf queue n entry (Down q m) = (q ≡ queue) × (m ≡ n)
IsWriteOf queue n entry (Bell q) = q ≡ queue
IsWriteOf queue n entry label = ⊥

-- an entry's payload fits a slot of the ring that the side sends to
abbrev pub FitsSlot : PairPlan → Side → ℕ → Entry → Type 0
FitsSlot plan side queue entry = length (bytes_of entry) ≤ max_payload_of (layout_of plan side queue)

-- a label left to post is of the entry that was begun last
abbrev pub IsLeftOf : ℕ → SendingEnd → Label → Type 0
IsLeftOf queue sends label = (0 < length sends.sent) × IsWriteOf queue (length sends.sent - 1) (last_entry sends) label

pub record SendingInPlace (plan : PairPlan) (side : Side) (queue : ℕ) (sends : SendingEnd) : Type 0 where
  pub todo : AllByRecursion (IsLeftOf queue sends) sends.todo
  pub last : FitsSlot plan side queue (last_entry sends)
  pub waiting : AllByRecursion (FitsSlot plan side queue) sends.waiting
  -- where something is left to post the sides' sizes fit
  pub todo_fits : (sends.todo ≡ []) ⊎ SizesFit plan
  pub waiting_fits : (sends.waiting ≡ []) ⊎ SizesFit plan

-- What it receives

-- how far the receiver's counts are apart in each phase
abbrev pub CountsOfPhase : Phase → ℕ → ℕ → ℕ → Type 0
CountsOfPhase Idle acked cleared got = (acked ≡ cleared) × (cleared ≡ got)
CountsOfPhase Copying acked cleared got = (acked ≡ cleared) × (cleared ≡ got)
CountsOfPhase Copied acked cleared got = (acked ≡ cleared) × (cleared + 1 ≡ got)
CountsOfPhase Cleared acked cleared got = (acked + 1 ≡ cleared) × (cleared ≡ got)

pub record ReceivingInPlace (plan : PairPlan) (side : Side) (queue : ℕ) (forgotten : Bool) (receives : ReceivingEnd) : Type 0 where
  pub counts : forgotten ≡ false → CountsOfPhase receives.port.phase receives.acked receives.cleared receives.port.got
  -- where an entry is at hand the sides' sizes fit, and one that is copied has the bytes of a slot at most
  pub fits : (receives.port.phase ≡ Idle) ⊎ SizesFit plan
  pub len : is_copying receives.port.phase ≡ true → receives.port.len ≤ max_payload_of (layout_to plan side queue)

-- A side that has forgotten its session

pub record IsForgotten (sends : SendingEnd) (receives : ReceivingEnd) (stopped : Bool) : Type 0 where
  pub todo : sends.todo ≡ []
  pub waiting : sends.waiting ≡ []
  pub phase : receives.port.phase ≡ Idle
  pub goes_on : stopped ≡ false

-- What is in flight

-- the labels are of entries that were begun
abbrev pub IsLabelBegun : (ℕ → List Entry) → Label → Type 0
IsLabelBegun sent (Chunk q n part) = n < length (sent q)
IsLabelBegun sent (Len q n) = n < length (sent q)
IsLabelBegun sent (Ver q n) = n < length (sent q)
IsLabelBegun sent (Flag q n) = n < length (sent q)
IsLabelBegun sent (Down q n) = n < length (sent q)
IsLabelBegun sent label = Unit {0}

-- each raw write has its bytes, and no other
abbrev pub HaveRawBytes : List Label → List (List ℕ) → Type 0
HaveRawBytes [] [] = Unit {0}
HaveRawBytes [] (bytes ∷ poked) = ⊥
HaveRawBytes (Raw window offset len ∷ labels) [] = ⊥
HaveRawBytes (Raw window offset len ∷ labels) (bytes ∷ poked) = HaveRawBytes labels poked
HaveRawBytes (label ∷ labels) poked = HaveRawBytes labels poked

-- bytes lie in a memory of this size
abbrev pub ArrivalLiesIn : ℕ → Arrival → Type 0
ArrivalLiesIn size (AtAddress at bytes) = at + length bytes ≤ size
ArrivalLiesIn size arrival = Unit {0}

pub record FlightInPlace (plan : PairPlan) (side : Side) (down : Bool) (sent : ℕ → List Entry) (flight : List Label) (poked : List (List ℕ)) (writes : List Flying) : Type 0 where
  pub begun : AllByRecursion (IsLabelBegun sent) flight
  pub raws : HaveRawBytes flight poked
  pub places : AllByRecursion (λ flying. ArrivalLiesIn (memory_size plan (other_side side)) flying.arrival) writes
  -- nothing is in flight on a link that is down
  pub none : down ≡ true → (flight ≡ []) × (poked ≡ [])
