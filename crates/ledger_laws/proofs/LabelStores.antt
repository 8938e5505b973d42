-- Which spot of the receiver's memory each write of a pair fills as it lands.
use Rattle.std.proofs.Common.{◌≡◌, ℕ, ◌+◌, ◌*◌, ◌<◌, ◌≤◌, Bool, true, false, Option, Some, None, List, length, drop, refl, sym, ap, ◌∙◌, subst, arith, mod-lt}
use Rattle.std.specs.Prelude.{◌≢◌, ◌^◌, ◌%◌, ◌==◌}
use Rattle.std.proofs.Math.Nat.{mul_comm}
use Rattle.std.proofs.lemmas.List.{length-take, length-drop}
use Rattle.step_kinds.specs.Sides.{other_side}
use Rattle.step_kinds.specs.declared.names.Side.{Side}
use Rattle.step_kinds.specs.declared.names.Side.TheVariants.{A, B}
use Rattle.step_kinds.specs.declared.plan.PairPlan.{PairPlan}
use Rattle.step_kinds.specs.declared.steps.Label.{Label}
use Rattle.step_kinds.specs.declared.steps.Label.TheVariants.{Chunk, Len, Ver, Flag, Down, Bell, Index, Pad, Raw}
use Rattle.lane_model.specs.Lane.{Entry, GoesDown, bytes_of, left_of, chunk_of, chunk_size, chunks_in, version_of}
use Rattle.ring_geometry.specs.Geometry.{Layout, layout_with, HasRing, entries_of, window_of, max_payload_of, slot_of, header_of, index_of}
use Rattle.ring_geometry.specs.Spots.{Rings, Spot, Payload, Header, Index as IndexSpot, layout_at, address_of}
use Rattle.pair_model.specs.DeclaredPlans.{Agree, IsPair}
use Rattle.pair_model.specs.Plans.{side_plan}
use Rattle.pair_model.specs.Sizes.{agreed_version, header_bytes, layout_of, layout_to}
use Rattle.pair_model.proofs.Facade.{each_queue_has_a_ring}
use Rattle.pair_model.specs.Addresses.{own_address, peer_address}
use Rattle.pair_model.specs.Stores.{Store}
use Rattle.pair_model.proofs.Facade.{length-word_bytes}
use Rattle.ledger_model.specs.Ledger.{PairPart, lane_of, entry_in}
use Rattle.ledger_laws.proofs.RingLawHolds.{two_entries}
use Rattle.ledger_model.specs.Memory.{stored}
use Rattle.ledger_model.specs.Targets.{store_of}
use Rattle.ledger_laws.proofs.SlotStores.{Fills, LeavesSlot, IsOutside, outside_left, length_at, flags_at, header_size, version_size, version_word}

-- The rings in a side's memory

abbrev pub rings_in : PairPlan → Side → Rings
rings_in plan side = record {
  size = (side_plan plan (other_side side)).size;
  cap = (side_plan plan side).cap;
  windows = (side_plan plan side).windows;
  queues = (side_plan plan side).queues;
  mtu = plan.mtu;
  header = header_bytes plan;
}

abbrev pub is_five : PairPlan → Bool
is_five plan = agreed_version plan == 5

-- If the sides of a pair agree, the peer's windows are no larger than what a side's memory gives for one.
pub size_fits : (plan : PairPlan) → Agree plan → (side : Side) → (rings_in plan side).size ≤ (rings_in plan side).cap
size_fits plan agree A = agree.sizes.1
size_fits plan agree B = agree.sizes.0

-- Two sides that agree have the same number of queues.
pub same_queues : (plan : PairPlan) → Agree plan → (side : Side) → (side_plan plan side).queues ≡ (side_plan plan (other_side side)).queues
same_queues plan agree A = agree.queues
same_queues plan agree B = sym agree.queues

layouts_same : (size windows windows' queues queues' queue mtu header : ℕ) → windows ≡ windows' → queues ≡ queues' → layout_with size windows queues queue mtu header ≡ layout_with size windows' queues' queue mtu header
layouts_same size windows windows' queues queues' queue mtu header e f = cc

-- the ring that a side sends to is where the other side receives
pub same_layout : (plan : PairPlan) → Agree plan → (from : Side) (queue : ℕ) → layout_of plan from queue ≡ layout_at (rings_in plan (other_side from)) queue
same_layout plan agree A queue = layouts_same plan.a.size plan.a.windows plan.b.windows plan.a.queues plan.b.queues queue plan.mtu (header_bytes plan) agree.windows agree.queues
same_layout plan agree B queue = layouts_same plan.b.size plan.b.windows plan.a.windows plan.b.queues plan.a.queues queue plan.mtu (header_bytes plan) (sym agree.windows) (sym agree.queues)

-- Each queue of a side of a declared pair has a window, and there room for the index word and for an entry.
pub has_ring : (plan : PairPlan) → IsPair plan → (side : Side) (queue : ℕ) → queue < (side_plan plan side).queues → HasRing (layout_at (rings_in plan side) queue)
has_ring plan declared side queue among = (each_queue_has_a_ring plan side queue declared among).1.ring

-- the ring's largest payload, and its entries, are small
pub payload_small : (plan : PairPlan) → IsPair plan → (side : Side) (queue : ℕ) → queue < (side_plan plan side).queues → max_payload_of (layout_at (rings_in plan side) queue) ≤ 65536
payload_small plan declared side queue among = let mtu = declared.mtu.1 in omega (arith, mtu)

-- An entry's number modulo the length of the ring that a side receives in is a slot of that ring.
pub slot_among_ring : (plan : PairPlan) → IsPair plan → (side : Side) (queue n : ℕ) → queue < (side_plan plan side).queues
    → n % entries_of (layout_at (rings_in plan side) queue) < entries_of (layout_at (rings_in plan side) queue)
slot_among_ring plan declared side queue n among = let two = two_entries (layout_at (rings_in plan side) queue) (has_ring plan declared side queue among) in mod-lt n (omega arith)

-- Addresses

-- where a side's write through the window of a queue stands in the peer's memory
pub written_at : (plan : PairPlan) → Agree plan → (from : Side) (queue : ℕ) (place : Layout → ℕ)
    → peer_address plan from (window_of (layout_of plan from queue)) (place (layout_of plan from queue)) ≡ address_of (rings_in plan (other_side from)) queue (place (layout_at (rings_in plan (other_side from)) queue))
written_at plan agree from queue place =
    ap (λ (l : Layout). window_of l * (side_plan plan (other_side from)).cap + place l) (same_layout plan agree from queue)
    ∙ ap (λ base. base + place (layout_at (rings_in plan (other_side from)) queue)) (mul_comm (window_of (layout_at (rings_in plan (other_side from)) queue)) (side_plan plan (other_side from)).cap)

-- where a place of a side's own window stands
pub own_at : (plan : PairPlan) (side : Side) (queue offset : ℕ) → own_address plan side queue offset ≡ address_of (rings_in plan side) queue offset
own_at plan side queue offset = ap (λ base. base + offset) (mul_comm (window_of (layout_to plan side queue)) (side_plan plan side).cap)

-- Labels

-- the entry that a label of a queue is of
abbrev pub entry_on : PairPart → Side → ℕ → ℕ → Entry
entry_on pair from queue n = entry_in (lane_of pair from queue) n

-- what a label in flight from a side says of its entry, and that its queue is one of the side's
abbrev pub IsFitting : PairPlan → PairPart → Side → Label → Type 0
IsFitting plan pair from (Chunk q n part) =
    (q < (side_plan plan from).queues) × (part < chunks_in (length (bytes_of (entry_on pair from q n)))) × (length (bytes_of (entry_on pair from q n)) ≤ max_payload_of (layout_of plan from q))
IsFitting plan pair from (Len q n) = (q < (side_plan plan from).queues) × (length (bytes_of (entry_on pair from q n)) ≤ max_payload_of (layout_of plan from q))
IsFitting plan pair from (Ver q n) = (q < (side_plan plan from).queues) × (left_of (entry_on pair from q n) < 2 ^ 32) × (is_five plan ≡ false → left_of (entry_on pair from q n) ≡ 0)
IsFitting plan pair from (Flag q n) = (q < (side_plan plan from).queues) × (entry_on pair from q n ≢ GoesDown)
IsFitting plan pair from (Down q n) = (q < (side_plan plan from).queues) × (entry_on pair from q n ≡ GoesDown)
IsFitting plan pair from (Index q n) = q < (side_plan plan from).queues
IsFitting plan pair from (Raw window offset len) = ⊥
IsFitting plan pair from label = Unit {0}

-- the spot of the peer's memory to which it goes
abbrev pub spot_of : PairPlan → Side → Label → Option Spot
spot_of plan from (Chunk q n part) = Some (Payload q (n % entries_of (layout_at (rings_in plan (other_side from)) q)))
spot_of plan from (Len q n) = Some (Header q (n % entries_of (layout_at (rings_in plan (other_side from)) q)) (length_at (is_five plan)) 4)
spot_of plan from (Ver q n) = Some (Header q (n % entries_of (layout_at (rings_in plan (other_side from)) q)) 0 (version_size (is_five plan)))
spot_of plan from (Flag q n) = Some (Header q (n % entries_of (layout_at (rings_in plan (other_side from)) q)) (flags_at (is_five plan)) 4)
spot_of plan from (Down q n) = Some (Header q (n % entries_of (layout_at (rings_in plan (other_side from)) q)) (flags_at (is_five plan)) 4)
spot_of plan from (Index q n) = Some (IndexSpot q)
spot_of plan from label = None

-- what is stored fills the spot
abbrev pub FillsSpot : Rings → Option Spot → Option Store → Type 0
FillsSpot rings None None = Unit {0}
FillsSpot rings None (Some store) = ⊥
FillsSpot rings (Some spot) None = ⊥
FillsSpot rings (Some spot) (Some store) = Fills rings spot store

-- and isn't one of a slot's
abbrev pub IsOutsideOf : ℕ → ℕ → Option Spot → Type 0
IsOutsideOf queue n None = Unit {0}
IsOutsideOf queue n (Some spot) = IsOutside queue n spot

-- Each chunk of a payload, laid at its place of 128 bytes, ends within the payload.
pub chunk_fits : (bytes : List ℕ) (part : ℕ) → part < chunks_in (length bytes) → chunk_size * part + length (chunk_of bytes part) ≤ length bytes
chunk_fits bytes part among = omega (arith, length-take chunk_size (drop (chunk_size * part) bytes), length-drop (chunk_size * part) bytes)

-- In a header of its version's size, the write of a length, of a version and of flags ends within the header.
pub field_inside : (five : Bool) (rings : Rings) → rings.header ≡ header_size five → (length_at five + 4 ≤ rings.header) × (0 + version_size five ≤ rings.header) × (flags_at five + 4 ≤ rings.header)
field_inside true rings e = (omega arith, omega arith, omega arith)
field_inside false rings e = (omega arith, omega arith, omega arith)

-- What the write of a version brings is eight bytes long on version 5, and four on version 4.
pub length-version_word : (five : Bool) (ver left : ℕ) → length (version_word five ver left) ≡ version_size five
length-version_word true ver left = refl
length-version_word false ver left = length-word_bytes ver

module _ (plan : PairPlan) (declared : IsPair plan) (agree : Agree plan) (pair : PairPart) (from : Side) (raw : List ℕ) where
  abbrev Memory : Rings
  Memory = rings_in plan (other_side from)

  peer_queue : (q : ℕ) → q < (side_plan plan from).queues → q < (side_plan plan (other_side from)).queues
  peer_queue q among = subst (λ queues. q < queues) (same_queues plan agree from) among

  fills_header : (q n offset len : ℕ) (store : Store) → q < (side_plan plan from).queues → offset + len ≤ Memory.header → length store.bytes ≡ len
      → store.at ≡ address_of Memory q (header_of (layout_at Memory q) (n % entries_of (layout_at Memory q)) + offset)
      → Fills Memory (Header q (n % entries_of (layout_at Memory q)) offset len) store
  fills_header q n offset len store among inside long there = record {
    is = (has_ring plan declared (other_side from) q (peer_queue q among), (slot_among_ring plan declared (other_side from) q n (peer_queue q among), inside));
    from = omega arith;
    to = omega arith;
  }

  pub label_fills : (label : Label) → IsFitting plan pair from label → FillsSpot Memory (spot_of plan from label) (store_of plan pair from raw label)
  label_fills (Chunk q n part) fits =
      let there = written_at plan agree from q (λ l. slot_of l (n % entries_of l) + chunk_size * part) in
      let inside = chunk_fits (bytes_of (entry_on pair from q n)) part fits.1 in
      let room : length (bytes_of (entry_on pair from q n)) ≤ max_payload_of (layout_at Memory q) = subst (λ (l : Layout). length (bytes_of (entry_on pair from q n)) ≤ max_payload_of l) (same_layout plan agree from q) fits.2 in
      record {
        is = (has_ring plan declared (other_side from) q (peer_queue q fits.0), slot_among_ring plan declared (other_side from) q n (peer_queue q fits.0));
        from = omega (arith, there);
        to = omega (arith, there, inside, room);
      }
  label_fills (Len q n) fits =
      fills_header q n (length_at (is_five plan)) 4 _ fits.0 (field_inside (is_five plan) Memory refl).0 (length-word_bytes (length (bytes_of (entry_on pair from q n))))
      (written_at plan agree from q (λ l. header_of l (n % entries_of l) + length_at (is_five plan)))
  label_fills (Ver q n) fits =
      fills_header q n 0 (version_size (is_five plan)) _ fits.0 (field_inside (is_five plan) Memory refl).1 (length-version_word (is_five plan) (version_of n) (left_of (entry_on pair from q n)))
      (written_at plan agree from q (λ l. header_of l (n % entries_of l)) ∙ ap (λ place. address_of Memory q place) (omega arith))
  label_fills (Flag q n) fits =
      fills_header q n (flags_at (is_five plan)) 4 _ fits.0 (field_inside (is_five plan) Memory refl).2 refl (written_at plan agree from q (λ l. header_of l (n % entries_of l) + flags_at (is_five plan)))
  label_fills (Down q n) fits =
      fills_header q n (flags_at (is_five plan)) 4 _ fits.0 (field_inside (is_five plan) Memory refl).2 refl (written_at plan agree from q (λ l. header_of l (n % entries_of l) + flags_at (is_five plan)))
  label_fills (Index q n) fits =
      let there = written_at plan agree from q (λ l. index_of l) in
      let four = length-word_bytes (n % entries_of (layout_to plan from q)) in
      record { is = (has_ring plan declared (other_side from) q (peer_queue q fits), tt); from = omega (arith, there); to = omega (arith, there, four) }
  label_fills (Bell q) fits = tt
  label_fills (Pad i value) fits = tt
  label_fills (Raw window offset len) fits = absurd fits

  -- so it leaves a slot that it isn't of
  pub spot_leaves : (queue n : ℕ) → HasRing (layout_at Memory queue) → n < entries_of (layout_at Memory queue) → (spot : Option Spot) (store : Option Store) → FillsSpot Memory spot store
      → IsOutsideOf queue n spot → LeavesSlot Memory queue n (stored store)
  spot_leaves queue n ring among None None fills apart = record { payload = λ older. refl; header = λ offset inside older. refl }
  spot_leaves queue n ring among None (Some store) fills apart = absurd fills
  spot_leaves queue n ring among (Some spot) None fills apart = absurd fills
  spot_leaves queue n ring among (Some spot) (Some store) fills apart = outside_left Memory (size_fits plan agree (other_side from)) queue ring n among spot store fills apart
