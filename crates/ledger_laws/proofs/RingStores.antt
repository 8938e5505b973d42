-- A ring and an index word as they stand in a memory, and what each kind of store of a step makes of them.
use Rattle.std.proofs.Common.{◌≡◌, ℕ, ◌+◌, ◌*◌, ◌<◌, ◌≤◌, Bool, Option, Some, None, List, ◌++◌, length, refl, sym, ap, ◌∙◌, subst, inl, inr, arith, mod-lt, length-set, get_or-set_same, get_or-set_other}
use Rattle.std.specs.Prelude.{◌≢◌, ◌%◌, ◌==◌, if◌then◌else◌, slice_index_or, slice_set}
use Rattle.std.proofs.lemmas.Bool.{cases_eq, cond-true, cond-false, eq-eqb, ne_eqb}
use Rattle.step_kinds.specs.Sides.{other_side}
use Rattle.step_kinds.specs.declared.names.Side.{Side}
use Rattle.step_kinds.specs.declared.plan.PairPlan.{PairPlan}
use Rattle.step_kinds.specs.declared.steps.Label.{Label}
use Rattle.step_kinds.specs.declared.steps.Label.TheVariants.{Chunk, Len, Ver, Flag, Down, Bell, Index, Pad, Raw}
use Rattle.lane_model.specs.Lane.{Entry, Carries, GoesDown, Slot, blank_slot, bytes_of, left_of, chunk_size, done, flags_of, version_of, with_flags}
use Rattle.lane_model.specs.declared.Field.TheVariants.{Chunk as PayloadChunk, Length, Version}
use Rattle.lane_model.specs.declared.Write.{Write}
use Rattle.lane_model.specs.declared.Write.TheVariants.{Data, Flag as EntryFlag, Bell as QueueBell}
use Rattle.ring_geometry.specs.Geometry.{Layout, HasRing, entries_of, max_payload_of, slot_of, header_of}
use Rattle.ring_geometry.specs.Spots.{Rings, layout_at, address_of}
use Rattle.pair_model.specs.DeclaredPlans.{Agree, IsPair}
use Rattle.pair_model.specs.Plans.{side_plan}
use Rattle.pair_model.specs.Stores.{Store}
use Rattle.ledger_model.specs.Labels.{write_of}
use Rattle.ledger_model.specs.Ledger.{PairPart, LanePart, lane_of, entry_in}
use Rattle.ledger_model.specs.Rings.{with_write}
use Rattle.ledger_model.specs.Memory.{stored}
use Rattle.ledger_model.specs.Targets.{store_of}
use Rattle.ledger_laws.proofs.LabelStores.{rings_in, is_five, size_fits, same_queues, same_layout, has_ring, payload_small, slot_among_ring, written_at, IsFitting, spot_of, IsOutsideOf, chunk_fits, label_fills, spot_leaves}
use Rattle.ledger_laws.proofs.SlotStores.{StandsIn, LeavesSlot, slot_left, chunk_stands, LengthWord, FlagsWord, word_stands, version_stands, flags_at, length_at}

-- a ring's slots in a memory
pub record RingIn (rings : Rings) (five : Bool) (queue : ℕ) (stores : List Store) (ring : List Slot) : Type 0 where
  pub slots : length ring ≡ entries_of (layout_at rings queue)
  pub stands : (n : ℕ) → n < entries_of (layout_at rings queue) → StandsIn rings five queue n stores (slice_index_or ring n blank_slot)

-- each of its slots is left
abbrev pub LeavesRing : Rings → ℕ → List Store → Type 0
LeavesRing rings queue new = (n : ℕ) → n < entries_of (layout_at rings queue) → LeavesSlot rings queue n new

module _ (plan : PairPlan) (declared : IsPair plan) (agree : Agree plan) (from : Side) (queue : ℕ) (among : queue < (side_plan plan from).queues) where
  -- the memory of the lane's receiver
  abbrev Memory : Rings
  Memory = rings_in plan (other_side from)

  abbrev Entries : ℕ
  Entries = entries_of (layout_at Memory queue)

  abbrev Stands : List Store → List Slot → Type 0
  Stands stores ring = RingIn Memory (is_five plan) queue stores ring

  peer_among : queue < (side_plan plan (other_side from)).queues
  peer_among = subst (λ queues. queue < queues) (same_queues plan agree from) among

  ring_there : HasRing (layout_at Memory queue)
  ring_there = has_ring plan declared (other_side from) queue peer_among

  place_among : (n : ℕ) → n % Entries < Entries
  place_among n = slot_among_ring plan declared (other_side from) queue n peer_among

  pub ring_left : (new older : List Store) (ring : List Slot) → LeavesRing Memory queue new → Stands older ring → Stands (new ++ older) ring
  ring_left new older ring leaves stands = record {
    slots = stands.slots;
    stands = λ n below. slot_left Memory (is_five plan) queue n new older (slice_index_or ring n blank_slot) refl (leaves n below) (stands.stands n below);
  }

  -- one slot is another, and the others are left
  pub ring_set : (new older : List Store) (ring : List Slot) (k : ℕ) (slot : Slot) → k < Entries → ((n : ℕ) → n < Entries → n ≢ k → LeavesSlot Memory queue n new)
      → StandsIn Memory (is_five plan) queue k (new ++ older) slot → Stands older ring → Stands (new ++ older) (slice_set ring k slot)
  ring_set new older ring k slot small others own stands = record {
    slots = length-set ring k slot ∙ stands.slots;
    stands = λ n below. elim (cases_eq n k) [
      | inl same ↦
          let within : k < length ring = omega (arith, stands.slots) in
          subst (λ j. StandsIn Memory (is_five plan) queue j (new ++ older) (slice_index_or (slice_set ring k slot) j blank_slot)) (sym same)
          (subst (StandsIn Memory (is_five plan) queue k (new ++ older)) (sym (get_or-set_same ring k slot blank_slot within)) own)
      | inr apart ↦
          subst (StandsIn Memory (is_five plan) queue n (new ++ older)) (sym (get_or-set_other ring k n slot blank_slot apart))
          (slot_left Memory (is_five plan) queue n new older (slice_index_or ring n blank_slot) refl (others n below apart) (stands.stands n below))
    ];
  }

  -- A write lands that the lane's sender posted
  module _ (pair : PairPart) (raw : List ℕ) where
    abbrev New : Label → List Store
    New label = stored (store_of plan pair from raw label)

    abbrev Own : LanePart
    Own = lane_of pair from queue

    -- of another lane
    label_leaves : (label : Label) (n : ℕ) → IsFitting plan pair from label → n < Entries → IsOutsideOf queue n (spot_of plan from label) → LeavesSlot Memory queue n (New label)
    label_leaves label n fits below apart =
        spot_leaves plan declared agree pair from raw queue n ring_there below (spot_of plan from label) (store_of plan pair from raw label) (label_fills plan declared agree pair from raw label fits) apart

    -- of this lane or another
    own_or_other : (label : ℕ → Label) (write : Write) (q : ℕ) (older : List Store) (ring : List Slot)
        → (IsFitting plan pair from (label queue) → Stands (New (label queue) ++ older) (with_write Entries Own ring (Some write)))
        → (q ≢ queue → LeavesRing Memory queue (New (label q)))
        → Stands older ring → IsFitting plan pair from (label q) → Stands (New (label q) ++ older) (with_write Entries Own ring (if q == queue then Some write else None))
    own_or_other label write q older ring own other stands fits = elim (cases_eq q queue) [
      | inl same ↦
          let P : ℕ → Type 0 = λ p. IsFitting plan pair from (label p) → Stands (New (label p) ++ older) (with_write Entries Own ring (if p == queue then Some write else None)) in
          subst P (sym same) (λ may. subst (λ (w : Option Write). Stands (New (label queue) ++ older) (with_write Entries Own ring w)) (sym (cond-true (queue == queue) (Some write) None (eq-eqb queue queue refl))) (own may)) fits
      | inr apart ↦
          subst (λ (w : Option Write). Stands (New (label q) ++ older) (with_write Entries Own ring w)) (sym (cond-false (q == queue) (Some write) None (ne_eqb q queue apart)))
          (ring_left (New (label q)) older ring (other apart) stands)
    ]

    -- of this lane, into one slot
    slot_set : (label : Label) (older : List Store) (ring : List Slot) (n : ℕ) (slot : Slot) → IsFitting plan pair from label
        → ((k : ℕ) → k ≢ n % Entries → IsOutsideOf queue k (spot_of plan from label)) → Stands older ring
        → (StandsIn Memory (is_five plan) queue (n % Entries) older (slice_index_or ring (n % Entries) blank_slot) → StandsIn Memory (is_five plan) queue (n % Entries) (New label ++ older) slot)
        → Stands (New label ++ older) (slice_set ring (n % Entries) slot)
    slot_set label older ring n slot may outside stands own =
        ring_set (New label) older ring (n % Entries) slot (place_among n) (λ k below apart. label_leaves label k may below (outside k apart)) (own (stands.stands (n % Entries) (place_among n))) stands

    -- the flags of an entry
    flags_open : (entry : Entry) → entry ≢ GoesDown → flags_of entry ≡ done
    flags_open (Carries bytes left) h = refl
    flags_open GoesDown h = absurd (h refl)

    pub label_stands : (label : Label) (older : List Store) (ring : List Slot) → IsFitting plan pair from label → Stands older ring → Stands (New label ++ older) (with_write Entries Own ring (write_of queue label))
    label_stands (Chunk q n part) older ring fits stands = own_or_other (λ p. Chunk p n part) (Data n (PayloadChunk part)) q older ring own (λ apart k below. label_leaves (Chunk q n part) k fits below (inl apart)) stands fits
      where
        own : IsFitting plan pair from (Chunk queue n part) → Stands (New (Chunk queue n part) ++ older) (with_write Entries Own ring (Some (Data n (PayloadChunk part))))
        own may =
            let there = written_at plan agree from queue (λ l. slot_of l (n % entries_of l) + chunk_size * part) in
            let inside = chunk_fits (bytes_of (entry_in Own n)) part may.1 in
            let room : length (bytes_of (entry_in Own n)) ≤ max_payload_of (layout_at Memory queue) = subst (λ (l : Layout). length (bytes_of (entry_in Own n)) ≤ max_payload_of l) (same_layout plan agree from queue) may.2 in
            slot_set (Chunk queue n part) older ring n _ may (λ k apart. inr (λ e. apart (sym e))) stands
            (chunk_stands Memory (size_fits plan agree (other_side from)) queue ring_there (n % Entries) (place_among n) (is_five plan) (chunk_size * part) _ older _ refl (omega (arith, there)) (omega (arith, inside, room)))
    label_stands (Len q n) older ring fits stands = own_or_other (λ p. Len p n) (Data n Length) q older ring own (λ apart k below. label_leaves (Len q n) k fits below (inl apart)) stands fits
      where
        own : IsFitting plan pair from (Len queue n) → Stands (New (Len queue n) ++ older) (with_write Entries Own ring (Some (Data n Length)))
        own may =
            let room : length (bytes_of (entry_in Own n)) ≤ max_payload_of (layout_at Memory queue) = subst (λ (l : Layout). length (bytes_of (entry_in Own n)) ≤ max_payload_of l) (same_layout plan agree from queue) may.1 in
            let small = payload_small plan declared (other_side from) queue peer_among in
            slot_set (Len queue n) older ring n _ may (λ k apart. inr (λ e. apart (sym e))) stands
            (word_stands Memory (size_fits plan agree (other_side from)) queue ring_there (n % Entries) (place_among n) (is_five plan) LengthWord _ older _ (length (bytes_of (entry_in Own n))) refl
            (written_at plan agree from queue (λ l. header_of l (n % entries_of l) + length_at (is_five plan))) refl (omega (arith, room, small)))
    label_stands (Ver q n) older ring fits stands = own_or_other (λ p. Ver p n) (Data n Version) q older ring own (λ apart k below. label_leaves (Ver q n) k fits below (inl apart)) stands fits
      where
        own : IsFitting plan pair from (Ver queue n) → Stands (New (Ver queue n) ++ older) (with_write Entries Own ring (Some (Data n Version)))
        own may =
            slot_set (Ver queue n) older ring n _ may (λ k apart. inr (λ e. apart (sym e))) stands
            (version_stands Memory (size_fits plan agree (other_side from)) queue ring_there (n % Entries) (place_among n) (is_five plan) _ older _ (version_of n) (left_of (entry_in Own n)) refl
            (written_at plan agree from queue (λ l. header_of l (n % entries_of l)) ∙ ap (λ place. address_of Memory queue place) (omega arith)) refl (mod-lt n (omega arith)) may.1 may.2)
    label_stands (Flag q n) older ring fits stands = own_or_other (λ p. Flag p n) (EntryFlag n) q older ring own (λ apart k below. label_leaves (Flag q n) k fits below (inl apart)) stands fits
      where
        own : IsFitting plan pair from (Flag queue n) → Stands (New (Flag queue n) ++ older) (with_write Entries Own ring (Some (EntryFlag n)))
        own may =
            subst (λ flags. Stands (New (Flag queue n) ++ older) (slice_set ring (n % Entries) (with_flags (slice_index_or ring (n % Entries) blank_slot) flags))) (sym (flags_open (entry_in Own n) may.1))
            (slot_set (Flag queue n) older ring n _ may (λ k apart. inr (λ e. apart (sym e))) stands
            (word_stands Memory (size_fits plan agree (other_side from)) queue ring_there (n % Entries) (place_among n) (is_five plan) FlagsWord _ older _ done refl
            (written_at plan agree from queue (λ l. header_of l (n % entries_of l) + flags_at (is_five plan))) refl (omega arith)))
    label_stands (Down q n) older ring fits stands = own_or_other (λ p. Down p n) (EntryFlag n) q older ring own (λ apart k below. label_leaves (Down q n) k fits below (inl apart)) stands fits
      where
        own : IsFitting plan pair from (Down queue n) → Stands (New (Down queue n) ++ older) (with_write Entries Own ring (Some (EntryFlag n)))
        own may =
            subst (λ flags. Stands (New (Down queue n) ++ older) (slice_set ring (n % Entries) (with_flags (slice_index_or ring (n % Entries) blank_slot) flags))) (sym (ap flags_of may.1))
            (slot_set (Down queue n) older ring n _ may (λ k apart. inr (λ e. apart (sym e))) stands
            (word_stands Memory (size_fits plan agree (other_side from)) queue ring_there (n % Entries) (place_among n) (is_five plan) FlagsWord _ older _ (done + 2) refl
            (written_at plan agree from queue (λ l. header_of l (n % entries_of l) + flags_at (is_five plan))) refl (omega arith)))
    label_stands (Bell q) older ring fits stands = own_or_other (λ p. Bell p) QueueBell q older ring (λ may. stands) (λ apart k below. label_leaves (Bell q) k fits below tt) stands fits
    label_stands (Index q n) older ring fits stands = ring_left (New (Index q n)) older ring (λ k below. label_leaves (Index q n) k fits below tt) stands
    label_stands (Pad i value) older ring fits stands = stands
    label_stands (Raw window offset len) older ring fits stands = absurd fits
