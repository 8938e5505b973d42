-- What a side stores in its own memory, and the index writes that land there: index words, zeroed headers and cleared
-- flags.
use Rattle.std.proofs.Common.{◌≡◌, ℕ, zero, suc, ◌+◌, ◌-◌, ◌<◌, ◌≤◌, Option, Some, None, List, [], ◌∷◌, ◌++◌, map, take, replicate, refl, sym, ap, ◌∙◌, subst, inl, inr, arith, append_assoc}
use Rattle.std.specs.Prelude.{◌≢◌, ◌⊎◌, ◌%◌, ◌==◌, if◌then◌else◌, slice_index_or}
use Rattle.std.proofs.Math.Nat.{mod-eq_of_lt, div-le_self}
use Rattle.std.proofs.lemmas.Bool.{cases_eq, cond-true, cond-false, eq-eqb, ne_eqb}
use Rattle.std.proofs.lemmas.List.{append-nil, length-map, length-replicate, take-replicate, drop-replicate, get_or-replicate}
use Rattle.step_kinds.specs.Sides.{other_side}
use Rattle.step_kinds.specs.declared.names.Side.{Side}
use Rattle.step_kinds.specs.declared.plan.PairPlan.{PairPlan}
use Rattle.step_kinds.specs.declared.steps.Label.{Label}
use Rattle.step_kinds.specs.declared.steps.Label.TheVariants.{Chunk, Len, Ver, Flag, Down, Bell, Index, Pad, Raw}
use Rattle.lane_model.specs.Lane.{Slot, blank_slot, zeroed_slot, count_from, with_flags}
use Rattle.ring_geometry.specs.Geometry.{Layout, HasRing, entries_of, max_payload_of, header_of, index_of, queues_in_window, ring_bytes, frame_size}
use Rattle.ring_geometry.specs.Spots.{Rings, Spot, Payload, Header, Index as IndexSpot, layout_at, address_of, AreOther, spot_at}
use Rattle.pair_model.specs.DeclaredPlans.{Agree, IsPair}
use Rattle.pair_model.specs.Plans.{side_plan}
use Rattle.pair_model.specs.Sizes.{header_bytes, layout_of, layout_to}
use Rattle.pair_model.proofs.Facade.{each_queue_has_a_ring}
use Rattle.pair_model.specs.FreshRings.{fresh_index_word, fresh_index_words, zeroed_header, zeroed_headers, zeroed_flags}
use Rattle.pair_model.specs.Headers.{word_bytes}
use Rattle.pair_model.specs.RingWrites.{index_write, store_of_write}
use Rattle.pair_model.specs.Stores.{Store}
use Rattle.pair_model.proofs.Facade.{bytes_stored, length-word_bytes, word_stored, number_of, Leaves, Gives, leaves_both, gives_later, leaves_each, gives_among, leaves_mapped, gives_mapped}
use Rattle.ledger_model.specs.Labels.{label_index_of as index_in}
use Rattle.ledger_model.specs.Ledger.{PairPart}
use Rattle.ledger_model.specs.Rings.{with_index, without_header}
use Rattle.ledger_model.specs.Memory.{stored}
use Rattle.ledger_model.specs.Targets.{store_of}
use Rattle.ledger_laws.proofs.LabelStores.{rings_in, is_five, size_fits, same_queues, has_ring, slot_among_ring, written_at, own_at, IsFitting, spot_of, FillsSpot, field_inside, label_fills}
use Rattle.ledger_laws.proofs.RingStores.{RingIn, LeavesRing}
use Rattle.ledger_laws.proofs.SlotStores.{at_spot, word_at_spot, Fills, StandsIn, LeavesSlot, other_left, outside_left, FlagsWord, word_stands, zeroed_stands, nothing_stands, flags_at}

-- the entries of a ring are few
entries_few : (l : Layout) → l.window ≤ 268435456 → entries_of l ≤ 268435456
entries_few l small =
    let a = div-le_self l.window (queues_in_window l) in
    let b = div-le_self (ring_bytes l) (frame_size l) in
    omega (arith, a, b)

-- Index writes

module _ (plan : PairPlan) (declared : IsPair plan) (agree : Agree plan) (from : Side) (queue : ℕ) (among : queue < (side_plan plan from).queues) where
  -- the memory of the side to which this one gives entries back
  abbrev Peer : Rings
  Peer = rings_in plan (other_side from)

  abbrev Word : List Store → ℕ
  Word stores = word_at_spot Peer (IndexSpot queue) stores

  peer_ring : HasRing (layout_at Peer queue)
  peer_ring = has_ring plan declared (other_side from) queue (subst (λ queues. queue < queues) (same_queues plan agree from) among)

  -- a spot that isn't the index word's
  abbrev IsNoWord : Option Spot → Type 0
  IsNoWord None = Unit {0}
  IsNoWord (Some spot) = AreOther spot (IndexSpot queue)

  word_left : (spot : Option Spot) (store : Option Store) (older : List Store) → FillsSpot Peer spot store → IsNoWord spot → Word (stored store ++ older) ≡ Word older
  word_left None None older fills other = refl
  word_left None (Some store) older fills other = absurd fills
  word_left (Some spot) None older fills other = absurd fills
  word_left (Some spot) (Some store) older fills other = ap number_of (other_left Peer (size_fits plan agree (other_side from)) spot (IndexSpot queue) store fills (peer_ring, tt) other older)

  module _ (pair : PairPart) (raw : List ℕ) (older : List Store) (word : ℕ) (stands : Word older ≡ word) where
    abbrev After : Label → List Store
    After label = stored (store_of plan pair from raw label) ++ older

    abbrev Given : ℕ
    Given = entries_of (layout_to plan from queue)

    left_by_label : (label : Label) → IsFitting plan pair from label → IsNoWord (spot_of plan from label) → Word (After label) ≡ word
    left_by_label label fits other = word_left (spot_of plan from label) (store_of plan pair from raw label) older (label_fills plan declared agree pair from raw label fits) other ∙ stands

    pub index_lands : (label : Label) → IsFitting plan pair from label → Word (After label) ≡ with_index Given word (index_in queue label)
    index_lands (Index q n) fits = elim (cases_eq q queue) [
      | inl same ↦
          subst (λ p. Word (After (Index p n)) ≡ with_index Given word (if p == queue then Some n else None)) (sym same)
          (given ∙ sym (ap (with_index Given word) (cond-true (queue == queue) (Some n) None (eq-eqb queue queue refl))))
      | inr apart ↦ left_by_label (Index q n) fits apart ∙ sym (ap (with_index Given word) (cond-false (q == queue) (Some n) None (ne_eqb q queue apart)))
    ]
      where
        given : Word (After (Index queue n)) ≡ n % entries_of (layout_to plan from queue)
        given =
            let below = slot_among_ring plan declared from queue n among in
            let few = entries_few (layout_to plan from queue) (each_queue_has_a_ring plan from queue declared among).1.limits.window_fits in
            let there = written_at plan agree from queue (λ l. index_of l) in
            word_stored (store_of_write plan from (index_write plan from queue n)) older 0 (spot_at Peer (IndexSpot queue)) (n % entries_of (layout_to plan from queue)) (omega (arith, there)) (omega (arith, length-word_bytes (n % entries_of (layout_to plan from queue)))) refl (omega (arith, below, few))
    index_lands (Chunk q n part) fits = left_by_label (Chunk q n part) fits tt
    index_lands (Len q n) fits = left_by_label (Len q n) fits tt
    index_lands (Ver q n) fits = left_by_label (Ver q n) fits tt
    index_lands (Flag q n) fits = left_by_label (Flag q n) fits tt
    index_lands (Down q n) fits = left_by_label (Down q n) fits tt
    index_lands (Bell q) fits = stands
    index_lands (Pad i value) fits = stands
    index_lands (Raw window offset len) fits = absurd fits

-- What a side stores by itself

module _ (plan : PairPlan) (declared : IsPair plan) (agree : Agree plan) (side : Side) where
  abbrev Memory : Rings
  Memory = rings_in plan side

  abbrev Queues : ℕ
  Queues = (side_plan plan side).queues

  abbrev EntriesOn : ℕ → ℕ
  EntriesOn queue = entries_of (layout_at Memory queue)

  small : Memory.size ≤ Memory.cap
  small = size_fits plan agree side

  word_fills : (q : ℕ) → q < (side_plan plan side).queues → Fills Memory (IndexSpot q) (fresh_index_word plan side q)
  word_fills q below =
      let there = own_at plan side q (index_of (layout_to plan side q)) in
      let four = length-word_bytes (entries_of (layout_of plan side q) - 1) in
      record { is = (has_ring plan declared side q below, tt); from = omega (arith, there); to = omega (arith, there, four) }

  header_there : (q n : ℕ) → n < entries_of (layout_at Memory q) → (zeroed_header plan side q n).at ≡ spot_at Memory (Header q n 0 Memory.header)
  header_there q n among =
      let less : n % entries_of (layout_at Memory q) ≡ n = mod-eq_of_lt among in
      own_at plan side q (header_of (layout_to plan side q) (n % entries_of (layout_to plan side q)))
      ∙ ap (λ k. address_of Memory q (header_of (layout_at Memory q) k)) less
      ∙ ap (address_of Memory q) (omega arith)

  header_fills : (q n : ℕ) → q < (side_plan plan side).queues → n < entries_of (layout_at Memory q) → Fills Memory (Header q n 0 Memory.header) (zeroed_header plan side q n)
  header_fills q n below among =
      let there = header_there q n among in
      let long = length-replicate {A = ℕ} (header_bytes plan) 0 in
      record { is = (has_ring plan declared side q below, (among, omega arith)); from = omega (arith, there); to = omega (arith, there, long) }

  flags_fill : (q n : ℕ) → q < (side_plan plan side).queues → Fills Memory (Header q (n % entries_of (layout_at Memory q)) (flags_at (is_five plan)) 4) (zeroed_flags plan side q n)
  flags_fill q n below =
      let there = own_at plan side q (header_of (layout_to plan side q) (n % entries_of (layout_to plan side q))) in
      record {
        is = (has_ring plan declared side q below, (slot_among_ring plan declared side q n below, (field_inside (is_five plan) Memory refl).2));
        from = omega (arith, there);
        to = omega (arith, there);
      }

  -- Of one queue
  module _ (queue : ℕ) (among : queue < (side_plan plan side).queues) where
    ring_there : HasRing (layout_at Memory queue)
    ring_there = has_ring plan declared side queue among

    pub words_leave : LeavesRing Memory queue (fresh_index_words plan side)
    words_leave n below = record {
      payload = leaves_mapped (at_spot Memory (Payload queue n)) (fresh_index_word plan side) 0 Queues (λ k low high. (one k (omega arith)).payload);
      header = λ offset inside. leaves_mapped (at_spot Memory (Header queue n offset 4)) (fresh_index_word plan side) 0 Queues (λ k low high. (one k (omega arith)).header offset inside);
    }
      where
        one : (k : ℕ) → k < (side_plan plan side).queues → LeavesSlot Memory queue n (fresh_index_word plan side k ∷ [])
        one k few = outside_left Memory small queue ring_there n below (IndexSpot k) (fresh_index_word plan side k) (word_fills k few) tt

    headers_leave_payload : (n : ℕ) → n < entries_of (layout_at Memory queue) → Leaves (at_spot Memory (Payload queue n)) (zeroed_headers plan side)
    headers_leave_payload n below =
        leaves_each (at_spot Memory (Payload queue n)) (λ q. map (zeroed_header plan side q) (count_from 0 (EntriesOn q))) 0 Queues (λ q low high.
        leaves_mapped (at_spot Memory (Payload queue n)) (zeroed_header plan side q) 0 (EntriesOn q) (λ k low' high'.
        other_left Memory small (Header q k 0 Memory.header) (Payload queue n) (zeroed_header plan side q k) (header_fills q k (omega arith) (omega arith)) (ring_there, below) tt))

    zeros_read : (n offset : ℕ) → n < entries_of (layout_at Memory queue) → offset + 4 ≤ Memory.header → Gives (at_spot Memory (Header queue n offset 4)) (zeroed_header plan side queue n ∷ []) (replicate 4 0)
    zeros_read n offset below inside older =
        let there = header_there queue n below in
        let long = length-replicate {A = ℕ} (header_bytes plan) 0 in
        bytes_stored (zeroed_header plan side queue n) older offset (spot_at Memory (Header queue n offset 4)) 4 (omega (arith, there)) (omega (arith, long))
        ∙ ap (take 4) (drop-replicate offset (header_bytes plan) 0) ∙ take-replicate 4 (header_bytes plan - offset) 0 (omega arith)

    headers_give : (n offset : ℕ) → n < entries_of (layout_at Memory queue) → offset + 4 ≤ Memory.header → Gives (at_spot Memory (Header queue n offset 4)) (zeroed_headers plan side) (replicate 4 0)
    headers_give n offset below inside =
        let read = at_spot Memory (Header queue n offset 4) in
        let apart = λ (q k : ℕ) (few : q < (side_plan plan side).queues) (less : k < entries_of (layout_at Memory q)) (differ : AreOther (Header q k 0 Memory.header) (Header queue n offset 4)).
        other_left Memory small (Header q k 0 Memory.header) (Header queue n offset 4) (zeroed_header plan side q k) (header_fills q k few less) (ring_there, (below, inside)) differ in
        gives_among read (λ q. map (zeroed_header plan side q) (count_from 0 (EntriesOn q))) 0 Queues queue (replicate 4 0) (omega arith) (omega arith)
        (gives_mapped read (zeroed_header plan side queue) 0 (EntriesOn queue) n (replicate 4 0) (omega arith) (omega arith) (zeros_read n offset below inside)
        (λ k less differ. apart queue k among (omega arith) (inr (inl differ))))
        (λ q few differ. leaves_mapped read (zeroed_header plan side q) 0 (EntriesOn q) (λ k low high. apart q k (omega arith) (omega arith) (inl differ)))

    zeroed_flags-map : (ring : List Slot) (n : ℕ) → slice_index_or (map without_header ring) n blank_slot ≡ without_header (slice_index_or ring n blank_slot)
    zeroed_flags-map [] n = refl
    zeroed_flags-map (slot ∷ ring) zero = refl
    zeroed_flags-map (slot ∷ ring) (suc n) = zeroed_flags-map ring n

    -- after a check the headers of the ring are zero
    pub check_stands : (older : List Store) (ring : List Slot) → RingIn Memory (is_five plan) queue older ring
        → RingIn Memory (is_five plan) queue ((fresh_index_words plan side ++ zeroed_headers plan side) ++ older) (map without_header ring)
    check_stands older ring stands = record {
      slots = length-map ring without_header ∙ stands.slots;
      stands = λ n below.
          subst (StandsIn Memory (is_five plan) queue n ((fresh_index_words plan side ++ zeroed_headers plan side) ++ older)) (sym (zeroed_flags-map ring n))
          (zeroed_stands Memory (is_five plan) queue n (fresh_index_words plan side ++ zeroed_headers plan side) older (slice_index_or ring n blank_slot) refl
          (leaves_both (at_spot Memory (Payload queue n)) (fresh_index_words plan side) (zeroed_headers plan side) (words_leave n below).payload (headers_leave_payload n below))
          (λ offset inside. gives_later (at_spot Memory (Header queue n offset 4)) (fresh_index_words plan side) (zeroed_headers plan side) (replicate 4 0) ((words_leave n below).header offset inside) (headers_give n offset below inside))
          (stands.stands n below));
    }

    -- and the index word says that no entry is taken
    word_given : (older : List Store) → word_at_spot Memory (IndexSpot queue) (fresh_index_words plan side ++ older) ≡ entries_of (layout_of plan side queue) - 1
    word_given older =
        ap number_of (gives_mapped (at_spot Memory (IndexSpot queue)) (fresh_index_word plan side) 0 Queues queue (word_bytes (entries_of (layout_of plan side queue) - 1)) (omega arith) (omega arith)
        (λ o. bytes_stored (fresh_index_word plan side queue) o 0 (spot_at Memory (IndexSpot queue)) 4 (omega (arith, own_at plan side queue (index_of (layout_to plan side queue)))) (omega (arith, length-word_bytes (entries_of (layout_of plan side queue) - 1))))
        (λ k few differ. other_left Memory small (IndexSpot k) (IndexSpot queue) (fresh_index_word plan side k) (word_fills k (omega arith)) (ring_there, tt) differ)
        older)
        ∙ ap number_of (sym (bytes_stored (fresh_index_word plan side queue) [] 0 (fresh_index_word plan side queue).at 4 (omega arith) (omega (arith, length-word_bytes (entries_of (layout_of plan side queue) - 1)))))
        ∙ word_stored (fresh_index_word plan side queue) [] 0 (fresh_index_word plan side queue).at (entries_of (layout_of plan side queue) - 1) (omega arith) (omega (arith, length-word_bytes (entries_of (layout_of plan side queue) - 1))) refl
        (omega (arith, entries_few (layout_of plan side queue) (each_queue_has_a_ring plan side queue declared among).0.limits.window_fits))

    pub check_word : (older : List Store) → word_at_spot Memory (IndexSpot queue) ((fresh_index_words plan side ++ zeroed_headers plan side) ++ older) ≡ entries_of (layout_of plan side queue) - 1
    check_word older = ap (word_at_spot Memory (IndexSpot queue)) (append_assoc (fresh_index_words plan side) (zeroed_headers plan side) older) ∙ word_given (zeroed_headers plan side ++ older)

    -- cleared flags leave the index word
    pub clear_word : (q n : ℕ) (older : List Store) → q < (side_plan plan side).queues → word_at_spot Memory (IndexSpot queue) (zeroed_flags plan side q n ∷ older) ≡ word_at_spot Memory (IndexSpot queue) older
    clear_word q n older few =
        ap number_of (other_left Memory small (Header q (n % entries_of (layout_at Memory q)) (flags_at (is_five plan)) 4) (IndexSpot queue) (zeroed_flags plan side q n) (flags_fill q n few) (ring_there, tt) tt older)

    -- and a slot that isn't theirs
    pub clear_leaves : (q n k : ℕ) → q < (side_plan plan side).queues → k < entries_of (layout_at Memory queue) → (q ≢ queue) ⊎ (n % entries_of (layout_at Memory q) ≢ k)
        → LeavesSlot Memory queue k (zeroed_flags plan side q n ∷ [])
    clear_leaves q n k few below apart =
        outside_left Memory small queue ring_there k below (Header q (n % entries_of (layout_at Memory q)) (flags_at (is_five plan)) 4) (zeroed_flags plan side q n) (flags_fill q n few) apart

    pub clear_slot : (n : ℕ) (older : List Store) (slot : Slot) → StandsIn Memory (is_five plan) queue (n % entries_of (layout_at Memory queue)) older slot
        → StandsIn Memory (is_five plan) queue (n % entries_of (layout_at Memory queue)) (zeroed_flags plan side queue n ∷ older) (with_flags slot 0)
    clear_slot n older slot stands =
        word_stands Memory small queue ring_there (n % entries_of (layout_at Memory queue)) (slot_among_ring plan declared side queue n among) (is_five plan) FlagsWord (zeroed_flags plan side queue n) older slot 0 refl
        (let there = own_at plan side queue (header_of (layout_to plan side queue) (n % entries_of (layout_to plan side queue))) in omega (arith, there)) refl (omega arith) stands

    -- A memory in which nothing was stored, but for index words
    pub fresh_stands : RingIn Memory (is_five plan) queue [] (replicate (entries_of (layout_at Memory queue)) (zeroed_slot (max_payload_of (layout_at Memory queue))))
    fresh_stands = record {
      slots = length-replicate (entries_of (layout_at Memory queue)) (zeroed_slot (max_payload_of (layout_at Memory queue)));
      stands = λ n below.
          subst (StandsIn Memory (is_five plan) queue n []) (sym (get_or-replicate (entries_of (layout_at Memory queue)) n (zeroed_slot (max_payload_of (layout_at Memory queue))) blank_slot below))
          (nothing_stands Memory (is_five plan) queue n);
    }

    pub fresh_word : word_at_spot Memory (IndexSpot queue) (fresh_index_words plan side) ≡ entries_of (layout_of plan side queue) - 1
    fresh_word = ap (word_at_spot Memory (IndexSpot queue)) (sym (append-nil (fresh_index_words plan side))) ∙ word_given []
