-- Each step on a pair leaves a lane's ring and index word in the memories as the log has them.
use Rattle.std.proofs.Common.{◌≡◌, ℕ, ◌-◌, ◌<◌, ◌==◌, Bool, true, false, ◌&&◌, List, [], ◌∷◌, ◌++◌, map, refl, sym, ap, ◌∙◌, subst, inl, inr}
use Rattle.std.specs.Prelude.{◌≢◌, ◌%◌, if◌then◌else◌, slice_index_or, slice_set}
use Rattle.std.proofs.lemmas.Bool.{cases_eq, cond-true, cond-false, eq-eqb, ne_eqb}
use Rattle.step_kinds.specs.Sides.{other_side, same_side}
use Rattle.step_kinds.specs.Subject.{subject_of}
use Rattle.step_kinds.specs.declared.names.LaneName.{LaneName}
use Rattle.step_kinds.specs.declared.names.Side.{Side}
use Rattle.step_kinds.specs.declared.names.Side.TheVariants.{A, B}
use Rattle.step_kinds.specs.declared.plan.PairPlan.{PairPlan}
use Rattle.step_kinds.specs.declared.steps.Answer.{Answer}
use Rattle.step_kinds.specs.declared.steps.Answer.TheVariants.{Landed, Up, Cleared}
use Rattle.step_kinds.specs.declared.steps.Label.{Label}
use Rattle.step_kinds.specs.declared.steps.Step.{Step}
use Rattle.step_kinds.specs.declared.steps.Step.TheVariants.{Land, Check, Clear}
use Rattle.lane_model.specs.Lane.{Slot, blank_slot, with_flags}
use Rattle.ring_geometry.specs.Geometry.{Layout, entries_of}
use Rattle.ring_geometry.specs.Spots.{Index as IndexSpot, layout_at}
use Rattle.pair_model.specs.DeclaredPlans.{Agree, IsPair}
use Rattle.pair_model.specs.Plans.{side_plan}
use Rattle.pair_model.specs.Sizes.{Sizes, layout_of, sizes_of}
use Rattle.pair_model.specs.FreshRings.{zeroed_flags}
use Rattle.pair_model.specs.Stores.{Store}
use Rattle.ledger_model.specs.Labels.{write_of, label_index_of}
use Rattle.ledger_model.specs.Ledger.{LanePart, PairPart, side_of, lane_of}
use Rattle.ledger_model.specs.Receiving.{raws_before}
use Rattle.ledger_model.specs.Rings.{RingPart, ring_next, with_write, with_index, without_header}
use Rattle.ledger_model.specs.Memory.{stored, stores_by}
use Rattle.ledger_model.specs.Targets.{store_of}
use Rattle.ledger_laws.proofs.LabelStores.{rings_in, is_five, same_queues, same_layout, slot_among_ring, IsFitting}
use Rattle.ledger_laws.proofs.OwnStores.{index_lands, check_stands, check_word, clear_word, clear_leaves, clear_slot}
use Rattle.ledger_laws.proofs.RingStores.{RingIn, ring_left, ring_set, label_stands}
use Rattle.ledger_laws.proofs.SlotStores.{word_at_spot}

-- What a step does to the ring of a lane

module _ (sizes : Sizes) (name : LaneName) (lane : LanePart) (now : RingPart) where
  abbrev Next : Step → Answer → RingPart
  Next step answer = ring_next sizes name lane now (record { step = step; answer = answer })

  abbrev LandedRing : Side → Label → RingPart
  LandedRing from label =
      if same_side from name.from
      then record { ring = with_write sizes.entries lane now.ring (write_of name.queue label); index_word = now.index_word }
      else record { ring = now.ring; index_word = with_index sizes.entries now.index_word (label_index_of name.queue label) }

  abbrev CheckedRing : Side → RingPart
  CheckedRing side =
      if same_side side name.from
      then record { ring = now.ring; index_word = sizes.entries - 1 }
      else record { ring = map without_header now.ring; index_word = now.index_word }

  abbrev ClearedRing : ℕ → RingPart
  ClearedRing n = record { ring = slice_set now.ring (n % sizes.entries) (with_flags (slice_index_or now.ring (n % sizes.entries) blank_slot) 0); index_word = now.index_word }

  ring_landed : (p place : ℕ) (from : Side) (label : Label) → p ≡ name.pair → Next (Land p from place) (Landed label) ≡ LandedRing from label
  ring_landed p place from label here = cond-true (p == name.pair) (LandedRing from label) now (eq-eqb p name.pair here)

  ring_checked : (p : ℕ) (side : Side) → p ≡ name.pair → Next (Check p side) Up ≡ CheckedRing side
  ring_checked p side here = cond-true (p == name.pair) (CheckedRing side) now (eq-eqb p name.pair here)

  ring_cleared : (p : ℕ) (side : Side) (queue n : ℕ) → p ≡ name.pair
      → Next (Clear p side queue) (Cleared n) ≡ (if same_side (other_side side) name.from && (queue == name.queue) then ClearedRing n else now)
  ring_cleared p side queue n here =
      ap (λ b. if b && (same_side (other_side side) name.from && (queue == name.queue)) then ClearedRing n else now) (eq-eqb p name.pair here)

  -- a step on another pair does nothing
  pub ring_elsewhere : (step : Step) (answer : Answer) → subject_of step ≢ name.pair → Next step answer ≡ now
  ring_elsewhere (Land p from place) (Landed label) apart = cond-false (p == name.pair) (LandedRing from label) now (ne_eqb p name.pair apart)
  ring_elsewhere (Check p side) Up apart = cond-false (p == name.pair) (CheckedRing side) now (ne_eqb p name.pair apart)
  ring_elsewhere (Clear p side queue) (Cleared n) apart =
      ap (λ b. if b && (same_side (other_side side) name.from && (queue == name.queue)) then ClearedRing n else now) (ne_eqb p name.pair apart)
  ring_elsewhere step answer apart = refl

-- What is known of a step that is answered so on pair k

abbrev pub IsKnown : PairPlan → ℕ → PairPart → Step → Answer → Type 0
IsKnown plan k pair (Land p from place) (Landed label) = (p ≡ k) × IsFitting plan pair from label
IsKnown plan k pair (Check p side) Up = p ≡ k
IsKnown plan k pair (Clear p side queue) (Cleared n) = (p ≡ k) × (queue < (side_plan plan side).queues)
IsKnown plan k pair step answer = Unit {0}

module _ (plan : PairPlan) (declared : IsPair plan) (agree : Agree plan) (k queue : ℕ) (pair : PairPart) (older : List Store) (now : RingPart) where
  abbrev lane_named : Side → LaneName
  lane_named from = record { pair = k; from = from; queue = queue }

  abbrev After : Side → Step → Answer → RingPart
  After from step answer = ring_next (sizes_of plan from queue) (lane_named from) (lane_of pair from queue) now (record { step = step; answer = answer })

  -- what it does to the ring
  abbrev OneLanded : Side → Side → Label → RingPart
  OneLanded from writer label = LandedRing (sizes_of plan from queue) (lane_named from) (lane_of pair from queue) now writer label

  abbrev OneChecked : Side → Side → RingPart
  OneChecked from side = CheckedRing (sizes_of plan from queue) (lane_named from) (lane_of pair from queue) now side

  abbrev OneCleared : Side → ℕ → RingPart
  OneCleared from n = ClearedRing (sizes_of plan from queue) (lane_named from) (lane_of pair from queue) now n

  abbrev ClearedBy : Side → Side → ℕ → ℕ → RingPart
  ClearedBy from side q n = if same_side (other_side side) from && (q == queue) then OneCleared from n else now

  abbrev Changed : Side → Step → Answer → RingPart
  Changed from (Land p writer place) (Landed label) = OneLanded from writer label
  Changed from (Check p side) Up = OneChecked from side
  Changed from (Clear p side q) (Cleared n) = ClearedBy from side q n
  Changed from step answer = now

  ring_changed : (from : Side) (step : Step) (answer : Answer) → IsKnown plan k pair step answer → After from step answer ≡ Changed from step answer
  ring_changed from (Land p writer place) (Landed label) known = ring_landed (sizes_of plan from queue) (lane_named from) (lane_of pair from queue) now p place writer label known.0
  ring_changed from (Check p side) Up known = ring_checked (sizes_of plan from queue) (lane_named from) (lane_of pair from queue) now p side known
  ring_changed from (Clear p side q) (Cleared n) known = ring_cleared (sizes_of plan from queue) (lane_named from) (lane_of pair from queue) now p side q n known.0
  ring_changed from step answer known = refl

  -- The slots

  abbrev Slots : Side → List Store → List Slot → Type 0
  Slots from stores ring = RingIn (rings_in plan (other_side from)) (is_five plan) queue stores ring

  abbrev Raw : Side → ℕ → List ℕ
  Raw from place = slice_index_or (side_of pair from).poked (raws_before (side_of pair from).flight place) []

  slots_landed : (from : Side) (raw : List ℕ) (label : Label) → queue < (side_plan plan from).queues → IsFitting plan pair from label → Slots from older now.ring
      → Slots from (stored (store_of plan pair from raw label) ++ older) (with_write (sizes_of plan from queue).entries (lane_of pair from queue) now.ring (write_of queue label))
  slots_landed from raw label among fits stands =
      subst (λ (l : Layout). Slots from (stored (store_of plan pair from raw label) ++ older) (with_write (entries_of l) (lane_of pair from queue) now.ring (write_of queue label))) (sym (same_layout plan agree from queue))
      (label_stands plan declared agree from queue among pair raw label older now.ring fits stands)

  slots_cleared : (from : Side) (q n : ℕ) → queue < (side_plan plan from).queues → q < (side_plan plan (other_side from)).queues → Slots from older now.ring
      → Slots from (zeroed_flags plan (other_side from) q n ∷ older) (if q == queue then OneCleared from n else now).ring
  slots_cleared from q n among few stands = elim (cases_eq q queue) [
    | inl same ↦ subst (λ p. Slots from (zeroed_flags plan (other_side from) p n ∷ older) (if p == queue then OneCleared from n else now).ring) (sym same)
        (subst (λ (r : RingPart). Slots from (zeroed_flags plan (other_side from) queue n ∷ older) r.ring) (sym (cond-true (queue == queue) (OneCleared from n) now (eq-eqb queue queue refl))) own)
    | inr apart ↦ subst (λ (r : RingPart). Slots from (zeroed_flags plan (other_side from) q n ∷ older) r.ring) (sym (cond-false (q == queue) (OneCleared from n) now (ne_eqb q queue apart)))
        (ring_left plan declared agree from queue among (zeroed_flags plan (other_side from) q n ∷ []) older now.ring
        (λ j below. clear_leaves plan declared agree (other_side from) queue peer q n j few below (inl apart)) stands)
  ]
    where
      peer : queue < (side_plan plan (other_side from)).queues
      peer = subst (λ queues. queue < queues) (same_queues plan agree from) among

      own : Slots from (zeroed_flags plan (other_side from) queue n ∷ older) (OneCleared from n).ring
      own =
          subst (λ (l : Layout). Slots from (zeroed_flags plan (other_side from) queue n ∷ older) (slice_set now.ring (n % entries_of l) (with_flags (slice_index_or now.ring (n % entries_of l) blank_slot) 0)))
          (sym (same_layout plan agree from queue))
          (ring_set plan declared agree from queue among (zeroed_flags plan (other_side from) queue n ∷ []) older now.ring (n % entries_of (layout_at (rings_in plan (other_side from)) queue)) _
          (slot_among_ring plan declared (other_side from) queue n peer)
          (λ j below apart. clear_leaves plan declared agree (other_side from) queue peer queue n j peer below (inr (λ e. apart (sym e))))
          (clear_slot plan declared agree (other_side from) queue peer n older _ (stands.stands (n % entries_of (layout_at (rings_in plan (other_side from)) queue)) (slot_among_ring plan declared (other_side from) queue n peer)))
          stands)

  -- what the step stores in the receiver's memory
  abbrev Received : Side → Step → Answer → List Store
  Received from step answer = stores_by plan pair (other_side from) step answer ++ older

  slots_land : (from writer : Side) (p place : ℕ) (label : Label) → queue < (side_plan plan from).queues → IsFitting plan pair writer label → Slots from older now.ring
      → Slots from (Received from (Land p writer place) (Landed label)) (OneLanded from writer label).ring
  slots_land A A p place label among fits stands = slots_landed A (Raw A place) label among fits stands
  slots_land A B p place label among fits stands = stands
  slots_land B A p place label among fits stands = stands
  slots_land B B p place label among fits stands = slots_landed B (Raw B place) label among fits stands

  slots_check : (from side : Side) (p : ℕ) → queue < (side_plan plan (other_side from)).queues → Slots from older now.ring → Slots from (Received from (Check p side) Up) (OneChecked from side).ring
  slots_check A A p peer stands = stands
  slots_check A B p peer stands = check_stands plan declared agree B queue peer older now.ring stands
  slots_check B A p peer stands = check_stands plan declared agree A queue peer older now.ring stands
  slots_check B B p peer stands = stands

  slots_clear : (from side : Side) (p q n : ℕ) → queue < (side_plan plan from).queues → q < (side_plan plan side).queues → Slots from older now.ring
      → Slots from (Received from (Clear p side q) (Cleared n)) (ClearedBy from side q n).ring
  slots_clear A A p q n among few stands = stands
  slots_clear A B p q n among few stands = slots_cleared A q n among few stands
  slots_clear B A p q n among few stands = slots_cleared B q n among few stands
  slots_clear B B p q n among few stands = stands

  slots_changed : (from : Side) (step : Step) (answer : Answer) → queue < (side_plan plan from).queues → IsKnown plan k pair step answer → Slots from older now.ring
      → Slots from (Received from step answer) (Changed from step answer).ring
  slots_changed from (Land p writer place) (Landed label) among known stands = slots_land from writer p place label among known.1 stands
  slots_changed from (Check p side) Up among known stands = slots_check from side p (subst (λ queues. queue < queues) (same_queues plan agree from) among) stands
  slots_changed from (Clear p side q) (Cleared n) among known stands = slots_clear from side p q n among known.1 stands
  slots_changed from step answer among known stands = stands

  pub slots_next : (from : Side) (step : Step) (answer : Answer) → queue < (side_plan plan from).queues → IsKnown plan k pair step answer → Slots from older now.ring
      → Slots from (Received from step answer) (After from step answer).ring
  slots_next from step answer among known stands =
      subst (λ (r : RingPart). Slots from (Received from step answer) r.ring) (sym (ring_changed from step answer known)) (slots_changed from step answer among known stands)

  -- The index word

  abbrev Word : Side → List Store → ℕ
  Word from stores = word_at_spot (rings_in plan from) (IndexSpot queue) stores

  -- what the step stores in the sender's memory
  abbrev Sent : Side → Step → Answer → List Store
  Sent from step answer = stores_by plan pair from step answer ++ older

  word_given : (from : Side) (raw : List ℕ) (label : Label) → queue < (side_plan plan from).queues → IsFitting plan pair from label → Word (other_side from) older ≡ now.index_word
      → layout_of plan (other_side from) queue ≡ layout_at (rings_in plan from) queue
      → Word (other_side from) (stored (store_of plan pair from raw label) ++ older) ≡ with_index (sizes_of plan (other_side from) queue).entries now.index_word (label_index_of queue label)
  word_given from raw label among fits stands same =
      index_lands plan declared agree from queue among pair raw older now.index_word stands label fits
      ∙ ap (λ (l : Layout). with_index (entries_of l) now.index_word (label_index_of queue label)) (sym same)

  word_land : (from writer : Side) (p place : ℕ) (label : Label) → queue < (side_plan plan (other_side from)).queues → IsFitting plan pair writer label → Word from older ≡ now.index_word
      → Word from (Sent from (Land p writer place) (Landed label)) ≡ (OneLanded from writer label).index_word
  word_land A A p place label peer fits stands = stands
  word_land A B p place label peer fits stands = word_given B (Raw B place) label peer fits stands (same_layout plan agree A queue)
  word_land B A p place label peer fits stands = word_given A (Raw A place) label peer fits stands (same_layout plan agree B queue)
  word_land B B p place label peer fits stands = stands

  word_check : (from side : Side) (p : ℕ) → queue < (side_plan plan from).queues → Word from older ≡ now.index_word → Word from (Sent from (Check p side) Up) ≡ (OneChecked from side).index_word
  word_check A A p among stands = check_word plan declared agree A queue among older
  word_check A B p among stands = stands
  word_check B A p among stands = stands
  word_check B B p among stands = check_word plan declared agree B queue among older

  -- cleared flags leave it
  same_word : (b : Bool) (from : Side) (n : ℕ) → (if b then OneCleared from n else now).index_word ≡ now.index_word
  same_word true from n = refl
  same_word false from n = refl

  word_clear : (from side : Side) (p q n : ℕ) → queue < (side_plan plan from).queues → q < (side_plan plan side).queues → Word from older ≡ now.index_word
      → Word from (Sent from (Clear p side q) (Cleared n)) ≡ (ClearedBy from side q n).index_word
  word_clear A A p q n among few stands = clear_word plan declared agree A queue among q n older few ∙ stands
  word_clear A B p q n among few stands = stands ∙ sym (same_word (q == queue) A n)
  word_clear B A p q n among few stands = stands ∙ sym (same_word (q == queue) B n)
  word_clear B B p q n among few stands = clear_word plan declared agree B queue among q n older few ∙ stands

  word_changed : (from : Side) (step : Step) (answer : Answer) → queue < (side_plan plan from).queues → IsKnown plan k pair step answer → Word from older ≡ now.index_word
      → Word from (Sent from step answer) ≡ (Changed from step answer).index_word
  word_changed from (Land p writer place) (Landed label) among known stands = word_land from writer p place label (subst (λ queues. queue < queues) (same_queues plan agree from) among) known.1 stands
  word_changed from (Check p side) Up among known stands = word_check from side p among stands
  word_changed from (Clear p side q) (Cleared n) among known stands = word_clear from side p q n among known.1 stands
  word_changed from step answer among known stands = stands

  pub word_next : (from : Side) (step : Step) (answer : Answer) → queue < (side_plan plan from).queues → IsKnown plan k pair step answer → Word from older ≡ now.index_word
      → Word from (Sent from step answer) ≡ (After from step answer).index_word
  word_next from step answer among known stands = word_changed from step answer among known stands ∙ ap (λ (r : RingPart). r.index_word) (sym (ring_changed from step answer known))
