-- The rings that a log leaves stand in the memories of an ordinary pair.
use Rattle.std.proofs.Common.{◌≡◌, ℕ, ◌+◌, ◌-◌, ◌*◌, ◌/◌, ◌<◌, ◌≤◌, Bool, true, false, Option, Some, None, List, [], ◌∷◌, ◌++◌, length, replicate, refl, sym, ap, ◌∙◌, subst, inl, inr, arith}
use Rattle.std.specs.Prelude.{◌≢◌, ◌%◌, ◌^◌, min, if◌then◌else◌, slice_get, slice_index_or}
use Rattle.std.specs.List.{AllByRecursion}
use Rattle.std.proofs.Math.Nat.{mod-eq_of_lt, div-le_self, le-div_iff_mul-le}
use Rattle.std.proofs.lemmas.Bool.{cases_eq, cases_lt}
use Rattle.std.proofs.lemmas.List.{append-nil}
use Rattle.step_kinds.specs.Sides.{other_side}
use Rattle.step_kinds.specs.Subject.{subject_of}
use Rattle.step_kinds.specs.declared.names.LaneName.{LaneName}
use Rattle.step_kinds.specs.declared.names.Side.{Side}
use Rattle.step_kinds.specs.declared.names.Side.TheVariants.{A, B}
use Rattle.step_kinds.specs.declared.plan.DevPlan.{DevPlan}
use Rattle.step_kinds.specs.declared.plan.PairPlan.{PairPlan}
use Rattle.step_kinds.specs.declared.plan.Plan.{Plan}
use Rattle.step_kinds.specs.declared.steps.Answer.{Answer}
use Rattle.step_kinds.specs.declared.steps.Answer.TheVariants.{Landed, Up, Cleared, Blocked}
use Rattle.step_kinds.specs.declared.steps.Label.{Label}
use Rattle.step_kinds.specs.declared.steps.Label.TheVariants.{Chunk, Len, Ver, Flag, Down, Bell, Index, Pad, Raw}
use Rattle.step_kinds.specs.declared.steps.Step.{Step}
use Rattle.step_kinds.specs.declared.steps.Step.TheVariants.{Land, Check, Clear}
use Rattle.lane_model.specs.Lane.{Slot, blank_slot, bytes_of, left_of, zeroed_slot}
use Rattle.lane_model.specs.Law.{slot_among}
use Rattle.ring_geometry.specs.Geometry.{Layout, entries_of, max_payload_of, slot_of, header_of, index_of}
use Rattle.ring_geometry.specs.Spots.{Payload, Header, Index as IndexSpot, layout_at, address_of, spot_at}
use Rattle.pair_model.specs.Both.{Both, at_side}
use Rattle.pair_model.specs.DeclaredPlans.{Agree, IsDeclared, IsPair, IsPermitted}
use Rattle.pair_model.specs.Plans.{pair_plan, side_plan}
use Rattle.pair_model.specs.Sizes.{layout_of, layout_to, pieces_in, sizes_of}
use Rattle.pair_model.specs.Addresses.{own_slot, own_header}
use Rattle.pair_model.specs.FreshRings.{fresh_index_words}
use Rattle.pair_model.specs.Headers.{Bytes}
use Rattle.pair_model.specs.Stores.{Store, bytes_in}
use Rattle.pair_model.proofs.Facade.{number_of}
use Rattle.ledger_model.specs.Ledger.{PairPart, side_of, lane_of}
use Rattle.ledger_model.specs.Log.{log_of, ledger_of}
use Rattle.ledger_model.specs.Next.{outcome_in, read_next}
use Rattle.ledger_model.specs.Outcome.{Outcome, decided, refuse_if}
use Rattle.ledger_model.specs.Reading.{Reading, reading_of}
use Rattle.ledger_model.specs.Receiving.{land_found}
use Rattle.ledger_model.specs.Rings.{RingPart, fresh_ring, ring_next, ring_of}
use Rattle.ledger_laws.specs.States.{IsOfLane, IsPostable}
use Rattle.ledger_laws.proofs.EntriesFit.{entries_fit_the_ring}
use Rattle.ledger_laws.proofs.FollowersFew.{IsOfFrame, entries_are_of_frames}
use Rattle.ledger_laws.proofs.LabelsOfEntries.{all_get, labels_are_of_entries}
use Rattle.ledger_laws.proofs.LabelsPostable.{labels_are_postable}
use Rattle.ledger_model.specs.Memory.{Site, bytes_of_site, fresh_site, memory_of, site_next, site_of, stores_by}
use Rattle.ledger_laws.specs.StoredRings.{IsOrdinaryLane, RingsStandInMemory, StandsAt, header_of_slot}
use Rattle.ledger_laws.proofs.LabelStores.{rings_in, is_five, same_queues, same_layout, own_at, entry_on, IsFitting}
use Rattle.ledger_laws.proofs.OwnStores.{words_leave, fresh_stands, fresh_word}
use Rattle.ledger_laws.proofs.RingStores.{RingIn, ring_left}
use Rattle.ledger_laws.proofs.Sites.{by_steps, site_of-here, site_of-elsewhere, ring_of-last, site_outcome, same_outcome, sites_are_the_ledger}
use Rattle.ledger_laws.proofs.SlotStores.{word_at_spot, StandsIn, left_in, version_at, length_at, flags_at}
use Rattle.ledger_laws.proofs.StepStores.{IsKnown, ring_elsewhere, slots_next, word_next}

-- What is known of the writes in flight of a pair

record LabelsKnown (plan : PairPlan) (pair : PairPart) : Type 0 where
  postable : (side : Side) → AllByRecursion (IsPostable plan side) (side_of pair side).flight
  of_lane : (side : Side) → AllByRecursion (IsOfLane pair side) (side_of pair side).flight
  within : (side : Side) (q n : ℕ) → n < length (lane_of pair side q).sent → length (bytes_of (entry_on pair side q n)) ≤ (sizes_of plan side q).largest
  frames : (side : Side) (q n : ℕ) → IsOfFrame (sizes_of plan side q) (entry_on pair side q n)

-- how many entries follow one is a number of 32 bits, and none on version 4
few_follow : (largest len left : ℕ) → largest ≤ 65536 → len ≤ 65536 → left < pieces_in largest len → left < 2 ^ 32
few_follow largest len left small short few = let whole = div-le_self (len + largest - 1) largest in omega (arith, whole)

none_follows : (largest len left : ℕ) → len ≤ largest → left < pieces_in largest len → left ≡ 0
none_follows largest len left short few = elim (cases_lt ((len + largest - 1) / largest) 2) [
  | inl one ↦ omega (arith, one)
  | inr two ↦ elim (cases_lt 0 largest) [
    | inl some ↦ let twice = (le-div_iff_mul-le {k = largest} {x = 2} {y = len + largest - 1} some).0 two in absurd (omega (arith, twice))
    | inr none ↦ let whole = div-le_self (len + largest - 1) largest in absurd (omega (arith, whole, two))
  ]
]

left_fits : (plan : PairPlan) → IsPair plan → (side : Side) (q left : ℕ) → (len : ℕ) → len ≤ (sizes_of plan side q).most → left < pieces_in (sizes_of plan side q).largest len
    → (left < 2 ^ 32) × (is_five plan ≡ false → left ≡ 0)
left_fits plan declared side q left len fits few = go (is_five plan) fits
  where
    largest : ℕ
    largest = max_payload_of (layout_of plan side q)

    small : max_payload_of (layout_of plan side q) ≤ 65536
    small = let mtu = declared.mtu.1 in omega (arith, mtu)

    go : (five : Bool) → len ≤ (if five then min 65536 ((entries_of (layout_of plan side q) - 1) * max_payload_of (layout_of plan side q)) else max_payload_of (layout_of plan side q))
        → (left < 2 ^ 32) × (five ≡ false → left ≡ 0)
    go true short = (few_follow (max_payload_of (layout_of plan side q)) len left small (omega arith) few, λ four. absurd (cc four))
    go false short = (few_follow (max_payload_of (layout_of plan side q)) len left small (omega (arith, small, short)) few, λ four. none_follows (max_payload_of (layout_of plan side q)) len left short few)

fitting : (plan : PairPlan) → IsPair plan → plan.raw ≡ false → (pair : PairPart) (side : Side) → LabelsKnown plan pair → (label : Label) → IsPostable plan side label → IsOfLane pair side label → IsFitting plan pair side label
fitting plan declared ordinary pair side known (Chunk q n part) posted own = (posted, own.1, known.within side q n own.0)
fitting plan declared ordinary pair side known (Len q n) posted own = (posted, known.within side q n own)
fitting plan declared ordinary pair side known (Ver q n) posted own =
    let frame = known.frames side q n in
    let fits = left_fits plan declared side q (left_of (entry_on pair side q n)) frame.len frame.fits frame.few in
    (posted, fits.0, fits.1)
fitting plan declared ordinary pair side known (Flag q n) posted own = (posted, own.1)
fitting plan declared ordinary pair side known (Down q n) posted own = (posted, own.1)
fitting plan declared ordinary pair side known (Bell q) posted own = tt
fitting plan declared ordinary pair side known (Index q n) posted own = posted
fitting plan declared ordinary pair side known (Pad i value) posted own = tt
fitting plan declared ordinary pair side known (Raw window offset len) posted own = absurd (cc (ordinary, posted.0))

-- a write that lands was in flight
landed_there : (plan : PairPlan) (pair : PairPart) (side : Side) (place : ℕ) (label : Label) (found : Option Label) → Landed label ≡ (land_found plan pair side place found).answer → found ≡ Some label
landed_there plan pair side place label None is = absurd (cc is)
landed_there plan pair side place label (Some other) is = go _ _ is
  where
    go : (b : Bool) (after : PairPart) → Landed label ≡ (decided pair (refuse_if b Blocked None) (Landed other) after).answer → Some other ≡ Some label
    go true after is = absurd (cc is)
    go false after is = cc is

-- so each step is known
step_known : (plan : Plan) (k : ℕ) → IsPair (pair_plan plan k) → (pair_plan plan k).raw ≡ false → (reading : Reading) (bytes : Bytes) (pair : PairPart) → LabelsKnown (pair_plan plan k) pair
    → (step : Step) (answer : Answer) → answer ≡ (read_next plan.devs (pair_plan plan k) reading bytes pair step).answer → subject_of step ≡ k → IsPermitted plan step → IsKnown (pair_plan plan k) k pair step answer
step_known plan k declared ordinary reading bytes pair known (Land p side place) (Landed label) is on may =
    let there = landed_there (pair_plan plan k) pair side place label (slice_get (side_of pair side).flight place) is in (
      on,
      fitting (pair_plan plan k) declared ordinary pair side known label
          (all_get (IsPostable (pair_plan plan k) side) (side_of pair side).flight place label (known.postable side) there)
          (all_get (IsOfLane pair side) (side_of pair side).flight place label (known.of_lane side) there),
    )
step_known plan k declared ordinary reading bytes pair known (Check p side) Up is on may = on
step_known plan k declared ordinary reading bytes pair known (Clear p side q) (Cleared n) is on may = (on, subst (λ j. q < (side_plan (pair_plan plan j) side).queues) on may.among)
step_known plan k declared ordinary reading bytes pair known step answer is on may = tt

labels_known : (plan : Plan) (k : ℕ) → IsPair (pair_plan plan k) → (pair_plan plan k).raw ≡ false → (steps : List Step) → AllByRecursion (IsPermitted plan) steps
    → LabelsKnown (pair_plan plan k) (ledger_of plan (memory_of plan) steps k)
labels_known plan k declared ordinary steps permitted = record {
  postable = λ side. labels_are_postable plan (memory_of plan) steps k side declared permitted;
  of_lane = λ side. (labels_are_of_entries plan (memory_of plan) steps k side ordinary).in_flight;
  within = λ side q n below. (entries_fit_the_ring plan (memory_of plan) steps (lane_at side q) ordinary).begun n below;
  frames = λ side q n. entries_are_of_frames plan (memory_of plan) steps (lane_at side q) n ordinary;
}
  where
    lane_at : Side → ℕ → LaneName
    lane_at side q = record { pair = k; from = side; queue = q }

-- A lane's ring and index word in the memories

record Stands (plan : PairPlan) (from : Side) (queue : ℕ) (stores : Both (List Store)) (ring : RingPart) : Type 0 where
  slots : RingIn (rings_in plan (other_side from)) (is_five plan) queue (at_side stores (other_side from)) ring.ring
  word : word_at_spot (rings_in plan from) (IndexSpot queue) (at_side stores from) ≡ ring.index_word

-- at the start
fresh : (plan : PairPlan) → IsPair plan → Agree plan → (from : Side) (queue : ℕ) → queue < (side_plan plan from).queues → Stands plan from queue (fresh_site plan).stores (fresh_ring (sizes_of plan from queue) plan.up)
fresh plan declared agree from queue among = go plan.up
  where
    peer : queue < (side_plan plan (other_side from)).queues
    peer = subst (λ queues. queue < queues) (same_queues plan agree from) among

    words : (side : Side) → at_side (record { a = fresh_index_words plan A; b = fresh_index_words plan B }) side ≡ fresh_index_words plan side
    words A = refl
    words B = refl

    none : (side : Side) → at_side {X = List Store} (record { a = []; b = [] }) side ≡ []
    none A = refl
    none B = refl

    blank : RingIn (rings_in plan (other_side from)) (is_five plan) queue [] (replicate (sizes_of plan from queue).entries (zeroed_slot (sizes_of plan from queue).largest))
    blank =
        subst (λ (l : Layout). RingIn (rings_in plan (other_side from)) (is_five plan) queue [] (replicate (entries_of l) (zeroed_slot (max_payload_of l)))) (sym (same_layout plan agree from queue))
        (fresh_stands plan declared agree (other_side from) queue peer)

    go : (up : Bool) → Stands plan from queue (if up then record { a = fresh_index_words plan A; b = fresh_index_words plan B } else record { a = []; b = [] }) (fresh_ring (sizes_of plan from queue) up)
    go true = record {
      slots =
          subst (λ stores. RingIn (rings_in plan (other_side from)) (is_five plan) queue stores (replicate (sizes_of plan from queue).entries (zeroed_slot (sizes_of plan from queue).largest)))
          (append-nil (fresh_index_words plan (other_side from)) ∙ sym (words (other_side from)))
          (ring_left plan declared agree from queue among (fresh_index_words plan (other_side from)) [] _ (words_leave plan declared agree (other_side from) queue peer) blank);
      word = ap (word_at_spot (rings_in plan from) (IndexSpot queue)) (words from) ∙ fresh_word plan declared agree from queue among;
    }
    go false = record {
      slots =
          subst (λ stores. RingIn (rings_in plan (other_side from)) (is_five plan) queue stores (replicate (sizes_of plan from queue).entries (zeroed_slot (sizes_of plan from queue).largest)))
          (sym (none (other_side from))) blank;
      word = ap (word_at_spot (rings_in plan from) (IndexSpot queue)) (none from);
    }

-- what a step stores on a side
stores_at : (devs : List DevPlan) (plan : PairPlan) (site : Site) (step : Step) (side : Side)
    → stores_by plan site.pair side step (read_next devs plan (reading_of plan (bytes_of_site site) site.pair) (bytes_of_site site) site.pair step).answer ++ at_side site.stores side
    ≡ at_side (site_next devs plan site step).stores side
stores_at devs plan site step A = refl
stores_at devs plan site step B = refl

module _ (plan : Plan) (declared : IsDeclared plan) (lane : LaneName) (is : IsOrdinaryLane plan lane) where
  abbrev Own : PairPlan
  Own = pair_plan plan lane.pair

  abbrev StandsAfter : List Step → Type 0
  StandsAfter steps = Stands Own lane.from lane.queue (site_of plan lane.pair steps).stores (ring_of plan (memory_of plan) steps lane)

  own_pair : IsPair (pair_plan plan lane.pair)
  own_pair = declared.pairs lane.pair is.declared

  abbrev Next : List Step → Step → PairPart → Answer → RingPart
  Next before step pair answer =
      ring_next (sizes_of Own lane.from lane.queue) lane (lane_of pair lane.from lane.queue) (ring_of plan (memory_of plan) before lane) (record { step = step; answer = answer })

  abbrev Said : List Step → Step → Answer
  Said before step = (outcome_in plan (memory_of plan (log_of plan (memory_of plan) before)) (ledger_of plan (memory_of plan) before) step).answer

  on_pair : (before : List Step) (step : Step) → AllByRecursion (IsPermitted plan) before → IsPermitted plan step → subject_of step ≡ lane.pair → StandsAfter before → StandsAfter (before ++ step ∷ [])
  on_pair before step done may here now =
      let site : Site = site_of plan lane.pair before in
      let answer : Answer = (site_outcome plan lane.pair before step).answer in
      let same : site.pair ≡ ledger_of plan (memory_of plan) before lane.pair = sites_are_the_ledger plan before lane.pair in
      let labels : LabelsKnown Own site.pair = subst (LabelsKnown (pair_plan plan lane.pair)) (sym same) (labels_known plan lane.pair own_pair is.ordinary before done) in
      let known : IsKnown Own lane.pair site.pair step answer =
      step_known plan lane.pair own_pair is.ordinary (reading_of Own (bytes_of_site site) site.pair) (bytes_of_site site) site.pair labels step answer refl here may in
      let said : answer ≡ Said before step =
      subst (λ j. (site_outcome plan j before step).answer ≡ Said before step) here (ap (λ (o : Outcome). o.answer) (same_outcome plan before step (sites_are_the_ledger plan before (subject_of step)))) in
      let slots = slots_next Own own_pair is.agree lane.pair lane.queue site.pair (at_side site.stores (other_side lane.from)) (ring_of plan (memory_of plan) before lane) lane.from step answer is.among known now.slots in
      let word = word_next Own own_pair is.agree lane.pair lane.queue site.pair (at_side site.stores lane.from) (ring_of plan (memory_of plan) before lane) lane.from step answer is.among known now.word in
      let next : Stands Own lane.from lane.queue (site_next plan.devs Own site step).stores (Next before step site.pair answer) = record {
        slots = subst (λ stores. RingIn (rings_in Own (other_side lane.from)) (is_five Own) lane.queue stores (Next before step site.pair answer).ring) (stores_at plan.devs Own site step (other_side lane.from)) slots;
        word = ap (word_at_spot (rings_in Own lane.from) (IndexSpot lane.queue)) (sym (stores_at plan.devs Own site step lane.from)) ∙ word;
      } in
      let ring : Next before step site.pair answer ≡ ring_of plan (memory_of plan) (before ++ step ∷ []) lane =
      ap (λ (p : PairPart). Next before step p answer) same ∙ ap (λ (a : Answer). Next before step (ledger_of plan (memory_of plan) before lane.pair) a) said ∙ sym (ring_of-last plan (memory_of plan) lane before step) in
      subst (λ (s : Site). Stands Own lane.from lane.queue s.stores (ring_of plan (memory_of plan) (before ++ step ∷ []) lane)) (sym (site_of-here plan lane.pair before step here))
      (subst (λ (r : RingPart). Stands Own lane.from lane.queue (site_next plan.devs Own site step).stores r) ring next)

  elsewhere : (before : List Step) (step : Step) → subject_of step ≢ lane.pair → StandsAfter before → StandsAfter (before ++ step ∷ [])
  elsewhere before step apart now =
      let ring : ring_of plan (memory_of plan) before lane ≡ ring_of plan (memory_of plan) (before ++ step ∷ []) lane =
      sym (ring_of-last plan (memory_of plan) lane before step
      ∙ ring_elsewhere (sizes_of Own lane.from lane.queue) lane (lane_of (ledger_of plan (memory_of plan) before lane.pair) lane.from lane.queue) (ring_of plan (memory_of plan) before lane) step (Said before step) apart) in
      subst (λ (s : Site). Stands Own lane.from lane.queue s.stores (ring_of plan (memory_of plan) (before ++ step ∷ []) lane)) (sym (site_of-elsewhere plan lane.pair before step apart))
      (subst (λ (r : RingPart). Stands Own lane.from lane.queue (site_of plan lane.pair before).stores r) ring now)

  more : (before : List Step) (step : Step) → AllByRecursion (IsPermitted plan) before → IsPermitted plan step → StandsAfter before → StandsAfter (before ++ step ∷ [])
  more before step done may now = elim (cases_eq (subject_of step) lane.pair) [
    | inl here ↦ on_pair before step done may here now
    | inr apart ↦ elsewhere before step apart now
  ]

  stands_after : (steps : List Step) → AllByRecursion (IsPermitted plan) steps → StandsAfter steps
  stands_after steps permitted = by_steps (IsPermitted plan) StandsAfter more (fresh Own own_pair is.agree lane.from lane.queue is.among) steps permitted

-- A slot as the addresses of the side say it

header_says : (five : Bool) (word : ℕ → ℕ) (slot : Slot) → left_in five (word 0) ≡ slot.left → word (version_at five) ≡ slot.ver → word (length_at five) ≡ slot.len → word (flags_at five) ≡ slot.flags
    → (if five then record { left = word 0; ver = word 4; len = word 8; flags = word 12 } else record { left = 0; ver = word 0; len = word 4; flags = word 8 }) ≡ header_of_slot slot
header_says true word slot left ver len flags = cc
header_says false word slot left ver len flags = cc

slot_says : (plan : PairPlan) (bytes : Bytes) (side : Side) (queue largest n : ℕ) (stores : List Store) (slot : Slot) → n < entries_of (layout_at (rings_in plan side) queue)
    → largest ≡ max_payload_of (layout_at (rings_in plan side) queue) → ((at len : ℕ) → bytes side at len ≡ bytes_in stores at len)
    → StandsIn (rings_in plan side) (is_five plan) queue n stores slot → StandsAt plan bytes side queue largest n slot
slot_says plan bytes side queue largest n stores slot among same reads stands = record {
  payload =
      reads (own_slot plan side queue n) largest
      ∙ ap (λ at. bytes_in stores at largest) (own_at plan side queue (slot_of (layout_to plan side queue) (n % entries_of (layout_to plan side queue))) ∙ ap (λ k. address_of (rings_in plan side) queue (slot_of (layout_at (rings_in plan side) queue) k)) less)
      ∙ ap (bytes_in stores (spot_at (rings_in plan side) (Payload queue n))) same
      ∙ stands.payload;
  header =
      header_says (is_five plan) word slot
      (ap (left_in (is_five plan)) (word_is 0) ∙ stands.left) (word_is (version_at (is_five plan)) ∙ stands.ver) (word_is (length_at (is_five plan)) ∙ stands.len) (word_is (flags_at (is_five plan)) ∙ stands.flags);
}
  where
    less : n % entries_of (layout_at (rings_in plan side) queue) ≡ n
    less = mod-eq_of_lt among

    word : ℕ → ℕ
    word offset = number_of (bytes side (own_header plan side queue n + offset) 4)

    word_is : (offset : ℕ) → number_of (bytes side (own_header plan side queue n + offset) 4) ≡ word_at_spot (rings_in plan side) (Header queue n offset 4) stores
    word_is offset =
        let there = own_at plan side queue (header_of (layout_to plan side queue) (n % entries_of (layout_to plan side queue))) ∙ ap (λ k. address_of (rings_in plan side) queue (header_of (layout_at (rings_in plan side) queue) k)) less in
        let place : own_header plan side queue n + offset ≡ spot_at (rings_in plan side) (Header queue n offset 4) = omega (arith, there) in
        ap number_of (reads (own_header plan side queue n + offset) 4) ∙ ap (λ at. number_of (bytes_in stores at 4)) place

-- The ring that a log leaves stands in memory: its slots at the receiver, its index word at the sender.
pub rings_stand_in_memory : RingsStandInMemory
rings_stand_in_memory plan steps lane declared permitted is =
    let own : PairPlan = pair_plan plan lane.pair in
    let now = stands_after plan declared lane is steps permitted in record {
      slots = λ n below. each n below now;
      index_word =
          ap (λ at. number_of (bytes_in (at_side (site_of plan lane.pair steps).stores lane.from) at 4)) (own_at (pair_plan plan lane.pair) lane.from lane.queue (index_of (layout_to (pair_plan plan lane.pair) lane.from lane.queue)))
          ∙ now.word;
    }
  where
    layout : layout_of (pair_plan plan lane.pair) lane.from lane.queue ≡ layout_at (rings_in (pair_plan plan lane.pair) (other_side lane.from)) lane.queue
    layout = same_layout (pair_plan plan lane.pair) is.agree lane.from lane.queue

    each : (n : ℕ) → n < (sizes_of (pair_plan plan lane.pair) lane.from lane.queue).entries
        → Stands (pair_plan plan lane.pair) lane.from lane.queue (site_of plan lane.pair steps).stores (ring_of plan (memory_of plan) steps lane)
        → StandsAt (pair_plan plan lane.pair) (bytes_of_site (site_of plan lane.pair steps)) (other_side lane.from) lane.queue (sizes_of (pair_plan plan lane.pair) lane.from lane.queue).largest n
        (slot_among (sizes_of (pair_plan plan lane.pair) lane.from lane.queue).entries (ring_of plan (memory_of plan) steps lane).ring n)
    each n below now =
        let here : n < entries_of (layout_at (rings_in (pair_plan plan lane.pair) (other_side lane.from)) lane.queue) = subst (λ (l : Layout). n < entries_of l) layout below in
        let less : n % entries_of (layout_of (pair_plan plan lane.pair) lane.from lane.queue) ≡ n = mod-eq_of_lt below in
        slot_says (pair_plan plan lane.pair) (bytes_of_site (site_of plan lane.pair steps)) (other_side lane.from) lane.queue (max_payload_of (layout_of (pair_plan plan lane.pair) lane.from lane.queue)) n
        (at_side (site_of plan lane.pair steps).stores (other_side lane.from)) _ here (ap max_payload_of layout) (λ at len. refl)
        (subst (λ k. StandsIn (rings_in (pair_plan plan lane.pair) (other_side lane.from)) (is_five (pair_plan plan lane.pair)) lane.queue n (at_side (site_of plan lane.pair steps).stores (other_side lane.from))
        (slice_index_or (ring_of plan (memory_of plan) steps lane).ring k blank_slot)) (sym less) (now.slots.stands n here))
