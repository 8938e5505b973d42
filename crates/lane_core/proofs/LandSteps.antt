-- Landing: what the queue of writes in flight answers is what the model's lane answers, and the ring law holds after
-- it.
use Rattle.std.proofs.Common.{◌≡◌, ℕ, zero, suc, ◌+◌, ◌%◌, ◌<◌, ◌≤◌, ◌⊎◌, Bool, true, false, List, [], ◌∷◌, Option, Some, None, length, map, take, drop, get_or, set, slice_get, option_map, refl, sym, ap, ◌∙◌, subst, inl, inr, arith, mod-lt, All, Contains}
use Rattle.std.specs.List.{remove}
use Rattle.std.proofs.lemmas.Bool.{cases_lt, cond-true, cond-false}
use Rattle.std.proofs.lemmas.List.Elements.{All-head, All-same, All-tail}
use Rattle.std.proofs.lemmas.Option.{none-some, same_Some, slice_get-map, slice_get_within, get_or_from_slice_get}
use Rattle.lane_model.specs.Lane.{Lane, Slot, blank_slot, bytes_of, data_of, entry_of, flags_of, with_field, with_flags}
use Rattle.lane_model.specs.Law.{HoldsRingLaw}
use Rattle.lane_model.specs.Steps.{after_landing}
use Rattle.lane_model.specs.declared.Field.{Field}
use Rattle.lane_model.specs.declared.Field.TheVariants.{Chunk, Length, Version}
use Rattle.lane_model.specs.declared.Write.{Write}
use Rattle.lane_model.specs.declared.Write.TheVariants.{Data, Flag, Bell}
use Rattle.lane_laws.proofs.Facade.{field_among}
use Rattle.lane_laws.proofs.Facade.{land_data_keeps, land_flag_keeps, land_bell_keeps, data_is_ahead, flag_is_next}
use Rattle.posted_queue.specs.Flight.{Flight}
use Rattle.posted_queue.specs.Landing.{answer_for, land_answer as queue_answer, flight_after_landing as queue_after}
use Rattle.posted_queue.specs.declared.LandAnswer.TheVariants.{Landed as QueueLanded, Blocked as QueueBlocked, Nothing as QueueNothing}
use Rattle.order_rules.specs.Order.{Order, relaxed, may_land}
use Rattle.posted_queue.proofs.Facade.{may_land-past, split-at_place}
use Rattle.lane_core.specs.Calls.{LaneValue, kind_of_mark, order_of_mark, may_land_in, core_land_answer, core_land_found, core_after_land, after_found, label_in}
use Rattle.lane_core.specs.Parts.{BeginsWithin, CanStore, IsKnown, core_flags_landed, core_ring_after}
use Rattle.lane_core.specs.LaneView.{IsCoreKept, lane_seen, value_seen}
use Rattle.lane_core.specs.declared.answers.LaneLand.TheVariants.{Landed, Blocked, Nothing}
use Rattle.lane_core.specs.declared.lane.Lane.TheInside.{Inside}
use Rattle.lane_core.specs.declared.write.PostedWrite.{PostedWrite}
use Rattle.lane_core.proofs.OneClass.{relaxed_or_first}
use Rattle.lane_core.proofs.Parts.{All-remove, map-remove}

-- What the queue answers

-- A flight answers that a write landed only if that write stands at the place and may land.
pub was_landed : {W : Type 0} (found : Option W) (lands : Bool) (write : W) → QueueLanded write ≡ answer_for found lands → (found ≡ Some write) × (lands ≡ true)
was_landed None lands write e = absurd (cc e)
was_landed (Some w) true write e = (cc, refl)
was_landed (Some w) false write e = absurd (cc e)

-- A flight answers that a write is blocked only if one stands at the place and may not land.
pub was_blocked : {W : Type 0} (found : Option W) (lands : Bool) → QueueBlocked ≡ answer_for found lands → (write : W) × (found ≡ Some write) × (lands ≡ false)
was_blocked None lands e = absurd (cc e)
was_blocked (Some w) true e = absurd (cc e)
was_blocked (Some w) false e = (w, refl, refl)

-- A flight answers `Nothing` to a landing only if no write stands at the place.
pub was_nothing : {W : Type 0} (found : Option W) (lands : Bool) → QueueNothing ≡ answer_for found lands → found ≡ None
was_nothing None lands e = refl
was_nothing (Some w) true e = absurd (cc e)
was_nothing (Some w) false e = absurd (cc e)

-- the orders of the writes in flight, as the queue has them and as the model has them
pub orders_seen : (is_strict : Bool) (writes : List PostedWrite) → All (λ (w : PostedWrite). w.strict ≡ is_strict) writes
    → map (λ (w : PostedWrite). order_of_mark w.strict w.mark) writes ≡ map (order_of_mark is_strict) (map (λ (w : PostedWrite). w.mark) writes)
orders_seen is_strict [] each = refl
orders_seen is_strict (w ∷ writes) each =
    ap (λ b. order_of_mark b w.mark ∷ map (λ (v : PostedWrite). order_of_mark v.strict v.mark) writes) (All-head (λ (v : PostedWrite). v.strict ≡ is_strict) w writes each)
    ∙ ap (λ orders. order_of_mark is_strict w.mark ∷ orders) (orders_seen is_strict writes (All-tail (λ (v : PostedWrite). v.strict ≡ is_strict) w writes each))

-- What the model's lane answers

-- The model's lane answers that the write at a place landed, with its label, if it may land.
pub answer_landed : (value : LaneValue) (place : ℕ) (mark : Write) → slice_get value.lane.flight place ≡ Some mark → may_land_in value place ≡ true
    → core_land_answer value place ≡ Landed (label_in value.queue value.lane mark)
answer_landed value place mark found lands = ap (core_land_found value place) found ∙ cond-true _ _ _ lands

-- The model's lane after a landing at a place is the one with that write landed and out of flight, if it may land.
pub after_landed : (value : LaneValue) (place : ℕ) (mark : Write) → slice_get value.lane.flight place ≡ Some mark → may_land_in value place ≡ true
    → core_after_land value place ≡ after_landing value.lane mark (remove value.lane.flight place)
after_landed value place mark found lands = ap (after_found value place) found ∙ cond-true _ _ _ lands

-- The model's lane answers `Blocked` to a landing at a place whose write may not land.
pub answer_blocked : (value : LaneValue) (place : ℕ) (mark : Write) → slice_get value.lane.flight place ≡ Some mark → may_land_in value place ≡ false
    → core_land_answer value place ≡ Blocked
answer_blocked value place mark found waits = ap (core_land_found value place) found ∙ cond-false _ _ _ waits

-- The model's lane stays as it was after a landing at a place whose write may not land.
pub after_blocked : (value : LaneValue) (place : ℕ) (mark : Write) → slice_get value.lane.flight place ≡ Some mark → may_land_in value place ≡ false
    → core_after_land value place ≡ value.lane
after_blocked value place mark found waits = ap (after_found value place) found ∙ cond-false _ _ _ waits

-- A lane after a landing

-- a write may land where it is relaxed, or first
may_land_here : (is_strict : Bool) (flight : List Write) (place : ℕ) (mark : Write) → slice_get flight place ≡ Some mark → may_land (map (order_of_mark is_strict) flight) place ≡ true
    → (kind_of_mark is_strict mark ≡ relaxed) ⊎ (place ≡ 0)
may_land_here is_strict flight place mark found lands = relaxed_or_first (order_of_mark is_strict) 0 flight place mark (λ write. refl) found lands

flag_is_strict : (is_strict : Bool) (n : ℕ) → kind_of_mark is_strict (Flag n) ≡ relaxed → ⊥
flag_is_strict true n e = omega (arith, e)
flag_is_strict false n e = omega (arith, e)

bell_is_strict : (is_strict : Bool) → kind_of_mark is_strict Bell ≡ relaxed → ⊥
bell_is_strict true e = omega (arith, e)
bell_is_strict false e = omega (arith, e)

-- A list that has a first element is that element, followed by the list without it.
pub first_apart : {X : Type 0} (xs : List X) (x : X) → slice_get xs 0 ≡ Some x → xs ≡ x ∷ remove xs 0
first_apart [] x found = absurd (none-some x found)
first_apart (y ∷ ys) x found = ap (λ z. z ∷ ys) (same_Some y x found)

-- what holds where a write may land
pub record Lands (lane : Lane) (place : ℕ) (mark : Write) : Type 0 where
  pub can : CanStore lane.ring lane.sent mark
  pub known : IsKnown mark (length lane.sent)
  pub counts : lane.flagged + core_flags_landed mark ≤ length lane.sent
  pub law : HoldsRingLaw (after_landing lane mark (remove lane.flight place))

-- the room of an entry's slot
room_of_place : (lane : Lane) (n : ℕ) → n < length lane.sent → HoldsRingLaw lane → length (bytes_of (entry_of lane n)) ≤ length (get_or lane.ring (n % length lane.ring) blank_slot).payload
room_of_place lane n below law =
    let h = law.2 in
    let two = h.room.two_entries in
    let here : n % lane.entries < lane.entries = mod-lt n (omega arith) in
    let room = h.room.rooms (n % lane.entries) here in
    let fits = h.frames.fits n below in
    subst (λ count. length (bytes_of (entry_of lane n)) ≤ length (get_or lane.ring (n % count) blank_slot).payload) (sym h.room.slots) (omega (arith, room, fits))

begins_within : (lane : Lane) (n : ℕ) (field : Field) → Contains (data_of n (entry_of lane n)) (Data n field) → BeginsWithin (entry_of lane n) field
begins_within lane n (Chunk part) among = omega (arith, (field_among n n (entry_of lane n) (Chunk part) among).1)
begins_within lane n Length among = tt
begins_within lane n Version among = tt

cell_lands : (lane : Lane) (place n : ℕ) (field : Field) → slice_get lane.flight place ≡ Some (Data n field) → HoldsRingLaw lane → Lands lane place (Data n field)
cell_lands lane place n field found law =
    let there : Contains lane.flight (Data n field) = (place, slice_get_within lane.flight place (Data n field) found, get_or_from_slice_get lane.flight place (Data n field) (Data n field) found) in
    let ahead = data_is_ahead lane n field there law in
    let h = law.2 in
    let two = h.room.two_entries in
    let slots = h.room.slots in
    record {
      can = (omega arith, ahead.1, begins_within lane n field ahead.2, room_of_place lane n ahead.1 law);
      known = tt;
      counts = omega (arith, h.counts.flagged_first);
      law = land_data_keeps lane n field (take place lane.flight) (drop (suc place) lane.flight) (split-at_place lane.flight place (Data n field) found).0 law;
    }

flag_lands : (lane : Lane) (place n : ℕ) → slice_get lane.flight place ≡ Some (Flag n) → place ≡ 0 → HoldsRingLaw lane → Lands lane place (Flag n)
flag_lands lane place n found first law =
    let front : lane.flight ≡ Flag n ∷ remove lane.flight 0 = first_apart lane.flight (Flag n) (ap (slice_get lane.flight) (sym first) ∙ found) in
    let next = flag_is_next lane n (remove lane.flight 0) front law in
    let h = law.2 in
    let two = h.room.two_entries in
    let slots = h.room.slots in
    record {
      can = (omega arith, next.1);
      known = next.1;
      counts = omega (arith, next.0, next.1);
      law = subst (λ i. HoldsRingLaw (after_landing lane (Flag n) (remove lane.flight i))) (sym first) (land_flag_keeps lane n (remove lane.flight 0) front law);
    }

bell_lands : (lane : Lane) (place : ℕ) → slice_get lane.flight place ≡ Some Bell → place ≡ 0 → HoldsRingLaw lane → Lands lane place Bell
bell_lands lane place found first law =
    let front : lane.flight ≡ Bell ∷ remove lane.flight 0 = first_apart lane.flight Bell (ap (slice_get lane.flight) (sym first) ∙ found) in
    record {
      can = tt;
      known = tt;
      counts = omega (arith, law.2.counts.flagged_first);
      law = subst (λ i. HoldsRingLaw (after_landing lane Bell (remove lane.flight i))) (sym first) (land_bell_keeps lane (remove lane.flight 0) front law);
    }

-- Under the law of the ring, a write in flight that may land finds its slot and entry, and keeps the law as it lands.
pub lands : (lane : Lane) (is_strict : Bool) (place : ℕ) (mark : Write) → slice_get lane.flight place ≡ Some mark → may_land (map (order_of_mark is_strict) lane.flight) place ≡ true
    → HoldsRingLaw lane → Lands lane place mark
lands lane is_strict place (Data n field) found may law = cell_lands lane place n field found law
lands lane is_strict place (Flag n) found may law = elim (may_land_here is_strict lane.flight place (Flag n) found may) [
  | inl e ↦ absurd (flag_is_strict is_strict n e)
  | inr first ↦ flag_lands lane place n found first law
]
lands lane is_strict place Bell found may law = elim (may_land_here is_strict lane.flight place Bell found may) [
  | inl e ↦ absurd (bell_is_strict is_strict e)
  | inr first ↦ bell_lands lane place found first law
]

-- what a landing changes, with the ring and the count apart
abbrev pub with_landed : Lane → List Write → Write → Lane
with_landed lane rest mark = record lane { flight = rest; ring = core_ring_after lane.ring lane.sent mark; flagged = lane.flagged + core_flags_landed mark }

-- A landing changes of a lane its flight, the slot that the write is for, and by flags the count of landed flags.
pub landed_is : (lane : Lane) (rest : List Write) (mark : Write) → length lane.ring ≡ lane.entries → after_landing lane mark rest ≡ with_landed lane rest mark
landed_is lane rest (Data n field) slots =
    ap (λ count. record lane { flight = rest; ring = set lane.ring (n % count) (with_field (get_or lane.ring (n % count) blank_slot) n (entry_of lane n) field) }) (sym slots)
    ∙ ap (λ count. record lane { flight = rest; ring = core_ring_after lane.ring lane.sent (Data n field); flagged = count }) (none_more lane.flagged)
  where
    none_more : (count : ℕ) → count ≡ count + 0
    none_more count = omega arith
landed_is lane rest (Flag n) slots =
    ap (λ count. record lane { flight = rest; ring = set lane.ring (n % count) (with_flags (get_or lane.ring (n % count) blank_slot) (flags_of (entry_of lane n))); flagged = lane.flagged + 1 }) (sym slots)
landed_is lane rest Bell slots = ap (λ count. record lane { flight = rest; flagged = count }) (none_left lane.flagged)
  where
    none_left : (count : ℕ) → count ≡ count + 0
    none_left count = omega arith

-- a lane whose writes in flight, ring and count are those after a landing
pub landed_lane : (lane : Lane) (flight rest : List Write) (ring : List Slot) (flagged : ℕ) (mark : Write) → length lane.ring ≡ lane.entries → flight ≡ rest
    → ring ≡ core_ring_after lane.ring lane.sent mark → flagged ≡ lane.flagged + core_flags_landed mark → record lane { flight = flight; ring = ring; flagged = flagged } ≡ after_landing lane mark rest
landed_lane lane flight rest ring flagged mark slots same_flight same_ring same_count =
    ap (λ (marks : List Write). record lane { flight = marks; ring = ring; flagged = flagged }) same_flight
    ∙ ap (λ (places : List Slot). record lane { flight = rest; ring = places; flagged = flagged }) same_ring
    ∙ ap (λ (count : ℕ). record lane { flight = rest; ring = core_ring_after lane.ring lane.sent mark; flagged = count }) same_count
    ∙ sym (landed_is lane rest mark slots)

-- The model's lane answers `Nothing` to a landing at a place where no write is in flight.
pub answer_nothing : (value : LaneValue) (place : ℕ) → slice_get value.lane.flight place ≡ None → core_land_answer value place ≡ Nothing
answer_nothing value place found = ap (core_land_found value place) found

-- The model's lane stays as it was after a landing at a place where no write is in flight.
pub after_nothing : (value : LaneValue) (place : ℕ) → slice_get value.lane.flight place ≡ None → core_after_land value place ≡ value.lane
after_nothing value place found = ap (after_found value place) found

-- no write lands from past the end
pub past_the_end : {W : Type 0} (order : W → Order) (writes : List W) (place : ℕ) → slice_get writes place ≡ None → may_land (map order writes) place ≡ false
past_the_end order writes place found =
    elim (cases_lt place (length writes)) [
      | inl within ↦ absurd (within_some writes place within found)
      | inr past ↦ may_land-past order writes place past
    ]
  where
    within_some : {X : Type 0} (xs : List X) (i : ℕ) → i < length xs → slice_get xs i ≡ None → ⊥
    within_some [] i within none = omega arith
    within_some (x ∷ xs) zero within none = cc none
    within_some (x ∷ xs) (suc i) within none = within_some xs i (omega arith) none

-- what is known of a lane where the queue answers that a write landed
pub record HasLanded (l : Inside) (place : ℕ) (mark : Write) (flight : Flight PostedWrite) : Type 0 where
  pub found : slice_get (lane_seen l).flight place ≡ Some mark
  pub may : may_land_in (value_seen l) place ≡ true
  pub lands : Lands (lane_seen l) place mark
  pub marks : map (λ (w : PostedWrite). w.mark) flight.writes ≡ remove (lane_seen l).flight place
  pub orders : All (λ (w : PostedWrite). w.strict ≡ l.strict) flight.writes
  pub spare : flight.spare ≡ l.flight.spare

abbrev pub order_of_write : PostedWrite → Order
order_of_write w = order_of_mark w.strict w.mark

-- A write that the flight lets land may land in the model's lane too, which keeps the law of the ring.
pub has_landed : (l : Inside) (place : ℕ) (write : PostedWrite) (flight : Flight PostedWrite) → QueueLanded write ≡ queue_answer order_of_write l.flight place → flight ≡ queue_after order_of_write l.flight place
    → IsCoreKept l → HasLanded l place write.mark flight
has_landed l place write flight answer after kept =
    let was = was_landed _ _ write answer in
    let found : slice_get (lane_seen l).flight place ≡ Some write.mark = slice_get-map (λ (w : PostedWrite). w.mark) l.flight.writes place ∙ ap (option_map (λ (w : PostedWrite). w.mark)) was.0 in
    let may : may_land_in (value_seen l) place ≡ true = ap (λ orders. may_land orders place) (sym (orders_seen l.strict l.flight.writes kept.sending.orders)) ∙ was.1 in
    let now = after ∙ cond-true _ _ _ was.1 in
    let writes : flight.writes ≡ remove l.flight.writes place = ap (λ (f : Flight PostedWrite). f.writes) now in
    record {
      found = found;
      may = may;
      lands = lands (lane_seen l) l.strict place write.mark found may kept.law;
      marks = ap (map (λ (w : PostedWrite). w.mark)) writes ∙ map-remove (λ (w : PostedWrite). w.mark) l.flight.writes place;
      orders = All-same (λ (w : PostedWrite). w.strict ≡ l.strict) flight.writes _ writes (All-remove (λ (w : PostedWrite). w.strict ≡ l.strict) l.flight.writes place kept.sending.orders);
      spare = ap (λ (f : Flight PostedWrite). f.spare) now;
    }

-- and where it answers that a write is blocked
pub is_held_back : (l : Inside) (place : ℕ) → QueueBlocked ≡ queue_answer order_of_write l.flight place → All (λ (w : PostedWrite). w.strict ≡ l.strict) l.flight.writes
    → (core_land_answer (value_seen l) place ≡ Blocked) × (core_after_land (value_seen l) place ≡ lane_seen l)
is_held_back l place answer orders =
    let was = was_blocked _ _ answer in
    let found : slice_get (lane_seen l).flight place ≡ Some was.0.mark = slice_get-map (λ (w : PostedWrite). w.mark) l.flight.writes place ∙ ap (option_map (λ (w : PostedWrite). w.mark)) was.1 in
    let waits : may_land_in (value_seen l) place ≡ false = ap (λ (found : List Order). may_land found place) (sym (orders_seen l.strict l.flight.writes orders)) ∙ was.2 in
    (answer_blocked (value_seen l) place was.0.mark found waits, after_blocked (value_seen l) place was.0.mark found waits)
