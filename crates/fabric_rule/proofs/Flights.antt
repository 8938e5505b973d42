-- The writes of the labels in flight: one for each, in order; one more, and one that is taken out.
use Rattle.std.proofs.Common.{◌≡◌, ℕ, zero, suc, ◌+◌, ◌<◌, Bool, true, false, Some, List, [], ◌∷◌, ◌++◌, length, map, take, refl, sym, ap, ◌∙◌, subst, arith}
use Rattle.std.specs.Prelude.{if◌then◌else◌, remove, slice_get, slice_index_or}
use Rattle.std.specs.List.{AllByRecursion}
use Rattle.std.proofs.lemmas.Option.{none-some, same_Some}
use Rattle.std.proofs.lemmas.List.{length-append, get_or_append_left}
use Rattle.std.proofs.lemmas.List.Sums.{sum_by-cons}
use Rattle.step_kinds.specs.declared.names.Side.{Side}
use Rattle.step_kinds.specs.declared.plan.PairPlan.{PairPlan}
use Rattle.step_kinds.specs.declared.steps.Label.{Label}
use Rattle.step_kinds.specs.declared.steps.Label.TheVariants.{Chunk, Len, Ver, Flag, Down, Bell, Index, Pad, Raw}
use Rattle.lane_model.specs.Lane.{Entry, GoesDown}
use Rattle.pair_model.specs.Orders.{order_of}
use Rattle.ledger_model.specs.Next.{idle_side}
use Rattle.ledger_model.specs.Receiving.{poked_without, raws_before}
use Rattle.step_kinds.specs.Sides.{other_side}
use Rattle.plan_numbers.specs.Memories.{memory_size}
use Rattle.bridge_pair.specs.Flights.{Flying, flying_order, flying_of}
use Rattle.fabric_rule.specs.InPlace.{FlightInPlace, HaveRawBytes, IsLabelBegun, ArrivalLiesIn}
use Rattle.fabric_rule.specs.StandsFor.{fabric_entry_among, flying_labelled, raw_bytes, raws_behind, fabric_write_of, writes_labelled}

-- Lists of which all members hold something

-- A property that all members of a list have, and one more too, holds of all once that one stands at the end.
pub all_push : {X : Type 0} (P : X → Type 0) (xs : List X) (x : X) → AllByRecursion P xs → P x → AllByRecursion P (xs ++ x ∷ [])
all_push P [] x all own = (own, tt)
all_push P (y ∷ xs) x all own = (all.0, all_push P xs x all.1 own)

-- A property of all members of a list holds of all that are left when the one at a place is taken out.
pub all_remove : {X : Type 0} (P : X → Type 0) (xs : List X) (place : ℕ) → AllByRecursion P xs → AllByRecursion P (remove xs place)
all_remove P [] zero all = tt
all_remove P [] (suc place) all = tt
all_remove P (x ∷ xs) zero all = all.1
all_remove P (x ∷ xs) (suc place) all = (all.0, all_remove P xs place all.1)

-- If one property implies another and all members of a list have the first, all have the second.
pub all_weaker : {X : Type 0} (P Q : X → Type 0) → ((x : X) → P x → Q x) → (xs : List X) → AllByRecursion P xs → AllByRecursion Q xs
all_weaker P Q weaker [] all = tt
all_weaker P Q weaker (x ∷ xs) all = (weaker x all.0, all_weaker P Q weaker xs all.1)

-- A property of all members of a list holds of the one that is found at a place.
pub all_get : {X : Type 0} (P : X → Type 0) (xs : List X) (place : ℕ) (x : X) → AllByRecursion P xs → slice_get xs place ≡ Some x → P x
all_get P [] place x all at = absurd (none-some x at)
all_get P (first ∷ xs) zero x all at = subst P (same_Some first x at) all.0
all_get P (first ∷ xs) (suc place) x all at = all_get P xs place x all.1 at

-- A label's write

-- The write that is made of a label and an entry bears that label.
pub label-write : (plan : PairPlan) (side : Side) (entry : Entry) (raw : List ℕ) (label : Label) → (fabric_write_of plan side entry raw label).label ≡ label
label-write plan side entry raw (Chunk q n part) = refl
label-write plan side entry raw (Len q n) = refl
label-write plan side entry raw (Ver q n) = refl
label-write plan side entry raw (Flag q n) = refl
label-write plan side entry raw (Down q n) = refl
label-write plan side entry raw (Bell q) = refl
label-write plan side entry raw (Index q n) = refl
label-write plan side entry raw (Pad i value) = refl
label-write plan side entry raw (Raw window offset len) = refl

module _ (plan : PairPlan) (side : Side) where
  pub labels-writes : (sent : ℕ → List Entry) (labels : List Label) (poked : List (List ℕ)) → map (λ (flying : Flying). flying.label) (writes_labelled plan side sent labels poked) ≡ labels
  labels-writes sent [] poked = refl
  labels-writes sent (label ∷ labels) poked =
      ap (λ l. l ∷ map (λ (flying : Flying). flying.label) (writes_labelled plan side sent labels (raws_behind label poked))) (label-write plan side (fabric_entry_among sent label) (raw_bytes label poked) label)
      ∙ ap (λ ls. label ∷ ls) (labels-writes sent labels (raws_behind label poked))

  pub length-writes : (sent : ℕ → List Entry) (labels : List Label) (poked : List (List ℕ)) → length (writes_labelled plan side sent labels poked) ≡ length labels
  length-writes sent [] poked = refl
  length-writes sent (label ∷ labels) poked = ap suc (length-writes sent labels (raws_behind label poked))

  pub orders-writes : (sent : ℕ → List Entry) (labels : List Label) (poked : List (List ℕ)) → map flying_order (writes_labelled plan side sent labels poked) ≡ map (order_of plan side) labels
  orders-writes sent [] poked = refl
  orders-writes sent (label ∷ labels) poked =
      ap (λ l. order_of plan side l ∷ map flying_order (writes_labelled plan side sent labels (raws_behind label poked))) (label-write plan side (fabric_entry_among sent label) (raw_bytes label poked) label)
      ∙ ap (λ ls. order_of plan side label ∷ ls) (orders-writes sent labels (raws_behind label poked))

  -- writes of labels after others, and their bytes after the others'
  pub writes-append : (sent : ℕ → List Entry) (labels : List Label) (poked : List (List ℕ)) (more : List Label) (bytes : List (List ℕ)) → HaveRawBytes labels poked
      → writes_labelled plan side sent (labels ++ more) (poked ++ bytes) ≡ writes_labelled plan side sent labels poked ++ writes_labelled plan side sent more bytes
  writes-append sent [] [] more bytes have = refl
  writes-append sent [] (one ∷ poked) more bytes have = absurd have
  writes-append sent (Raw window offset len ∷ labels) [] more bytes have = absurd have
  writes-append sent (Raw window offset len ∷ labels) (one ∷ poked) more bytes have = ap (λ ws. flying_labelled plan side sent one (Raw window offset len) ∷ ws) (writes-append sent labels poked more bytes have)
  writes-append sent (label ∷ labels) poked more bytes have = ap (λ ws. flying_labelled plan side sent [] label ∷ ws) (writes-append sent labels poked more bytes have)

  -- the writes where the labels' entries are the same
  pub writes-same : (sent sent' : ℕ → List Entry) (labels : List Label) (poked : List (List ℕ)) → AllByRecursion (λ label. fabric_entry_among sent' label ≡ fabric_entry_among sent label) labels
      → writes_labelled plan side sent' labels poked ≡ writes_labelled plan side sent labels poked
  writes-same sent sent' [] poked same = refl
  writes-same sent sent' (label ∷ labels) poked same =
      ap (λ entry. flying_of_entry entry ∷ writes_labelled plan side sent' labels (raws_behind label poked)) same.0
      ∙ ap (λ ws. flying_labelled plan side sent (raw_bytes label poked) label ∷ ws) (writes-same sent sent' labels (raws_behind label poked) same.1)
    where
      flying_of_entry : Entry → Flying
      flying_of_entry entry = flying_of plan side (fabric_write_of plan side entry (raw_bytes label poked) label)

-- If the raw writes of two lists of labels have their bytes, those of the joined list have the joined bytes.
pub have-push : (labels : List Label) (poked : List (List ℕ)) (more : List Label) (bytes : List (List ℕ)) → HaveRawBytes labels poked → HaveRawBytes more bytes → HaveRawBytes (labels ++ more) (poked ++ bytes)
have-push [] [] more bytes have own = own
have-push [] (one ∷ poked) more bytes have own = absurd have
have-push (Raw window offset len ∷ labels) [] more bytes have own = absurd have
have-push (Raw window offset len ∷ labels) (one ∷ poked) more bytes have own = have-push labels poked more bytes have own
have-push (label ∷ labels) poked more bytes have own = have-push labels poked more bytes have own

-- Entries that are sent further change no label's

-- each queue has the entries that it had, and maybe more
abbrev pub SentGrows : (ℕ → List Entry) → (ℕ → List Entry) → Type 0
SentGrows sent sent' = (queue : ℕ) → (more : List Entry) × (sent' queue ≡ sent queue ++ more)

-- a label's entry, and that it was begun
abbrev StaysBegun : (ℕ → List Entry) → (ℕ → List Entry) → Label → Type 0
StaysBegun sent sent' label = (fabric_entry_among sent' label ≡ fabric_entry_among sent label) × IsLabelBegun sent' label

entry-grows : (old new more : List Entry) (n : ℕ) → new ≡ old ++ more → n < length old → (slice_index_or new n GoesDown ≡ slice_index_or old n GoesDown) × (n < length new)
entry-grows old new more n grows within = (ap (λ entries. slice_index_or entries n GoesDown) grows ∙ get_or_append_left old more GoesDown n within, rw grows (rw length-append (omega arith)))

label-grows : (sent sent' : ℕ → List Entry) → SentGrows sent sent' → (label : Label) → IsLabelBegun sent label → StaysBegun sent sent' label
label-grows sent sent' grows (Chunk q n part) begun = entry-grows (sent q) (sent' q) (grows q).0 n (grows q).1 begun
label-grows sent sent' grows (Len q n) begun = entry-grows (sent q) (sent' q) (grows q).0 n (grows q).1 begun
label-grows sent sent' grows (Ver q n) begun = entry-grows (sent q) (sent' q) (grows q).0 n (grows q).1 begun
label-grows sent sent' grows (Flag q n) begun = entry-grows (sent q) (sent' q) (grows q).0 n (grows q).1 begun
label-grows sent sent' grows (Down q n) begun = entry-grows (sent q) (sent' q) (grows q).0 n (grows q).1 begun
label-grows sent sent' grows label begun = (refl, tt)

module _ (plan : PairPlan) (side : Side) (sent sent' : ℕ → List Entry) (grows : SentGrows sent sent') (flight : List Label) (poked : List (List ℕ)) where
  pub writes_grow : AllByRecursion (IsLabelBegun sent) flight → writes_labelled plan side sent' flight poked ≡ writes_labelled plan side sent flight poked
  writes_grow begun = writes-same plan side sent sent' flight poked (all_weaker (IsLabelBegun sent) (λ label. fabric_entry_among sent' label ≡ fabric_entry_among sent label) (λ label begun. (label-grows sent sent' grows label begun).0) flight begun)

  pub flight_grows : (down : Bool) → FlightInPlace plan side down sent flight poked (writes_labelled plan side sent flight poked) → FlightInPlace plan side down sent' flight poked (writes_labelled plan side sent' flight poked)
  flight_grows down h =
      record {
        begun = all_weaker (IsLabelBegun sent) (IsLabelBegun sent') (λ label begun. (label-grows sent sent' grows label begun).1) flight h.begun;
        raws = h.raws;
        places = subst (AllByRecursion (λ (flying : Flying). ArrivalLiesIn (memory_size plan (other_side side)) flying.arrival)) (sym (writes_grow h.begun)) h.places;
        none = h.none;
      }

-- Taking a write out

-- the bytes of raw writes without those of the label at a place
abbrev pub poked_left : List Label → List (List ℕ) → ℕ → Label → List (List ℕ)
poked_left labels poked place label = poked_without (record idle_side { flight = labels; poked = poked }) place label

-- the bytes of the raw write at a place
abbrev pub poked_at : List Label → List (List ℕ) → ℕ → List ℕ
poked_at labels poked place = slice_index_or poked (raws_before labels place) []

abbrev is_raw : Label → Bool
is_raw (Raw window offset len) = true
is_raw label = false

before-cons : (first : Label) (labels : List Label) (place : ℕ) → raws_before (first ∷ labels) (suc place) ≡ (if is_raw first then 1 else 0) + raws_before labels place
before-cons first labels place = sum_by-cons (λ label. if is_raw label then 1 else 0) first (take place labels)

one-before : (window offset len : ℕ) (labels : List Label) (place : ℕ) → raws_before (Raw window offset len ∷ labels) (suc place) ≡ suc (raws_before labels place)
one-before window offset len labels place = let e = before-cons (Raw window offset len) labels place in omega (arith, e)

abbrev IsNotRaw : Label → Type 0
IsNotRaw (Raw window offset len) = ⊥
IsNotRaw label = Unit {0}

none-counted : (first : Label) → IsNotRaw first → ◌≡◌ {A = ℕ} (if is_raw first then 1 else 0) 0
none-counted (Raw window offset len) other = absurd other
none-counted first other = refl

left-behind_raw : (window offset len : ℕ) (labels : List Label) (one : List ℕ) (poked : List (List ℕ)) (place : ℕ) (label : Label)
    → poked_left (Raw window offset len ∷ labels) (one ∷ poked) (suc place) label ≡ one ∷ poked_left labels poked place label
left-behind_raw window offset len labels one poked place (Raw window' offset' len') = ap (remove (one ∷ poked)) (one-before window offset len labels place)
left-behind_raw window offset len labels one poked place label = refl

at-behind_raw : (window offset len : ℕ) (labels : List Label) (one : List ℕ) (poked : List (List ℕ)) (place : ℕ)
    → poked_at (Raw window offset len ∷ labels) (one ∷ poked) (suc place) ≡ poked_at labels poked place
at-behind_raw window offset len labels one poked place = ap (λ n. slice_index_or (one ∷ poked) n []) (one-before window offset len labels place)

raws-behind : (first : Label) (labels : List Label) (place : ℕ) → IsNotRaw first → raws_before (first ∷ labels) (suc place) ≡ raws_before labels place
raws-behind first labels place other = let e = before-cons first labels place in let none = none-counted first other in omega (arith, e, none)

left-behind : (first : Label) (labels : List Label) (poked : List (List ℕ)) (place : ℕ) (label : Label) → IsNotRaw first
    → poked_left (first ∷ labels) poked (suc place) label ≡ poked_left labels poked place label
left-behind first labels poked place (Raw window offset len) other = ap (remove poked) (raws-behind first labels place other)
left-behind first labels poked place label other = refl

at-behind : (first : Label) (labels : List Label) (poked : List (List ℕ)) (place : ℕ) → IsNotRaw first → poked_at (first ∷ labels) poked (suc place) ≡ poked_at labels poked place
at-behind first labels poked place other = ap (λ n. slice_index_or poked n []) (raws-behind first labels place other)

-- the label at the front
left-first : (first : Label) (labels : List Label) (poked : List (List ℕ)) → HaveRawBytes (first ∷ labels) poked → poked_left (first ∷ labels) poked zero first ≡ raws_behind first poked
left-first (Raw window offset len) labels [] have = absurd have
left-first (Raw window offset len) labels (one ∷ poked) have = refl
left-first first labels poked have = refl

have-first : (first : Label) (labels : List Label) (poked : List (List ℕ)) → HaveRawBytes (first ∷ labels) poked → HaveRawBytes labels (raws_behind first poked)
have-first (Raw window offset len) labels [] have = absurd have
have-first (Raw window offset len) labels (one ∷ poked) have = have
have-first first labels poked have = have

module _ (plan : PairPlan) (side : Side) (sent : ℕ → List Entry) where
  flying-first : (first : Label) (labels : List Label) (poked : List (List ℕ)) → HaveRawBytes (first ∷ labels) poked
      → flying_labelled plan side sent (raw_bytes first poked) first ≡ flying_labelled plan side sent (poked_at (first ∷ labels) poked zero) first
  flying-first (Raw window offset len) labels [] have = absurd have
  flying-first (Raw window offset len) labels (one ∷ poked) have = refl
  flying-first first labels poked have = refl

  -- the write at a place
  pub writes-get : (labels : List Label) (poked : List (List ℕ)) (place : ℕ) (label : Label) → HaveRawBytes labels poked → slice_get labels place ≡ Some label
      → slice_get (writes_labelled plan side sent labels poked) place ≡ Some (flying_labelled plan side sent (poked_at labels poked place) label)
  writes-get [] poked place label have at = absurd (none-some label at)
  writes-get (first ∷ labels) poked zero label have at =
      ap Some (flying-first first labels poked have) ∙ ap (λ (l : Label). Some (flying_labelled plan side sent (poked_at (first ∷ labels) poked zero) l)) (same_Some first label at)
  writes-get (Raw window offset len ∷ labels) [] (suc place) label have at = absurd have
  writes-get (Raw window offset len ∷ labels) (one ∷ poked) (suc place) label have at =
      writes-get labels poked place label have at ∙ ap (λ bytes. Some (flying_labelled plan side sent bytes label)) (sym (at-behind_raw window offset len labels one poked place))
  writes-get (first ∷ labels) poked (suc place) label have at =
      writes-get labels poked place label have at ∙ ap (λ bytes. Some (flying_labelled plan side sent bytes label)) (sym (at-behind first labels poked place tt))

  -- and the others without it
  pub writes-remove : (labels : List Label) (poked : List (List ℕ)) (place : ℕ) (label : Label) → HaveRawBytes labels poked → slice_get labels place ≡ Some label
      → writes_labelled plan side sent (remove labels place) (poked_left labels poked place label) ≡ remove (writes_labelled plan side sent labels poked) place
  writes-remove [] poked place label have at = absurd (none-some label at)
  writes-remove (first ∷ labels) poked zero label have at =
      ap (λ (l : Label). writes_labelled plan side sent labels (poked_left (first ∷ labels) poked zero l)) (sym (same_Some first label at))
      ∙ ap (writes_labelled plan side sent labels) (left-first first labels poked have)
  writes-remove (Raw window offset len ∷ labels) [] (suc place) label have at = absurd have
  writes-remove (Raw window offset len ∷ labels) (one ∷ poked) (suc place) label have at =
      ap (writes_labelled plan side sent (Raw window offset len ∷ remove labels place)) (left-behind_raw window offset len labels one poked place label)
      ∙ ap (λ ws. flying_labelled plan side sent one (Raw window offset len) ∷ ws) (writes-remove labels poked place label have at)
  writes-remove (first ∷ labels) poked (suc place) label have at =
      ap (writes_labelled plan side sent (first ∷ remove labels place)) (left-behind first labels poked place label tt)
      ∙ ap (λ ws. flying_labelled plan side sent [] first ∷ ws) (writes-remove labels poked place label have at)

-- The raw writes left in flight have their bytes once a label is taken out, with its own bytes if it is raw.
pub have-remove : (labels : List Label) (poked : List (List ℕ)) (place : ℕ) (label : Label) → HaveRawBytes labels poked → slice_get labels place ≡ Some label
    → HaveRawBytes (remove labels place) (poked_left labels poked place label)
have-remove [] poked place label have at = absurd (none-some label at)
have-remove (first ∷ labels) poked zero label have at =
    subst (λ (l : Label). HaveRawBytes labels (poked_left (first ∷ labels) poked zero l)) (same_Some first label at)
    (subst (HaveRawBytes labels) (sym (left-first first labels poked have)) (have-first first labels poked have))
have-remove (Raw window offset len ∷ labels) [] (suc place) label have at = absurd have
have-remove (Raw window offset len ∷ labels) (one ∷ poked) (suc place) label have at =
    subst (HaveRawBytes (Raw window offset len ∷ remove labels place)) (sym (left-behind_raw window offset len labels one poked place label)) (have-remove labels poked place label have at)
have-remove (first ∷ labels) poked (suc place) label have at =
    subst (HaveRawBytes (first ∷ remove labels place)) (sym (left-behind first labels poked place label tt)) (have-remove labels poked place label have at)
