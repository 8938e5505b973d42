-- What a side offers in the handshake: scratchpads alone, each once, the version last; and what they leave in the
-- peer's scratchpads.
use Rattle.std.proofs.Common.{◌≡◌, ℕ, zero, suc, Bool, true, false, None, List, [], ◌∷◌, ◌++◌, map, refl, ◌+◌, ◌<◌, ◌≤◌, ◌==◌, not, Option, Some, take, drop, sym, ap, ◌∙◌, inl, inr, ◌⊎◌, arith, append_assoc, ◌&&◌}
use Rattle.std.specs.Prelude.{◌/◌, ◌%◌, slice_index_or, if◌then◌else◌, nat_lt}
use Rattle.std.specs.List.{list_all, flat_map, filter_map}
use Rattle.std.proofs.lemmas.Bool.{and_parts, and_from, false≢true, eq-eqb, ne_eqb, lt-ltb, not-true, cond-true, cases_eq}
use Rattle.step_kinds.specs.declared.plan.SidePlan.{SidePlan}
use Rattle.step_kinds.specs.declared.steps.Label.{Label}
use Rattle.step_kinds.specs.declared.steps.Label.TheVariants.{Pad}
use Rattle.lane_model.specs.Lane.{count_from}
use Rattle.pair_model.specs.Pads.{offers, word}
use Rattle.ledger_model.specs.Labels.{write_of, label_index_of}
use Rattle.pair_model.specs.Pads.{high_pad, low_pad, queues_pad, version_pad, windows_pad}
use Rattle.ledger_laws.proofs.walk.Turn.{is_pad, is_link_pad}
use Rattle.std.proofs.lemmas.List.{take-append-drop}

-- The writes of an offer

-- the scratchpads of an offer: those below 12 but for the one that says which queues are ready
abbrev pub is_offer : ℕ → Bool
is_offer i = nat_lt i 12 && not (i == 1)

abbrev pub offer_of : Label → Option Label
offer_of (Pad i value) = if is_offer i then Some (Pad i value) else None
offer_of label = None

abbrev pub offers_in : List Label → List Label
offers_in labels = filter_map offer_of labels

-- the value that the last write in a list put into a scratchpad, if it was `now`
abbrev pub last_value : ℕ → Option ℕ → List Label → Option ℕ
last_value i now [] = now
last_value i now (Pad j value ∷ rest) = last_value i (if j == i then Some value else now) rest
last_value i now (label ∷ rest) = last_value i now rest

-- With one write more in a list its scratchpad has the value of that write, and any other what it had.
pub last_value-last : (i : ℕ) (now : Option ℕ) (labels : List Label) (j value : ℕ) → last_value i now (labels ++ Pad j value ∷ []) ≡ (if j == i then Some value else last_value i now labels)
last_value-last i now [] j value = refl
last_value-last i now (Pad m v ∷ rest) j value = last_value-last i (if m == i then Some v else now) rest j value
last_value-last i now (label ∷ rest) j value = last_value-last i now rest j value

abbrev pub value_of : Option ℕ → ℕ
value_of None = 0
value_of (Some v) = v

all_at : {X : Type 0} (test : X → Bool) (xs : List X) (n : ℕ) (x : X) → list_all test xs ≡ true → test x ≡ true → test (slice_index_or xs n x) ≡ true
all_at test [] n x all here = here
all_at test (y ∷ xs) zero x all here = (and_parts (test y) (list_all test xs) all).0
all_at test (y ∷ xs) (suc n) x all here = all_at test xs n x ((and_parts (test y) (list_all test xs) all).1) here

-- A test that passes on all of each of two lists passes on all of them joined.
pub all-append : {X : Type 0} (test : X → Bool) (xs ys : List X) → list_all test xs ≡ true → list_all test ys ≡ true → list_all test (xs ++ ys) ≡ true
all-append test [] ys a b = b
all-append test (x ∷ xs) ys a b =
    let parts = and_parts (test x) (list_all test xs) a in
    and_from (test x) (list_all test (xs ++ ys)) parts.0 (all-append test xs ys parts.1 b)

-- A test that passes on each value of a function passes on all of a list mapped by it.
pub list_all-map : {X Y : Type 0} (test : Y → Bool) (f : X → Y) (xs : List X) → ((x : X) → test (f x) ≡ true) → list_all test (map f xs) ≡ true
list_all-map test f [] each = refl
list_all-map test f (x ∷ xs) each = and_from (test (f x)) (list_all test (map f xs)) (each x) (list_all-map test f xs each)

abbrev windows_from : SidePlan → ℕ → ℕ → List Label
windows_from own n m = flat_map (λ m. Pad (high_pad m) (own.size / word) ∷ Pad (low_pad m) (own.size % word) ∷ []) (count_from n m)

abbrev last_three : SidePlan → List Label
last_three own = Pad windows_pad own.windows ∷ Pad queues_pad own.queues ∷ Pad version_pad own.version ∷ []

-- what holds of the two scratchpads of each window holds of all that windows write
windows-all : (test : Label → Bool) (own : SidePlan) (n m : ℕ)
    → ((k : ℕ) → k < n + m → (test (Pad (high_pad k) (own.size / word)) ≡ true) × (test (Pad (low_pad k) (own.size % word)) ≡ true)) → list_all test (windows_from own n m) ≡ true
windows-all test own n zero each = refl
windows-all test own n (suc m) each =
    let here = each n (omega arith) in
    and_from (test (Pad (high_pad n) (own.size / word))) _ here.0
    (and_from (test (Pad (low_pad n) (own.size % word))) _ here.1 (windows-all test own (suc n) m (λ k below. each k (omega arith))))

-- so with the three scratchpads after them, of each write of an offer
offers-all : (test : Label → Bool) (own : SidePlan)
    → ((k : ℕ) → k < own.windows → (test (Pad (high_pad k) (own.size / word)) ≡ true) × (test (Pad (low_pad k) (own.size % word)) ≡ true)) → list_all test (last_three own) ≡ true
    → test (Pad 0 0) ≡ true → (n : ℕ) → test (slice_index_or (offers own) n (Pad 0 0)) ≡ true
offers-all test own each three none n =
    all_at test (offers own) n (Pad 0 0)
    (all-append test (windows_from own 0 own.windows) (last_three own) (windows-all test own 0 own.windows (λ k below. each k (omega arith))) three) none

-- Each write that a side offers in the handshake is one of a scratchpad.
pub offer-is_pad : (own : SidePlan) (n : ℕ) → is_pad (slice_index_or (offers own) n (Pad 0 0)) ≡ true
offer-is_pad own n = offers-all is_pad own (λ k below. (refl, refl)) refl refl n

-- and not that of the queues that are ready
pub offer-no_link : (own : SidePlan) (n : ℕ) → is_link_pad (slice_index_or (offers own) n (Pad 0 0)) ≡ false
offer-no_link own n =
    not-true _ (offers-all (λ label. not (is_link_pad label)) own
    (λ k below. (ap not (ne_eqb (high_pad k) 1 (λ e. omega arith)), ap not (ne_eqb (low_pad k) 1 (λ e. omega arith)))) refl refl n)

-- a scratchpad is no write of a lane
pub pad-index : (q : ℕ) (label : Label) → is_pad label ≡ true → label_index_of q label ≡ None
pad-index q (Pad i value) is = refl
pad-index q label is = absurd (false≢true is)

-- A write of a scratchpad is no write of a lane, whichever queue is asked for.
pub pad-write : (q : ℕ) (label : Label) → is_pad label ≡ true → write_of q label ≡ None
pad-write q (Pad i value) is = refl
pad-write q label is = absurd (false≢true is)

-- The offer of a side with few windows

abbrev label_offers : Label → Bool
label_offers (Pad i value) = is_offer i
label_offers label = false

-- The two scratchpads that tell the size of one of four windows are among those of an offer.
pub window_offers : (n : ℕ) → n < 4 → (is_offer (high_pad n) ≡ true) × (is_offer (low_pad n) ≡ true)
window_offers n few = (
  and_from (nat_lt (high_pad n) 12) (not (high_pad n == 1)) (lt-ltb (high_pad n) 12 (omega arith)) (ap not (ne_eqb (high_pad n) 1 (λ e. omega arith))),
  and_from (nat_lt (low_pad n) 12) (not (low_pad n == 1)) (lt-ltb (low_pad n) 12 (omega arith)) (ap not (ne_eqb (low_pad n) 1 (λ e. omega arith))),
)

all-front : (test : Label → Bool) (xs ys : List Label) → list_all test (xs ++ ys) ≡ true → list_all test xs ≡ true
all-front test [] ys a = refl
all-front test (x ∷ xs) ys a =
    let parts = and_parts (test x) (list_all test (xs ++ ys)) a in
    and_from (test x) (list_all test xs) parts.0 (all-front test xs ys parts.1)

label-offer : (label : Label) → label_offers label ≡ true → offer_of label ≡ Some label
label-offer (Pad i value) e = cond-true (is_offer i) (Some (Pad i value)) None e
label-offer label e = absurd (false≢true e)

-- each of its writes is one of an offer
pub offer-good : (own : SidePlan) → own.windows ≤ 4 → (n : ℕ) → offer_of (slice_index_or (offers own) n (Pad 0 0)) ≡ Some (slice_index_or (offers own) n (Pad 0 0))
offer-good own few n =
    label-offer (slice_index_or (offers own) n (Pad 0 0)) (offers-all label_offers own (λ k below. window_offers k (omega arith)) refl refl n)

-- What it leaves in the scratchpads

last_value-append : (i : ℕ) (now : Option ℕ) (xs ys : List Label) → last_value i now (xs ++ ys) ≡ last_value i (last_value i now xs) ys
last_value-append i now [] ys = refl
last_value-append i now (Pad j v ∷ xs) ys = last_value-append i (if j == i then Some v else now) xs ys
last_value-append i now (label ∷ xs) ys = last_value-append i now xs ys

-- later windows write no scratchpad of this one
windows-past : (own : SidePlan) (i n m : ℕ) (now : Option ℕ) → i < high_pad n → last_value i now (windows_from own n m) ≡ now
windows-past own i n zero now past = refl
windows-past own i n (suc m) now past =
    ap (λ o. last_value i o (windows_from own (suc n) m))
    (ap (λ b. if low_pad n == i then Some (own.size % word) else (if b then Some (own.size / word) else now)) (ne_eqb (high_pad n) i (λ e. omega arith))
    ∙ ap (λ b. if b then Some (own.size % word) else now) (ne_eqb (low_pad n) i (λ e. omega arith)))
    ∙ windows-past own i (suc n) m now (omega arith)

windows-high : (own : SidePlan) (w n m : ℕ) (now : Option ℕ) → n ≤ w → w < n + m → last_value (high_pad w) now (windows_from own n m) ≡ Some (own.size / word)
windows-high own w n zero now from below = absurd (omega arith)
windows-high own w n (suc m) now from below = elim (cases_eq n w) [
  | inl e ↦
      ap (λ o. last_value (high_pad w) o (windows_from own (suc n) m))
      (ap (λ b. if b then Some (own.size % word) else (if high_pad n == high_pad w then Some (own.size / word) else now)) (ne_eqb (low_pad n) (high_pad w) (λ x. omega arith))
      ∙ ap (λ b. if b then Some (own.size / word) else now) (eq-eqb (high_pad n) (high_pad w) (ap high_pad e)))
      ∙ windows-past own (high_pad w) (suc n) m (Some (own.size / word)) (omega arith)
  | inr ne ↦ windows-high own w (suc n) m _ (let d : n < w = grind (arith, ne) in omega arith) (omega arith)
]

windows-low : (own : SidePlan) (w n m : ℕ) (now : Option ℕ) → n ≤ w → w < n + m → last_value (low_pad w) now (windows_from own n m) ≡ Some (own.size % word)
windows-low own w n zero now from below = absurd (omega arith)
windows-low own w n (suc m) now from below = elim (cases_eq n w) [
  | inl e ↦
      ap (λ o. last_value (low_pad w) o (windows_from own (suc n) m))
      (ap (λ b. if b then Some (own.size % word) else (if high_pad n == low_pad w then Some (own.size / word) else now)) (eq-eqb (low_pad n) (low_pad w) (ap low_pad e)))
      ∙ windows-past own (low_pad w) (suc n) m (Some (own.size % word)) (omega arith)
  | inr ne ↦ windows-low own w (suc n) m _ (let d : n < w = grind (arith, ne) in omega arith) (omega arith)
]

-- a scratchpad of a window keeps what the windows left there
three-past : (own : SidePlan) (i : ℕ) (now : Option ℕ) → 3 < i → last_value i now (last_three own) ≡ now
three-past own i now past =
    ap (λ b. if 0 == i then Some own.version else (if 2 == i then Some own.queues else (if b then Some own.windows else now))) (ne_eqb 3 i (λ e. omega arith))
    ∙ ap (λ b. if 0 == i then Some own.version else (if b then Some own.queues else now)) (ne_eqb 2 i (λ e. omega arith))
    ∙ ap (λ b. if b then Some own.version else now) (ne_eqb 0 i (λ e. omega arith))

-- A whole offer leaves the version of its side in the scratchpad for it.
pub offer-version : (own : SidePlan) → last_value version_pad None (offers own) ≡ Some own.version
offer-version own = last_value-append version_pad None (windows_from own 0 own.windows) (last_three own)

-- A whole offer leaves its side's number of queues in the scratchpad for it.
pub offer-queues : (own : SidePlan) → last_value queues_pad None (offers own) ≡ Some own.queues
offer-queues own = last_value-append queues_pad None (windows_from own 0 own.windows) (last_three own)

-- A whole offer leaves its side's number of windows in the scratchpad for it.
pub offer-windows : (own : SidePlan) → last_value windows_pad None (offers own) ≡ Some own.windows
offer-windows own = last_value-append windows_pad None (windows_from own 0 own.windows) (last_three own)

-- A whole offer leaves the upper word of the windows' size in each window's scratchpad for it.
pub offer-high : (own : SidePlan) (w : ℕ) → w < own.windows → last_value (high_pad w) None (offers own) ≡ Some (own.size / word)
offer-high own w below =
    last_value-append (high_pad w) None (windows_from own 0 own.windows) (last_three own)
    ∙ three-past own (high_pad w) _ (omega arith)
    ∙ windows-high own w 0 own.windows None (omega arith) (omega arith)

-- A whole offer leaves the lower word of the windows' size in each window's scratchpad for it.
pub offer-low : (own : SidePlan) (w : ℕ) → w < own.windows → last_value (low_pad w) None (offers own) ≡ Some (own.size % word)
offer-low own w below =
    last_value-append (low_pad w) None (windows_from own 0 own.windows) (last_three own)
    ∙ three-past own (low_pad w) _ (omega arith)
    ∙ windows-low own w 0 own.windows None (omega arith) (omega arith)

-- The version comes last

abbrev no_version : Label → Bool
no_version (Pad i value) = not (i == 0)
no_version label = true

abbrev before_version : SidePlan → List Label
before_version own = windows_from own 0 own.windows ++ Pad windows_pad own.windows ∷ Pad queues_pad own.queues ∷ []

none-landed : (now : Option ℕ) (labels : List Label) → list_all no_version labels ≡ true → last_value 0 now labels ≡ now
none-landed now [] all = refl
none-landed now (Pad i value ∷ rest) all =
    let parts = and_parts (not (i == 0)) (list_all no_version rest) all in
    ap (λ b. last_value 0 (if b then Some value else now) rest) (not-true (i == 0) parts.0) ∙ none-landed now rest parts.1
none-landed now (label ∷ rest) all = none-landed now rest all

-- a list that begins one with a last item is the whole of it, or begins what is before the item
begins_cases : (landed rest init : List Label) (x : Label) → landed ++ rest ≡ init ++ x ∷ [] → (landed ≡ init ++ x ∷ []) ⊎ ((more : List Label) × (init ≡ landed ++ more))
begins_cases [] rest init x e = inr (init, refl)
begins_cases (y ∷ landed) rest [] x e = inl (last landed (cc) (cc))
  where
    last : (landed : List Label) → y ≡ x → landed ++ rest ≡ [] → y ∷ landed ≡ x ∷ []
    last [] f g = ap (λ z. z ∷ []) f
    last (z ∷ landed) f g = absurd (cc)
begins_cases (y ∷ landed) rest (z ∷ init) x e =
    let first : y ≡ z = cc in
    let others : landed ++ rest ≡ init ++ x ∷ [] = cc in
    elim (begins_cases landed rest init x others) [
      | inl whole ↦ inl (ap (λ xs. y ∷ xs) whole ∙ ap (λ w. w ∷ (init ++ x ∷ [])) first)
      | inr part ↦ inr (part.0, ap (λ xs. z ∷ xs) part.1 ∙ ap (λ w. w ∷ (landed ++ part.0)) (sym first))
    ]

offers-last : (own : SidePlan) → offers own ≡ before_version own ++ Pad version_pad own.version ∷ []
offers-last own = sym (append_assoc (windows_from own 0 own.windows) (Pad windows_pad own.windows ∷ Pad queues_pad own.queues ∷ []) (Pad version_pad own.version ∷ []))

-- what landed of an offer is the whole, if the version landed
pub whole_landed : (own : SidePlan) (landed flight : List Label) (offered : ℕ) → landed ++ flight ≡ take offered (offers own) → (last_value version_pad None landed ≡ None → ⊥) → landed ≡ offers own
whole_landed own landed flight offered order some = go (begins_cases landed (flight ++ drop offered (offers own)) (before_version own) (Pad version_pad own.version) all)
  where
    all : landed ++ (flight ++ drop offered (offers own)) ≡ before_version own ++ Pad version_pad own.version ∷ []
    all =
        sym (append_assoc landed flight (drop offered (offers own))) ∙ ap (λ xs. xs ++ drop offered (offers own)) order ∙ take-append-drop offered (offers own) ∙ offers-last own

    go : (landed ≡ before_version own ++ Pad version_pad own.version ∷ []) ⊎ ((more : List Label) × (before_version own ≡ landed ++ more)) → landed ≡ offers own
    go (inl whole) = whole ∙ sym (offers-last own)
    go (inr part) =
        absurd (some (none-landed None landed
        (all-front no_version landed part.0
        (ap (list_all no_version) (sym part.1) ∙ all-append no_version (windows_from own 0 own.windows) (Pad windows_pad own.windows ∷ Pad queues_pad own.queues ∷ []) (windows-all no_version own 0 own.windows (λ k below. (ap not (ne_eqb (high_pad k) 0 (λ e. omega arith)), ap not (ne_eqb (low_pad k) 0 (λ e. omega arith))))) refl))))
