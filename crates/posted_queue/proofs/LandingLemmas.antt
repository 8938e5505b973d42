-- When the write at a place in flight may land: where it is relaxed, or no write before it has its class.
use Rattle.std.proofs.Common.{◌≡◌, ◌≢◌, ℕ, zero, suc, ◌<◌, ◌≤◌, Bool, true, false, ◌==◌, ◌&&◌, ◌||◌, not, List, [], ◌∷◌, length, take, map, Option, Some, None, option_map, slice_get, if◌then◌else◌, refl, sym, ap, ⊎_elim, ◌∙◌, arith}
use Rattle.std.specs.List.{list_all, remove}
use Rattle.std.proofs.lemmas.Bool.{eq-eqb, ne_eqb, cases_eq}
use Rattle.std.proofs.lemmas.List.{take-map}
use Rattle.std.proofs.lemmas.List.Folds.{list_all-map}
use Rattle.std.proofs.lemmas.Option.{none-some, slice_get-map, slice_get_past}
use Rattle.order_rules.specs.Order.{Order, relaxed, passes, lands_behind, may_land}
use Rattle.posted_queue.specs.Rows.{is_held_back}
use Rattle.posted_queue.specs.Waiting.{class_awaited}
use Rattle.posted_queue.specs.Landing.{answer_for, land_answer, flight_after_landing}
use Rattle.posted_queue.specs.declared.LandAnswer.TheVariants.{Landed, Blocked}

-- the write at a place may land where it passes each write before it
pub may_land-map : {W : Type 0} (order : W → Order) (writes : List W) (place : ℕ) (write : W) → slice_get writes place ≡ Some write → may_land (map order writes) place ≡ list_all (λ earlier. passes (order write) (order earlier)) (take place writes)
may_land-map order writes place write at =
    ap (λ found. lands_behind found (take place (map order writes))) (slice_get-map order writes place ∙ ap (option_map order) at)
    ∙ ap (list_all (passes (order write))) (take-map order place writes)
    ∙ list_all-map (passes (order write)) order (take place writes)

-- no write stands at a place past the end
pub may_land-past : {W : Type 0} (order : W → Order) (writes : List W) (place : ℕ) → length writes ≤ place → may_land (map order writes) place ≡ false
may_land-past order writes place past =
    ap (λ found. lands_behind found (take place (map order writes))) (slice_get-map order writes place ∙ ap (option_map order) (slice_get_past writes place past))

-- two numbers are equal either way round
eqb-swap : (a b : ℕ) → (a == b) ≡ (b == a)
eqb-swap a b = ⊎_elim (λ (e : a ≡ b). eq-eqb a b e ∙ sym (eq-eqb b a (sym e))) (λ (ne : a ≢ b). ne_eqb a b ne ∙ sym (ne_eqb b a (λ e. ne (sym e)))) (cases_eq a b)

-- it passes each if and only if nothing that it waits for stands before it
pub passes_all : {W : Type 0} (order : W → Order) (write : W) (before : List W) → list_all (λ earlier. passes (order write) (order earlier)) before ≡ not (is_held_back order (class_awaited (order write)) before)
passes_all {W = W} order write before = by_kind ((order write).kind == relaxed) before
  where
    both : (a b : Bool) → (not a && not b) ≡ not (a || b)
    both true b = refl
    both false b = refl

    by_kind : (is_relaxed : Bool) (before : List W) → list_all (λ earlier. is_relaxed || not ((order write).class == (order earlier).class)) before ≡ not (is_held_back order (if is_relaxed then None else Some (order write).class) before)
    by_kind true [] = refl
    by_kind true (x ∷ xs) = by_kind true xs
    by_kind false [] = refl
    by_kind false (x ∷ xs) =
        ap (λ b. not b && list_all (λ earlier. not ((order write).class == (order earlier).class)) xs) (eqb-swap (order write).class (order x).class)
        ∙ ap (λ rest. not ((order x).class == (order write).class) && rest) (by_kind false xs)
        ∙ both ((order x).class == (order write).class) (is_held_back order (Some (order write).class) xs)

-- The write at a place may land if and only if no write before it has the class that it waits for.
pub may_land-awaited : {W : Type 0} (order : W → Order) (writes : List W) (place : ℕ) (write : W) → slice_get writes place ≡ Some write → may_land (map order writes) place ≡ not (is_held_back order (class_awaited (order write)) (take place writes))
may_land-awaited order writes place write at = may_land-map order writes place write at ∙ passes_all order write (take place writes)

-- the same of what is found out about the write at a place
pub may_land-found : {W : Type 0} (order : W → Order) (writes : List W) (place : ℕ) (write : W) (waits_for : Option ℕ) → slice_get writes place ≡ Some write → waits_for ≡ class_awaited (order write) → not (is_held_back order waits_for (take place writes)) ≡ may_land (map order writes) place
may_land-found order writes place write waits_for at awaited =
    ap (λ class. not (is_held_back order class (take place writes))) awaited ∙ sym (may_land-awaited order writes place write at)

-- a write is there within the list
pub none_within : {W : Type 0} (writes : List W) (place : ℕ) → place < length writes → None ≡ slice_get writes place → ⊥
none_within [] place within none = omega arith
none_within (x ∷ xs) zero within none = none-some x none
none_within (x ∷ xs) (suc place) within none = none_within xs place (omega arith) none

-- a write that may land lands, and is taken out
pub landed : {W : Type 0} (order : W → Order) (writes : List W) (spare place : ℕ) (write : W) (held_back : Bool) → not held_back ≡ may_land (map order writes) place → slice_get writes place ≡ Some write → false ≡ held_back → (Landed write ≡ land_answer order (record { writes = writes; spare = spare }) place) × (record { writes = remove writes place; spare = spare } ≡ flight_after_landing order (record { writes = writes; spare = spare }) place)
landed order writes spare place write held_back found taken free = (
  sym (ap (λ there. answer_for there (may_land (map order writes) place)) taken ∙ ap (answer_for (Some write)) lands),
  sym (ap (λ may. if may then record { writes = remove writes place; spare = spare } else record { writes = writes; spare = spare }) lands),
)
  where
    lands : may_land (map order writes) place ≡ true
    lands = sym found ∙ ap not (sym free)

-- a write that is there and may not land is blocked
answer_for-blocked : {W : Type 0} (writes : List W) (place : ℕ) → place < length writes → answer_for (slice_get writes place) false ≡ Blocked
answer_for-blocked [] place within = absurd (omega arith)
answer_for-blocked (x ∷ xs) zero within = refl
answer_for-blocked (x ∷ xs) (suc place) within = answer_for-blocked xs place (omega arith)

-- a write that is held back is blocked, and all stays
pub blocked : {W : Type 0} (order : W → Order) (writes : List W) (spare place : ℕ) (held_back : Bool) → not held_back ≡ may_land (map order writes) place → place < length writes → true ≡ held_back → (Blocked ≡ land_answer order (record { writes = writes; spare = spare }) place) × (record { writes = writes; spare = spare } ≡ flight_after_landing order (record { writes = writes; spare = spare }) place)
blocked order writes spare place held_back found within held = (
  sym (ap (answer_for (slice_get writes place)) stays ∙ answer_for-blocked writes place within),
  sym (ap (λ may. if may then record { writes = remove writes place; spare = spare } else record { writes = writes; spare = spare }) stays),
)
  where
    stays : may_land (map order writes) place ≡ false
    stays = sym found ∙ ap not (sym held)
