-- Lists in flight: what stands at a place, and what is left.
use Rattle.std.proofs.Common.{◌≡◌, ℕ, zero, suc, ◌+◌, ◌<◌, Bool, true, false, ◌&&◌, Some, List, [], ◌∷◌, ◌++◌, length, map, take, drop, remove, slice_get, get_or, is_some, unwrap_or, refl, sym, ap, subst, ◌∙◌, All, add-one, arith}
use Rattle.std.specs.List.{list_all, sum_by}
use Rattle.std.proofs.Math.ListN.{get_or-map}
use Rattle.read_path.specs.InFlight.{PathFlying, Part, parts_from}
use Rattle.read_path.specs.Flights.{path_flying_of}
use Rattle.read_path.specs.declared.flight.InFlight.{InFlight}
use Rattle.std.proofs.lemmas.List.{take-map, drop-map, map-append}
use Rattle.std.proofs.lemmas.Bool.{false≢true}
use Rattle.std.proofs.lemmas.List.Sums.{sum_by-append}
use Rattle.std.proofs.lemmas.List.Elements.{All-append, All-take, All-drop}

and_false : (a : Bool) → (a && false) ≡ false
and_false true = refl
and_false false = refl

-- where one of the first this many fails a test, not all of them pass it
pub one_fails : {X : Type 0} (p : X → Bool) (xs : List X) (place count : ℕ) (d : X) → place < count → place < length xs → p (get_or xs place d) ≡ false → list_all p (take count xs) ≡ false
one_fails p [] place count d before within fails = absurd (omega (arith, within))
one_fails p (x ∷ xs) place zero d before within fails = absurd (omega (arith, before))
one_fails p (x ∷ xs) zero (suc count) d before within fails = ap (λ b. b && list_all p (take count xs)) fails
one_fails p (x ∷ xs) (suc place) (suc count) d before within fails =
    ap (λ b. p x && b) (one_fails p xs place count d (omega (arith, before)) (omega (arith, within)) fails) ∙ and_false (p x)

-- Mapping a list without the element at a place gives the mapped list without the element at that place.
pub map-remove : {X Y : Type 0} (f : X → Y) (xs : List X) (place : ℕ) → map f (remove xs place) ≡ remove (map f xs) place
map-remove f xs place =
    map-append f (take place xs) (drop (suc place) xs)
    ∙ (ap (λ l. l ++ map f (drop (suc place) xs)) (sym (take-map f place xs)) ∙ ap (λ l. take place (map f xs) ++ l) (sym (drop-map f (suc place) xs)))

-- a list with what stands at a place of it
pub split_there : {X : Type 0} (xs : List X) (place : ℕ) (x : X) → slice_get xs place ≡ Some x → xs ≡ take place xs ++ x ∷ drop (suc place) xs
split_there {X} [] place x is = absurd (false≢true (ap is_some is))
split_there (y ∷ xs) zero x is = ap (λ o. unwrap_or o x ∷ xs) is
split_there (y ∷ xs) (suc place) x is = ap (λ l. y ∷ l) (split_there xs place x is)

-- What holds of all elements of a list holds of all that are left when one is removed.
pub All-remove : {X : Type 0} (P : X → Type 0) (xs : List X) (place : ℕ) → All P xs → All P (remove xs place)
All-remove P xs place all = All-append P (take place xs) (drop (suc place) xs) (All-take P place xs all) (All-drop P (suc place) xs all)

-- what is counted of the rest, and of what is taken out
pub sum_by-remove : {X : Type 0} (f : X → ℕ) (xs : List X) (place : ℕ) (x : X) → slice_get xs place ≡ Some x → sum_by f (remove xs place) + f x ≡ sum_by f xs
sum_by-remove f xs place x there =
    let before = take place xs in
    let after = drop (suc place) xs in
    let all : sum_by f xs ≡ sum_by f before + sum_by f (x ∷ after) = ap (sum_by f) (split_there xs place x there) ∙ sum_by-append f before (x ∷ after) in
    let one : sum_by f (x ∷ after) ≡ sum_by f (x ∷ []) + sum_by f after = sum_by-append f (x ∷ []) after in
    let rest : sum_by f (remove xs place) ≡ sum_by f before + sum_by f after = sum_by-append f before after in
    omega (arith, all, one, rest)

-- What holds of an element holds of all elements of the list of it alone.
pub All-one : {X : Type 0} (P : X → Type 0) (x : X) → P x → All P (x ∷ [])
All-one {X = X} P x has = λ k d within. at_place k d within has where
  at_place : (k : ℕ) (d : X) → k < 1 → P x → P (get_or (x ∷ []) k d)
  at_place zero d within has = has
  at_place (suc k) d within has = absurd (omega (arith, within))

-- an item has what all have
pub All-there : {X : Type 0} (P : X → Type 0) (xs : List X) (place : ℕ) (x : X) → All P xs → slice_get xs place ≡ Some x → P x
All-there P [] place x all is = absurd (false≢true (ap is_some is))
All-there P (y ∷ xs) zero x all is = subst P (ap (λ o. unwrap_or o x) is) (all zero x (omega arith))
All-there P (y ∷ xs) (suc place) x all is = All-there P xs place x (λ k d within. all (suc k) d (omega (arith, within))) is

-- Completions

parts_from_more : (number part count : ℕ) → parts_from number part (count + 1) ≡ parts_from number part count ++ Part number (part + count) ∷ []
parts_from_more number part count = subst (λ (n : ℕ). parts_from number part n ≡ parts_from number part count ++ Part number (part + count) ∷ []) (sym (add-one count)) (by_count part count) where
  by_count : (part count : ℕ) → parts_from number part (suc count) ≡ parts_from number part count ++ Part number (part + count) ∷ []
  by_count part zero = ap (λ (n : ℕ). Part number n ∷ []) (omega arith)
  by_count part (suc count) =
      ap (λ (l : List PathFlying). Part number part ∷ l) (by_count (part + 1) count ∙ ap (λ (n : ℕ). parts_from number (part + 1) count ++ Part number n ∷ []) (omega arith))

-- The first n+1 completions of a read, the last one aside, are the first n and then the one of part n.
pub parts_more : (number count : ℕ) → parts_from number 0 (count + 1) ≡ parts_from number 0 count ++ Part number count ∷ []
parts_more number count = parts_from_more number 0 count ∙ ap (λ (n : ℕ). parts_from number 0 count ++ Part number n ∷ []) (omega arith)

-- what stands at a place of a list, seen as the definitions see it
pub seen_there : (items : List InFlight) (flying : List PathFlying) (place : ℕ) (x : InFlight) → map path_flying_of items ≡ flying → x ≡ get_or items place x → get_or flying place (path_flying_of x) ≡ path_flying_of x
seen_there items flying place x same is = ap (λ (l : List PathFlying). get_or l place (path_flying_of x)) (sym same) ∙ (get_or-map path_flying_of items place x ∙ ap path_flying_of (sym is))
