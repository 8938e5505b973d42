-- The writes of a side go in step with what it has in flight: the number of each is the place of its label among those
-- posted.
use Rattle.std.proofs.Common.{◌≡◌, ℕ, zero, suc, Bool, true, false, cond, Option, Some, List, [], ◌∷◌, ◌++◌, length, map, refl, sym, ap, ◌∙◌, subst, append_assoc, arith, length-append}
use Rattle.std.specs.Prelude.{drop, filter, if◌then◌else◌, remove, slice_get, take}
use Rattle.std.specs.List.{drop-map, fold, take-map}
use Rattle.std.proofs.lemmas.List.{append-nil, map-append}
use Rattle.std.proofs.lemmas.List.Elements.{filter-append}
use Rattle.std.proofs.lemmas.List.Sums.{fold-append}
use Rattle.step_kinds.specs.declared.steps.Label.{Label}
use Rattle.posted_queue.proofs.Facade.{slice_get-append_far}
use Rattle.pair_model.specs.Orders.{class_of}
use Rattle.trace_command.specs.Writes.{SideWrites, with_dropped, trace_with_landed, trace_with_posted}
use Rattle.trace_command.specs.declared.writes.FlyingWrite.{FlyingWrite}

-- Lists

-- What holds of the empty list, and of a list with one more where it holds of the list, holds of each.
pub each_longer : {X : Type 0} (P : List X → Type 0) → P [] → ((xs : List X) (x : X) → P xs → P (xs ++ x ∷ [])) → (xs : List X) → P xs
each_longer {X = X} P first next xs = go [] xs first
  where
    go : (done rest : List X) → P done → P (done ++ rest)
    go done [] now = subst P (sym (append-nil done)) now
    go done (x ∷ rest) now = subst P (append_assoc done (x ∷ []) rest) (go (done ++ x ∷ []) rest (next done x now))

-- What is folded over the elements that are kept, with one element more, which may be kept too.
pub fold_filter-last : {X Y : Type 0} (f : Y → X → Y) (start : Y) (keeps : X → Bool) (xs : List X) (x : X)
    → fold f start (filter keeps (xs ++ x ∷ [])) ≡ (if keeps x then f (fold f start (filter keeps xs)) x else fold f start (filter keeps xs))
fold_filter-last {Y = Y} f start keeps xs x =
    ap (fold f start) (filter-append keeps xs (x ∷ [])) ∙ fold-append f start (filter keeps xs) (filter keeps (x ∷ [])) ∙ go (keeps x) (fold f start (filter keeps xs))
  where
    go : (b : Bool) (now : Y) → fold f now (cond b (x ∷ []) []) ≡ (if b then f now x else now)
    go true now = refl
    go false now = refl

-- what is found in one list is found in a longer one
found_more : {X Y : Type 0} (f g : X → Option Y) (xs : List X) (ys : List Y) → map f xs ≡ map Some ys → ((x : X) (y : Y) → f x ≡ Some y → g x ≡ Some y) → map g xs ≡ map Some ys
found_more f g [] [] e more = refl
found_more f g [] (y ∷ ys) e more = absurd (cc)
found_more f g (x ∷ xs) [] e more = absurd (cc)
found_more f g (x ∷ xs) (y ∷ ys) e more =
    let first : f x ≡ Some y = cc in
    let rest : map f xs ≡ map Some ys = cc in
    λ i. more x y first i ∷ found_more f g xs ys rest more i

-- what stands in a list stands in a longer one
get-longer : {X : Type 0} (xs ys : List X) (n : ℕ) (x : X) → slice_get xs n ≡ Some x → slice_get (xs ++ ys) n ≡ Some x
get-longer [] ys n x e = absurd (cc)
get-longer (first ∷ xs) ys zero x e = e
get-longer (first ∷ xs) ys (suc n) x e = get-longer xs ys n x e

-- what is read of each element left
pub map-remove : {X Y : Type 0} (f : X → Y) (xs : List X) (place : ℕ) → map f (remove xs place) ≡ remove (map f xs) place
map-remove f xs place = map-append f (take place xs) (drop (suc place) xs) ∙ (λ i. sym (take-map f place xs) i ++ sym (drop-map f (suc place) xs) i)

-- The writes of a side

-- a side's writes by the labels that it has in flight, and by all that it posted while the link was up
pub record SideInStep (classes : List ℕ) (own : SideWrites) (flight labels : List Label) : Type 0 where
  pub posted : own.posted ≡ length labels
  pub numbers : map (λ (w : FlyingWrite). slice_get labels w.number) own.flight ≡ map Some flight
  pub classes_there : map (λ (w : FlyingWrite). w.class) own.flight ≡ map (class_of classes) flight

module _ (classes : List ℕ) (own : SideWrites) (flight labels : List Label) (now : SideInStep classes own flight labels) where
  -- one write more
  pub posted_in_step : (class : ℕ) (label : Label) → class_of classes label ≡ class → SideInStep classes (trace_with_posted own class) (flight ++ label ∷ []) (labels ++ label ∷ [])
  posted_in_step class label is = record {
    posted = omega (arith, now.posted, length-append labels (label ∷ []));
    numbers =
        map-append (λ (w : FlyingWrite). slice_get (labels ++ label ∷ []) w.number) own.flight (record { number = own.posted; class = class } ∷ [])
        ∙ (λ i. found_more (λ (w : FlyingWrite). slice_get labels w.number) (λ (w : FlyingWrite). slice_get (labels ++ label ∷ []) w.number) own.flight flight now.numbers
        (λ w x at. get-longer labels (label ∷ []) w.number x at) i ++ last i ∷ [])
        ∙ sym (map-append Some flight (label ∷ []));
    classes_there =
        map-append (λ (w : FlyingWrite). w.class) own.flight (record { number = own.posted; class = class } ∷ [])
        ∙ (λ i. now.classes_there i ++ sym is i ∷ [])
        ∙ sym (map-append (class_of classes) flight (label ∷ []));
  }
    where
      last : slice_get (labels ++ label ∷ []) own.posted ≡ Some label
      last = slice_get-append_far labels (label ∷ []) own.posted 0 (omega (arith, now.posted))

  -- one write landed
  pub landed_in_step : (place : ℕ) → SideInStep classes (trace_with_landed own place) (remove flight place) labels
  landed_in_step place = record {
    posted = now.posted;
    numbers =
        map-remove (λ (w : FlyingWrite). slice_get labels w.number) own.flight place ∙ ap (λ found. remove found place) now.numbers ∙ sym (map-remove Some flight place);
    classes_there =
        map-remove (λ (w : FlyingWrite). w.class) own.flight place ∙ ap (λ found. remove found place) now.classes_there ∙ sym (map-remove (class_of classes) flight place);
  }

  -- all were dropped
  pub dropped_in_step : SideInStep classes (with_dropped own) [] labels
  dropped_in_step = record { posted = now.posted; numbers = refl; classes_there = refl }
