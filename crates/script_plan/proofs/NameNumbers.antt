-- The number of a name, as a set finds it.
use Rattle.std.proofs.Common.{◌≡◌, ℕ, ◌+◌, Bool, true, false, Option, Some, None, List, [], ◌∷◌, ◌++◌, map, cond, refl, ◌∙◌, ap, arith}
use Rattle.std.proofs.lemmas.List.{map-append}
use Rattle.std.specs.Cmp.{nat_eq_equiv}
use Rattle.std.specs.Cmp.Lexicographic.{lists_equiv}
use Rattle.std.specs.List.{position, position_from, list_any}
use Rattle.std.specs.Option.{option_map}
use Rattle.std.specs.Str.{bytes_eq}
use Rattle.std.proofs.lemmas.Iterator.Adapters.{position_from-zero}
use Rattle.script_words.specs.Before.{number_named, has_name}

bytes_eq-flip : (xs ys : List ℕ) → bytes_eq xs ys ≡ bytes_eq ys xs
bytes_eq-flip xs ys = (lists_equiv nat_eq_equiv).symm xs ys

option_map-map : {X Y Z : Type 0} (f : X → Y) (g : Y → Z) (o : Option X) → option_map g (option_map f o) ≡ option_map (λ x. g (f x)) o
option_map-map f g None = refl
option_map-map f g (Some x) = refl

option_map-same : {X : Type 0} (o : Option X) → option_map (λ x. x) o ≡ o
option_map-same None = refl
option_map-same (Some x) = refl

module _ {K : Type 0} (text : K → List ℕ) (name : List ℕ) where
  counted : (i : ℕ) (keys : List K) → position_from (λ k. bytes_eq name (text k)) i keys ≡ option_map (λ n. i + n) (number_named (map text keys) name)
  counted i [] = refl
  counted i (k ∷ keys) = rw (bytes_eq-flip name (text k)) (by (bytes_eq (text k) name) (counted (i + 1) keys))
    where
      moved : option_map (λ n. (i + 1) + n) (number_named (map text keys) name) ≡ option_map (λ n. i + n) (option_map (λ n. n + 1) (number_named (map text keys) name))
      moved = elim (number_named (map text keys) name) as (λ o. option_map (λ n. (i + 1) + n) o ≡ option_map (λ n. i + n) (option_map (λ n. n + 1) o)) [ None ↦ refl | Some n ↦ ap Some (omega arith) ]

      by : (b : Bool) → position_from (λ k'. bytes_eq name (text k')) (i + 1) keys ≡ option_map (λ n. (i + 1) + n) (number_named (map text keys) name)
          → cond b (Some i) (position_from (λ k'. bytes_eq name (text k')) (i + 1) keys) ≡ option_map (λ n. i + n) (cond b (Some 0) (option_map (λ n. n + 1) (number_named (map text keys) name)))
      by true e = ap Some (omega arith)
      by false e = e ∙ moved

  zero-plus : (o : Option ℕ) → option_map (λ n. 0 + n) o ≡ o
  zero-plus None = refl
  zero-plus (Some n) = ap Some (omega arith)

  -- the place that is found in turn is the name's number, and so is the one that a set finds
  pub position_from-named : (keys : List K) → position_from (λ k. bytes_eq name (text k)) 0 keys ≡ number_named (map text keys) name
  position_from-named keys = counted 0 keys ∙ zero-plus _

  pub position-named : (keys : List K) → position (λ k. bytes_eq name (text k)) keys ≡ number_named (map text keys) name
  position-named keys = position_from-zero (λ k. bytes_eq name (text k)) keys ∙ position_from-named keys

  -- a set has the name where the names have it
  pub list_any-named : (keys : List K) → list_any (λ k. bytes_eq name (text k)) keys ≡ has_name (map text keys) name
  list_any-named [] = refl
  list_any-named (k ∷ keys) = rw (bytes_eq-flip name (text k), list_any-named keys) refl

  -- a key whose name isn't there yet goes last
  pub named-last : (keys now : List K) (k : K) (old : List (List ℕ)) → map text keys ≡ old → text k ≡ name → has_name old name ≡ false
      → now ≡ cond (list_any (λ y. bytes_eq (text k) (text y)) keys) keys (keys ++ k ∷ []) → map text now ≡ old ++ name ∷ []
  named-last keys now k old same kept absent done =
      let e : list_any (λ y. bytes_eq (text k) (text y)) keys ≡ false = rw kept (list_any-named keys ∙ (ap (λ names. has_name names name) same ∙ absent)) in
      let last : now ≡ keys ++ k ∷ [] = rw e at done in
      rw (last, map-append text keys (k ∷ []), same, kept)
