-- The parts that seats have, after the view of one seat changed.
use Rattle.std.proofs.Common.{◌≡◌, ◌≢◌, ℕ, zero, suc, List, [], ◌∷◌, ◌++◌, set, refl, sym, ap, subst, ◌∙◌, append-nil, append_assoc, Option, Some, None, inl, inr, ◌⊎◌}
use Rattle.std.specs.Prelude.{IfSome}
use Rattle.std.specs.Option.{option_to_list}
use mathlib.Core.Option.{some, some-injective, some-ne-none}
use lib.ListN.{get_elem?}
use Rattle.atomic_table.proofs.Lists.{set_else}
use Rattle.table_lane.specs.Views.{LaneView, parts_of, no_parts, first_of}

-- a list with something in it is not empty
not_empty : {A : Type 0} (xs : List A) (p : A) (ys : List A) → xs ++ (p ∷ ys) ≢ []
not_empty [] p ys e = cc
not_empty (x ∷ xs) p ys e = cc

-- one among a list of one is that one
lone : {A : Type 0} (before behind : List A) (p q : A) → before ++ (p ∷ behind) ≡ q ∷ [] → (before ≡ []) × (behind ≡ []) × (p ≡ q)
lone [] behind p q e = (refl, cc, cc)
lone (x ∷ xs) behind p q e = absurd (not_empty xs p behind cc)

-- a seat's view in the list, before and after another was put in its place
pub set_commutes : {A : Type 0} (xs : List A) (i j : ℕ) (a b : A) → j ≢ i → set (set xs i a) j b ≡ set (set xs j b) i a
set_commutes [] i j a b ne = refl
set_commutes (x ∷ xs) zero zero a b ne = absurd (ne refl)
set_commutes (x ∷ xs) zero (suc j) a b ne = refl
set_commutes (x ∷ xs) (suc i) zero a b ne = refl
set_commutes (x ∷ xs) (suc i) (suc j) a b ne = ap (λ ys. x ∷ ys) (set_commutes xs i j a b (λ e. ne (ap suc e)))

-- a part of a seat goes to one of the two that the seat is cut into
abbrev pub GoesToOne : {P : Type 0} → (LaneView → Option P) → LaneView → LaneView → LaneView → Type 0
GoesToOne part view left right = ((part left ≡ part view) × (part right ≡ None)) ⊎ ((part left ≡ None) × (part right ≡ part view))

module _ {P : Type 0} (part : LaneView → Option P) where
  -- the list of the parts around that of one seat
  around : (views : List LaneView) (id : ℕ) (view : LaneView) → get_elem? views id ≡ some view
      → (before : List P) × (behind : List P) × (parts_of part views ≡ before ++ (option_to_list (part view) ++ behind))
      × ((new : LaneView) → parts_of part (set views id new) ≡ before ++ (option_to_list (part new) ++ behind))
  around [] id view at = absurd (some-ne-none view (sym at))
  around (x ∷ xs) zero view at = ([], parts_of part xs, ap (λ v. option_to_list (part v) ++ parts_of part xs) (some-injective x view at), λ new. refl)
  around (x ∷ xs) (suc id) view at =
      let next = around xs id view at in
      let first : List P = option_to_list (part x) in
      (first ++ next.0, next.1, ap (λ ps. first ++ ps) next.2 ∙ sym (append_assoc first next.0 _), λ new. ap (λ ps. first ++ ps) (next.3 new) ∙ sym (append_assoc first next.0 _))

  -- the view changes, but not this part of it
  pub part_stays : (views : List LaneView) (id : ℕ) (view new : LaneView) → get_elem? views id ≡ some view → part new ≡ part view → parts_of part (set views id new) ≡ parts_of part views
  part_stays views id view new at same =
      let a = around views id view at in a.3 new ∙ ap (λ o. a.0 ++ (option_to_list o ++ a.1)) same ∙ sym a.2

  -- the one part is that of the seat that has it, and then the seat has what it has
  pub part_changes : (views : List LaneView) (id : ℕ) (view : LaneView) (p q : P) → get_elem? views id ≡ some view → part view ≡ Some p → parts_of part views ≡ q ∷ []
      → (p ≡ q) × ((new : LaneView) → parts_of part (set views id new) ≡ option_to_list (part new))
  part_changes views id view p q at has all =
      let a = around views id view at in
      let here : a.0 ++ (p ∷ a.1) ≡ q ∷ [] = ap (λ o. a.0 ++ (option_to_list o ++ a.1)) (sym has) ∙ sym a.2 ∙ all in
      let l = lone a.0 a.1 p q here in
      (l.2, λ new. a.3 new ∙ ap (λ b. b ++ (option_to_list (part new) ++ a.1)) l.0 ∙ ap (λ b. option_to_list (part new) ++ b) l.1 ∙ append-nil (option_to_list (part new)))

  -- a seat that has this part too has the one part
  pub part_too : (views : List LaneView) (id : ℕ) (view : LaneView) (q : P) (H : P → Type 0) → get_elem? views id ≡ some view → parts_of part views ≡ q ∷ [] → H q → IfSome (part view) H
  part_too views id view q H at all holds = by_cases (part view) refl
    where
      by_cases : (o : Option P) → part view ≡ o → IfSome o H
      by_cases None is = tt
      by_cases (Some p) is = subst H (sym (part_changes views id view p q at is all).0) holds

  -- where no seat has it, the seat whose view changes has what it has
  part_comes : (views : List LaneView) (id : ℕ) (view new : LaneView) → get_elem? views id ≡ some view → parts_of part views ≡ [] → parts_of part (set views id new) ≡ option_to_list (part new)
  part_comes views id view new at none =
      let a = around views id view at in
      let e = empty_all a.0 (option_to_list (part view)) a.1 (sym a.2 ∙ none) in
      a.3 new ∙ ap (λ b. b ++ (option_to_list (part new) ++ a.1)) e.0 ∙ ap (λ b. option_to_list (part new) ++ b) e.1 ∙ append-nil (option_to_list (part new))
    where
      empty_all : (xs ys zs : List P) → xs ++ (ys ++ zs) ≡ [] → (xs ≡ []) × (zs ≡ [])
      empty_all [] [] zs e = (refl, e)
      empty_all [] (y ∷ ys) zs e = cc
      empty_all (x ∷ xs) ys zs e = cc

  -- a new seat is the last
  pub parts_of-push : (views : List LaneView) (new : LaneView) → parts_of part (views ++ new ∷ []) ≡ parts_of part views ++ option_to_list (part new)
  parts_of-push [] new = append-nil (option_to_list (part new))
  parts_of-push (x ∷ xs) new = ap (λ ps. option_to_list (part x) ++ ps) (parts_of-push xs new) ∙ sym (append_assoc (option_to_list (part x)) (parts_of part xs) (option_to_list (part new)))

  -- a seat is cut in two: the part goes to one of both
  pub part_splits : (views : List LaneView) (id : ℕ) (view left right : LaneView) (q : P) → get_elem? views id ≡ some view → parts_of part views ≡ q ∷ []
      → GoesToOne part view left right → parts_of part (set views id left ++ right ∷ []) ≡ q ∷ []
  part_splits views id view left right q at all goes = elim goes [
    | inl stays ↦ parts_of-push (set views id left) right ∙ ap (λ o. parts_of part (set views id left) ++ option_to_list o) stays.1 ∙ append-nil (parts_of part (set views id left)) ∙ part_stays views id view left at stays.0 ∙ all
    | inr leaves ↦ parts_of-push (set views id left) right ∙ ap (λ o. parts_of part (set views id left) ++ option_to_list o) leaves.1 ∙ left_behind (part view) refl leaves.0
  ]
    where
      left_behind : (o : Option P) → part view ≡ o → part left ≡ None → parts_of part (set views id left) ++ option_to_list o ≡ q ∷ []
      left_behind None is gone = append-nil (parts_of part (set views id left)) ∙ part_stays views id view left at (gone ∙ sym is) ∙ all
      left_behind (Some p) is gone =
          let c = part_changes views id view p q at is all in
          ap (λ ps. ps ++ p ∷ []) (c.1 left ∙ ap option_to_list gone) ∙ ap (λ r. r ∷ []) c.0

  -- two seats become one
  pub part_joins : (views : List LaneView) (id other : ℕ) (view second both : LaneView) (q : P) → get_elem? views id ≡ some view → other ≢ id → get_elem? (set views id both) other ≡ some second
      → part both ≡ first_of (part view) (part second) → part no_parts ≡ None → parts_of part views ≡ q ∷ [] → parts_of part (set (set views id both) other no_parts) ≡ q ∷ []
  part_joins views id other view second both q at apart at_other takes nothing all =
      let there : get_elem? views other ≡ some second = sym (set_else views id other both apart) ∙ at_other in
      let here : get_elem? (set views other no_parts) id ≡ some view = set_else views other id no_parts (λ e. apart (sym e)) ∙ at in
      let turned = set_commutes views id other both no_parts apart in
      ap (parts_of part) turned ∙ by_second (part second) refl there here
    where
      by_second : (o : Option P) → part second ≡ o → get_elem? views other ≡ some second → get_elem? (set views other no_parts) id ≡ some view → parts_of part (set (set views other no_parts) id both) ≡ q ∷ []
      by_second None is there here =
          part_stays (set views other no_parts) id view both here (takes ∙ ap (first_of (part view)) is ∙ first_of-none (part view)) ∙ part_stays views other second no_parts there (nothing ∙ sym is) ∙ all
        where
          first_of-none : (o : Option P) → first_of o None ≡ o
          first_of-none None = refl
          first_of-none (Some p) = refl
      by_second (Some p) is there here =
          let c = part_changes views other second p q there is all in
          let none : parts_of part (set views other no_parts) ≡ [] = c.1 no_parts ∙ ap option_to_list nothing in
          let view_none : part view ≡ None = no_part (part view) refl here none in
          part_comes (set views other no_parts) id view both here none ∙ ap option_to_list (takes ∙ ap (λ o. first_of o (part second)) view_none ∙ is) ∙ ap (λ r. r ∷ []) c.0
        where
          no_part : (o : Option P) → part view ≡ o → get_elem? (set views other no_parts) id ≡ some view → parts_of part (set views other no_parts) ≡ [] → part view ≡ None
          no_part None e here none = e
          no_part (Some r) e here none =
              let a = around (set views other no_parts) id view here in
              absurd (not_empty a.0 r a.1 (ap (λ o. a.0 ++ (option_to_list o ++ a.1)) (sym e) ∙ sym a.2 ∙ none))
