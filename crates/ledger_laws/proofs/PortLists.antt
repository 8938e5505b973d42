-- What a change of one switch is for the lists of each port.
use Rattle.std.proofs.Common.{◌≡◌, ℕ, zero, suc, List, [], ◌∷◌, ◌++◌, Some, map, drop, refl, sym, ap, ◌∙◌, subst, inl, inr, ◌⊎◌}
use Rattle.std.specs.Prelude.{slice_get, slice_index_or, slice_set}
use Rattle.pair_model.specs.Switch.{Switch, flooded, forwarded, list_of, new_switch}
use Rattle.pair_model.specs.declared.RelayAnswer.{RelayAnswer}
use Rattle.pair_model.specs.declared.RelayAnswer.TheVariants.{Nothing, Short, Filtered, To, Flood}
use Rattle.ledger_model.specs.Ports.{Port, switch_of, with_switch}

-- an item once one was set
module _ {A : Type 0} where
  pub get-set_cases : (Q : A → Type 0) (xs : List A) (i j : ℕ) (x d : A) → Q (slice_index_or xs j d) → (j ≡ i → Q x) → Q (slice_index_or (slice_set xs i x) j d)
  get-set_cases Q [] i j x d same new = same
  get-set_cases Q (y ∷ xs) zero zero x d same new = new refl
  get-set_cases Q (y ∷ xs) zero (suc j) x d same new = same
  get-set_cases Q (y ∷ xs) (suc i) zero x d same new = same
  get-set_cases Q (y ∷ xs) (suc i) (suc j) x d same new = get-set_cases Q xs i j x d same (λ e. new (ap (λ n. suc n) e))

  pub get-set_there : (xs : List A) (i : ℕ) (x d : A) → (slice_index_or (slice_set xs i x) i d ≡ x) ⊎ (slice_index_or xs i d ≡ d)
  get-set_there [] i x d = inr refl
  get-set_there (y ∷ xs) zero x d = inl refl
  get-set_there (y ∷ xs) (suc i) x d = get-set_there xs i x d

  pub first_first : (xs : List A) (x : A) → slice_get xs 0 ≡ Some x → xs ≡ x ∷ drop 1 xs
  first_first [] x e = absurd (cc)
  first_first (y ∷ xs) x e = ap (λ z. z ∷ xs) (let f : Some y ≡ Some x = e in cc)

abbrev pub lists_at : {F : Type 0} → (Switch F → List (List F)) → List (Switch F) → Port → List F
lists_at read switches port = list_of (read (switch_of switches port)) port.place

module _ {F : Type 0} (read : Switch F → List (List F)) (switches : List (Switch F)) (port : Port) (after : Switch F) where
  -- another switch, or another port of it, keeps its list
  pub list-set : (xs : List F) → read after ≡ slice_set (read (switch_of switches port)) port.place xs → (other : Port)
      → (lists_at read (with_switch switches port after) other ≡ lists_at read switches other) ⊎ ((other ≡ port) × (lists_at read (with_switch switches port after) other ≡ xs))
  list-set xs e other =
      get-set_cases (λ s. (list_of (read s) other.place ≡ lists_at read switches other) ⊎ ((other ≡ port) × (list_of (read s) other.place ≡ xs)))
      switches port.switch other.switch after (new_switch 0) (inl refl)
      (λ here. subst (λ lists. (list_of lists other.place ≡ lists_at read switches other) ⊎ ((other ≡ port) × (list_of lists other.place ≡ xs))) (sym e)
      (get-set_cases (λ list. (list ≡ lists_at read switches other) ⊎ ((other ≡ port) × (list ≡ xs)))
      (read (switch_of switches port)) port.place other.place xs []
      (inl (ap (λ k. list_of (read (slice_index_or switches k (new_switch 0))) other.place) (sym here)))
      (λ place. inr (ap (λ k. record { switch = k; place = other.place }) here ∙ ap (λ k. record { switch = port.switch; place = k }) place, refl))))

  pub list-kept : read after ≡ read (switch_of switches port) → (other : Port) → lists_at read (with_switch switches port after) other ≡ lists_at read switches other
  list-kept e other =
      get-set_cases (λ s. list_of (read s) other.place ≡ lists_at read switches other) switches port.switch other.switch after (new_switch 0) refl
      (λ here. ap (λ lists. list_of lists other.place) e ∙ ap (λ k. list_of (read (slice_index_or switches k (new_switch 0))) other.place) (sym here))

  -- the port itself has the list that was set, if it had a frame before
  pub list-there : (xs : List F) → read after ≡ slice_set (read (switch_of switches port)) port.place xs → (frame : F) (rest : List F) → lists_at read switches port ≡ frame ∷ rest
      → read (new_switch 0) ≡ [] → lists_at read (with_switch switches port after) port ≡ xs
  list-there xs e frame rest some none = elim (get-set_there switches port.switch after (new_switch 0)) [
    | inl there ↦ ap (λ s. list_of (read s) port.place) there ∙ ap (λ lists. list_of lists port.place) e ∙ within (get-set_there (read (switch_of switches port)) port.place xs [])
    | inr past ↦ absurd (let f = ap (λ s. list_of (read s) port.place) past ∙ ap (λ lists. list_of lists port.place) none in cc)
  ]
    where
      within : (slice_index_or (slice_set (read (switch_of switches port)) port.place xs) port.place [] ≡ xs) ⊎ (slice_index_or (read (switch_of switches port)) port.place [] ≡ [])
          → list_of (slice_set (read (switch_of switches port)) port.place xs) port.place ≡ xs
      within (inl is) = is
      within (inr empty) = absurd (cc)

-- where a frame goes, each list of waiting frames is as it was, or has it as its last
module _ {F : Type 0} (frame : F) where
  abbrev pub MayJoin : List F → List F → Type 0
  MayJoin before after = (after ≡ before) ⊎ (after ≡ before ++ frame ∷ [])

  each_joins : (lists : List (List F)) (place : ℕ) → MayJoin (list_of lists place) (list_of (map (λ list. list ++ frame ∷ []) lists) place)
  each_joins [] place = inl refl
  each_joins (list ∷ lists) zero = inr refl
  each_joins (list ∷ lists) (suc place) = each_joins lists place

  flooded_joins : (lists : List (List F)) (port place : ℕ) → MayJoin (list_of lists place) (list_of (flooded lists port frame) place)
  flooded_joins [] port place = inl refl
  flooded_joins (list ∷ lists) zero zero = inl refl
  flooded_joins (list ∷ lists) zero (suc place) = each_joins lists place
  flooded_joins (list ∷ lists) (suc port) zero = inr refl
  flooded_joins (list ∷ lists) (suc port) (suc place) = flooded_joins lists port place

  forwarded_joins : (lists : List (List F)) (port : ℕ) (answer : RelayAnswer) (place : ℕ) → MayJoin (list_of lists place) (list_of (forwarded lists port frame answer) place)
  forwarded_joins lists port Nothing place = inl refl
  forwarded_joins lists port (Short len) place = inl refl
  forwarded_joins lists port Filtered place = inl refl
  forwarded_joins lists port (To target) place =
      get-set_cases (MayJoin (list_of lists place)) lists target place (list_of lists target ++ frame ∷ []) [] (inl refl) (λ e. inr (ap (λ k. list_of lists k ++ frame ∷ []) (sym e)))
  forwarded_joins lists port (Flood count) place = flooded_joins lists port place

  pub waiting-forwarded : (switches : List (Switch F)) (port : Port) (after : Switch F) (answer : RelayAnswer) → after.waiting ≡ forwarded (switch_of switches port).waiting port.place frame answer
      → (other : Port) → MayJoin (lists_at (λ s. s.waiting) switches other) (lists_at (λ s. s.waiting) (with_switch switches port after) other)
  waiting-forwarded switches port after answer e other =
      get-set_cases (λ s. MayJoin (lists_at (λ s. s.waiting) switches other) (list_of s.waiting other.place)) switches port.switch other.switch after (new_switch 0) (inl refl)
      (λ here. subst (λ k. MayJoin (list_of (slice_index_or switches k (new_switch 0)).waiting other.place) (list_of after.waiting other.place)) (sym here)
      (subst (λ lists. MayJoin (list_of (switch_of switches port).waiting other.place) (list_of lists other.place)) (sym e)
      (forwarded_joins (switch_of switches port).waiting port.place answer other.place)))
