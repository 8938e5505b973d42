-- States that are found by their keys, from the last one back.
use Rattle.std.proofs.Common.{◌≡◌, ◌∙◌, ℕ, ◌+◌, ◌<◌, ◌≤◌, Bool, true, false, cond, List, [], ◌∷◌, ◌++◌, Option, None, Some, ap, arith, get_or, inl, inr, length, refl, subst, sym}
use Rattle.std.proofs.lemmas.Bool.{cases_lt}
use Rattle.std.proofs.lemmas.List.{get_or_append_left, get_or_at, length_push}
use Rattle.std.proofs.lemmas.Slice.Eq.{bytes_eq-Decides}
use Rattle.std.specs.List.{Any}
use Rattle.std.specs.Prelude.{IfSome, MatchOption}
use Rattle.std.specs.Str.{bytes_eq}
use Rattle.indexmap.specs.IndexMap.{IndexMap, get_by}
use Rattle.explore_search.specs.Chains.{AreChained, AreIndexed, HaveOthers, IsLast}
use Rattle.explore_search.specs.declared.states.State.{State}

module _ {M : Type 0} where
  -- a state that is added after all others changes nothing before it
  others_more : (states : List (State M)) (state : State M) (key : List ℕ) (from to : ℕ) → to ≤ length states → HaveOthers states key from to → HaveOthers (states ++ state ∷ []) key from to
  others_more states state key from to within others k d after before same =
      others k d after before (sym (ap (λ (state : State M). state.key.items) (get_or_append_left states (state ∷ []) d k (omega arith))) ∙ same)

  -- so the last one before a place stays the last one
  pub last_more : (states : List (State M)) (state : State M) (key : List ℕ) (count : ℕ) (found : Option ℕ) → count ≤ length states → IsLast states key count found → IsLast (states ++ state ∷ []) key count found
  last_more states state key count None within last = others_more states state key 0 count within last
  last_more states state key count (Some place) within last = (
    last.0,
    λ d. ap (λ (state : State M). state.key.items) (get_or_append_left states (state ∷ []) d place (let below = last.0 in omega arith)) ∙ last.1 d,
    others_more states state key (place + 1) count within last.2,
  )

  -- a state with another key after all others
  last_beyond : (states : List (State M)) (state : State M) (key : List ℕ) (found : Option ℕ) → (state.key.items ≡ key → ⊥) → IsLast states key (length states) found → IsLast (states ++ state ∷ []) key (length states + 1) found
  last_beyond states state key None differ last = beyond
    where
      beyond : HaveOthers (states ++ state ∷ []) key 0 (length states + 1)
      beyond k d after before same =
          elim (cases_lt k (length states)) [
            | inl earlier ↦ others_more states state key 0 (length states) (omega arith) last k d after earlier same
            | inr here ↦ differ (sym (ap (λ (state : State M). state.key.items) (get_or_at states state [] d k (omega arith))) ∙ same)
          ]
  last_beyond states state key (Some place) differ last = (
    let below = last.0 in omega arith,
    (last_more states state key (length states) (Some place) (omega arith) last).1,
    beyond,
  )
    where
      beyond : HaveOthers (states ++ state ∷ []) key (place + 1) (length states + 1)
      beyond k d after before same =
          elim (cases_lt k (length states)) [
            | inl earlier ↦ others_more states state key (place + 1) (length states) (omega arith) last.2 k d after earlier same
            | inr here ↦ differ (sym (ap (λ (state : State M). state.key.items) (get_or_at states state [] d k (omega arith))) ∙ same)
          ]

  -- a state with the key itself
  last_here : (states : List (State M)) (state : State M) (key : List ℕ) → state.key.items ≡ key → IsLast (states ++ state ∷ []) key (length states + 1) (Some (length states))
  last_here states state key same = (
    omega arith,
    λ d. ap (λ (state : State M). state.key.items) (get_or_at states state [] d (length states) refl) ∙ same,
    λ k d after before _. omega (arith, after, before),
  )

  -- of each key it is known where the last one stands, once the map has the place of the new one
  pub indexed_push : {K S : Type 0} (text : K → List ℕ) (old new : IndexMap K ℕ S) (states : List (State M)) (state : State M) (name : K) →
      AreIndexed old text states → text name ≡ state.key.items → state.before ≡ get_by (λ other. bytes_eq (text name) (text other)) old →
      ((key : K) → get_by (λ other. bytes_eq (text key) (text other)) new ≡ cond (bytes_eq (text name) (text key)) (Some (length states)) (get_by (λ other. bytes_eq (text key) (text other)) old)) →
      AreIndexed new text (states ++ state ∷ [])
  indexed_push {K} text old new states state name are named before updated =
      let size = length_push states state in
      record {
        last = λ key.
            subst (λ (count : ℕ). IsLast (states ++ state ∷ []) (text key) count (get_by (λ other. bytes_eq (text key) (text other)) new)) (sym size)
            (subst (λ (found : Option ℕ). IsLast (states ++ state ∷ []) (text key) (length states + 1) found) (sym (updated key)) (by key (bytes_eq (text name) (text key)) refl));
        chained = λ k d below.
            elim (cases_lt k (length states)) [
              | inl earlier ↦ (let here = get_or_append_left states (state ∷ []) d k earlier in
                  subst (λ (it : State M). IsLast (states ++ state ∷ []) it.key.items k it.before) (sym here)
                  (last_more states state (get_or states k d).key.items k (get_or states k d).before (omega arith) (are.chained k d earlier)))
              | inr later ↦ (let here = get_or_at states state [] d k (omega arith) in
                  let at : length states ≡ k = omega arith in
                  subst (λ (it : State M). IsLast (states ++ state ∷ []) it.key.items k it.before) (sym here)
                  (subst (λ (k : ℕ). IsLast (states ++ state ∷ []) state.key.items k state.before) at
                  (subst (λ (found : Option ℕ). IsLast (states ++ state ∷ []) state.key.items (length states) found) (sym before)
                  (subst (λ (key : List ℕ). IsLast (states ++ state ∷ []) key (length states) (get_by (λ other. bytes_eq (text name) (text other)) old)) named
                  (last_more states state (text name) (length states) (get_by (λ other. bytes_eq (text name) (text other)) old) (omega arith) (are.last name))))))
            ];
      }
    where
      by : (key : K) (equal : Bool) → bytes_eq (text name) (text key) ≡ equal →
          IsLast (states ++ state ∷ []) (text key) (length states + 1) (cond equal (Some (length states)) (get_by (λ other. bytes_eq (text key) (text other)) old))
      by key true same = last_here states state (text key) (sym named ∙ (bytes_eq-Decides (text name) (text key)).0 same)
      by key false other =
          last_beyond states state (text key) (get_by (λ other. bytes_eq (text key) (text other)) old)
          (λ same. let yes = (bytes_eq-Decides (text name) (text key)).1 (named ∙ same) in cc) (are.last key)

  -- from a place on none of the states is met
  abbrev pub NoneFrom : List (State M) → (State M → Type 0) → ℕ → Type 0
  NoneFrom states Met from = (k : ℕ) (d : State M) → from ≤ k → k < length states → Met (get_or states k d) → ⊥

  -- where a search for a state stands that goes from the last one with a key back: none after it is met
  abbrev pub StandsAt : List (State M) → List ℕ → (State M → Type 0) → Option ℕ → Type 0
  StandsAt states key Met found =
      MatchOption found (NoneFrom states Met 0) (λ place. ((d : State M) → (get_or states place d).key.items ≡ key) × NoneFrom states Met (place + 1))

  -- it goes on with the last one before a place, if none from that place on is met, nor one with another key
  pub stands_before : (states : List (State M)) (key : List ℕ) (Met : State M → Type 0) (count : ℕ) (found : Option ℕ) →
      ((k : ℕ) (d : State M) → k < length states → ((get_or states k d).key.items ≡ key → ⊥) → Met (get_or states k d) → ⊥) →
      IsLast states key count found → NoneFrom states Met count → StandsAt states key Met found
  stands_before states key Met count None differ last none = none_from
    where
      none_from : NoneFrom states Met 0
      none_from k d after below met =
          elim (cases_lt k count) [
            | inl earlier ↦ differ k d below (last k d after earlier) met
            | inr later ↦ none k d later below met
          ]
  stands_before states key Met count (Some place) differ last none = (last.1, none_from)
    where
      none_from : NoneFrom states Met (place + 1)
      none_from k d after below met =
          elim (cases_lt k count) [
            | inl earlier ↦ differ k d below (last.2 k d after earlier) met
            | inr later ↦ none k d later below met
          ]

  -- it goes on from a state that isn't met
  pub stands_on : (states : List (State M)) (key : List ℕ) (Met : State M → Type 0) (place : ℕ) (state : State M) → AreChained states → place < length states → state ≡ get_or states place state →
      ((k : ℕ) (d : State M) → k < length states → ((get_or states k d).key.items ≡ key → ⊥) → Met (get_or states k d) → ⊥) →
      StandsAt states key Met (Some place) → ((d : State M) → Met (get_or states place d) → ⊥) → StandsAt states key Met state.before
  stands_on states key Met place state chained below is differ stands not =
      stands_before states key Met place state.before differ
      (subst (λ (key : List ℕ). IsLast states key place state.before) (stands.0 state)
      (subst (λ (found : Option ℕ). IsLast states (get_or states place state).key.items place found) (ap (λ (state : State M). state.before) (sym is)) (chained place state below)))
      (λ k d after within met.
      elim (cases_lt place k) [
        | inl later ↦ stands.1 k d (omega arith) within met
        | inr here ↦ (let same : k ≡ place = omega arith in
            not d (subst (λ (k : ℕ). Met (get_or states k d)) same met))
      ])

  -- it ends where none is left
  pub stands_nowhere : (states : List (State M)) (key : List ℕ) (Met : State M → Type 0) → StandsAt states key Met None → Any Met states → ⊥
  stands_nowhere states key Met none some = none some.0 some.1 (omega arith) some.2 (subst Met (sym some.3) some.4)

-- how many places there are up to this one
abbrev pub past : Option ℕ → ℕ
past None = 0
past (Some place) = place + 1

-- the last one before a place is one of the states
pub last_within : {M : Type 0} (states : List (State M)) (key : List ℕ) (count : ℕ) (found : Option ℕ) → count ≤ length states → IsLast states key count found → IfSome found (λ place. place < length states)
last_within states key count None within last = tt
last_within states key count (Some place) within last = let below = last.0 in omega arith
