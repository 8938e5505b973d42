-- States that have one key: of each, if the last one before it stands.
use Rattle.std.specs.Prelude.{◌≡◌, ℕ, ◌+◌, ◌<◌, ◌≤◌, List, [], ◌∷◌, ◌++◌, MatchOption, Option, length, slice_index_or}
use Rattle.std.specs.Str.{bytes_eq}
use Rattle.indexmap.specs.IndexMap.{IndexMap, get_by}
use Rattle.explore_model.specs.declared.outcome.Landing.{Landing}
use Rattle.explore_search.specs.declared.states.State.{State}

module _ {M : Type 0} where
  -- no state from one place on, up to another, has this key
  abbrev pub HaveOthers : List (State M) → List ℕ → ℕ → ℕ → Type 0
  HaveOthers states key from to = (k : ℕ) (d : State M) → from ≤ k → k < to → (slice_index_or states k d).key.items ≡ key → ⊥

  -- where the last of the first `count` states with this key stands, if there is one
  abbrev pub IsLast : List (State M) → List ℕ → ℕ → Option ℕ → Type 0
  IsLast states key count found =
      MatchOption found (HaveOthers states key 0 count)
      (λ place. (place < count) × ((d : State M) → (slice_index_or states place d).key.items ≡ key) × HaveOthers states key (place + 1) count)

  -- each state knows where the last one before it with its key stands
  abbrev pub AreChained : List (State M) → Type 0
  AreChained states =
      (k : ℕ) (d : State M) → k < length states → IsLast states (slice_index_or states k d).key.items k (slice_index_or states k d).before

  -- and a map has of each key where the last one stands
  pub record AreIndexed {K S : Type 0} (places : IndexMap K ℕ S) (text : K → List ℕ) (states : List (State M)) : Type 0 where
    pub last : (key : K) → IsLast states (text key) (length states) (get_by (λ name. bytes_eq (text key) (text name)) places)
    pub chained : AreChained states

  -- a state with this path, key and machine was added at the end
  pub record HasPushed (landings : List Landing) (key : List ℕ) (machine : Option M) (old new : List (State M)) : Type 0 where
    pub state : State M
    pub is : new ≡ old ++ state ∷ []
    pub landings_are : state.landings.items ≡ landings
    pub key_is : state.key.items ≡ key
    pub machine_is : state.machine ≡ machine
