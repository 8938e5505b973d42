-- A layer whose states are closed under landings, group by group, and counted.
use Rattle.std.specs.Prelude.{◌≡◌, ℕ, ◌+◌, ◌<◌, ◌≤◌, List, MatchOption, Option, length, slice_index_or, sum_by, take}
use Rattle.step_kinds.specs.declared.plan.Plan.{Plan}
use Rattle.step_kinds.specs.declared.steps.Step.{Step}
use Rattle.explore_search.specs.Spread.{AreClosed}
use Rattle.explore_search.specs.States.{HaveGrown}
use Rattle.explore_search.specs.declared.layers.Group.{Group}

-- how many states groups have
abbrev pub states_in : {M : Type 0} → List (Group M) → ℕ
states_in groups = sum_by (λ group. length group.states) groups

module _ {M : Type 0} (has_made : M → Plan → List Step → Type 0) (plan_held : M → Plan) (key_of : M → List ℕ) (plan : Plan) (done : ℕ) where
  -- states were added to a group
  pub record GroupGrown (old new : Group M) : Type 0 where
    pub named : new.answers ≡ old.answers
    pub grown : HaveGrown has_made plan_held key_of plan done old.states new.states

  -- and then it is closed, and has this many states, or it has no room for them
  abbrev pub GroupClosed : Group M → ℕ → Option ℕ → Type 0
  GroupClosed group room found =
      MatchOption found (room < length group.states)
      (λ count. (count ≡ length group.states) × (count ≤ room) × AreClosed has_made plan done group.states)

  -- states were added to the groups of a layer, and the first of them are closed
  pub record ClosedUpTo (count : ℕ) (old new : List (Group M)) : Type 0 where
    pub size : length new ≡ length old
    pub grown : (k : ℕ) (d : Group M) → k < length old → GroupGrown (slice_index_or old k d) (slice_index_or new k d)
    pub closed : (k : ℕ) (d : Group M) → k < count → AreClosed has_made plan done (slice_index_or new k d).states

  -- the layer is closed, and has this many states with those that were counted before; or there are more than the limit
  abbrev pub LayerClosed : ℕ → ℕ → List (Group M) → List (Group M) → Option ℕ → Type 0
  LayerClosed before limit old new found =
      MatchOption found ((n : ℕ) × (n < length new) × ClosedUpTo n old new × (limit < before + states_in (take (n + 1) new)))
      (λ count. ClosedUpTo (length old) old new × (count ≡ before + states_in new) × (count ≤ limit))
