-- What the closing of a layer does to the outcomes, for the count of states, and for the next layer.
use Rattle.std.proofs.Common.{◌≡◌, ◌∙◌, ℕ, ◌+◌, ◌<◌, ◌≤◌, List, Option, Some, arith, length, map, subst, sym, take}
use Rattle.std.proofs.lemmas.List.{length-map}
use Rattle.step_kinds.specs.declared.plan.Line.{Line}
use Rattle.step_kinds.specs.declared.plan.Plan.{Plan}
use Rattle.step_kinds.specs.declared.steps.Step.{Step}
use Rattle.explore_model.specs.Outcomes.{IsExplored}
use Rattle.explore_model.specs.States.{HasMoreThan, IsCensus}
use Rattle.explore_model.specs.declared.outcome.Outcome.{Outcome}
use Rattle.explore_search.specs.Closing.{ClosedUpTo, LayerClosed, states_in}
use Rattle.explore_search.specs.Layers.{HasNext}
use Rattle.explore_search.specs.Paths.{search_script_of}
use Rattle.explore_search.specs.Results.{outcome_of}
use Rattle.explore_search.specs.Whole.{IsBased, IsCount, IsFull}
use Rattle.explore_search.specs.declared.layers.Group.{Group}
use Rattle.explore_search.proofs.Census.{census_of_count, count_of_layer, more_than}
use Rattle.explore_search.proofs.ClosedLayers.{none_found}
use Rattle.explore_search.proofs.WholeLayers.{based_of_next, explored_of_based, full_of_closed, layer_grown}

module _ {M : Type 0} (has_made : M → Plan → List Step → Type 0) (plan_held : M → Plan) (key_of : M → List ℕ) (plan : Plan) (done : ℕ) where
  -- the layer had room: it is full, and its states are counted
  pub full_of_some : (before limit count : ℕ) (old new : List (Group M)) (found : Option ℕ) → done ≤ length plan.steps → found ≡ Some count → LayerClosed has_made plan_held key_of plan done before limit old new found →
      IsBased has_made plan_held key_of plan done old → IsFull has_made plan_held key_of plan done new
  full_of_some before limit count old new found within is closed based =
      let steps = length-map plan.steps (λ (line : Line). line.step) in
      let all : LayerClosed has_made plan_held key_of plan done before limit old new (Some count) = subst (λ (found : Option ℕ). LayerClosed has_made plan_held key_of plan done before limit old new found) is closed in
      full_of_closed has_made plan_held key_of plan done old new (omega arith) all.0 based

  -- its states are counted, and there are no more than the limit
  pub count_of_some : (before limit count : ℕ) (old new : List (Group M)) (found : Option ℕ) → done < length plan.steps → found ≡ Some count → LayerClosed has_made plan_held key_of plan done before limit old new found →
      IsBased has_made plan_held key_of plan done old → IsCount has_made plan_held key_of plan done before → IsCount has_made plan_held key_of plan (done + 1) count × (count ≤ limit)
  count_of_some before limit count old new found within is closed based counted =
      let steps = length-map plan.steps (λ (line : Line). line.step) in
      let all : LayerClosed has_made plan_held key_of plan done before limit old new (Some count) = subst (λ (found : Option ℕ). LayerClosed has_made plan_held key_of plan done before limit old new found) is closed in (
        subst (λ (count : ℕ). IsCount has_made plan_held key_of plan (done + 1) count) (sym all.1)
            (count_of_layer has_made plan_held key_of plan done new before (omega arith) (full_of_some before limit count old new found (omega (arith, within)) is closed based) counted),
        all.2,
      )

  -- it had none
  pub more_of_none : (before limit : ℕ) (old new : List (Group M)) (found : Option ℕ) → done < length plan.steps → ((count : ℕ) → found ≡ Some count → ⊥) → LayerClosed has_made plan_held key_of plan done before limit old new found →
      IsBased has_made plan_held key_of plan done old → IsCount has_made plan_held key_of plan done before → HasMoreThan has_made plan (search_script_of plan) limit
  more_of_none before limit old new found within none closed based counted =
      let steps = length-map plan.steps (λ (line : Line). line.step) in
      let past : (n : ℕ) × (n < length new) × ClosedUpTo has_made plan_held key_of plan done n old new × (limit < before + states_in (take (n + 1) new)) =
      none_found (λ count. ClosedUpTo has_made plan_held key_of plan done (length old) old new × (count ≡ before + states_in new) × (count ≤ limit)) found none closed in
      more_than has_made plan_held key_of plan done new past.0 before limit (omega arith) past.1 (layer_grown has_made plan_held key_of plan done old new past.0 past.2 based.ordered) counted past.3

  -- the next layer
  pub next_of_full : (layer next : List (Group M)) → done < length plan.steps → IsFull has_made plan_held key_of plan done layer → HasNext has_made plan_held key_of plan done layer next → IsBased has_made plan_held key_of plan (done + 1) next
  next_of_full layer next below full has =
      let steps = length-map plan.steps (λ (line : Line). line.step) in
      based_of_next has_made plan_held key_of plan done layer next (omega arith) full has

module _ {M : Type 0} (has_made : M → Plan → List Step → Type 0) (plan_held : M → Plan) (key_of : M → List ℕ) (plan : Plan) where
  -- the last layer
  pub last_explored : (done : ℕ) (layer : List (Group M)) (found : List Outcome) → done ≡ length plan.steps → IsBased has_made plan_held key_of plan done layer → found ≡ map outcome_of layer → IsExplored plan (search_script_of plan) found
  last_explored done layer found all based is =
      explored_of_based has_made plan_held key_of plan layer found (subst (λ (done : ℕ). IsBased has_made plan_held key_of plan done layer) all based) is

  -- all states are counted then
  pub last_counted : (done count : ℕ) → done ≡ length plan.steps → IsCount has_made plan_held key_of plan done count → IsCensus has_made plan (search_script_of plan) count
  last_counted done count all is =
      let steps = length-map plan.steps (λ (line : Line). line.step) in
      let same : done ≡ length (search_script_of plan) = all ∙ sym steps in
      census_of_count has_made plan_held key_of plan count (subst (λ (done : ℕ). IsCount has_made plan_held key_of plan done count) same is)
