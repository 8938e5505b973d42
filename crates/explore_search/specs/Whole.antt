-- A layer that has all runs of its number of steps, and a count of all states that were reached.
use Rattle.std.specs.Prelude.{◌≡◌, ℕ, ◌<◌, List, [], ◌∷◌, ◌++◌, length, take}
use Rattle.std.specs.List.{All, Any}
use Rattle.step_kinds.specs.declared.plan.Plan.{Plan}
use Rattle.step_kinds.specs.declared.steps.Step.{Step}
use Rattle.explore_model.specs.Schedules.{Runs, text_after}
use Rattle.explore_model.specs.States.{AreApart, LeadToOne, Passing}
use Rattle.explore_model.specs.declared.outcome.Landing.{Landing}
use Rattle.explore_search.specs.Layers.{AreKept, IsLayer, LayerCovers}
use Rattle.explore_search.specs.Paths.{search_script_of}
use Rattle.explore_search.specs.declared.layers.Group.{Group}

-- a run whose last step isn't a further landing
pub data IsBase (plan : Plan) : (script : List Step) (made : List Step) (answers : List (List ℕ)) → Type 0 where
  -- nothing was made
  base_begun : IsBase plan [] [] []
  -- the last step is one of the script
  base_goes_on : {script : List Step} {landings : List Landing} {made : List Step} {answers : List (List ℕ)} (step : Step) → Runs plan script landings made answers →
      IsBase plan (script ++ step ∷ []) (made ++ step ∷ []) (answers ++ text_after plan made step ∷ [])

module _ {M : Type 0} (has_made : M → Plan → List Step → Type 0) (plan_held : M → Plan) (key_of : M → List ℕ) (plan : Plan) (done : ℕ) where
  -- a layer has all runs of this many steps but for those that end with further landings
  pub record IsBased (layer : List (Group M)) : Type 0 where
    pub kept : All (λ group. AreKept has_made plan_held key_of plan done group.states) layer
    pub ordered : IsLayer has_made plan_held key_of plan done layer
    pub based : (made : List Step) (answers : List (List ℕ)) → IsBase plan (take done (search_script_of plan)) made answers →
        LayerCovers has_made plan_held key_of plan done layer answers made

  -- it has those too
  pub record IsFull (layer : List (Group M)) : Type 0 where
    pub kept : All (λ group. AreKept has_made plan_held key_of plan done group.states) layer
    pub ordered : IsLayer has_made plan_held key_of plan done layer
    pub full : (landings : List Landing) (made : List Step) (answers : List (List ℕ)) → Runs plan (take done (search_script_of plan)) landings made answers →
        LayerCovers has_made plan_held key_of plan done layer answers made

  -- this many states are reached by runs of fewer steps
  pub record IsCount (count : ℕ) : Type 0 where
    pub seen : List (Passing plan (search_script_of plan))
    pub counted : length seen ≡ count
    pub apart : AreApart has_made plan (search_script_of plan) seen
    pub within : All (λ run. length run.first < done) seen
    pub all : (run : Passing plan (search_script_of plan)) → length run.first < done → Any (λ state. LeadToOne has_made plan (search_script_of plan) state run) seen
