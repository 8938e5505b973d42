-- States that a step of the script leads to.
use Rattle.std.proofs.Common.{◌≡◌, ◌∙◌, ℕ, ◌+◌, ◌<◌, List, [], ◌∷◌, ◌++◌, ap, arith, get_or, length, subst, sym, take}
use Rattle.std.specs.List.{All}
use Rattle.std.proofs.lemmas.List.{get_or-map, length-map, take_more}
use Rattle.std.proofs.lemmas.List.Elements.{All-weaker}
use Rattle.step_kinds.specs.declared.plan.Line.{Line}
use Rattle.step_kinds.specs.declared.plan.Plan.{Plan}
use Rattle.step_kinds.specs.declared.steps.Step.{Step}
use Rattle.step_kinds.specs.declared.steps.Step.TheVariants.{Train}
use Rattle.explore_model.specs.Schedules.{Runs, goes_on, text_after}
use Rattle.explore_model.specs.declared.outcome.Landing.{Landing}
use Rattle.explore_search.specs.Layers.{BranchCovers, HasPlaced, HasStepped, step_at}
use Rattle.explore_search.specs.Machines.{HaveSameSteps}
use Rattle.explore_search.specs.Paths.{IsLandingBy, path, search_script_of}
use Rattle.explore_search.specs.States.{HasSearchRun, made_to}
use Rattle.explore_search.specs.declared.layers.Branch.{Branch}
use Rattle.explore_search.specs.declared.states.State.{State}
use Rattle.explore_search.proofs.AlongPaths.{path_goes_on}

-- the step of a plan's line
pub step_of_line : (plan : Plan) (lines : List Line) (done : ℕ) (line : Line) → lines ≡ plan.steps → done < length plan.steps → (get_or lines done line).step ≡ step_at plan done
step_of_line plan lines done line same below =
    ap (λ (lines : List Line). (get_or lines done line).step) same ∙ sym (get_or-map (λ (line : Line). line.step) plan.steps done line (Train 0) below)

module _ {M : Type 0} (has_made : M → Plan → List Step → Type 0) (plan_held : M → Plan) (key_of : M → List ℕ) (plan : Plan) (done : ℕ) where
  -- the way of the next step after a state
  pub made_by_step : (after : M) (landings : List Landing) (step : Step) → All (IsLandingBy plan done) landings → done < length plan.steps → step ≡ step_at plan done →
      has_made after plan (path (search_script_of plan) landings done ++ step ∷ []) → has_made after plan (path (search_script_of plan) landings (done + 1))
  made_by_step after landings step may below is has =
      let size = length-map plan.steps (λ (line : Line). line.step) in
      subst (λ (made : List Step). has_made after plan made)
      (ap (λ (step : Step). path (search_script_of plan) landings done ++ step ∷ []) is ∙ sym (path_goes_on (search_script_of plan) plan landings done (Train 0) may (omega arith))) has

  -- the run along it
  run_goes_on : (state : State M) (answers : List (List ℕ)) (text : List ℕ) → All (IsLandingBy plan done) state.landings.items → done < length plan.steps →
      text ≡ text_after plan (made_to plan done state) (step_at plan done) → HasSearchRun plan done answers state →
      Runs plan (take (done + 1) (search_script_of plan)) state.landings.items (path (search_script_of plan) state.landings.items (done + 1)) (answers ++ text ∷ [])
  run_goes_on state answers text may below text_is run =
      let size = length-map plan.steps (λ (line : Line). line.step) in
      subst (λ (script : List Step). Runs plan script state.landings.items (path (search_script_of plan) state.landings.items (done + 1)) (answers ++ text ∷ [])) (sym (take_more (search_script_of plan) done (Train 0) (omega arith)))
      (subst (λ (made : List Step). Runs plan (take done (search_script_of plan) ++ step_at plan done ∷ []) state.landings.items made (answers ++ text ∷ []))
      (sym (path_goes_on (search_script_of plan) plan state.landings.items done (Train 0) may (omega arith)))
      (subst (λ (text : List ℕ). Runs plan (take done (search_script_of plan) ++ step_at plan done ∷ []) state.landings.items (made_to plan done state ++ step_at plan done ∷ []) (answers ++ text ∷ [])) (sym text_is)
      (goes_on (step_at plan done) run)))

  -- the landings stand before one step more
  landings_before : (landings : List Landing) → All (IsLandingBy plan done) landings → All (λ landing. landing.at < done + 1) landings
  landings_before landings all = All-weaker (IsLandingBy plan done) (λ landing. landing.at < done + 1) (λ landing by. let at = by.at in omega arith) landings all

  -- what a state leads to was put into the branch of its answer
  pub stepped : (same : HaveSameSteps has_made) (state : State M) (old new : List (Branch M)) (before after : M) (step : Step) (text : List ℕ) →
      All (IsLandingBy plan done) state.landings.items → done < length plan.steps → step ≡ step_at plan done → has_made before plan (made_to plan done state) →
      ((made : List Step) → has_made before plan made → has_made after plan (made ++ step ∷ [])) →
      ((made : List Step) → has_made before plan made → text ≡ text_after plan made step) →
      HasPlaced has_made plan_held key_of plan (done + 1) text state.landings.items old new → HasStepped has_made plan_held key_of plan done state old new
  stepped same state old new before after step text may below step_is at goes answered placed =
      let name : (made : List Step) → has_made before plan made → text ≡ text_after plan made (step_at plan done) =
      λ made has. answered made has ∙ ap (λ (step : Step). text_after plan made step) step_is in
      record {
        kept = placed.kept;
        each = λ answers run all. placed.each answers (run_goes_on state answers text may below (name (made_to plan done state) at) run) (landings_before state.landings.items may) all;
        ordered = placed.ordered;
        stays = placed.stays;
        taken = λ made reaches.
            let has = same plan (made_to plan done state) made reaches.0 before reaches.1 at reaches.2 in
            subst (λ (text : List ℕ). BranchCovers has_made plan_held key_of plan (done + 1) new text (made ++ step_at plan done ∷ [])) (name made has)
            (placed.taken after (made ++ step_at plan done ∷ []) (made_by_step after state.landings.items step may below step_is (goes (made_to plan done state) at))
            (subst (λ (step : Step). has_made after plan (made ++ step ∷ [])) step_is (goes made has)));
      }
