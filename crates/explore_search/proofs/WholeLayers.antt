-- Layers have all runs: closing adds those that end with landings, and the next step leads on.
use Rattle.std.proofs.Common.{◌≡◌, ◌∙◌, ℕ, ◌+◌, ◌<◌, ◌≤◌, List, [], ◌∷◌, ◌++◌, ap, arith, get_or, length, map, refl, subst, sym, take, Less}
use Rattle.std.specs.List.{All}
use Rattle.std.proofs.lemmas.List.{get_or-map, get_or_default, length_push, length-map, length-take-le, same_from_push, take_all, take_more}
use Rattle.std.proofs.lemmas.List.Elements.{All-cons, All-map}
use Rattle.step_kinds.specs.declared.plan.Line.{Line}
use Rattle.step_kinds.specs.declared.plan.Plan.{Plan}
use Rattle.step_kinds.specs.declared.steps.Step.{Step}
use Rattle.step_kinds.specs.declared.steps.Step.TheVariants.{Train}
use Rattle.explore_model.specs.Outcomes.{IsExplored, IsOutcome, answers_cmp}
use Rattle.explore_model.specs.Schedules.{Runs, begun, goes_on, landing_step, lands, text_after}
use Rattle.explore_model.specs.declared.outcome.Landing.{Landing}
use Rattle.explore_model.specs.declared.outcome.Outcome.{Outcome}
use Rattle.explore_search.specs.Closing.{ClosedUpTo}
use Rattle.explore_search.specs.Layers.{AreKept, AreStates, HasNext, IsLayer, LayerCovers, step_at}
use Rattle.explore_search.specs.Machines.{HaveSameSteps}
use Rattle.explore_search.specs.Paths.{path, search_script_of}
use Rattle.explore_search.specs.Results.{first_landings, outcome_of}
use Rattle.explore_search.specs.Spread.{AreClosed, IsNext}
use Rattle.explore_search.specs.States.{Covers, HasSearchRun, HaveGrown, Joined, Reaches, made_to}
use Rattle.explore_search.specs.Whole.{IsBase, IsBased, IsFull, base_begun, base_goes_on}
use Rattle.explore_search.specs.declared.layers.Group.{Group}
use Rattle.explore_search.specs.declared.states.State.{State}
use Rattle.explore_search.proofs.AlongPaths.{path_begins}
use Rattle.explore_search.proofs.StatesAdded.{covered_by_join, covers_kept}
use Rattle.explore_search.proofs.StatesInBranches.{kept_by_join, one_by_join}

module _ {M : Type 0} (has_made : M → Plan → List Step → Type 0) (plan_held : M → Plan) (key_of : M → List ℕ) (plan : Plan) (done : ℕ) where
  -- a state to which states led is still covered by the grown layer
  layer_covers_kept : (old now : List (Group M)) (count : ℕ) (answers : List (List ℕ)) (made : List Step) → ClosedUpTo has_made plan_held key_of plan done count old now →
      LayerCovers has_made plan_held key_of plan done old answers made → LayerCovers has_made plan_held key_of plan done now answers made
  layer_covers_kept old now count answers made closed some =
      let k = some.0 in
      let grows = closed.grown k some.1 some.2 in
      let size = closed.size in
      let new : Group M = get_or now k some.1 in (
        k,
        new,
        omega (arith, some.2),
        get_or_default now k new some.1 (omega (arith, some.2)),
        (
          grows.named ∙ ap (λ (group : Group M). group.answers) some.3 ∙ some.4.0,
          covers_kept has_made plan_held key_of plan done (get_or old k some.1).states new.states made grows.grown
              (subst (λ (group : Group M). Covers has_made plan done group.states made) (sym some.3) some.4.1),
        ),
      )

  -- the layer stays one
  states_grown : (answers named : List (List ℕ)) (old new : List (State M)) → named ≡ answers → HaveGrown has_made plan_held key_of plan done old new →
      AreStates has_made plan_held key_of plan done answers old → AreStates has_made plan_held key_of plan done named new
  states_grown answers named old new same grown are =
      subst (λ (answers : List (List ℕ)). AreStates has_made plan_held key_of plan done answers new) (sym same)
      (record {
        runs = grown.runs answers are.runs;
        two = grown.two are.two;
        begins =
            record {
              first = are.begins.first;
              rest = are.begins.rest ++ grown.added;
              is = grown.is ∙ ap (λ (states : List (State M)). states ++ grown.added) are.begins.is;
              before = are.begins.before;
            };
      })

  -- the layer stays in the order of its answers
  pub layer_grown : (old now : List (Group M)) (count : ℕ) → ClosedUpTo has_made plan_held key_of plan done count old now → IsLayer has_made plan_held key_of plan done old → IsLayer has_made plan_held key_of plan done now
  layer_grown old now count closed is =
      let size = closed.size in
      record {
        groups = λ k d below.
            let grows = closed.grown k d (omega arith) in
            states_grown (get_or old k d).answers (get_or now k d).answers (get_or old k d).states (get_or now k d).states grows.named grows.grown (is.groups k d (omega arith));
        ordered = λ i j d lt below.
            subst (λ (one : List (List ℕ)). answers_cmp one (get_or now j d).answers ≡ Less) (sym (closed.grown i d (omega arith)).named)
            (subst (λ (other : List (List ℕ)). answers_cmp (get_or old i d).answers other ≡ Less) (sym (closed.grown j d (omega arith)).named) (is.ordered i j d lt (omega arith)));
      }

  -- its states stay states
  pub kept_grown : (old now : List (Group M)) (count : ℕ) → ClosedUpTo has_made plan_held key_of plan done count old now → All (λ group. AreKept has_made plan_held key_of plan done group.states) old →
      All (λ group. AreKept has_made plan_held key_of plan done group.states) now
  kept_grown old now count closed kept k d below =
      let size = closed.size in
      (closed.grown k d (omega arith)).grown.each (kept k d (omega arith))

  -- runs that end with landings
  full_run : (layer : List (Group M)) (script : List Step) → length script ≡ done → ((k : ℕ) (d : Group M) → k < length layer → AreClosed has_made plan done (get_or layer k d).states) →
      {first : List Step} {landings : List Landing} {made : List Step} {answers : List (List ℕ)} → Runs plan first landings made answers → first ≡ script →
      ((made : List Step) (answers : List (List ℕ)) → IsBase plan script made answers → LayerCovers has_made plan_held key_of plan done layer answers made) →
      LayerCovers has_made plan_held key_of plan done layer answers made
  full_run layer script long closed begun same based = based [] [] (subst (λ (script : List Step). IsBase plan script [] []) same base_begun)
  full_run layer script long closed (goes_on {script = before} {landings = landings} {made = made} {answers = answers} step run) same based =
      based (made ++ step ∷ []) (answers ++ text_after plan made step ∷ []) (subst (λ (script : List Step). IsBase plan script (made ++ step ∷ []) (answers ++ text_after plan made step ∷ [])) same (base_goes_on step run))
  full_run layer script long closed (lands {script = first} {landings = landings} {made = made} {answers = answers} landing run at may landed) same based =
      let some = full_run layer script long closed run same based in
      let group : Group M = get_or layer some.0 some.1 in
      let covers : Covers has_made plan done group.states made = subst (λ (group : Group M). Covers has_made plan done group.states made) (sym some.3) some.4.1 in
      let next : IsNext plan done landing = record { may = may; at = at ∙ ap length same ∙ long } in
      let leads = closed some.0 some.1 some.2 covers.0 covers.1 covers.2 landing next made (subst (λ (state : State M). Reaches has_made plan done state made) (sym covers.3) covers.4) landed in
      (some.0, some.1, some.2, some.3, (some.4.0, subst (λ (group : Group M). Covers has_made plan done group.states (made ++ landing_step landing ∷ [])) some.3 leads))

  -- a closed layer is full
  pub full_of_closed : (old now : List (Group M)) → done ≤ length (search_script_of plan) → ClosedUpTo has_made plan_held key_of plan done (length old) old now → IsBased has_made plan_held key_of plan done old →
      IsFull has_made plan_held key_of plan done now
  full_of_closed old now within closed is =
      let size = closed.size in
      record {
        kept = kept_grown old now (length old) closed is.kept;
        ordered = layer_grown old now (length old) closed is.ordered;
        full = λ landings made answers run.
            full_run now (take done (search_script_of plan)) (length-take-le done (search_script_of plan) within) (λ k d below. closed.closed k d (omega arith)) run refl
            (λ made answers base. layer_covers_kept old now (length old) answers made closed (is.based made answers base));
      }

  -- the runs of one step more
  based_run : (layer next : List (Group M)) → done < length (search_script_of plan) → IsFull has_made plan_held key_of plan done layer → HasNext has_made plan_held key_of plan done layer next →
      {script : List Step} {made : List Step} {answers : List (List ℕ)} → IsBase plan script made answers → script ≡ take (done + 1) (search_script_of plan) →
      LayerCovers has_made plan_held key_of plan (done + 1) next answers made
  based_run layer next below full has base_begun same =
      let size = ap length same ∙ length-take-le (done + 1) (search_script_of plan) (omega arith) in
      absurd (omega arith)
  based_run layer next below full has (base_goes_on {script = before} {landings = landings} {made = made} {answers = answers} step run) same =
      let parts = same_from_push before (take done (search_script_of plan)) step (step_at plan done) (same ∙ take_more (search_script_of plan) done (Train 0) below) in
      subst (λ (step : Step). LayerCovers has_made plan_held key_of plan (done + 1) next (answers ++ text_after plan made step ∷ []) (made ++ step ∷ [])) (sym parts.1)
      (has.covers answers made (full.full landings made answers (subst (λ (script : List Step). Runs plan script landings made answers) parts.0 run)))

  -- the next layer
  pub based_of_next : (layer next : List (Group M)) → done < length (search_script_of plan) → IsFull has_made plan_held key_of plan done layer → HasNext has_made plan_held key_of plan done layer next →
      IsBased has_made plan_held key_of plan (done + 1) next
  based_of_next layer next below full has =
      record { kept = has.kept; ordered = has.ordered full.ordered; based = λ made answers base. based_run layer next below full has base refl }

module _ {M : Type 0} (has_made : M → Plan → List Step → Type 0) (plan_held : M → Plan) (key_of : M → List ℕ) (plan : Plan) where
  -- before the first step only one run doesn't end with a landing
  start_run : (layer : List (Group M)) → LayerCovers has_made plan_held key_of plan 0 layer [] [] → {script : List Step} {made : List Step} {answers : List (List ℕ)} → IsBase plan script made answers → script ≡ [] →
      LayerCovers has_made plan_held key_of plan 0 layer answers made
  start_run layer covers base_begun same = covers
  start_run layer covers (base_goes_on {script = before} step run) same =
      let size = length_push before step in
      let none = ap length same in
      absurd (omega arith)

  -- the first layer
  pub start_based : (same : HaveSameSteps has_made) (landings : List Landing) (group : Group M) (machine : M) (layer : List (Group M)) → landings ≡ [] → has_made machine plan [] → group.answers ≡ [] →
      Joined has_made plan_held key_of plan 0 landings [] group.states → layer ≡ group ∷ [] → IsBased has_made plan_held key_of plan 0 layer
  start_based same landings group machine layer none has unanswered joined is =
      let begins : path (search_script_of plan) landings 0 ≡ [] = ap (λ (landings : List Landing). path (search_script_of plan) landings 0) none ∙ path_begins (search_script_of plan) in
      let run : Runs plan [] landings (path (search_script_of plan) landings 0) [] =
      subst (λ (landings : List Landing). Runs plan [] landings (path (search_script_of plan) landings 0) []) (sym none)
      (subst (λ (made : List Step). Runs plan [] [] made []) (sym (path_begins (search_script_of plan))) begun) in
      let are = one_by_join has_made plan_held key_of plan 0 [] landings group.states joined run
      (subst (λ (landings : List Landing). All (λ landing. landing.at < 0) landings) (sym none) (λ k d below. absurd (omega arith))) in
      subst (λ (layer : List (Group M)). IsBased has_made plan_held key_of plan 0 layer) (sym is)
      (record {
        kept =
            All-cons (λ (group : Group M). AreKept has_made plan_held key_of plan 0 group.states) group []
            (kept_by_join has_made plan_held key_of plan 0 landings [] group.states joined (λ k d below. absurd (omega arith))) (λ k d below. absurd (omega arith));
        ordered =
            record {
              groups =
                  All-cons (λ (group : Group M). AreStates has_made plan_held key_of plan 0 group.answers group.states) group []
                  (subst (λ (answers : List (List ℕ)). AreStates has_made plan_held key_of plan 0 answers group.states) (sym unanswered) are) (λ k d below. absurd (omega arith));
              ordered = λ i j d lt below. absurd (omega arith);
            };
        based = λ made answers base.
            start_run (group ∷ []) (
              0,
              group,
              omega arith,
              refl,
              (unanswered, covered_by_join has_made plan_held key_of plan 0 same landings [] group.states machine [] joined (subst (λ (made : List Step). has_made machine plan made) (sym begins) has) has),
            )
            base refl;
      })

  -- the answers of a run are those of one that doesn't end with further landings
  base_of_run : {script : List Step} {landings : List Landing} {made : List Step} {answers : List (List ℕ)} → Runs plan script landings made answers → (made : List Step) × IsBase plan script made answers
  base_of_run begun = ([], base_begun)
  base_of_run (goes_on {made = made} step run) = (made ++ step ∷ [], base_goes_on step run)
  base_of_run (lands landing run at may landed) = base_of_run run

  -- The last layer has all outcomes, before any landing after the last step.
  pub explored_of_based : (layer : List (Group M)) (found : List Outcome) → IsBased has_made plan_held key_of plan (length plan.steps) layer → found ≡ map outcome_of layer → IsExplored plan (search_script_of plan) found
  explored_of_based layer found last is =
      let steps = length-map plan.steps (λ (line : Line). line.step) in
      let whole : take (length plan.steps) (search_script_of plan) ≡ search_script_of plan = take_all (length plan.steps) (search_script_of plan) (omega arith) in
      subst (λ (found : List Outcome). IsExplored plan (search_script_of plan) found) (sym is)
      (record {
        sound =
            All-map (IsOutcome plan (search_script_of plan)) outcome_of layer
            (λ k d below.
            let are = last.ordered.groups k d below in
            let group : Group M = get_or layer k d in
            let first = are.begins in
            let size = ap length first.is in
            let run : HasSearchRun plan (length plan.steps) group.answers first.first =
            subst (λ (states : List (State M)). HasSearchRun plan (length plan.steps) group.answers (get_or states 0 first.first)) first.is (are.runs 0 first.first (omega arith)) in
            subst (λ (states : List (State M)). IsOutcome plan (search_script_of plan) (record { answers = group.answers; landings = first_landings states })) (sym first.is)
            (record {
              made = made_to plan (length plan.steps) first.first;
              run = subst (λ (script : List Step). Runs plan script first.first.landings.items (made_to plan (length plan.steps) first.first) group.answers) whole run;
              before = subst (λ (n : ℕ). All (λ landing. landing.at < n) first.first.landings.items) (sym steps) first.before;
            }));
        complete = λ landings made answers run.
            let base = base_of_run run in
            let some = last.based base.0 answers (subst (λ (script : List Step). IsBase plan script base.0 answers) (sym whole) base.1) in
            let size = length-map layer (outcome_of {M = M}) in
            (some.0, outcome_of some.1, omega (arith, some.2), get_or-map outcome_of layer some.0 some.1 (outcome_of some.1) some.2 ∙ ap outcome_of some.3, some.4.0);
        rising = λ i j d lt below.
            let size = length-map layer (outcome_of {M = M}) in
            let e : Group M = first_of layer (omega arith) in
            subst (λ (one : Outcome). answers_cmp one.answers (get_or (map outcome_of layer) j d).answers ≡ Less) (sym (get_or-map outcome_of layer i e d (omega arith)))
            (subst (λ (other : Outcome). answers_cmp (get_or layer i e).answers other.answers ≡ Less) (sym (get_or-map outcome_of layer j e d (omega arith))) (last.ordered.ordered i j e lt (omega arith)));
      })
    where
      first_of : (xs : List (Group M)) → 0 < length xs → Group M
      first_of [] some = absurd (omega arith)
      first_of (x ∷ xs) some = x

  -- each group has a state
  pub groups_have_states : (done : ℕ) (layer : List (Group M)) → IsLayer has_made plan_held key_of plan done layer → All (λ group. 0 < length group.states) layer
  groups_have_states done layer is k d below =
      let first = (is.groups k d below).begins in
      let size = ap length first.is in
      omega arith
