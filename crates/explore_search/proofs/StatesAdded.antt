-- States to which others are added at the end.
use Rattle.std.proofs.Common.{◌≡◌, ◌∙◌, ℕ, ◌<◌, ◌≤◌, List, [], ◌∷◌, ◌++◌, append-nil, append_assoc, ap, arith, get_or, length, refl, subst, sym, take, true}
use Rattle.std.specs.List.{All}
use Rattle.std.proofs.lemmas.List.{get_or_append_left, get_or_default, length-append, length-take-le}
use Rattle.std.proofs.lemmas.List.Elements.{All-push}
use Rattle.std.proofs.lemmas.List.Quantifiers.{all_pairs_push}
use Rattle.step_kinds.specs.declared.plan.Plan.{Plan}
use Rattle.step_kinds.specs.declared.steps.Step.{Step}
use Rattle.ledger_model.specs.Memory.{memory_of}
use Rattle.ledger_model.specs.NetworkLog.{answer_after}
use Rattle.explore_model.specs.Schedules.{Runs, is_landed, landing_step, lands}
use Rattle.explore_model.specs.declared.outcome.Landing.{Landing}
use Rattle.explore_search.specs.Machines.{HaveSameSteps}
use Rattle.explore_search.specs.Paths.{path, search_script_of}
use Rattle.explore_search.specs.Spread.{IsNext, IsSpread, Lands}
use Rattle.explore_search.specs.States.{Covers, HasSearchRun, HaveGrown, IsState, Joined, Reaches, added, found, made_to}
use Rattle.explore_search.specs.declared.states.State.{State}
use Rattle.explore_search.proofs.AlongPaths.{path_lands}
use Rattle.explore_search.proofs.Lists.{any_last, any_longer, any_weaker}
use Rattle.explore_search.proofs.SameStates.{made_alike}

module _ {M : Type 0} (has_made : M → Plan → List Step → Type 0) (plan_held : M → Plan) (key_of : M → List ℕ) (plan : Plan) (done : ℕ) where
  -- nothing was added
  pub grown_same : (states : List (State M)) → HaveGrown has_made plan_held key_of plan done states states
  grown_same states = record { added = []; is = sym (append-nil states); each = λ all. all; runs = λ answers all. all; two = λ two. two }

  -- more was added
  pub grown_more : (one two three : List (State M)) → HaveGrown has_made plan_held key_of plan done one two → HaveGrown has_made plan_held key_of plan done two three →
      HaveGrown has_made plan_held key_of plan done one three
  grown_more one two three first second =
      record {
        added = first.added ++ second.added;
        is = second.is ∙ ap (λ (states : List (State M)). states ++ second.added) first.is ∙ append_assoc one first.added second.added;
        each = λ all. second.each (first.each all);
        runs = λ answers all. second.runs answers (first.runs answers all);
        two = λ apart. second.two (first.two apart);
      }

  -- what was covered is covered
  pub covers_kept : (old new : List (State M)) (made : List Step) → HaveGrown has_made plan_held key_of plan done old new → Covers has_made plan done old made → Covers has_made plan done new made
  covers_kept old new made grown covers =
      subst (λ (states : List (State M)). Covers has_made plan done states made) (sym grown.is)
      (any_longer (λ (state : State M). Reaches has_made plan done state made) old grown.added covers)

  -- there are no fewer, and the earlier ones stand where they stood
  pub no_fewer : (old new : List (State M)) → HaveGrown has_made plan_held key_of plan done old new → length old ≤ length new
  no_fewer old new grown =
      let size = ap length grown.is ∙ length-append old grown.added in
      omega arith

  -- an earlier one stands where it stood
  pub stands_still : (old new : List (State M)) (k : ℕ) (d : State M) → HaveGrown has_made plan_held key_of plan done old new → k < length old → get_or new k d ≡ get_or old k d
  stands_still old new k d grown below =
      ap (λ (states : List (State M)). get_or states k d) grown.is ∙ get_or_append_left old grown.added d k below

  -- a landing that led to states leads to more
  pub lands_kept : (old new : List (State M)) (state : State M) (landing : Landing) → HaveGrown has_made plan_held key_of plan done old new →
      Lands has_made plan done old state landing → Lands has_made plan done new state landing
  lands_kept old new state landing grown lead made reaches landed = covers_kept old new (made ++ landing_step landing ∷ []) grown (lead made reaches landed)

  -- states that were spread stay so
  pub spread_kept : (old new : List (State M)) (state : State M) → HaveGrown has_made plan_held key_of plan done old new →
      IsSpread has_made plan done old state → IsSpread has_made plan done new state
  spread_kept old new state grown spread landing next = lands_kept old new state landing grown (spread landing next)

  -- states among which one with a run was to be
  pub grown_by_join : (landings : List Landing) (old new : List (State M)) → Joined has_made plan_held key_of plan done landings old new →
      ((answers : List (List ℕ)) → All (HasSearchRun plan done answers) old → Runs plan (take done (search_script_of plan)) landings (path (search_script_of plan) landings done) answers) →
      HaveGrown has_made plan_held key_of plan done old new
  grown_by_join landings old new (found covers) run = grown_same new
  grown_by_join landings old new (added state is same none) run =
      record {
        added = state ∷ [];
        is = refl;
        each = λ all. All-push (IsState has_made plan_held key_of plan done) old state all is;
        runs = λ answers all.
            All-push (HasSearchRun plan done answers) old state all
            (subst (λ (landings : List Landing). Runs plan (take done (search_script_of plan)) landings (path (search_script_of plan) landings done) answers) (sym same) (run answers all));
        two = λ apart.
            all_pairs_push (λ (one other : State M). Reaches has_made plan done one (made_to plan done other) → ⊥) old state apart
            (λ k d below reaches. none (
              k,
              get_or old k d,
              below,
              get_or_default old k (get_or old k d) d below,
              subst (λ (landings : List Landing). Reaches has_made plan done (get_or old k d) (path (search_script_of plan) landings done)) same reaches,
            ));
      }

  -- what a machine has made whose state was to be among them is covered
  pub covered_by_join : (same : HaveSameSteps has_made) (landings : List Landing) (old new : List (State M)) (machine : M) (made : List Step) → Joined has_made plan_held key_of plan done landings old new →
      has_made machine plan (path (search_script_of plan) landings done) → has_made machine plan made → Covers has_made plan done new made
  covered_by_join same landings old new machine made (found covers) at has =
      any_weaker (λ (state : State M). Reaches has_made plan done state (path (search_script_of plan) landings done)) (λ state. Reaches has_made plan done state made) old
      (λ state reaches. made_alike has_made same plan (made_to plan done state) (path (search_script_of plan) landings done) made reaches (machine, at, has)) covers
  covered_by_join same landings old new machine made (added state is equal none) at has =
      any_last (λ (state : State M). Reaches has_made plan done state made) old state
      (machine, subst (λ (landings : List Landing). has_made machine plan (path (search_script_of plan) landings done)) (sym equal) at, has)

  -- the run along a path to a state, with a landing after it
  pub run_lands : (state : State M) (landing : Landing) (answers : List (List ℕ)) → done ≤ length (search_script_of plan) → IsNext plan done landing → HasSearchRun plan done answers state →
      is_landed (answer_after plan (memory_of plan) (made_to plan done state) (landing_step landing)) ≡ true →
      Runs plan (take done (search_script_of plan)) (state.landings.items ++ landing ∷ []) (path (search_script_of plan) (state.landings.items ++ landing ∷ []) done) answers
  run_lands state landing answers within next run landed =
      subst (λ (made : List Step). Runs plan (take done (search_script_of plan)) (state.landings.items ++ landing ∷ []) made answers)
      (sym (path_lands (search_script_of plan) state.landings.items landing done next.at))
      (lands landing run (next.at ∙ sym (length-take-le done (search_script_of plan) within)) next.may landed)

  -- a state that was added at the end
  pub added_last : (landings : List Landing) (old new : List (State M)) (state : State M) → new ≡ old ++ state ∷ [] → IsState has_made plan_held key_of plan done state →
      state.landings.items ≡ landings → (Covers has_made plan done old (path (search_script_of plan) landings done) → ⊥) → Joined has_made plan_held key_of plan done landings old new
  added_last landings old new state is whole same none =
      subst (λ (states : List (State M)). Joined has_made plan_held key_of plan done landings old states) (sym is) (added state whole same none)

  -- the way of a landing after a state
  pub made_by_landing : (machine : M) (landings now : List Landing) (landing : Landing) (step : Step) → has_made machine plan (path (search_script_of plan) landings done ++ step ∷ []) →
      step ≡ landing_step landing → landing.at ≡ done → now ≡ landings ++ landing ∷ [] → has_made machine plan (path (search_script_of plan) now done)
  made_by_landing machine landings now landing step has step_is at now_is =
      subst (λ (made : List Step). has_made machine plan made)
      (ap (λ (step : Step). path (search_script_of plan) landings done ++ step ∷ []) step_is ∙ sym (path_lands (search_script_of plan) landings landing done at)
      ∙ ap (λ (landings : List Landing). path (search_script_of plan) landings done) (sym now_is))
      has

  -- states among which the one after a landing was to be
  pub grown_by_landing : (old new : List (State M)) (from : ℕ) (state : State M) (landing : Landing) (now : List Landing) → from < length old → state ≡ get_or old from state →
      done ≤ length (search_script_of plan) → IsNext plan done landing → now ≡ state.landings.items ++ landing ∷ [] →
      is_landed (answer_after plan (memory_of plan) (made_to plan done state) (landing_step landing)) ≡ true → Joined has_made plan_held key_of plan done now old new →
      HaveGrown has_made plan_held key_of plan done old new
  grown_by_landing old new from state landing now below is within next now_is landed joined =
      grown_by_join now old new joined
      (λ answers all.
      subst (λ (landings : List Landing). Runs plan (take done (search_script_of plan)) landings (path (search_script_of plan) landings done) answers) (sym now_is)
      (run_lands state landing answers within next (subst (λ (state : State M). HasSearchRun plan done answers state) (sym is) (all from state below)) landed))

  -- a landing that was answered `landed` leads to them
  pub leads_by_landing : (same : HaveSameSteps has_made) (old new : List (State M)) (state : State M) (landing : Landing) (now : List Landing) (before after : M) (step : Step) →
      has_made before plan (made_to plan done state) → ((made : List Step) → has_made before plan made → has_made after plan (made ++ step ∷ [])) →
      step ≡ landing_step landing → has_made after plan (path (search_script_of plan) now done) → Joined has_made plan_held key_of plan done now old new →
      Lands has_made plan done new state landing
  leads_by_landing same old new state landing now before after step at goes step_is now_at joined made reaches landed =
      covered_by_join same now old new after (made ++ landing_step landing ∷ []) joined now_at
      (subst (λ (step : Step). has_made after plan (made ++ step ∷ [])) step_is
      (goes made (same plan (made_to plan done state) made reaches.0 before reaches.1 at reaches.2)))
