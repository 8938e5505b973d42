use Rattle.std.proofs.Common.{◌∙◌, ◌+◌, [], ◌∷◌, ◌++◌, List, arith, length, subst, sym}
use Rattle.std.proofs.lemmas.Iterator.Adapters.{YieldsList-from_vec}
use Rattle.std.proofs.lemmas.Iterator.Consumers.{YieldsList-end, YieldsList-turn}
use Rattle.std.proofs.lemmas.List.{length_push}
use Rattle.step_kinds.specs.declared.steps.Step.{Step}
use Rattle.explore_model.specs.Schedules.{text_after}
use Rattle.explore_search.specs.Layers.{BranchCovers, step_at}
use Rattle.explore_search.specs.States.{HasSearchRun, Reaches}
use Rattle.explore_search.specs.declared.states.State.{State}
use Rattle.explore_search.proofs.Lists.{each_more}
use Rattle.explore_search.proofs.layers.branches_of.Goals as goal

pub loop-state-preserved : goal.loop-state-preserved
loop-state-preserved g c =
    let plan = c.args.plan.now in
    let turn = YieldsList-turn (YieldsList-from_vec c.args.states.items c.into_iter-state-iterator.ensures.into_iter_gives.0 (c.into_iter-state-iterator.ensures.into_iter_gives.1 ∙ c.args.states.ok.0)) c.loop-state.yielded c.loop-state.state-iterator c.loop-state.yielded_by _ c.next.new.self c.in-Some.state c.in-Some.is c.next.ensures.steps in
    let state : State g.row.M.Denot = c.in-Some.state in
    let size = length_push c.loop-state.yielded state in
    record {
      kept = c.in_ok-step_state.ensures.kept;
      each = λ answers all.
          c.in_ok-step_state.ensures.each answers (subst (λ (state : State g.row.M.Denot). HasSearchRun plan c.args.done answers state) (sym turn.1) (all (length c.loop-state.yielded) state turn.0))
          (c.loop-state.invariant.each answers all);
      ordered = c.in_ok-step_state.ensures.ordered c.loop-state.invariant.ordered;
      taken = λ k d below.
          each_more
          (λ (state : State g.row.M.Denot). (made : List Step) → Reaches g.M.Machine.has_made plan c.args.done state made →
          BranchCovers g.M.Machine.has_made g.M.Machine.plan_held g.M.Machine.key_of plan (c.args.done + 1) c.loop-state.branches.items (text_after plan made (step_at plan c.args.done)) (made ++ step_at plan c.args.done ∷ []))
          (λ (state : State g.row.M.Denot). (made : List Step) → Reaches g.M.Machine.has_made plan c.args.done state made →
          BranchCovers g.M.Machine.has_made g.M.Machine.plan_held g.M.Machine.key_of plan (c.args.done + 1) c.step_state.new.branches.items (text_after plan made (step_at plan c.args.done)) (made ++ step_at plan c.args.done ∷ []))
          c.args.states.items (length c.loop-state.yielded) state turn.0
          (λ state taken made reaches. c.in_ok-step_state.ensures.stays (text_after plan made (step_at plan c.args.done)) (made ++ step_at plan c.args.done ∷ []) (taken made reaches))
          c.loop-state.invariant.taken
          (λ made reaches. c.in_ok-step_state.ensures.taken made (subst (λ (state : State g.row.M.Denot). Reaches g.M.Machine.has_made plan c.args.done state made) (sym turn.1) reaches))
          k d (omega arith);
    }

pub returns : goal.returns
returns g c =
    let plan = c.args.plan.now in
    let all = YieldsList-end (YieldsList-from_vec c.args.states.items c.into_iter-state-iterator.ensures.into_iter_gives.0 (c.into_iter-state-iterator.ensures.into_iter_gives.1 ∙ c.args.states.ok.0)) c.loop-state.yielded c.loop-state.state-iterator c.loop-state.yielded_by _ c.next.new.self c.in-None.is c.next.ensures.steps in
    record {
      kept = c.loop-state.invariant.kept;
      each = c.loop-state.invariant.each;
      ordered = c.loop-state.invariant.ordered;
      taken = λ made covers.
          c.loop-state.invariant.taken covers.0 covers.1 (omega (arith, covers.2, all.1)) made
          (subst (λ (state : State g.row.M.Denot). Reaches g.M.Machine.has_made plan c.args.done state made) (sym covers.3) covers.4);
    }
