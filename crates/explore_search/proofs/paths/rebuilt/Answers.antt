use Rattle.std.proofs.Common.{◌∙◌, ◌≤◌, ℕ, List, [], ◌∷◌, ◌++◌, ap, arith, get_or, length, subst, sym, take}
use Rattle.pair_model.specs.PlanParts.{steps_in}
use Rattle.step_kinds.specs.declared.names.Side.TheVariants.{A}
use Rattle.step_kinds.specs.declared.plan.Line.{Line}
use Rattle.step_kinds.specs.declared.steps.Step.{Step}
use Rattle.pair_model.specs.Switches.{IsMakeable}
use Rattle.explore_model.specs.declared.outcome.Landing.{Landing}
use Rattle.explore_search.specs.Paths.{Walked, between, search_script_of, walked}
use Rattle.explore_search.proofs.AlongPaths.{path_of_walked, walked_more}
use Rattle.explore_search.proofs.Makeable.{landing_makeable, lines_makeable}
use Rattle.explore_search.proofs.paths.rebuilt.Goals as goal

no_landing : Landing
no_landing = record { at = 0; pair = 0; side = A; place = 0 }

pub make_lines-requires : goal.make_lines-requires
unfolding no_landing
make_lines-requires g c =
    let at : (get_or c.args.landings.now c.loop-landing.landing-index no_landing).at ≤ c.args.done = (c.requires.landings c.loop-landing.landing-index no_landing (omega arith)).at in
    let size = ap length c.as_slice-lines.ensures in
    record {
      may = lines_makeable c.args.plan.now _ c.as_slice-lines.result.now c.loop-landing.invariant.plan c.as_slice-lines.ensures c.requires.plan.steps;
      within = omega arith;
    }

pub step-requires : goal.step-requires
unfolding no_landing
step-requires g c =
    let landing : Landing = get_or c.args.landings.now c.loop-landing.landing-index no_landing in
    subst (λ (step : Step). IsMakeable (g.M.Machine.plan_held c.make_lines.new.machine) step) (sym c.as_step.ensures)
    (landing_makeable c.args.plan.now _ landing (c.in_ok-make_lines.ensures.plan ∙ c.loop-landing.invariant.plan)
    (c.requires.landings c.loop-landing.landing-index no_landing (omega arith)).may)

pub loop-landing-preserved : goal.loop-landing-preserved
unfolding no_landing
loop-landing-preserved g c =
    let landing : Landing = get_or c.args.landings.now c.loop-landing.landing-index no_landing in
    let script : List Step = search_script_of c.args.plan.now in
    let now : Walked = walked script (take c.loop-landing.landing-index c.args.landings.now) in
    let more = walked_more script c.args.landings.now c.loop-landing.landing-index no_landing (omega arith) in
    record {
      plan = c.in_ok-step.ensures.plan ∙ c.in_ok-make_lines.ensures.plan ∙ c.loop-landing.invariant.plan;
      at = sym (ap (λ (now : Walked). now.at) more);
      made =
          subst (λ (made : List Step). g.M.Machine.has_made c.step.new.self c.args.plan.now made)
          (ap (λ (lines : List Line). (now.made ++ between (steps_in lines) c.loop-landing.at landing.at) ++ c.as_step.result ∷ []) c.as_slice-lines.ensures
          ∙ ap (λ (at : ℕ). (now.made ++ between script at landing.at) ++ c.as_step.result ∷ []) c.loop-landing.invariant.at
          ∙ ap (λ (step : Step). (now.made ++ between script now.at landing.at) ++ step ∷ []) c.as_step.ensures
          ∙ sym (ap (λ (now : Walked). now.made) more))
          (c.in_ok-step.ensures.made c.args.plan.now _ (c.in_ok-make_lines.ensures.made c.args.plan.now _ c.loop-landing.invariant.made));
    }

pub returns-clause-made : goal.returns-clause-made
returns-clause-made g c =
    subst (λ (made : List Step). g.M.Machine.has_made c.make_lines-2.new.machine c.args.plan.now made)
    (path_of_walked c.as_slice-lines.result.now (search_script_of c.args.plan.now) c.args.landings.now c.loop-landing.landing-index c.loop-landing.at c.args.done
    (ap steps_in c.as_slice-lines.ensures) (omega arith) c.loop-landing.invariant.at)
    (c.in_ok-make_lines-2.ensures.made c.args.plan.now _ c.loop-landing.invariant.made)
