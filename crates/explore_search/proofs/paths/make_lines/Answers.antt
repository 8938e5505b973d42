use Rattle.std.proofs.Common.{◌∙◌, ◌++◌, List, append-nil, append_assoc, ap, arith, get_or, refl, subst, sym}
use Rattle.pair_model.specs.PlanParts.{steps_in}
use Rattle.step_kinds.specs.declared.plan.Plan.{Plan}
use Rattle.step_kinds.specs.declared.steps.Step.{Step}
use Rattle.pair_model.specs.Switches.{IsMakeable}
use Rattle.explore_search.specs.Paths.{between}
use Rattle.explore_search.proofs.AlongPaths.{between_end, between_none, lines_more}
use Rattle.explore_search.proofs.paths.make_lines.Goals as goal

pub step-requires : goal.step-requires
step-requires g c =
    let line = get_or c.args.lines.now c.loop-place.place c.index-lines-place.result in
    subst (λ (kept : Plan). IsMakeable kept line.step) (sym c.loop-place.invariant.plan)
    (c.requires.may c.loop-place.place c.index-lines-place.result (omega arith))

pub loop-place-init : goal.loop-place-init
loop-place-init g c = record {
  none = λ _. refl;
  plan = refl;
  made = λ plan steps has.
      subst (λ (made : List Step). g.M.Machine.has_made c.args.machine.now plan made)
      (sym (ap (λ (more : List Step). steps ++ more) (between_none (steps_in c.args.lines.now) c.args.from c.args.from (omega arith)) ∙ append-nil steps)) has;
}

pub loop-place-preserved : goal.loop-place-preserved
loop-place-preserved g c = record {
  none = λ none. absurd (omega arith);
  plan = c.in_ok-step.ensures.plan ∙ c.loop-place.invariant.plan;
  made = λ plan steps has.
      let script = steps_in c.args.lines.now in
      subst (λ (made : List Step). g.M.Machine.has_made c.step.new.self plan made)
      (append_assoc steps (between script c.args.from c.loop-place.place) _
      ∙ ap (λ (more : List Step). steps ++ more) (sym (lines_more c.args.lines.now c.args.from c.loop-place.place c.index-lines-place.result (omega arith) (omega arith))))
      (c.in_ok-step.ensures.made plan (steps ++ between script c.args.from c.loop-place.place) (c.loop-place.invariant.made plan steps has));
}

pub returns-clause-made : goal.returns-clause-made
returns-clause-made g c =
    λ plan steps has.
    subst (λ (more : List Step). g.M.Machine.has_made c.loop-place.machine plan (steps ++ more))
    (between_end (steps_in c.args.lines.now) c.args.from c.loop-place.place c.args.to c.loop-place.auto.place (omega arith) c.loop-place.invariant.none c.loop-place.auto.place-end)
    (c.loop-place.invariant.made plan steps has)
