use Rattle.std.proofs.Common.{◌*◌, ◌/◌, ◌%◌, ◌^◌, ◌++◌, ◌∙◌, ap}
use Rattle.step_kinds.specs.declared.names.Side.TheVariants.{A}
use Rattle.step_kinds.specs.declared.steps.Step.TheVariants.{Land}
use Rattle.step_list.specs.Compact.{lines_with}
use Rattle.traffic_plan.proofs.Frames.{appended}
use Rattle.traffic_plan.proofs.steps.push_landings.Goals as goal

pub loop-i-preserved : goal.loop-i-preserved
loop-i-preserved c =
    appended c.args.line (λ i. Land 0 A (c.args.word / 2 ^ (8 * i) % 4)) c.loop-i.i c.args.steps.now c.loop-i.steps c.push.new.self c.loop-i.invariant
    (c.in_ok-push.ensures.ok ∙ ap (λ steps. c.loop-i.steps ++ lines_with c.args.line steps) c.land.ensures)
