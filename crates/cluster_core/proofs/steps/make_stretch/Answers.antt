use Rattle.std.proofs.Common.{arith, subst}
use Rattle.std.specs.List.{All}
use Rattle.step_kinds.specs.declared.plan.Line.{Line}
use Rattle.pair_model.specs.Switches.{IsMakeable}
use Rattle.step_list.specs.StepLists.{lines_in}
use Rattle.step_list.specs.declared.step_list.Stretch.{Stretch}
use Rattle.cluster_core.specs.Cluster.{plan_held}
use Rattle.cluster_core.proofs.steps.make_stretch.Goals as goal

pub make_step-requires : goal.make_step-requires
make_step-requires g c =
    let P : Line → Type 0 = λ line. IsMakeable (plan_held c.args.cluster.now) line.step in
    rw c.deref.ensures (subst (λ (stretch : Stretch). All P (lines_in stretch)) c.in-One.is c.requires 0 (record { line = c.in-One.line; step = c.in-One.step.value }) (omega arith))

pub make_received-requires : goal.make_received-requires
make_received-requires g c =
    let P : Line → Type 0 = λ line. IsMakeable (plan_held c.args.cluster.now) line.step in
    subst (λ (stretch : Stretch). All P (lines_in stretch)) c.in-Received.is c.requires
