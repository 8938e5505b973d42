use Rattle.std.proofs.Common.{◌≡◌, List, false, sym, subst}
use Rattle.std.specs.Prelude.{◌≢◌}
use Rattle.std.proofs.lemmas.Result.{IfOk-weaker}
use Rattle.step_kinds.specs.declared.plan.Plan.{Plan}
use Rattle.step_kinds.specs.declared.steps.Answer.{Answer}
use Rattle.step_kinds.specs.declared.steps.Answer.TheVariants.{Landed}
use Rattle.step_kinds.specs.declared.steps.Label.{Label}
use Rattle.step_kinds.specs.declared.steps.Step.{Step}
use Rattle.ledger_model.specs.Memory.{memory_of}
use Rattle.ledger_model.specs.NetworkLog.{answer_after}
use Rattle.cluster_core.proofs.Facade.{one_answer}
use Rattle.cluster_core.specs.Cluster.{ClusterState}
use Rattle.cluster_core.specs.LogClauses.{HasClusterMade, IsClusterAnswered}
use Rattle.explore_model.specs.Schedules.{is_landed}
use Rattle.explore_command.proofs.LandedLabels.{not_landed}
use Rattle.explore_command.proofs.machine.PathClusterMachine.step.Goals as goal

pub returns-clause-answer : goal.returns-clause-answer
returns-clause-answer c = λ (plan : Plan) (steps : List Step) made.
    let at = subst (λ (cluster : ClusterState). HasClusterMade plan steps cluster) (sym c.self.view_is) made in
    IfOk-weaker c.step.result (IsClusterAnswered plan steps c.args.step.now) (λ (answer : Answer). answer ≡ answer_after plan (memory_of plan) steps c.args.step.now)
    (λ (answer : Answer) (is : IsClusterAnswered plan steps c.args.step.now answer). one_answer plan steps c.args.step.now answer is) (c.step.ensures.answered plan steps at)

pub returns-clause-rests : goal.returns-clause-rests
returns-clause-rests c = λ (plan : Plan) (steps : List Step) made landing is.
    let at = subst (λ (cluster : ClusterState). HasClusterMade plan steps cluster) (sym c.self.view_is) made in
    IfOk-weaker c.step.result (λ (answer : Answer). ((label : Label) → answer ≢ Landed label) → HasClusterMade plan steps c.step.new.self) (λ (answer : Answer). is_landed answer ≡ false → HasClusterMade plan steps c.step.new.self)
    (λ (answer : Answer) rests idle. rests (not_landed answer idle)) (c.step.ensures.rests plan steps at landing.pair landing.side landing.place is)
