use Rattle.std.proofs.Common.{◌≡◌, ◌∙◌, List, ap, subst, sym}
use Rattle.step_kinds.specs.declared.plan.Plan.{Plan}
use Rattle.step_kinds.specs.declared.steps.Step.{Step}
use Rattle.cluster_core.specs.Cluster.{ClusterState, plan_held}
use Rattle.cluster_core.specs.Clusters.{cluster_seen}
use Rattle.cluster_core.specs.LogClauses.{HasClusterMade, network_after}
use Rattle.cluster_core.proofs.SameClusters.{merged}
use Rattle.cluster_core.proofs.cluster.Cluster.is_same.Goals as goal

pub returns-then-is_same-clause-merges : goal.returns-then-is_same-clause-merges
returns-then-is_same-clause-merges c = λ yes.
    let one = cluster_seen c.self.inside in
    let other = cluster_seen c.other.inside in
    let plans : plan_held one ≡ plan_held other = ap plan_held c.self.view_is ∙ c.requires ∙ sym (ap plan_held c.other.view_is) in
    let switches : one.switches ≡ other.switches = sym c.deref.ensures.value ∙ c.are_same_switches.ensures.0 yes ∙ c.deref-then-is_same.ensures.value in
    subst (λ (cluster : ClusterState). (plan : Plan) (steps : List Step) → HasClusterMade plan steps cluster → HasClusterMade plan steps c.args.other.now) c.self.view_is
    (subst (λ (cluster : ClusterState). (plan : Plan) (steps : List Step) → HasClusterMade plan steps one → HasClusterMade plan steps cluster) c.other.view_is
    (merged one other plans (c.is_same.ensures.merges c.if-is_same.true) switches))

pub returns-else-is_same-clause-apart : goal.returns-else-is_same-clause-apart
returns-else-is_same-clause-apart c = λ plan steps made owns.
    let one = subst (λ (cluster : ClusterState). HasClusterMade plan steps cluster) (sym c.self.view_is) made in
    let other = subst (λ (cluster : ClusterState). HasClusterMade plan steps cluster) (sym c.other.view_is) owns in
    c.is_same.ensures.apart plan (network_after plan steps).steps one.bridges other.bridges
