use Rattle.std.proofs.Common.{◌≡◌, ◌∙◌, ◌++◌, ◌∷◌, [], ap, subst, sym}
use Rattle.step_kinds.specs.declared.steps.Answer.TheVariants.{Landed}
use Rattle.step_kinds.specs.declared.steps.Step.TheVariants.{Land}
use Rattle.cluster_core.specs.Cluster.{ClusterState, plan_held}
use Rattle.cluster_core.specs.Clusters.{cluster_seen}
use Rattle.cluster_core.specs.LogClauses.{HasClusterMade, network_after}
use Rattle.cluster_core.proofs.SameClusters.{answered_on_bridges, bridges_landed, landed_too, switches_stayed}
use Rattle.cluster_core.proofs.cluster.Cluster.lands_as.Goals as goal

pub returns-then-lands_as-clause-merges : goal.returns-then-lands_as-clause-merges
returns-then-lands_as-clause-merges c = λ yes plan steps made.
    let one = cluster_seen c.self.inside in
    let other = cluster_seen c.other.inside in
    let plans : plan_held one ≡ plan_held other = ap plan_held c.self.view_is ∙ c.requires.plans ∙ sym (ap plan_held c.other.view_is) in
    let switches : one.switches ≡ other.switches = sym c.deref.ensures.value ∙ c.are_same_switches.ensures.0 yes ∙ c.deref-then-lands_as.ensures.value in
    let own = subst (λ (cluster : ClusterState). HasClusterMade plan steps cluster) (sym c.self.view_is) made in
    subst (λ (cluster : ClusterState). HasClusterMade plan (steps ++ Land c.args.pair c.args.side c.args.place ∷ []) cluster) c.other.view_is
    (landed_too plan steps c.args.pair c.args.side c.args.place one other plans (c.lands_as.ensures.merges c.if-lands_as.true plan (network_after plan steps).steps own.bridges) switches own)

pub returns-then-lands_as-clause-apart : goal.returns-then-lands_as-clause-apart
returns-then-lands_as-clause-apart c = λ plan steps label made answered owns.
    let one = subst (λ (cluster : ClusterState). HasClusterMade plan steps cluster) (sym c.self.view_is) made in
    let other = subst (λ (cluster : ClusterState). HasClusterMade plan (steps ++ Land c.args.pair c.args.side c.args.place ∷ []) cluster) (sym c.other.view_is) owns in
    c.are_same_switches.ensures.1
    (c.deref.ensures.value ∙ switches_stayed plan steps c.args.pair c.args.side c.args.place (cluster_seen c.self.inside) (cluster_seen c.other.inside) one other ∙ sym c.deref-then-lands_as.ensures.value)

pub returns-else-lands_as-clause-apart : goal.returns-else-lands_as-clause-apart
returns-else-lands_as-clause-apart c = λ plan steps label made answered owns.
    let one = subst (λ (cluster : ClusterState). HasClusterMade plan steps cluster) (sym c.self.view_is) made in
    let other = subst (λ (cluster : ClusterState). HasClusterMade plan (steps ++ Land c.args.pair c.args.side c.args.place ∷ []) cluster) (sym c.other.view_is) owns in
    c.lands_as.ensures.apart plan (network_after plan steps).steps label one.bridges (answered_on_bridges plan steps c.args.pair c.args.side c.args.place (Landed label) answered)
    (bridges_landed plan steps c.args.pair c.args.side c.args.place (cluster_seen c.other.inside) other)
