-- Clusters that have made one common list of steps, what they have made else, and their keys.
use Rattle.std.proofs.Common.{◌≡◌, ◌∙◌, ◌++◌, ◌∷◌, [], ℕ, List, sym, ap, refl, subst}
use Rattle.step_kinds.specs.declared.names.Side.{Side}
use Rattle.step_kinds.specs.declared.plan.Plan.{Plan}
use Rattle.step_kinds.specs.declared.steps.Answer.{Answer}
use Rattle.step_kinds.specs.declared.steps.Answer.TheVariants.{Landed, Nothing}
use Rattle.step_kinds.specs.declared.steps.Step.{Step}
use Rattle.step_kinds.specs.declared.steps.Step.TheVariants.{Land}
use Rattle.fabric_core.specs.InFlight.{LandsNoneFrom as LandsNoneOnBridges}
use Rattle.ledger_laws.proofs.Facade.{log_of-last}
use Rattle.ledger_model.specs.Memory.{memory_of}
use Rattle.ledger_model.specs.NetworkLog.{answer_after}
use Rattle.ledger_model.specs.Network.{Network}
use Rattle.fabric_core.specs.LogClauses.{HasMade as HasMadeOnBridges, IsAnswered as IsAnsweredOnBridges, log_after as log_on_bridges}
use Rattle.fabric_core.proofs.Facade.{key_once_landed as key_on_bridges, one_list_makes_same, same_has_made_same, same_keys as same_fabrics_keys}
use Rattle.cluster_core.specs.Cluster.{ClusterState, plan_held}
use Rattle.cluster_core.specs.InFlight.{ClusterLandsNoneFrom}
use Rattle.cluster_core.specs.Laws.{ClusterKeyOnceLanded, OneAnswer, SameClusterKeys, SameSteps}
use Rattle.cluster_core.specs.LogClauses.{HasClusterMade, IsNetwork, network_after}
use Rattle.cluster_core.proofs.Networks.{network-last}
use Rattle.cluster_core.proofs.RefusedAgain.{answer_on_bridges, item_answer}

-- The laws

-- what the one has made, by its fabric and its switches
pub same_steps : SameSteps
same_steps plan common steps cluster other made owns goes =
    let net = network_after plan steps in
    let shared = network_after plan common in
    record {
      bridges = same_has_made_same plan net.steps shared.steps cluster.fabric other.fabric (one_list_makes_same plan shared.steps cluster.fabric other.fabric made.bridges owns.bridges) goes.bridges owns.bridges;
      plans = owns.plans;
      switches = owns.switches ∙ sym made.switches ∙ goes.switches;
    }

-- the keys are those of the fabrics
pub same_keys : SameClusterKeys
same_keys plan common cluster other made owns =
    same_fabrics_keys plan (network_after plan common).steps cluster.fabric other.fabric made.bridges owns.bridges

-- the last item of the log has the answer
pub one_answer : OneAnswer
unfolding answer_after
one_answer plan steps step answer is = sym (item_answer plan steps step answer is)

-- Two clusters, of which a call says that their fabrics have made the same

-- A cluster has made what another has, if its fabric has made what the other's has, with equal plans and switches.
pub merged : (cluster other : ClusterState) → plan_held cluster ≡ plan_held other → ((plan : Plan) (steps : List Step) → HasMadeOnBridges plan steps cluster.fabric → HasMadeOnBridges plan steps other.fabric) → cluster.switches ≡ other.switches →
    (plan : Plan) (steps : List Step) → HasClusterMade plan steps cluster → HasClusterMade plan steps other
merged cluster other plans merges switches plan steps made =
    record {
      bridges = merges plan (network_after plan steps).steps made.bridges;
      plans = sym (ap (λ (plan : Plan). plan.switches) plans) ∙ made.plans;
      switches = sym switches ∙ made.switches;
    }

-- what has made one list has the same switches
pub same_switches : (plan : Plan) (steps : List Step) (cluster other : ClusterState) → HasClusterMade plan steps cluster → HasClusterMade plan steps other → cluster.switches ≡ other.switches
same_switches plan steps cluster other made owns = made.switches ∙ sym owns.switches

-- One landing more

module _ (plan : Plan) (steps : List Step) (pair : ℕ) (side : Side) (place : ℕ) where
  -- a landing is made on the bridges alone
  landed_network : network_after plan (steps ++ Land pair side place ∷ []) ≡ record (network_after plan steps) { steps = (network_after plan steps).steps ++ Land pair side place ∷ [] }
  landed_network = network-last plan steps (Land pair side place)

  -- so a cluster has made it where its bridges have, and its switches stayed
  pub landed_too : (cluster other : ClusterState) → plan_held cluster ≡ plan_held other → HasMadeOnBridges plan ((network_after plan steps).steps ++ Land pair side place ∷ []) other.fabric → cluster.switches ≡ other.switches
      → HasClusterMade plan steps cluster → HasClusterMade plan (steps ++ Land pair side place ∷ []) other
  landed_too cluster other plans bridges switches made =
      subst (λ (net : Network (List ℕ)). IsNetwork plan net other) (sym landed_network)
      (record {
        bridges = bridges;
        plans = sym (ap (λ (plan : Plan). plan.switches) plans) ∙ made.plans;
        switches = sym switches ∙ made.switches;
      })

  -- and where it has, they have
  pub bridges_landed : (other : ClusterState) → HasClusterMade plan (steps ++ Land pair side place ∷ []) other → HasMadeOnBridges plan ((network_after plan steps).steps ++ Land pair side place ∷ []) other.fabric
  bridges_landed other owns = (subst (λ (net : Network (List ℕ)). IsNetwork plan net other) landed_network owns).bridges

  pub switches_stayed : (cluster other : ClusterState) → HasClusterMade plan steps cluster → HasClusterMade plan (steps ++ Land pair side place ∷ []) other → cluster.switches ≡ other.switches
  switches_stayed cluster other made owns = made.switches ∙ sym (subst (λ (net : Network (List ℕ)). IsNetwork plan net other) landed_network owns).switches

  -- the bridges answer as the network does
  pub answered_on_bridges : (answer : Answer) → answer_after plan (memory_of plan) steps (Land pair side place) ≡ answer → IsAnsweredOnBridges plan (network_after plan steps).steps (Land pair side place) answer
  unfolding answer_after
  answered_on_bridges answer is =
      let net = network_after plan steps in
      log_of-last plan (memory_of plan) net.steps (Land pair side place)
      ∙ ap (λ (answer : Answer). log_on_bridges plan net.steps ++ record { step = Land pair side place; answer = answer } ∷ []) is

-- the key without a write is that of the fabric on which it has landed
pub key_once_landed : ClusterKeyOnceLanded
key_once_landed plan steps pair side place label cluster after made answered owns =
    key_on_bridges plan (network_after plan steps).steps pair side place label cluster.fabric after.fabric made.bridges (answered_on_bridges plan steps pair side place (Landed label) answered)
    (bridges_landed plan steps pair side place after owns)

-- From a place on nothing lands

-- the network answers as the log of its bridges goes on
pub lands_none : (cluster : ClusterState) (pair : ℕ) (side : Side) (count : ℕ) → LandsNoneOnBridges cluster.fabric pair side count → ClusterLandsNoneFrom cluster pair side count
unfolding answer_after
lands_none cluster pair side count none plan steps made place beyond =
    let net = network_after plan steps in
    answer_on_bridges plan net (Land pair side place) Nothing (none plan net.steps made.bridges place beyond) refl
