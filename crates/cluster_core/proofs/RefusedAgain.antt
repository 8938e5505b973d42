-- A step that was refused is refused again, and the cluster has made it as often.
use Rattle.std.proofs.Common.{◌≡◌, ◌∙◌, ℕ, true, false, List, [], ◌∷◌, ◌++◌, Ok, refl, sym, ap, subst}
use Rattle.std.proofs.lemmas.Bool.{true≢false}
use Rattle.std.proofs.lemmas.List.{append_cancel_left}
use Rattle.step_kinds.specs.declared.plan.Plan.{Plan}
use Rattle.step_kinds.specs.declared.steps.Answer.{Answer}
use Rattle.step_kinds.specs.declared.steps.Answer.TheVariants.{Delivered}
use Rattle.step_kinds.specs.declared.steps.Step.{Step}
use Rattle.step_kinds.specs.declared.steps.Step.TheVariants.{Copy, Relay, Xbegin, Xnext}
use Rattle.ledger_model.specs.Log.{Answered, Memories}
use Rattle.ledger_laws.proofs.Facade.{log_of-last}
use Rattle.step_kinds.specs.Answers.{is_made}
use Rattle.ledger_model.specs.Memory.{memory_of}
use Rattle.fabric_core.specs.LogClauses.{IsAnswered as IsAnsweredOnBridges}
use Rattle.fabric_core.specs.Refusals.{counts_refusals}
use Rattle.fabric_core.proofs.Facade.{refused_again as refused_on_bridges}
use Rattle.pair_model.specs.Switch.{Switch}
use Rattle.ledger_model.specs.Network.{Action, Network, OnBridge, action_of, item_of, made_after, network_after as network_then, session_after, switches_reached}
use Rattle.ledger_model.specs.Origins.{bytes_kept}
use Rattle.cluster_core.specs.Cluster.{ClusterState}
use Rattle.cluster_core.specs.LogClauses.{IsClusterAnswered, IsNetwork, cluster_log_after, network_after}
use Rattle.cluster_core.specs.Refusals.{ClusterRefusedAgain, is_plain_step}
use Rattle.cluster_core.proofs.Networks.{item_by, log-last, network-last, next_by}
use Rattle.cluster_core.proofs.StepsOfNetworks.{answered_so}

same_head : {X : Type 0} (x y : X) → x ∷ [] ≡ y ∷ [] → x ≡ y
same_head x y e = cc e

-- Such a step is one on bridges, and a refusal of it brings no frame

plain_action : (plan : Plan) (switches : List (Switch (List ℕ))) (step : Step) → is_plain_step step ≡ true → action_of plan switches step ≡ OnBridge
plain_action plan switches (Relay pair side queue switch port) e = absurd (true≢false (sym e))
plain_action plan switches (Xnext pair side queue dev) e = absurd (true≢false (sym e))
plain_action plan switches step e = refl

-- as the log of the bridges goes on, the network answers
pub answer_on_bridges : (plan : Plan) (net : Network (List ℕ)) (step : Step) (answer : Answer) → IsAnsweredOnBridges plan net.steps step answer → is_plain_step step ≡ true → (item_by plan net step).answer ≡ answer
answer_on_bridges plan net step answer goes plain =
    let made = made_after plan (memory_of plan) net.steps step in
    ap (λ (action : Action (List ℕ)). (item_of bytes_kept plan (memory_of plan) net step action).answer) (plain_action plan net.switches step plain)
    ∙ ap (λ (made : Answered). made.answer)
    (same_head made (record { step = step; answer = answer })
    (append_cancel_left (Rattle.fabric_core.specs.LogClauses.log_after plan net.steps) (made ∷ []) (record { step = step; answer = answer } ∷ []) (sym (log_of-last plan (memory_of plan) net.steps step) ∙ goes)))

plain_uncounted : (step : Step) → is_plain_step step ≡ true → counts_refusals step ≡ false
plain_uncounted (Xbegin pair side queue dev dst kind payload) e = absurd (true≢false (sym e))
plain_uncounted step e = refl

refused_copy : (plan : Plan) (memories : Memories) (switches : List (Switch (List ℕ))) (session : ℕ → ℕ) (pair : ℕ) → (side : Rattle.step_kinds.specs.declared.names.Side.Side) (queue : ℕ) (answer : Answer) → is_made answer ≡ false →
    switches_reached bytes_kept plan memories switches session (Copy pair side queue) answer ≡ switches
refused_copy plan memories switches session pair side queue (Delivered number frame) e = absurd (true≢false e)
refused_copy plan memories switches session pair side queue answer e = refl

brings_none : (plan : Plan) (memories : Memories) (switches : List (Switch (List ℕ))) (session : ℕ → ℕ) (step : Step) (answer : Answer) → is_made answer ≡ false →
    switches_reached bytes_kept plan memories switches session step answer ≡ switches
brings_none plan memories switches session (Copy pair side queue) answer e = refused_copy plan memories switches session pair side queue answer e
brings_none plan memories switches session step answer e = refl

module _ (plan : Plan) (step : Step) (answer : Answer) (refused : is_made answer ≡ false) (plain : is_plain_step step ≡ true) where
  -- the network after such a step has one step more on its bridges
  abbrev one_more : Network (List ℕ) → Network (List ℕ)
  one_more net = record net { steps = net.steps ++ step ∷ [] }

  next-refused : (net : Network (List ℕ)) → (item_by plan net step).answer ≡ answer → next_by plan net step ≡ one_more net
  next-refused net is =
      let memories = memory_of plan in
      let own : (made_after plan memories net.steps step).answer ≡ answer = ap (λ (action : Action (List ℕ)). (item_of bytes_kept plan memories net step action).answer) (sym (plain_action plan net.switches step plain)) ∙ is in
      ap (network_then bytes_kept plan memories net step) (plain_action plan net.switches step plain)
      ∙ ap (λ (switches : List (Switch (List ℕ))). record net { steps = net.steps ++ step ∷ []; switches = switches })
      (ap (switches_reached bytes_kept plan memories net.switches (session_after plan memories net.steps) step) own
      ∙ brings_none plan memories net.switches (session_after plan memories net.steps) step answer refused)

  item-plain : (net : Network (List ℕ)) → item_by plan net step ≡ made_after plan (memory_of plan) net.steps step
  item-plain net = ap (item_of bytes_kept plan (memory_of plan) net step) (plain_action plan net.switches step plain)

  goes_on : (net : Network (List ℕ)) → (item_by plan net step).answer ≡ answer → IsAnsweredOnBridges plan net.steps step answer
  goes_on net is =
      log_of-last plan (memory_of plan) net.steps step
      ∙ ap (λ (made : Answer). Rattle.fabric_core.specs.LogClauses.log_after plan net.steps ++ record { step = step; answer = made } ∷ []) (ap (λ (made : Answered). made.answer) (sym (item-plain net)) ∙ is)

  again_in : (net : Network (List ℕ)) (cluster : ClusterState) → (item_by plan net step).answer ≡ answer → IsNetwork plan (one_more net) cluster →
      (answer ≡ (item_by plan (one_more net) step).answer) × IsNetwork plan (one_more (one_more net)) cluster
  again_in net cluster is stands =
      let next = refused_on_bridges plan net.steps step answer cluster.fabric (goes_on net is) refused (plain_uncounted step plain) stands.bridges in
      let told = same_head _ _
      (append_cancel_left (Rattle.fabric_core.specs.LogClauses.log_after plan (net.steps ++ step ∷ [])) (record { step = step; answer = answer } ∷ []) (made_after plan (memory_of plan) (net.steps ++ step ∷ []) step ∷ [])
      (sym next.0 ∙ log_of-last plan (memory_of plan) (net.steps ++ step ∷ []) step)) in (
        ap (λ (made : Answered). made.answer) (told ∙ sym (item-plain (one_more net))),
        record { bridges = next.1; plans = stands.plans; switches = stands.switches },
      )

-- The answer with which a cluster's log goes on at a step is that of the network's item for the step.
pub item_answer : (plan : Plan) (steps : List Step) (step : Step) (answer : Answer) → IsClusterAnswered plan steps step answer → (item_by plan (network_after plan steps) step).answer ≡ answer
item_answer plan steps step answer is =
    let item : Answered = item_by plan (network_after plan steps) step in
    ap (λ (made : Answered). made.answer)
    (same_head _ _ (append_cancel_left (cluster_log_after plan steps) (item ∷ []) (record { step = is.stands_as; answer = answer } ∷ []) (sym (log-last plan steps step) ∙ is.goes_on)))

-- A refused step, if no xbegin, relay or xnext, is answered the same at once again by a cluster that stays as it is.
pub refused_again : ClusterRefusedAgain
refused_again plan steps step answer cluster answered refused plain made =
    let net = network_after plan steps in
    let is = item_answer plan steps step answer answered in
    let once : network_after plan (steps ++ step ∷ []) ≡ one_more plan step answer refused plain net = network-last plan steps step ∙ next-refused plan step answer refused plain net is in
    let again = again_in plan step answer refused plain net cluster is (subst (λ (net : Network (List ℕ)). IsNetwork plan net cluster) once made) in
    let told : answer ≡ (item_by plan (network_after plan (steps ++ step ∷ [])) step).answer =
    again.0 ∙ ap (λ (net : Network (List ℕ)). (item_by plan net step).answer) (sym once) in
    let twice : network_after plan ((steps ++ step ∷ []) ++ step ∷ []) ≡ one_more plan step answer refused plain (one_more plan step answer refused plain net) =
    network-last plan (steps ++ step ∷ []) step ∙ next-refused plan step answer refused plain (network_after plan (steps ++ step ∷ [])) (sym told)
    ∙ ap (one_more plan step answer refused plain) once in (
      answered_so {E = ℕ} plan (steps ++ step ∷ []) step (Ok answer) told,
      subst (λ (net : Network (List ℕ)). IsNetwork plan net cluster) (sym twice) again.1,
    )
