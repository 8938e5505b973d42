-- What a cluster has made after one step more.
use Rattle.std.specs.Prelude.{◌≢◌, ◌-◌, ◌==◌, ◌&&◌, if◌then◌else◌, is_some, nat_lt}
use Rattle.std.proofs.Common.{◌≡◌, ◌∙◌, ℕ, Bool, true, false, List, [], ◌∷◌, ◌++◌, Option, Some, None, Result, Ok, Err, IfOk, IsErr, OnOk, OnErr, ◌<◌, length, set, slice_get, refl, sym, ap, subst, arith, inl, inr}
use Rattle.std.proofs.lemmas.Bool.{true≢false}
use Rattle.std.proofs.lemmas.List.{set-get_or}
use Rattle.step_kinds.specs.Answers.{is_made}
use Rattle.step_kinds.specs.Subject.{subject_of}
use Rattle.step_kinds.specs.declared.names.LaneName.{LaneName}
use Rattle.step_kinds.specs.declared.names.Side.{Side}
use Rattle.step_kinds.specs.declared.plan.DevPlan.{DevPlan}
use Rattle.step_kinds.specs.declared.plan.Plan.{Plan}
use Rattle.step_kinds.specs.declared.plan.SwitchPlan.{SwitchPlan}
use Rattle.step_kinds.specs.declared.steps.Answer.{Answer}
use Rattle.step_kinds.specs.declared.steps.Answer.TheVariants.{Delivered, Landed, Nothing as NoFrame, OkNumber}
use Rattle.step_kinds.specs.declared.steps.Label.{Label}
use Rattle.step_kinds.specs.declared.steps.Step.{Step}
use Rattle.step_kinds.specs.declared.steps.Step.TheVariants.{Copy, Land, Relay, Xnext}
use Rattle.pair_model.specs.DeclaredPlans.{IsQueueOf}
use Rattle.pair_model.specs.Switches.{IsMakeable}
use Rattle.ledger_model.specs.Log.{Answered}
use Rattle.ledger_laws.proofs.Facade.{answer_of, landing_refused}
use Rattle.ledger_model.specs.Memory.{memory_of}
use Rattle.fabric_core.specs.Fabric.{FabricState, may_want_memory as bridges_may_want, pair_of, plain as plain_fabric, plan_kept}
use Rattle.fabric_core.specs.FabricStep.{HasStepped as HasSteppedOnBridges}
use Rattle.fabric_core.specs.FrameDue.{delivered_by, frame_due, rule_answer}
use Rattle.fabric_core.specs.LogClauses.{HasMade as HasMadeOnBridges, IsAnswered as IsAnsweredOnBridges}
use Rattle.fabric_core.specs.Refusals.{refused_in as refused_on_bridges}
use Rattle.fabric_core.specs.Wants.{MayWant}
use Rattle.fabric_core.proofs.Facade.{due_wanted}
use Rattle.pair_model.specs.Fdb.{destination, is_multicast, learned_source, lookup, source}
use Rattle.pair_model.specs.Ethernet.{ethernet_header}
use Rattle.pair_model.specs.Switch.{Switch, after, answer_of as answer_to, first, forward_answer, frame_answer, list_of, new_switch, unicast_answer}
use Rattle.pair_model.specs.declared.RelayAnswer.{RelayAnswer}
use Rattle.pair_model.specs.declared.RelayAnswer.TheVariants.{Nothing, Short, Filtered, To, Flood}
use Rattle.pair_model.specs.declared.Station.{Station}
use Rattle.ledger_model.specs.Network.{Action, Network, Rests, Sends, answer_of as relay_answer_of, arrived_at, begin_on, item_of, made_after, network_after as network_then, sends_first, sends_from, session_after, switches_reached, switches_sent}
use Rattle.ledger_model.specs.Origins.{bytes_kept}
use Rattle.ledger_model.specs.Ports.{Port, port_from, port_on, switch_of}
use Rattle.learn_switch.specs.Frames.{SwitchBytes, bytes_relay_answer, goes_on}
use Rattle.cluster_core.specs.Cluster.{ClusterState, plain_cluster, plan_held}
use Rattle.cluster_core.specs.ClusterStep.{HasClusterStepped}
use Rattle.cluster_core.specs.LogClauses.{HasClusterMade, IsClusterAnswered, IsNetwork, cluster_log_after, network_after}
use Rattle.cluster_core.specs.Moves.{BringsFrame, brought_in, does_send, port_in, relay_answer_in, relay_goes_on, relayed_in, sending_in, sends_next, cluster_taken_in}
use Rattle.cluster_core.specs.Parts.{HasDeviceOn, part_of, cluster_port_seen}
use Rattle.cluster_core.specs.Refusals.{cluster_refused_in}
use Rattle.cluster_core.specs.Wants.{IsClusterWantedAfter, cluster_may_want_memory, sends_waiting}
use Rattle.cluster_core.specs.declared.cluster.NextFrame.{NextFrame}
use Rattle.cluster_core.specs.declared.ports.PortPlace.{PortPlace}
use Rattle.cluster_core.specs.declared.parts.StepPart.TheVariants.{Copies, OnBridges, Relays, Sends as SendsNext}
use Rattle.cluster_core.proofs.Networks.{action_on_bridges, item_by, log-last, network-last, next_by, reached_on_bridges}
use Rattle.cluster_core.proofs.PlainFabrics.{plain_has_made}

-- A step over each network that the old cluster may be

-- at the answer of the network's item for it a step may be out of memory
abbrev pub IsWantedIn : Plan → Network (List ℕ) → ClusterState → Step → Type 0
IsWantedIn plan net cluster step = (answer : Answer) × (answer ≡ (item_by plan net step).answer) × MayWant (pair_of cluster.fabric (subject_of step)) step answer

pub record Goes {E : Type 0} (old new : ClusterState) (step : Step) (result : Result Answer E) : Type 0 where
  pub answered : (plan : Plan) (net : Network (List ℕ)) → IsNetwork plan net old → IfOk result (λ answer. answer ≡ (item_by plan net step).answer)
  pub made : (plan : Plan) (net : Network (List ℕ)) → IsNetwork plan net old → OnOk result (IsNetwork plan (next_by plan net step) new)
  pub refused : IfOk result (λ answer. is_made answer ≡ false → plain_cluster new ≡ plain_cluster (cluster_refused_in old step))
  pub still_made : (plan : Plan) (net : Network (List ℕ)) → IsNetwork plan net old → OnErr result (IsNetwork plan net new)
  pub err : OnErr result (plain_cluster new ≡ plain_cluster old)
  pub wants : IsErr result → cluster_may_want_memory old step ≡ true
  pub border : (plan : Plan) (net : Network (List ℕ)) → IsNetwork plan net old → sends_waiting step ≡ false → OnErr result (IsWantedIn plan net old step)
  pub rests : (plan : Plan) (net : Network (List ℕ)) → IsNetwork plan net old → (pair : ℕ) (side : Side) (place : ℕ) → step ≡ Land pair side place →
      IfOk result (λ answer. ((label : Label) → answer ≢ Landed label) → IsNetwork plan net new)

-- An answer that is the one of the network's item for a step is one with which the cluster's log goes on.
pub answered_so : {E : Type 0} (plan : Plan) (steps : List Step) (step : Step) (result : Result Answer E) →
    IfOk result (λ answer. answer ≡ (item_by plan (network_after plan steps) step).answer) → IfOk result (λ answer. IsClusterAnswered plan steps step answer)
answered_so plan steps step (Err error) is = tt
answered_so plan steps step (Ok answer) is =
    let item : Answered = item_by plan (network_after plan steps) step in
    record {
      stands_as = item.step;
      goes_on = log-last plan steps step ∙ ap (λ (given : Answer). cluster_log_after plan steps ++ record { step = item.step; answer = given } ∷ []) (sym is);
    }

made_so : {E : Type 0} (plan : Plan) (steps : List Step) (step : Step) (new : ClusterState) (result : Result Answer E) →
    OnOk result (IsNetwork plan (next_by plan (network_after plan steps) step) new) → OnOk result (HasClusterMade plan (steps ++ step ∷ []) new)
made_so plan steps step new (Err error) made = tt
made_so plan steps step new (Ok answer) made = subst (λ (net : Network (List ℕ)). IsNetwork plan net new) (sym (network-last plan steps step)) made

wanted_so : {E : Type 0} (plan : Plan) (steps : List Step) (cluster : ClusterState) (step : Step) (result : Result Answer E) →
    OnErr result (IsWantedIn plan (network_after plan steps) cluster step) → OnErr result (IsClusterWantedAfter plan steps cluster step)
wanted_so plan steps cluster step (Err error) wanted = (wanted.0, answered_so {E = ℕ} plan steps step (Ok wanted.0) wanted.1, wanted.2)
wanted_so plan steps cluster step (Ok answer) wanted = tt

-- A step meets a cluster's contract if it goes right in each network the cluster may be and keeps the cluster's plan.
pub has_stepped : {E : Type 0} (old new : ClusterState) (step : Step) (result : Result Answer E) → Goes old new step result → plan_held new ≡ plan_held old → HasClusterStepped old new step result
has_stepped old new step result goes same = record {
  answered = λ plan steps made. answered_so plan steps step result (goes.answered plan (network_after plan steps) made);
  made = λ plan steps made. made_so plan steps step new result (goes.made plan (network_after plan steps) made);
  refused = goes.refused;
  still_made = λ plan steps made. goes.still_made plan (network_after plan steps) made;
  err = goes.err;
  wants = goes.wants;
  border = λ plan steps made unmade. wanted_so plan steps old step result (goes.border plan (network_after plan steps) made unmade);
  rests = λ plan steps made pair side place is. goes.rests plan (network_after plan steps) made pair side place is;
  plan = same;
}

-- What is so anyway is so where there was no memory.
pub where_err : {T E P : Type 0} (result : Result T E) → P → OnErr result P
where_err (Ok value) is = tt
where_err (Err error) is = is

-- clusters of equal parts

abbrev cluster_with : FabricState → List SwitchPlan → List SwitchBytes → ClusterState
cluster_with fabric plans switches = record { fabric = fabric; plans = plans; switches = switches }

same_cluster : (fabric fabric' : FabricState) (plans plans' : List SwitchPlan) (switches switches' : List SwitchBytes) → fabric ≡ fabric' → plans ≡ plans' → switches ≡ switches' →
    cluster_with fabric plans switches ≡ cluster_with fabric' plans' switches'
same_cluster fabric fabric' plans plans' switches switches' f p s = λ i. cluster_with (f i) (p i) (s i)

-- Relays

made_either : (test : Bool) (one other : RelayAnswer) → is_made (relay_answer_of one) ≡ true → is_made (relay_answer_of other) ≡ true → is_made (relay_answer_of (if test then one else other)) ≡ true
made_either true one other is its = is
made_either false one other is its = its

made_unicast : (ports port : ℕ) (target : Option ℕ) → is_made (relay_answer_of (unicast_answer ports port target)) ≡ true
made_unicast ports port None = refl
made_unicast ports port (Some target) = made_either (target == port) Filtered (To target) refl refl

-- a relay of a frame is no refusal
made_of_frame : (ports : ℕ) (fdb : List Station) (port : ℕ) (bytes : List ℕ) → is_made (relay_answer_of (frame_answer ports fdb port bytes)) ≡ true
made_of_frame ports fdb port bytes =
    let known = learned_source fdb port (source bytes) in
    made_either (nat_lt (length bytes) ethernet_header) (Short (length bytes)) (forward_answer ports known port (destination bytes)) refl
    (made_either (is_multicast (destination bytes)) (Flood (ports - 1)) (unicast_answer ports port (lookup known (destination bytes))) refl
    (made_unicast ports port (lookup known (destination bytes))))

-- so one that is refused leaves the switch as it was
refused_by_frame : (switch : SwitchBytes) (port : ℕ) (frame : Option (List ℕ)) → is_made (relay_answer_of (answer_to (λ bytes. bytes) switch port frame)) ≡ false → after (λ bytes. bytes) switch port frame ≡ switch
refused_by_frame switch port None unmade = refl
refused_by_frame switch port (Some frame) unmade = absurd (true≢false (sym (made_of_frame (length switch.waiting) switch.fdb port frame) ∙ unmade))

refused_relay : (cluster : ClusterState) (port : Port) → is_made (relay_answer_in cluster port) ≡ false → relayed_in cluster port ≡ cluster
refused_relay cluster port unmade =
    let switch = switch_of cluster.switches port in
    ap (λ (after : SwitchBytes). record cluster { switches = set cluster.switches port.switch after }) (refused_by_frame switch port.place (slice_get (list_of switch.inboxes port.place) 0) unmade)
    ∙ ap (λ (switches : List SwitchBytes). record cluster { switches = switches }) (set-get_or cluster.switches port.switch (new_switch 0))

-- and one whose frame goes on is made
relay_made : (answer : RelayAnswer) → goes_on answer ≡ true → is_made (relay_answer_of answer) ≡ true
relay_made Nothing on = cc on
relay_made (Short len) on = refl
relay_made Filtered on = refl
relay_made (To target) on = refl
relay_made (Flood count) on = refl

-- A relay goes right in each network the cluster may be if its switches make it, or an error changes nothing.
pub goes_relayed : {E : Type 0} (old new : ClusterState) (pair : ℕ) (side : Side) (queue switch port : ℕ) (result : Result Answer E) →
    IfOk result (λ answer. answer ≡ relay_answer_in old (record { switch = switch; place = port })) → OnOk result (new ≡ relayed_in old (record { switch = switch; place = port })) →
    OnErr result (new ≡ old) → OnErr result (relay_goes_on old (record { switch = switch; place = port }) ≡ true) → Goes old new (Relay pair side queue switch port) result
goes_relayed old new pair side queue switch port (Err error) answer after err wants = record {
  answered = λ plan net is. tt;
  made = λ plan net is. tt;
  refused = tt;
  still_made = λ plan net is. subst (IsNetwork plan net) (sym err) is;
  err = ap plain_cluster err;
  wants = λ failed. wants;
  border = λ plan net is begun. (
    relay_answer_in old (record { switch = switch; place = port }),
    ap (λ (switches : List (Switch (List ℕ))). relay_answer_in (record old { switches = switches }) (record { switch = switch; place = port })) is.switches,
    relay_made (bytes_relay_answer (switch_of old.switches (record { switch = switch; place = port })) port) wants,
  );
  rests = λ plan net is pair side place landing. tt;
}
goes_relayed old new pair side queue switch port (Ok given) answer after err wants = record {
  answered = λ plan net is. answer ∙ ap (λ (switches : List (Switch (List ℕ))). relay_answer_in (record old { switches = switches }) (record { switch = switch; place = port })) is.switches;
  made = λ plan net is.
      subst (IsNetwork plan (next_by plan net (Relay pair side queue switch port))) (sym after)
      (record {
        bridges = is.bridges;
        plans = is.plans;
        switches = ap (λ (switches : List (Switch (List ℕ))). (relayed_in (record old { switches = switches }) (record { switch = switch; place = port })).switches) is.switches;
      });
  refused = λ unmade. ap plain_cluster (after ∙ refused_relay old (record { switch = switch; place = port }) (ap is_made (sym answer) ∙ unmade));
  still_made = λ plan net is. tt;
  err = tt;
  wants = λ failed. cc failed;
  border = λ plan net is begun. tt;
  rests = λ plan net is pair side place landing. cc landing;
}

-- Steps on bridges alone

-- a landing that lands nothing is refused, and so leaves the fabric as it was, promises aside
plain_after_landing : {E : Type 0} (plan : Plan) (steps : List Step) (old new : FabricState) (pair : ℕ) (side : Side) (place : ℕ) (step : Step) (answer : Answer) → step ≡ Land pair side place →
    ((label : Label) → answer ≢ Landed label) → HasMadeOnBridges plan steps old → HasSteppedOnBridges {E = E} old new step (Ok answer) → plain_fabric new ≡ plain_fabric old
plain_after_landing {E = E} plan steps old new pair side place step answer landing other made stepped =
    let own : HasSteppedOnBridges {E = E} old new (Land pair side place) (Ok answer) = subst (λ (step : Step). HasSteppedOnBridges {E = E} old new step (Ok answer)) landing stepped in
    own.refused (landing_refused plan (memory_of plan) steps pair side place answer (own.answered plan steps made).0 other)

-- what a step on bridges alone wants of a cluster is what it wants of a fabric
wants_on_bridges : (cluster : ClusterState) (step : Step) → part_of step ≡ OnBridges → cluster_may_want_memory cluster step ≡ bridges_may_want step
wants_on_bridges cluster (Relay pair side queue switch port) e = cc e
wants_on_bridges cluster (Xnext pair side queue dev) e = cc e
wants_on_bridges cluster (Copy pair side queue) e = cc e
wants_on_bridges cluster step e = refl

-- as the log of the bridges goes on at such a step, the network answers
item_on_bridges : (plan : Plan) (net : Network (List ℕ)) (step : Step) (answer : Answer) → part_of step ≡ OnBridges → IsAnsweredOnBridges plan net.steps step answer → answer ≡ (item_by plan net step).answer
item_on_bridges plan net step answer own goes =
    answer_of plan (memory_of plan) net.steps step answer goes
    ∙ ap (λ (action : Action (List ℕ)). (item_of bytes_kept plan (memory_of plan) net step action).answer) (sym (action_on_bridges plan net.switches step own))

-- A step on bridges alone goes right in each network the cluster may be if the fabric steps and the switches stay.
pub goes_on_bridges : {E : Type 0} (old new : ClusterState) (step : Step) (result : Result Answer E) → part_of step ≡ OnBridges → HasSteppedOnBridges old.fabric new.fabric step result →
    new.plans ≡ old.plans → new.switches ≡ old.switches → Goes old new step result
goes_on_bridges old new step (Err error) own stepped plans switches = record {
  answered = λ plan net is. tt;
  made = λ plan net is. tt;
  refused = tt;
  still_made = λ plan net is. record { bridges = stepped.still_stands plan net.steps is.bridges; plans = plans ∙ is.plans; switches = switches ∙ is.switches };
  err = same_cluster (plain_fabric new.fabric) (plain_fabric old.fabric) new.plans old.plans new.switches old.switches stepped.err plans switches;
  wants = λ failed. wants_on_bridges old step own ∙ stepped.wants failed;
  border = λ plan net is begun. let wanted = stepped.border plan net.steps is.bridges in (wanted.0, item_on_bridges plan net step wanted.0 own wanted.1, wanted.2);
  rests = λ plan net is pair side place landing. tt;
}
goes_on_bridges old new step (Ok answer) own stepped plans switches = record {
  answered = λ plan net is. item_on_bridges plan net step answer own (stepped.answered plan net.steps is.bridges).0;
  made = λ plan net is.
      let memories = memory_of plan in
      subst (λ (action : Action (List ℕ)). IsNetwork plan (network_then bytes_kept plan memories net step action) new) (sym (action_on_bridges plan net.switches step own))
      (record {
        bridges = stepped.stands plan net.steps is.bridges;
        plans = plans ∙ is.plans;
        switches =
            switches ∙ is.switches
            ∙ sym (reached_on_bridges plan memories net.switches (session_after plan memories net.steps) step (made_after plan memories net.steps step).answer own);
      });
  refused = λ unmade.
      same_cluster (plain_fabric new.fabric) (plain_fabric (refused_on_bridges old.fabric step)) new.plans old.plans new.switches old.switches (stepped.refused unmade) plans switches;
  still_made = λ plan net is. tt;
  err = tt;
  wants = λ failed. cc failed;
  border = λ plan net is begun. tt;
  rests = λ plan net is pair side place landing other. record {
    bridges = plain_has_made old.fabric new.fabric (plain_after_landing plan net.steps old.fabric new.fabric pair side place step answer landing other is.bridges stepped) plan net.steps is.bridges;
    plans = plans ∙ is.plans;
    switches = switches ∙ is.switches;
  };
}

-- the port on a side and a queue is that of the plan
same_port : (plan : Plan) (net : Network (List ℕ)) (cluster : ClusterState) (own : LaneName) → IsNetwork plan net cluster → port_in cluster own ≡ port_on plan own
same_port plan net cluster own is =
    ap (λ (devs : List DevPlan). port_from devs own 0 cluster.plans) is.bridges.stands.devs ∙ ap (λ (plans : List SwitchPlan). port_from plan.devs own 0 plans) is.plans

same_sending : (plan : Plan) (net : Network (List ℕ)) (cluster : ClusterState) (own : LaneName) → IsNetwork plan net cluster → sending_in cluster own ≡ sends_from net.switches own (port_on plan own)
same_sending plan net cluster own is =
    ap (λ (switches : List (Switch (List ℕ))). sends_from switches own (port_in cluster own)) is.switches ∙ ap (sends_from net.switches own) (same_port plan net cluster own is)

-- Frames that are sent

-- none waits
pub goes_resting : {E : Type 0} (old : ClusterState) (own : LaneName) (dev : ℕ) → Rests ≡ sending_in old own → Goes {E = E} old old (Xnext own.pair own.from own.queue dev) (Ok NoFrame)
goes_resting old own dev rests = record {
  answered = λ plan net is.
      ap (λ (action : Action (List ℕ)). (item_of bytes_kept plan (memory_of plan) net (Xnext own.pair own.from own.queue dev) action).answer) (rests ∙ same_sending plan net old own is);
  made = λ plan net is.
      subst (λ (action : Action (List ℕ)). IsNetwork plan (network_then bytes_kept plan (memory_of plan) net (Xnext own.pair own.from own.queue dev) action) old) (rests ∙ same_sending plan net old own is) is;
  refused = λ unmade. refl;
  still_made = λ plan net is. tt;
  err = tt;
  wants = λ failed. cc failed;
  border = λ plan net is begun. tt;
  rests = λ plan net is pair side place landing. cc landing;
}

-- a begin that is refused takes no frame out
refused_sent : (switches : List SwitchBytes) (port : Port) (answer : Answer) → is_made answer ≡ false → switches_sent switches port answer ≡ switches
refused_sent switches port (OkNumber number) unmade = absurd (true≢false unmade)
refused_sent switches port answer unmade = refl

-- one waits, and is begun
pub goes_sending : {E : Type 0} (old : ClusterState) (fabric : FabricState) (own : LaneName) (dev : ℕ) (next : NextFrame) (answer : Answer) → sends_next own (Some next) ≡ sending_in old own →
    HasSteppedOnBridges {E = E} old.fabric fabric (begin_on own next.frame) (Ok answer) →
    Goes {E = E} old (cluster_taken_in (record old { fabric = fabric }) next.place answer) (Xnext own.pair own.from own.queue dev) (Ok answer)
goes_sending old fabric own dev next answer sends stepped = record {
  answered = λ plan net is.
      answer_of plan (memory_of plan) net.steps (begin_on own next.frame) answer (stepped.answered plan net.steps is.bridges).0
      ∙ ap (λ (action : Action (List ℕ)). (item_of bytes_kept plan (memory_of plan) net (Xnext own.pair own.from own.queue dev) action).answer) (sends ∙ same_sending plan net old own is);
  made = λ plan net is.
      let memories = memory_of plan in
      let told = answer_of plan memories net.steps (begin_on own next.frame) answer (stepped.answered plan net.steps is.bridges).0 in
      subst
      (λ (action : Action (List ℕ)).
      IsNetwork plan (network_then bytes_kept plan memories net (Xnext own.pair own.from own.queue dev) action) (cluster_taken_in (record old { fabric = fabric }) next.place answer))
      (sends ∙ same_sending plan net old own is)
      (record {
        bridges = stepped.stands plan net.steps is.bridges;
        plans = is.plans;
        switches =
            ap (λ (switches : List (Switch (List ℕ))). switches_sent switches (cluster_port_seen next.place) answer) is.switches
            ∙ ap (switches_sent net.switches (cluster_port_seen next.place)) told;
      });
  refused = λ unmade.
      same_cluster (plain_fabric fabric) (plain_fabric old.fabric) old.plans old.plans (switches_sent old.switches (cluster_port_seen next.place) answer) old.switches (stepped.refused unmade) refl
      (refused_sent old.switches (cluster_port_seen next.place) answer unmade);
  still_made = λ plan net is. tt;
  err = tt;
  wants = λ failed. cc failed;
  border = λ plan net is begun. tt;
  rests = λ plan net is pair side place landing. cc landing;
}

-- the bridges are out of memory
pub goes_unstepped : {D E : Type 0} (old : ClusterState) (fabric : FabricState) (own : LaneName) (dev : ℕ) (next : NextFrame) (error : D) (given : E) → sends_next own (Some next) ≡ sending_in old own →
    HasSteppedOnBridges {E = D} old.fabric fabric (begin_on own next.frame) (Err error) → Goes {E = E} old (record old { fabric = fabric }) (Xnext own.pair own.from own.queue dev) (Err given)
goes_unstepped old fabric own dev next error given sends stepped = record {
  answered = λ plan net is. tt;
  made = λ plan net is. tt;
  refused = tt;
  still_made = λ plan net is. record { bridges = stepped.still_stands plan net.steps is.bridges; plans = is.plans; switches = is.switches };
  err = same_cluster (plain_fabric fabric) (plain_fabric old.fabric) old.plans old.plans old.switches old.switches stepped.err refl refl;
  wants = λ failed. ap does_send (sym sends);
  border = λ plan net is begun. cc begun;
  rests = λ plan net is pair side place landing. tt;
}

-- there is no memory for a frame that waits, and nothing changed
goes_unsent : {E : Type 0} (old : ClusterState) (own : LaneName) (dev : ℕ) (error : E) → does_send (sending_in old own) ≡ true → Goes old old (Xnext own.pair own.from own.queue dev) (Err error)
goes_unsent old own dev error sends = record {
  answered = λ plan net is. tt;
  made = λ plan net is. tt;
  refused = tt;
  still_made = λ plan net is. is;
  err = refl;
  wants = λ failed. sends;
  border = λ plan net is begun. cc begun;
  rests = λ plan net is pair side place landing. tt;
}

-- Copies

arrives : (plan : Plan) (net : Network (List ℕ)) (old : ClusterState) (own : LaneName) (answer : Answer) → IsNetwork plan net old →
    (brought_in old own (delivered_by answer)).switches
    ≡ switches_reached bytes_kept plan (memory_of plan) net.switches (session_after plan (memory_of plan) net.steps) (Copy own.pair own.from own.queue) answer
arrives plan net old own (Delivered number frame) is =
    ap (λ (switches : List (Switch (List ℕ))). arrived_at switches (port_in old own) frame) is.switches
    ∙ ap (λ (port : Option Port). arrived_at net.switches port frame) (same_port plan net old own is)
arrives plan net old own answer is = is.switches

-- the fabric and the declarations are no part of what arrives

brought_fabric : (old : ClusterState) (own : LaneName) (due : Option (List ℕ)) → (brought_in old own due).fabric ≡ old.fabric
brought_fabric old own None = refl
brought_fabric old own (Some frame) = refl

brought_plans : (old : ClusterState) (own : LaneName) (due : Option (List ℕ)) → (brought_in old own due).plans ≡ old.plans
brought_plans old own None = refl
brought_plans old own (Some frame) = refl

-- a copy that is refused brings nothing
brings_none : (old : ClusterState) (own : LaneName) (answer : Answer) → is_made answer ≡ false → (brought_in old own (delivered_by answer)).switches ≡ old.switches
brings_none old own (Delivered number frame) unmade = absurd (true≢false unmade)
brings_none old own answer unmade = refl

-- A copy goes right in each network the cluster may be if the fabric makes it and its frame has got to its port.
pub goes_copied : {E : Type 0} (old : ClusterState) (fabric : FabricState) (own : LaneName) (answer : Answer) →
    HasSteppedOnBridges {E = E} old.fabric fabric (Copy own.pair own.from own.queue) (Ok answer) →
    Goes {E = E} old (record (brought_in old own (delivered_by answer)) { fabric = fabric }) (Copy own.pair own.from own.queue) (Ok answer)
goes_copied old fabric own answer stepped = record {
  answered = λ plan net is. answer_of plan (memory_of plan) net.steps (Copy own.pair own.from own.queue) answer (stepped.answered plan net.steps is.bridges).0;
  made = λ plan net is.
      let memories = memory_of plan in
      let told = answer_of plan memories net.steps (Copy own.pair own.from own.queue) answer (stepped.answered plan net.steps is.bridges).0 in
      record {
        bridges = stepped.stands plan net.steps is.bridges;
        plans = brought_plans old own (delivered_by answer) ∙ is.plans;
        switches =
            arrives plan net old own answer is
            ∙ ap (switches_reached bytes_kept plan memories net.switches (session_after plan memories net.steps) (Copy own.pair own.from own.queue)) told;
      };
  refused = λ unmade.
      let brought : ClusterState = brought_in old own (delivered_by answer) in
      same_cluster (plain_fabric fabric) (plain_fabric old.fabric) brought.plans old.plans brought.switches old.switches (stepped.refused unmade) (brought_plans old own (delivered_by answer))
      (brings_none old own answer unmade);
  still_made = λ plan net is. tt;
  err = tt;
  wants = λ failed. cc failed;
  border = λ plan net is begun. tt;
  rests = λ plan net is pair side place landing. cc landing;
}

both : (one other : Bool) → one ≡ true → other ≡ true → (one && other) ≡ true
both one other is its = ap (λ (test : Bool). test && other) is ∙ its

-- there is no room for its frame at the port, and nothing changed
goes_uncopied : {E : Type 0} (old : ClusterState) (own : LaneName) (error : E) → IsQueueOf (plan_kept old.fabric) own.pair own.from own.queue → BringsFrame old own →
    Goes old old (Copy own.pair own.from own.queue) (Err error)
goes_uncopied old own error may brings = record {
  answered = λ plan net is. tt;
  made = λ plan net is. tt;
  refused = tt;
  still_made = λ plan net is. is;
  err = refl;
  wants = λ failed. both (is_some (port_in old own)) (is_some (frame_due old.fabric own)) brings.0 brings.1;
  border = λ plan net is begun.
      let wanted = due_wanted old.fabric own may brings.1 plan net.steps is.bridges in
      (wanted.0, answer_of plan (memory_of plan) net.steps (Copy own.pair own.from own.queue) wanted.0 wanted.1, wanted.2);
  rests = λ plan net is pair side place landing. tt;
}

-- The contract

-- pairs, devices and switches stay
pub plan_after : (old : ClusterState) (fabric : FabricState) → plan_kept fabric ≡ plan_kept old.fabric → plan_held (record old { fabric = fabric }) ≡ plan_held old
plan_after old fabric same = ap (λ (plan : Plan). record plan { switches = old.plans }) same

brought_plan : (old : ClusterState) (fabric : FabricState) (own : LaneName) (due : Option (List ℕ)) → plan_held (record (brought_in old own due) { fabric = fabric }) ≡ plan_held (record old { fabric = fabric })
brought_plan old fabric own None = refl
brought_plan old fabric own (Some frame) = refl

-- A relay meets a cluster's contract if the switches answer and make it, or an error leaves the cluster as it was.
pub relays : {E : Type 0} (old new : ClusterState) (pair : ℕ) (side : Side) (queue switch port : ℕ) (result : Result Answer E) →
    IfOk result (λ answer. answer ≡ relay_answer_in old (record { switch = switch; place = port })) → OnOk result (new ≡ relayed_in old (record { switch = switch; place = port })) →
    OnErr result (new ≡ old) → OnErr result (relay_goes_on old (record { switch = switch; place = port }) ≡ true) → HasClusterStepped old new (Relay pair side queue switch port) result
relays old new pair side queue switch port (Err error) answer after err wants =
    has_stepped old new (Relay pair side queue switch port) (Err error) (goes_relayed old new pair side queue switch port (Err error) answer after err wants) (ap plan_held err)
relays old new pair side queue switch port (Ok given) answer after err wants =
    has_stepped old new (Relay pair side queue switch port) (Ok given) (goes_relayed old new pair side queue switch port (Ok given) answer after err wants) (ap plan_held after)

-- A step on bridges alone meets a cluster's contract if it meets the fabric's and changes nothing else.
pub on_bridges : {E : Type 0} (kept old : ClusterState) (fabric : FabricState) (step : Step) (result : Result Answer E) → kept ≡ old → part_of step ≡ OnBridges →
    HasSteppedOnBridges kept.fabric fabric step result → HasClusterStepped old (record kept { fabric = fabric }) step result
on_bridges kept old fabric step result seen own stepped =
    subst (λ (old : ClusterState). HasClusterStepped old (record kept { fabric = fabric }) step result) seen
    (has_stepped kept (record kept { fabric = fabric }) step result (goes_on_bridges kept (record kept { fabric = fabric }) step result own stepped refl refl) (plan_after kept fabric stepped.plan))

-- An xnext where no frame is to be sent meets a cluster's contract by the answer `nothing`, which changes nothing.
pub rests : {E : Type 0} (old : ClusterState) (own : LaneName) (dev : ℕ) → Rests ≡ sending_in old own → HasClusterStepped {E = E} old old (Xnext own.pair own.from own.queue dev) (Ok NoFrame)
rests old own dev none = has_stepped old old (Xnext own.pair own.from own.queue dev) (Ok NoFrame) (goes_resting old own dev none) refl

-- An xnext meets a cluster's contract if the fabric begins the first waiting frame, taken from its port if accepted.
pub sends : {E : Type 0} (kept old new : ClusterState) (fabric : FabricState) (own : LaneName) (dev : ℕ) (next : NextFrame) (answer : Answer) → kept ≡ old → sends_next own (Some next) ≡ sending_in old own →
    HasSteppedOnBridges {E = E} kept.fabric fabric (begin_on own next.frame) (Ok answer) → new ≡ cluster_taken_in (record kept { fabric = fabric }) next.place answer →
    HasClusterStepped {E = E} old new (Xnext own.pair own.from own.queue dev) (Ok answer)
sends {E = E} kept old new fabric own dev next answer seen first stepped after =
    let step : Step = Xnext own.pair own.from own.queue dev in
    let mid : ClusterState = record kept { fabric = fabric } in
    let own_first : sends_next own (Some next) ≡ sending_in kept own = subst (λ (cluster : ClusterState). sends_next own (Some next) ≡ sending_in cluster own) (sym seen) first in
    subst (λ (new : ClusterState). HasClusterStepped {E = E} old new step (Ok answer)) (sym after)
    (subst (λ (old : ClusterState). HasClusterStepped {E = E} old (cluster_taken_in mid next.place answer) step (Ok answer)) seen
    (has_stepped kept (cluster_taken_in mid next.place answer) step (Ok answer) (goes_sending kept fabric own dev next answer own_first stepped) (plan_after kept fabric stepped.plan)))

-- An xnext that wants memory meets a cluster's contract if the begin meets the fabric's and nothing else changes.
pub unstepped : {D E : Type 0} (kept old : ClusterState) (fabric : FabricState) (own : LaneName) (dev : ℕ) (next : NextFrame) (error : D) (given : E) (result : Result Answer E) → kept ≡ old → result ≡ Err given →
    sends_next own (Some next) ≡ sending_in old own → HasSteppedOnBridges {E = D} kept.fabric fabric (begin_on own next.frame) (Err error) →
    HasClusterStepped {E = E} old (record kept { fabric = fabric }) (Xnext own.pair own.from own.queue dev) result
unstepped {D = D} {E = E} kept old fabric own dev next error given result seen is first stepped =
    let step : Step = Xnext own.pair own.from own.queue dev in
    let new : ClusterState = record kept { fabric = fabric } in
    let own_first : sends_next own (Some next) ≡ sending_in kept own = subst (λ (cluster : ClusterState). sends_next own (Some next) ≡ sending_in cluster own) (sym seen) first in
    subst (λ (result : Result Answer E). HasClusterStepped {E = E} old new step result) (sym is)
    (subst (λ (old : ClusterState). HasClusterStepped {E = E} old new step (Err given)) seen
    (has_stepped {E = E} kept new step (Err given) (goes_unstepped {D = D} {E = E} kept fabric own dev next error given own_first stepped) (plan_after kept fabric stepped.plan)))

-- An xnext without memory for the frame that waits meets a cluster's contract if nothing changes.
pub unsent : {E : Type 0} (old : ClusterState) (own : LaneName) (dev : ℕ) (given : E) (result : Result Answer E) → result ≡ Err given → does_send (sending_in old own) ≡ true →
    HasClusterStepped {E = E} old old (Xnext own.pair own.from own.queue dev) result
unsent {E = E} old own dev given result is sends =
    subst (λ (result : Result Answer E). HasClusterStepped {E = E} old old (Xnext own.pair own.from own.queue dev) result) (sym is)
    (has_stepped old old (Xnext own.pair own.from own.queue dev) (Err given) (goes_unsent old own dev given sends) refl)

-- the frame that was due is that of the answer
told_frame : {E : Type 0} (old : FabricState) (own : LaneName) (result : Result Answer E) → IfOk result (λ answer. answer ≡ rule_answer old (Copy own.pair own.from own.queue)) →
    IfOk result (λ answer. frame_due old own ≡ delivered_by answer)
unfolding frame_due
told_frame old own (Err error) told = tt
told_frame old own (Ok answer) told = ap delivered_by (sym told)

-- a copy with a frame that was due meets a cluster's contract

copied_so : {E : Type 0} (old : ClusterState) (fabric : FabricState) (own : LaneName) (due : Option (List ℕ)) (answer : Answer) →
    HasSteppedOnBridges {E = E} old.fabric fabric (Copy own.pair own.from own.queue) (Ok answer) → due ≡ delivered_by answer →
    HasClusterStepped {E = E} old (record (brought_in old own due) { fabric = fabric }) (Copy own.pair own.from own.queue) (Ok answer)
copied_so {E = E} old fabric own due answer stepped told =
    let step : Step = Copy own.pair own.from own.queue in
    let brought = λ (due : Option (List ℕ)). record (brought_in old own due) { fabric = fabric } in
    subst (λ (due : Option (List ℕ)). HasClusterStepped {E = E} old (brought due) step (Ok answer)) (sym told)
    (has_stepped old (brought (delivered_by answer)) step (Ok answer) (goes_copied old fabric own answer stepped) (brought_plan old fabric own (delivered_by answer) ∙ plan_after old fabric stepped.plan))

copied_due : {E : Type 0} (old : ClusterState) (fabric : FabricState) (own : LaneName) (due : Option (List ℕ)) (result : Result Answer E) →
    HasSteppedOnBridges {E = E} old.fabric fabric (Copy own.pair own.from own.queue) result → IfOk result (λ answer. due ≡ delivered_by answer) →
    HasClusterStepped {E = E} old (record (brought_in old own due) { fabric = fabric }) (Copy own.pair own.from own.queue) result
copied_due old fabric own due (Err error) stepped told = absurd (true≢false (sym (stepped.wants refl)))
copied_due old fabric own due (Ok answer) stepped told = copied_so old fabric own due answer stepped told

-- A copy meets a cluster's contract if it meets the fabric's and the frame that was due has arrived at the port before.
pub copied : {E : Type 0} (old mid kept : ClusterState) (fabric : FabricState) (own : LaneName) (result : Result Answer E) → kept ≡ mid → mid ≡ brought_in old own (frame_due old.fabric own) →
    HasSteppedOnBridges {E = E} kept.fabric fabric (Copy own.pair own.from own.queue) result → HasClusterStepped {E = E} old (record kept { fabric = fabric }) (Copy own.pair own.from own.queue) result
copied {E = E} old mid kept fabric own result seen brought stepped =
    let step : Step = Copy own.pair own.from own.queue in
    let due : Option (List ℕ) = frame_due old.fabric own in
    let same : kept.fabric ≡ old.fabric = ap (λ (cluster : ClusterState). cluster.fabric) (seen ∙ brought) ∙ brought_fabric old own due in
    let own_stepped : HasSteppedOnBridges {E = E} old.fabric fabric step result = subst (λ (before : FabricState). HasSteppedOnBridges {E = E} before fabric step result) same stepped in
    subst (λ (cluster : ClusterState). HasClusterStepped {E = E} old (record cluster { fabric = fabric }) step result) (sym (seen ∙ brought))
    (copied_due old fabric own due result own_stepped (told_frame old.fabric own result own_stepped.told))

-- A copy without room for its frame at the port meets a cluster's contract if nothing changes.
pub uncopied : {E : Type 0} (old new : ClusterState) (own : LaneName) (given : E) (result : Result Answer E) → new ≡ old → result ≡ Err given → IsQueueOf (plan_kept old.fabric) own.pair own.from own.queue →
    BringsFrame old own → HasClusterStepped {E = E} old new (Copy own.pair own.from own.queue) result
uncopied {E = E} old new own given result same is may brings =
    let step : Step = Copy own.pair own.from own.queue in
    subst (λ (new : ClusterState). HasClusterStepped {E = E} old new step result) (sym same)
    (subst (λ (result : Result Answer E). HasClusterStepped {E = E} old old step result) (sym is) (has_stepped old old step (Err given) (goes_uncopied old own given may brings) refl))

-- The first frame that waits

-- A list of frames that has a first one isn't empty.
pub some_waits : (frames : List (List ℕ)) (frame : List ℕ) → Some frame ≡ slice_get frames 0 → 0 < length frames
some_waits [] frame is = cc is
some_waits (first ∷ frames) frame is = omega arith

-- A copy of the first frame that waits at the port on a side and a queue is what the cluster is to send there.
pub sending_is : (kept cluster : ClusterState) (own : LaneName) (place : PortPlace) (devs : List DevPlan) (plans : List SwitchPlan) (switch : SwitchBytes) (frame copy : List ℕ) → kept ≡ cluster → devs ≡ kept.fabric.devs →
    plans ≡ kept.plans → Some (cluster_port_seen place) ≡ port_from devs own 0 plans → switch ≡ switch_of kept.switches (cluster_port_seen place) → Some frame ≡ first switch place.port → copy ≡ frame →
    Sends (cluster_port_seen place) own copy ≡ sending_in cluster own
sending_is kept cluster own place devs plans switch frame copy seen same_devs same_plans port found is same =
    ap (λ (waiting : Option (List ℕ)). sends_first (cluster_port_seen place) own waiting) (ap Some same ∙ is ∙ ap (λ (switch : SwitchBytes). first switch place.port) found)
    ∙ ap (sends_from kept.switches own)
    (port ∙ ap (λ (devs : List DevPlan). port_from devs own 0 plans) same_devs ∙ ap (λ (plans : List SwitchPlan). port_from kept.fabric.devs own 0 plans) same_plans)
    ∙ ap (λ (cluster : ClusterState). sending_in cluster own) seen

-- by the part that makes a step

-- If an xnext on a side and a queue is makeable, the plan has a device on them.
pub sending_device : (plan : Plan) (step : Step) (own : LaneName) → part_of step ≡ SendsNext own → IsMakeable plan step → HasDeviceOn plan own
sending_device plan (Xnext pair side queue dev) own e (inl may) = absurd may
sending_device plan (Xnext pair side queue dev) own e (inr may) =
    let same : own ≡ record { pair = pair; from = side; queue = queue } = cc e in
    subst (HasDeviceOn plan) (sym same) (dev, may.device)
sending_device plan (Relay pair side queue s p) own e may = cc e
sending_device plan (Copy pair side queue) own e may = cc e
sending_device plan step own e may = cc e

-- what is so of each step that a part makes at a port, or on a side and a queue, is so of the step that it makes there
module _ (P : Step → Type 0) where
  so_of_relay : (step : Step) (switch port : ℕ) → part_of step ≡ Relays switch port → ((pair : ℕ) (side : Side) (queue : ℕ) → P (Relay pair side queue switch port)) → P step
  so_of_relay (Relay pair side queue s p) switch port e all =
      let one : switch ≡ s = cc e in
      let other : port ≡ p = cc e in
      subst (λ (s : ℕ). P (Relay pair side queue s p)) one (subst (λ (p : ℕ). P (Relay pair side queue switch p)) other (all pair side queue))
  so_of_relay (Xnext pair side queue dev) switch port e all = cc e
  so_of_relay (Copy pair side queue) switch port e all = cc e
  so_of_relay step switch port e all = cc e

  so_of_sending : (step : Step) (own : LaneName) → part_of step ≡ SendsNext own → ((dev : ℕ) → P (Xnext own.pair own.from own.queue dev)) → P step
  so_of_sending (Xnext pair side queue dev) own e all =
      let same : own ≡ record { pair = pair; from = side; queue = queue } = cc e in
      subst (λ (own : LaneName). P (Xnext own.pair own.from own.queue dev)) same (all dev)
  so_of_sending (Relay pair side queue s p) own e all = cc e
  so_of_sending (Copy pair side queue) own e all = cc e
  so_of_sending step own e all = cc e

  so_of_copying : (step : Step) (own : LaneName) → part_of step ≡ Copies own → P (Copy own.pair own.from own.queue) → P step
  so_of_copying (Copy pair side queue) own e is =
      let same : own ≡ record { pair = pair; from = side; queue = queue } = cc e in
      subst (λ (own : LaneName). P (Copy own.pair own.from own.queue)) same is
  so_of_copying (Relay pair side queue s p) own e is = cc e
  so_of_copying (Xnext pair side queue dev) own e is = cc e
  so_of_copying step own e is = cc e

-- A step that relays from a port meets its contract if all relays from that port do, whatever queue they name.
pub by_relay : {E : Type 0} (old new : ClusterState) (step : Step) (switch port : ℕ) (result : Result Answer E) → part_of step ≡ Relays switch port →
    ((pair : ℕ) (side : Side) (queue : ℕ) → HasClusterStepped old new (Relay pair side queue switch port) result) → HasClusterStepped old new step result
by_relay old new step switch port result e all = so_of_relay (λ (step : Step). HasClusterStepped old new step result) step switch port e all

-- A step that sends on a side and a queue meets its contract if an xnext there does, whatever device it names.
pub by_sending : {E : Type 0} (old new : ClusterState) (step : Step) (own : LaneName) (result : Result Answer E) → part_of step ≡ SendsNext own →
    ((dev : ℕ) → HasClusterStepped old new (Xnext own.pair own.from own.queue dev) result) → HasClusterStepped old new step result
by_sending old new step own result e all = so_of_sending (λ (step : Step). HasClusterStepped old new step result) step own e all

-- A step that copies on a side and a queue meets its contract if the copy there does.
pub by_copying : {E : Type 0} (old new : ClusterState) (step : Step) (own : LaneName) (result : Result Answer E) → part_of step ≡ Copies own →
    HasClusterStepped old new (Copy own.pair own.from own.queue) result → HasClusterStepped old new step result
by_copying old new step own result e stepped = so_of_copying (λ (step : Step). HasClusterStepped old new step result) step own e stepped
