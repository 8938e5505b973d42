-- With origins in its switches a network is the same but for the origins.
use Rattle.std.proofs.Common.{◌≡◌, ℕ, List, [], ◌∷◌, ◌++◌, Option, Some, None, length, map, refl, sym, ap, ◌∙◌}
use Rattle.std.specs.Prelude.{option_map}
use Rattle.std.proofs.Math.ListN.{get_or-map}
use Rattle.std.proofs.lemmas.List.{map-append, map-set}
use Rattle.step_kinds.specs.Sides.{other_side}
use Rattle.step_kinds.specs.declared.names.LaneName.{LaneName}
use Rattle.step_kinds.specs.declared.plan.Plan.{Plan}
use Rattle.step_kinds.specs.declared.plan.SwitchPlan.{SwitchPlan}
use Rattle.step_kinds.specs.declared.steps.Answer.{Answer}
use Rattle.step_kinds.specs.declared.steps.Answer.TheVariants.{OkNumber, Delivered}
use Rattle.step_kinds.specs.declared.steps.Step.{Step}
use Rattle.step_kinds.specs.declared.steps.Step.TheVariants.{Copy, Relay, Xnext}
use Rattle.ledger_model.specs.Log.{Memories}
use Rattle.pair_model.specs.Switch.{Switch, after_relay, arrived, first, new_switch, relay_answer, sent}
use Rattle.ledger_model.specs.Network.{Action, Relays, Rests, Sends, OnBridge, Network, action_of, answer_of, arrived_at, begin_on, item_of, items_from, made_after, network_after, network_from, new_network, next_item, next_network, passed, sends_first, sends_from, session_after, switches_reached, switches_sent}
use Rattle.ledger_model.specs.Origins.{Carried, Passage, bytes_kept, origins_kept}
use Rattle.ledger_model.specs.Ports.{Port, new_switches, port_on, switch_of, with_switch}
use Rattle.ledger_laws.specs.Erased.{erased, switch_with_frames}
use Rattle.ledger_laws.specs.NetworkLaws.{OriginsChangeNothing}
use Rattle.ledger_laws.proofs.OtherFrames.{after_relay-with_frames, arrived-with_frames, first-with_frames, new-with_frames, relay_answer-with_frames, sent-with_frames}

abbrev bytes_in : Carried → List ℕ
bytes_in frame = frame.bytes

abbrev plain : Switch Carried → Switch (List ℕ)
plain = switch_with_frames bytes_in

abbrev plain_passage : Passage Carried → Passage (List ℕ)
plain_passage passage = record { frame = passage.frame.bytes; begun = passage.begun }

abbrev plain_action : Action Carried → Action (List ℕ)
plain_action (Relays port) = Relays port
plain_action Rests = Rests
plain_action (Sends port lane frame) = Sends port lane frame.bytes
plain_action OnBridge = OnBridge

-- switches
plain_switch : (switches : List (Switch Carried)) (port : Port) → switch_of (map plain switches) port ≡ plain (switch_of switches port)
plain_switch switches port = get_or-map plain switches port.switch (new_switch 0)

plain-with : (switches : List (Switch Carried)) (port : Port) (switch : Switch Carried) (other : Switch (List ℕ)) → plain switch ≡ other
    → map plain (with_switch switches port switch) ≡ with_switch (map plain switches) port other
plain-with switches port switch other e = map-set plain switches port.switch switch ∙ ap (with_switch (map plain switches) port) e

plain_new : (plan : Plan) → map plain (new_switches plan) ≡ new_switches plan
plain_new plan = go plan.switches
  where
    go : (switches : List SwitchPlan) → map plain (map (λ s. new_switch (length s.ports)) switches) ≡ map (λ s. new_switch (length s.ports)) switches
    go [] = refl
    go (s ∷ switches) = ap (λ head. head ∷ map plain (map (λ s. new_switch (length s.ports)) switches)) (new-with_frames bytes_in (length s.ports)) ∙ ap (λ rest. new_switch (length s.ports) ∷ rest) (go switches)

plain-sent : (switches : List (Switch Carried)) (port : Port) (answer : Answer) → map plain (switches_sent switches port answer) ≡ switches_sent (map plain switches) port answer
plain-sent switches port (OkNumber n) =
    plain-with switches port (sent (switch_of switches port) port.place) (sent (switch_of (map plain switches) port) port.place)
    (sent-with_frames bytes_in (switch_of switches port) port.place ∙ ap (λ switch. sent switch port.place) (sym (plain_switch switches port)))
plain-sent switches port answer = refl

plain-arrived : (switches : List (Switch Carried)) (o : Option Port) (frame : Carried) → map plain (arrived_at switches o frame) ≡ arrived_at (map plain switches) o frame.bytes
plain-arrived switches None frame = refl
plain-arrived switches (Some port) frame =
    plain-with switches port (arrived (switch_of switches port) port.place frame) (arrived (switch_of (map plain switches) port) port.place frame.bytes)
    (arrived-with_frames bytes_in (switch_of switches port) port.place frame ∙ ap (λ switch. arrived switch port.place frame.bytes) (sym (plain_switch switches port)))

plain-passed : (frame : Carried) (lane : LaneName) (session : ℕ) (answer : Answer) → map plain_passage (passed frame lane session answer) ≡ passed frame.bytes lane session answer
plain-passed frame lane session (OkNumber n) = refl
plain-passed frame lane session answer = refl

-- actions
plain_first : (port : Port) (lane : LaneName) (o : Option Carried) → sends_first port lane (option_map bytes_in o) ≡ plain_action (sends_first port lane o)
plain_first port lane None = refl
plain_first port lane (Some frame) = refl

plain_from : (switches : List (Switch Carried)) (lane : LaneName) (o : Option Port) → sends_from (map plain switches) lane o ≡ plain_action (sends_from switches lane o)
plain_from switches lane None = refl
plain_from switches lane (Some port) =
    ap (λ switch. sends_first port lane (first switch port.place)) (plain_switch switches port)
    ∙ ap (sends_first port lane) (first-with_frames bytes_in (switch_of switches port) port.place)
    ∙ plain_first port lane (first (switch_of switches port) port.place)

plain_action_of : (plan : Plan) (switches : List (Switch Carried)) (step : Step) → action_of plan (map plain switches) step ≡ plain_action (action_of plan switches step)
plain_action_of plan switches (Relay pair side queue switch port) = refl
plain_action_of plan switches (Xnext pair side queue dev) =
    let lane : LaneName = record { pair = pair; from = side; queue = queue } in
    plain_from switches lane (port_on plan lane)
plain_action_of plan switches step = refl

module _ (plan : Plan) (memories : Memories) where
  plain-reached : (switches : List (Switch Carried)) (session : ℕ → ℕ) (step : Step) (answer : Answer)
      → map plain (switches_reached origins_kept plan memories switches session step answer) ≡ switches_reached bytes_kept plan memories (map plain switches) session step answer
  plain-reached switches session (Copy pair side queue) (Delivered number frame) =
      plain-arrived switches (port_on plan (record { pair = pair; from = side; queue = queue }))
      (record { bytes = frame; origin = record { lane = record { pair = pair; from = other_side side; queue = queue }; session = session pair; number = number } })
  plain-reached switches session step answer = refl

  plain_item : (net : Network Carried) (step : Step) (action : Action Carried)
      → item_of bytes_kept plan memories (erased net) step (plain_action action) ≡ item_of origins_kept plan memories net step action
  plain_item net step (Relays port) =
      ap (λ answer. record { step = step; answer = answer_of answer })
      (ap (λ switch. relay_answer (λ bytes. bytes) switch port.place) (plain_switch net.switches port)
      ∙ relay_answer-with_frames bytes_in bytes_in (λ bytes. bytes) (λ frame. refl) (switch_of net.switches port) port.place)
  plain_item net step Rests = refl
  plain_item net step (Sends port lane frame) = refl
  plain_item net step OnBridge = refl

  plain_after : (net : Network Carried) (step : Step) (action : Action Carried)
      → network_after bytes_kept plan memories (erased net) step (plain_action action) ≡ erased (network_after origins_kept plan memories net step action)
  plain_after net step (Relays port) =
      ap (λ switches. record { steps = net.steps; switches = switches; passages = map plain_passage net.passages })
      (sym (plain-with net.switches port (after_relay bytes_in (switch_of net.switches port) port.place)
      (after_relay (λ bytes. bytes) (switch_of (map plain net.switches) port) port.place)
      (after_relay-with_frames bytes_in bytes_in (λ bytes. bytes) (λ frame. refl) (switch_of net.switches port) port.place
      ∙ ap (λ switch. after_relay (λ bytes. bytes) switch port.place) (sym (plain_switch net.switches port)))))
  plain_after net step Rests = refl
  plain_after net step (Sends port lane frame) =
      let made = made_after plan memories net.steps (begin_on lane frame.bytes) in
      let gone = passed frame lane (session_after plan memories net.steps lane.pair) made.answer in
      ap (λ switches. record {
        steps = net.steps ++ made.step ∷ [];
        switches = switches;
        passages = map plain_passage net.passages ++ passed frame.bytes lane (session_after plan memories net.steps lane.pair) made.answer;
      }) (sym (plain-sent net.switches port made.answer))
      ∙ ap (λ passages. record { steps = net.steps ++ made.step ∷ []; switches = map plain (switches_sent net.switches port made.answer); passages = passages })
      (ap (λ more. map plain_passage net.passages ++ more) (sym (plain-passed frame lane (session_after plan memories net.steps lane.pair) made.answer))
      ∙ sym (map-append plain_passage net.passages gone))
  plain_after net step OnBridge =
      ap (λ switches. record { steps = net.steps ++ step ∷ []; switches = switches; passages = map plain_passage net.passages })
      (sym (plain-reached net.switches (session_after plan memories net.steps) step (made_after plan memories net.steps step).answer))

  pub plain_next_item : (net : Network Carried) (step : Step) → next_item bytes_kept plan memories (erased net) step ≡ next_item origins_kept plan memories net step
  plain_next_item net step =
      ap (item_of bytes_kept plan memories (erased net) step) (plain_action_of plan net.switches step) ∙ plain_item net step (action_of plan net.switches step)

  pub plain_next : (net : Network Carried) (step : Step) → next_network bytes_kept plan memories (erased net) step ≡ erased (next_network origins_kept plan memories net step)
  plain_next net step =
      ap (network_after bytes_kept plan memories (erased net) step) (plain_action_of plan net.switches step) ∙ plain_after net step (action_of plan net.switches step)

  plain_items : (net : Network Carried) (steps : List Step) → items_from origins_kept plan memories net steps ≡ items_from bytes_kept plan memories (erased net) steps
  plain_items net [] = refl
  plain_items net (step ∷ steps) =
      let after = next_network origins_kept plan memories net step in
      ap (λ item. item ∷ items_from origins_kept plan memories after steps) (sym (plain_next_item net step))
      ∙ ap (λ items. next_item bytes_kept plan memories (erased net) step ∷ items)
      (plain_items after steps ∙ ap (λ now. items_from bytes_kept plan memories now steps) (sym (plain_next net step)))

  plain_network : (net : Network Carried) (steps : List Step) → erased (network_from origins_kept plan memories net steps) ≡ network_from bytes_kept plan memories (erased net) steps
  plain_network net [] = refl
  plain_network net (step ∷ steps) =
      plain_network (next_network origins_kept plan memories net step) steps ∙ ap (λ now. network_from bytes_kept plan memories now steps) (sym (plain_next net step))

-- A network whose switches keep origins has the same log, and without the origins is the same network.
pub origins_change_nothing : OriginsChangeNothing
origins_change_nothing plan memories steps =
    let new : erased (new_network plan) ≡ new_network plan = ap (λ switches. record { steps = []; switches = switches; passages = [] }) (plain_new plan) in (
      plain_items plan memories (new_network plan) steps ∙ ap (λ net. items_from bytes_kept plan memories net steps) new,
      plain_network plan memories (new_network plan) steps ∙ ap (λ net. network_from bytes_kept plan memories net steps) new,
    )
