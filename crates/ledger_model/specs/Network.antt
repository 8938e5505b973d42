-- A network: the bridges of a plan and its switches. One fold over the plan's steps says what each results in, if
-- frames in switches are kept in one way or another.
use Rattle.std.specs.Prelude.{ℕ, ◌+◌, List, [], ◌∷◌, ◌++◌, Option, Some, None, count_by}
use Rattle.step_kinds.specs.Sides.{other_side}
use Rattle.step_kinds.specs.declared.names.LaneName.{LaneName}
use Rattle.step_kinds.specs.declared.plan.Plan.{Plan}
use Rattle.step_kinds.specs.declared.steps.Answer.{Answer}
use Rattle.step_kinds.specs.declared.steps.Answer.TheVariants.{OkNumber, Delivered, Nothing, Short, Filtered, To, Flood}
use Rattle.step_kinds.specs.declared.steps.Step.{Step}
use Rattle.step_kinds.specs.declared.steps.Step.TheVariants.{Begin, Copy, Relay, Xnext}
use Rattle.ledger_model.specs.Log.{Answered, Memories, answered, first_session, ledger_of, log_of, trains}
use Rattle.pair_model.specs.Switch.{Switch, after_relay, arrived, first, relay_answer, sent}
use Rattle.pair_model.specs.declared.RelayAnswer.{RelayAnswer}
use Rattle.pair_model.specs.declared.RelayAnswer.TheVariants.{Nothing as NoFrame, Short as TooShort, Filtered as Dropped, To as ToPort, Flood as ToOthers}
use Rattle.ledger_model.specs.Origins.{Keeping, Passage}
use Rattle.ledger_model.specs.Ports.{Port, new_switches, port_on, switch_of, with_switch}

-- the steps made on bridges so far, the switches, and the frames that left them
pub record Network (F : Type 0) : Type 0 where
  pub steps : List Step
  pub switches : List (Switch F)
  pub passages : List (Passage F)

-- before any step
abbrev pub new_network : {F : Type 0} → Plan → Network F
new_network plan = record { steps = []; switches = new_switches plan; passages = [] }

-- The result of a step

pub data Action (F : Type 0) : Type 0 where
  -- a switch relays the first frame that arrived on a port
  Relays : Port → Action F
  -- no frame waits to be sent, or no port is there
  Rests : Action F
  -- the first frame that waits at a port is sent on a lane
  Sends : Port → LaneName → F → Action F
  -- the step is one on a bridge
  OnBridge : Action F

abbrev pub sends_first : {F : Type 0} → Port → LaneName → Option F → Action F
sends_first port lane None = Rests
sends_first port lane (Some frame) = Sends port lane frame

abbrev pub sends_from : {F : Type 0} → List (Switch F) → LaneName → Option Port → Action F
sends_from switches lane None = Rests
sends_from switches lane (Some port) = sends_first port lane (first (switch_of switches port) port.place)

abbrev pub action_of : {F : Type 0} → Plan → List (Switch F) → Step → Action F
action_of plan switches (Relay pair side queue switch port) = Relays (record { switch = switch; place = port })
action_of plan switches (Xnext pair side queue dev) =
    let lane : LaneName = record { pair = pair; from = side; queue = queue } in
    sends_from switches lane (port_on plan lane)
action_of plan switches step = OnBridge

-- a frame begins on a lane
abbrev pub begin_on : LaneName → List ℕ → Step
begin_on lane bytes = Begin lane.pair lane.from lane.queue bytes

-- a step after these on bridges, with its answer
abbrev pub made_after : Plan → Memories → List Step → Step → Answered
made_after plan memories steps step = answered plan (memories (log_of plan memories steps)) (ledger_of plan memories steps) step

-- the session of a pair after these
abbrev pub session_after : Plan → Memories → List Step → ℕ → ℕ
session_after plan memories steps pair = first_session plan pair + count_by (trains pair) (log_of plan memories steps)

-- what a relay is answered
abbrev pub answer_of : RelayAnswer → Answer
answer_of NoFrame = Nothing
answer_of (TooShort len) = Short len
answer_of Dropped = Filtered
answer_of (ToPort port) = To port
answer_of (ToOthers count) = Flood count

-- What a step changes

-- the first frame that waits at a port was taken out where it was accepted
abbrev pub switches_sent : {F : Type 0} → List (Switch F) → Port → Answer → List (Switch F)
switches_sent switches port (OkNumber number) = with_switch switches port (sent (switch_of switches port) port.place)
switches_sent switches port answer = switches

-- and its passage is known
abbrev pub passed : {F : Type 0} → F → LaneName → ℕ → Answer → List (Passage F)
passed frame lane session (OkNumber number) = record { frame = frame; begun = record { lane = lane; session = session; number = number } } ∷ []
passed frame lane session answer = []

-- a frame arrives at a port, if there is one
abbrev pub arrived_at : {F : Type 0} → List (Switch F) → Option Port → F → List (Switch F)
arrived_at switches None frame = switches
arrived_at switches (Some port) frame = with_switch switches port (arrived (switch_of switches port) port.place frame)

module _ {F : Type 0} (keeping : Keeping F) (plan : Plan) (memories : Memories) where
  -- a delivered frame arrives at the port on whose side and queue it was delivered
  abbrev pub switches_reached : List (Switch F) → (ℕ → ℕ) → Step → Answer → List (Switch F)
  switches_reached switches session (Copy pair side queue) (Delivered number frame) =
      let lane : LaneName = record { pair = pair; from = other_side side; queue = queue } in
      arrived_at switches (port_on plan (record { pair = pair; from = side; queue = queue }))
      (keeping.keep (record { lane = lane; session = session pair; number = number }) frame)
  switches_reached switches session step answer = switches

  -- the item of the log for a step with this result
  abbrev pub item_of : Network F → Step → Action F → Answered
  item_of net step (Relays port) = record { step = step; answer = answer_of (relay_answer keeping.bytes_of (switch_of net.switches port) port.place) }
  item_of net step Rests = record { step = step; answer = Nothing }
  item_of net step (Sends port lane frame) = made_after plan memories net.steps (begin_on lane (keeping.bytes_of frame))
  item_of net step OnBridge = made_after plan memories net.steps step

  -- the network after it
  abbrev pub network_after : Network F → Step → Action F → Network F
  network_after net step (Relays port) =
      record net { switches = with_switch net.switches port (after_relay keeping.bytes_of (switch_of net.switches port) port.place) }
  network_after net step Rests = net
  network_after net step (Sends port lane frame) =
      let made = made_after plan memories net.steps (begin_on lane (keeping.bytes_of frame)) in
      record {
        steps = net.steps ++ made.step ∷ [];
        switches = switches_sent net.switches port made.answer;
        passages = net.passages ++ passed frame lane (session_after plan memories net.steps lane.pair) made.answer;
      }
  network_after net step OnBridge =
      record net {
        steps = net.steps ++ step ∷ [];
        switches = switches_reached net.switches (session_after plan memories net.steps) step (made_after plan memories net.steps step).answer;
      }

  -- a step in a network: its item, and the network after it
  abbrev pub next_item : Network F → Step → Answered
  next_item net step = item_of net step (action_of plan net.switches step)

  abbrev pub next_network : Network F → Step → Network F
  next_network net step = network_after net step (action_of plan net.switches step)

  -- the items of steps from a network on, and the network after them
  abbrev pub items_from : Network F → List Step → List Answered
  items_from net [] = []
  items_from net (step ∷ steps) = next_item net step ∷ items_from (next_network net step) steps

  abbrev pub network_from : Network F → List Step → Network F
  network_from net [] = net
  network_from net (step ∷ steps) = network_from (next_network net step) steps
