-- What holds of every log of a plan with switches.
use Rattle.std.specs.Prelude.{◌≡◌, ℕ, ◌<◌, ◌≤◌, ◌&&◌, Some, None, List, [], ◌∷◌, ◌++◌, count_by, length, nat_lt, not}
use Rattle.std.specs.List.{AllByRecursion}
use Rattle.step_kinds.specs.declared.names.LaneName.{LaneName}
use Rattle.step_kinds.specs.declared.names.Side.{Side}
use Rattle.step_kinds.specs.declared.plan.Plan.{Plan}
use Rattle.step_kinds.specs.declared.steps.Step.{Step}
use Rattle.ledger_laws.specs.Laws.{IsInOrder, IsOrdinaryPair, KeepsPairsApart, entries_needed, is_again, is_link_down, lane_begun_by, made_on, needs_link, refused_earlier, steps_on, times_of}
use Rattle.step_kinds.specs.Subject.{subject_of}
use Rattle.ledger_model.specs.Next.{Ledger}
use Rattle.ledger_model.specs.Log.{Answered, Memories, accepted, counters_in, delivered, ledger_of, log_of, posted_in, room_in, trains, up_at}
use Rattle.pair_model.specs.Ethernet.{ethernet_header}
use Rattle.pair_model.specs.Switch.{Switch, list_of}
use Rattle.ledger_model.specs.NetworkLog.{bridge_steps, network_of, on_bridges, switch_log, traced_network}
use Rattle.ledger_model.specs.Network.{Network, items_from, new_network, next_item, next_network}
use Rattle.ledger_model.specs.Origins.{bytes_kept, origins_kept}
use Rattle.ledger_model.specs.Ports.{Port, port_on, switch_of}
use Rattle.ledger_laws.specs.Erased.{erased}

-- Bridges

-- the log, without what switches did alone, is the log of the steps made on bridges
abbrev pub BridgesHaveALog : Type 0
BridgesHaveALog = (plan : Plan) (memories : Memories) (steps : List Step) →
    on_bridges (switch_log plan memories steps) ≡ log_of plan memories (bridge_steps plan memories steps)

-- one step more has one item more, by the network before it
abbrev pub LogGrowsByItems : Type 0
LogGrowsByItems = (plan : Plan) (memories : Memories) (steps : List Step) (step : Step) →
    (switch_log plan memories (steps ++ step ∷ []) ≡ switch_log plan memories steps ++ next_item bytes_kept plan memories (network_of plan memories steps) step ∷ [])
    × (network_of plan memories (steps ++ step ∷ []) ≡ next_network bytes_kept plan memories (network_of plan memories steps) step)

-- what is read of pairs, lanes and devices is the same in two logs
pub record ReadsAlike (plan : Plan) (log other : List Answered) : Type 0 where
  pub same_accepted : (lane : LaneName) (session : ℕ) → accepted plan log lane session ≡ accepted plan other lane session
  pub same_delivered : (lane : LaneName) (session : ℕ) → delivered plan log lane session ≡ delivered plan other lane session
  pub same_sessions : (pair : ℕ) → count_by (trains pair) log ≡ count_by (trains pair) other
  pub same_up : (pair : ℕ) → up_at plan pair log ≡ up_at plan pair other
  pub same_room : (lane : LaneName) → room_in plan log lane ≡ room_in plan other lane
  pub same_posted : (lane : LaneName) → posted_in log lane ≡ posted_in other lane
  pub same_counters : (own : LaneName) → counters_in plan log own ≡ counters_in plan other own

-- what switches did alone tells nothing of them
abbrev pub LogReadsAsBridges : Type 0
LogReadsAsBridges = (plan : Plan) (log : List Answered) → ReadsAlike plan log (on_bridges log)

-- The laws of pairs

-- what was delivered on a lane of an ordinary pair in a session is a prefix of what was accepted there, numbered from 0
-- on in both
abbrev pub FramesComeInOrder : Type 0
FramesComeInOrder = (plan : Plan) (memories : Memories) (steps : List Step) (lane : LaneName) (session : ℕ) →
    IsOrdinaryPair plan lane.pair → IsInOrder plan (switch_log plan memories steps) lane session

-- and no number is delivered twice
abbrev pub FramesComeOnce : Type 0
FramesComeOnce = (plan : Plan) (memories : Memories) (steps : List Step) (lane : LaneName) (session n : ℕ) →
    IsOrdinaryPair plan lane.pair → times_of n (delivered plan (switch_log plan memories steps) lane session) < 2

-- the item of the log for a step after these
abbrev pub item_after : Plan → Memories → List Step → Step → Answered
item_after plan memories steps step = next_item bytes_kept plan memories (network_of plan memories steps) step

-- the ledger of the bridges after these
abbrev pub bridge_ledger : Plan → Memories → List Step → Ledger
bridge_ledger plan memories steps = ledger_of plan memories (bridge_steps plan memories steps)

-- an item that begins entries has `again` if and only if it isn't refused for another reason, and the ring has less
-- room than it needs
abbrev pub ItemsAgainWhereNoRoom : Type 0
ItemsAgainWhereNoRoom = (plan : Plan) (memories : Memories) (steps : List Step) (step : Step) (lane : LaneName) →
    let made = item_after plan memories steps step in
    IsOrdinaryPair plan lane.pair → lane_begun_by made.step ≡ Some lane →
    is_again made.answer
    ≡ (not (refused_earlier plan (bridge_ledger plan memories steps lane.pair) made.step)
    && nat_lt (room_in plan (switch_log plan memories steps) lane) (entries_needed plan lane made.step))

-- An item has `linkdown` if and only if it needs a link that isn't up. The last link step of its pair that wasn't
-- refused says so, and the plan where there is none.
abbrev pub ItemsLinkDownWhereNotUp : Type 0
ItemsLinkDownWhereNotUp = (plan : Plan) (memories : Memories) (steps : List Step) (step : Step) →
    let made = item_after plan memories steps step in
    is_link_down made.answer ≡ (needs_link made.step && not (up_at plan (subject_of made.step) (switch_log plan memories steps)))

-- no side and queue of a pair has a port of a switch
abbrev pub HasNoPort : Plan → ℕ → Type 0
HasNoPort plan pair = (side : Side) (queue : ℕ) → port_on plan (record { pair = pair; from = side; queue = queue }) ≡ None

-- what is made on such a pair, relays and the like aside, is what is made without the other pairs' steps
abbrev pub PairsWithoutPortsAreSeparate : Type 0
PairsWithoutPortsAreSeparate = (plan : Plan) (memories : Memories) → KeepsPairsApart memories → (steps : List Step) (pair : ℕ) → HasNoPort plan pair →
    made_on pair (on_bridges (switch_log plan memories steps)) ≡ on_bridges (switch_log plan memories (steps_on pair steps))

-- Origins

-- with origins in its switches a network is the same but for the origins
abbrev pub OriginsChangeNothing : Type 0
OriginsChangeNothing = (plan : Plan) (memories : Memories) (steps : List Step) →
    (items_from origins_kept plan memories (new_network plan) steps ≡ switch_log plan memories steps)
    × (erased (traced_network plan memories steps) ≡ network_of plan memories steps)

-- Waiting frames

-- each frame that waits in one of these switches has an Ethernet header at least
abbrev pub HaveHeaders : List (Switch (List ℕ)) → Type 0
HaveHeaders switches = AllByRecursion (λ switch. AllByRecursion (AllByRecursion (λ frame. ethernet_header ≤ length frame)) switch.waiting) switches

-- it stays so by every step
abbrev pub HeadersStay : Type 0
HeadersStay = (plan : Plan) (memories : Memories) (net : Network (List ℕ)) (step : Step) →
    HaveHeaders net.switches → HaveHeaders (next_network bytes_kept plan memories net step).switches

-- each frame that waits at a port has an Ethernet header at least
abbrev pub WaitingHaveHeaders : Type 0
WaitingHaveHeaders = (plan : Plan) (memories : Memories) (steps : List Step) (port : Port) →
    AllByRecursion (λ frame. ethernet_header ≤ length frame) (list_of (switch_of (network_of plan memories steps).switches port).waiting port.place)
