-- A fabric as contracts see it: its devices and its pairs; when it represents the steps that were made; and what a step
-- needs.
use Rattle.std.specs.Prelude.{◌≡◌, ℕ, ◌<◌, Bool, true, false, List, [], length, map, slice_index_or}
use Rattle.step_kinds.specs.declared.names.LaneName.{LaneName}
use Rattle.step_kinds.specs.declared.plan.DevPlan.{DevPlan}
use Rattle.step_kinds.specs.declared.places.BridgeStep.{BridgeStep}
use Rattle.step_kinds.specs.declared.places.BridgeStep.TheVariants.{Offer, Check, Ready, Spad, Poke, ShowMem}
use Rattle.step_kinds.specs.declared.places.QueueStep.{QueueStep}
use Rattle.step_kinds.specs.declared.places.QueueStep.TheVariants.{Begin, Xbegin, QpDown, Look}
use Rattle.step_kinds.specs.declared.places.StepPlace.{StepPlace}
use Rattle.step_kinds.specs.declared.places.StepPlace.TheVariants.{OnQueue, OnBridge}
use Rattle.step_kinds.specs.declared.plan.Plan.{Plan}
use Rattle.step_kinds.specs.declared.steps.Step.{Step}
use Rattle.step_kinds.specs.Places.{step_place}
use Rattle.step_kinds.specs.Sides.{other_side}
use Rattle.pair_model.specs.Plans.{no_pair, pair_plan}
use Rattle.ledger_model.specs.Memory.{site_of}
use Rattle.bridge_pair.specs.Fresh.{fresh_bridge}
use Rattle.fabric_rule.specs.Parts.{PairState, count_in, queue_of, plain_pair}
use Rattle.fabric_rule.specs.StandsFor.{PairStands}

pub record FabricState : Type 0 where
  pub devs : List DevPlan
  pub pairs : List PairState

-- stands where there is no pair
abbrev pub no_state : PairState
no_state = record { bridge = fresh_bridge no_pair (record { a = []; b = [] }); queues = record { a = []; b = [] } }

-- the pair of a number
abbrev pub pair_of : FabricState → ℕ → PairState
pair_of fabric k = slice_index_or fabric.pairs k no_state

-- a plan's pairs and devices alone
abbrev pub bare_plan : Plan → Plan
bare_plan plan = record plan { switches = []; steps = []; traffic = [] }

-- the plan of the pairs and devices that it has
abbrev pub plan_kept : FabricState → Plan
plan_kept fabric = record { pairs = map (λ pair. pair.bridge.plan) fabric.pairs; devs = fabric.devs; switches = []; steps = []; traffic = [] }

-- It represents these steps of the plan: each of its pairs does.
pub record StandsFor (plan : Plan) (steps : List Step) (fabric : FabricState) : Type 0 where
  pub devs : fabric.devs ≡ plan.devs
  pub all_pairs : length fabric.pairs ≡ length plan.pairs
  pub pairs : (k : ℕ) → k < length plan.pairs → PairStands plan.devs (pair_plan plan k) k (site_of plan k steps) (pair_of fabric k)

-- the steps that may answer out of memory: they promise room or pages, or show memory
abbrev pub queue_wants_memory : QueueStep → Bool
queue_wants_memory (Begin frame) = true
queue_wants_memory (Xbegin dev dst kind payload) = true
queue_wants_memory QpDown = true
queue_wants_memory Look = true
queue_wants_memory step = false

abbrev pub bridge_wants_memory : BridgeStep → Bool
bridge_wants_memory (Offer side) = true
bridge_wants_memory (Check side) = true
bridge_wants_memory (Ready side queue) = true
bridge_wants_memory (Spad side i value) = true
bridge_wants_memory (Poke side window offset bytes) = true
bridge_wants_memory (ShowMem side at len) = true
bridge_wants_memory step = false

abbrev pub wants_memory_at : StepPlace → Bool
wants_memory_at (OnQueue side queue step) = queue_wants_memory step
wants_memory_at (OnBridge step) = bridge_wants_memory step
wants_memory_at place = false

abbrev pub may_want_memory : Step → Bool
may_want_memory step = wants_memory_at (step_place step)

-- the frames of a lane in a session that were accepted and delivered, by what the fabric keeps
abbrev pub accepted_of : FabricState → LaneName → ℕ → ℕ
accepted_of fabric lane session = count_in (queue_of (pair_of fabric lane.pair) lane.from lane.queue).accepted session

abbrev pub delivered_of : FabricState → LaneName → ℕ → ℕ
delivered_of fabric lane session = count_in (queue_of (pair_of fabric lane.pair) (other_side lane.from) lane.queue).delivered session

-- the same fabric, room and pages that are promised aside
abbrev pub plain : FabricState → FabricState
plain fabric = record fabric { pairs = map plain_pair fabric.pairs }
