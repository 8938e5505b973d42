-- The log of all steps of a plan, each step with its answer, and what a log counts of lanes and of devices.
use Rattle.std.specs.Prelude.{ℕ, ◌+◌, List, [], ◌∷◌, count_by, length, map, min}
use Rattle.std.specs.List.{flat_map, range_with_len}
use Rattle.step_kinds.specs.AnsweredSteps.{AnsweredStep}
use Rattle.step_kinds.specs.declared.names.LaneName.{LaneName}
use Rattle.step_kinds.specs.declared.names.Side.TheVariants.{A, B}
use Rattle.step_kinds.specs.declared.plan.Counters.{Counters}
use Rattle.step_kinds.specs.declared.plan.LaneCount.{LaneCount}
use Rattle.step_kinds.specs.declared.plan.Line.{Line}
use Rattle.step_kinds.specs.declared.plan.Plan.{Plan}
use Rattle.step_kinds.specs.declared.steps.Step.{Step}
use Rattle.pair_model.specs.Plans.{pair_plan}
use Rattle.ledger_model.specs.Log.{Answered, accepted, counters_in, delivered, first_session, lane_of_device, trains}
use Rattle.ledger_model.specs.Memory.{memory_of}
use Rattle.ledger_model.specs.NetworkLog.{switch_log}

-- the log of all steps of a plan, its switches among it, in which memories show what was stored
abbrev pub steps_of : Plan → List Step
steps_of plan = map (λ line. line.step) plan.steps

abbrev pub log_of_plan : Plan → List Answered
log_of_plan plan = switch_log plan (memory_of plan) (steps_of plan)

-- each step with its answer
abbrev pub answered_steps : List Line → List Answered → List AnsweredStep
answered_steps [] log = []
answered_steps (line ∷ lines) [] = []
answered_steps (line ∷ lines) (made ∷ log) = record { step = line.step; made = record { line = line.line; answer = made.answer } } ∷ answered_steps lines log

-- what a lane accepted and delivered in a session
abbrev pub lane_count : Plan → List Answered → LaneName → ℕ → LaneCount
lane_count plan log lane session =
    record { name = lane; session = session; accepted = length (accepted plan log lane session); delivered = length (delivered plan log lane session) }

-- the last session of a pair
abbrev pub last_session : Plan → List Answered → ℕ → ℕ
last_session plan log k = first_session plan k + count_by (trains k) log

-- a lane in each session, from 1 on
abbrev pub sessions_of_lane : Plan → List Answered → LaneName → List LaneCount
sessions_of_lane plan log lane = map (lane_count plan log lane) (range_with_len 1 (last_session plan log lane.pair))

-- the lanes of a pair: side A before side B, each queue that both sides have
abbrev pub lanes_of_pair : Plan → ℕ → List LaneName
lanes_of_pair plan k =
    let queues = range_with_len 0 (min (pair_plan plan k).a.queues (pair_plan plan k).b.queues) in
    flat_map (λ from. map (λ queue. record { pair = k; from = from; queue = queue }) queues) (A ∷ B ∷ [])

-- all lanes, in all sessions
abbrev pub lane_counts : Plan → List Answered → List LaneCount
lane_counts plan log = flat_map (sessions_of_lane plan log) (flat_map (lanes_of_pair plan) (range_with_len 0 (length plan.pairs)))

abbrev pub device_counts : Plan → List Answered → List Counters
device_counts plan log = map (λ dev. counters_in plan log (lane_of_device dev)) plan.devs
