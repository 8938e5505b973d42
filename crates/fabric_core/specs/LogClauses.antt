-- What the calls of a fabric say of the log of the steps that it represents.
use Rattle.std.specs.Prelude.{◌≡◌, ℕ, ◌+◌, false, count_by, length, List}
use Rattle.std.specs.List.{AllByRecursion}
use Rattle.step_kinds.specs.Subject.{subject_of}
use Rattle.step_kinds.specs.declared.names.LaneName.{LaneName}
use Rattle.step_kinds.specs.declared.plan.Counters.{Counters}
use Rattle.step_kinds.specs.declared.plan.Plan.{Plan}
use Rattle.step_kinds.specs.declared.steps.Answer.{Answer}
use Rattle.step_kinds.specs.declared.steps.Step.{Step}
use Rattle.pair_model.specs.DeclaredPlans.{IsDeclared, IsPermitted}
use Rattle.pair_model.specs.Plans.{dev_plan}
use Rattle.ledger_laws.specs.Laws.{GoesOn, IsOrdinaryPair, is_unlike}
use Rattle.ledger_model.specs.Log.{Answered, accepted, counters_in, delivered, first_session, lane_of_device, log_of, trains}
use Rattle.ledger_model.specs.Memory.{memory_of}
use Rattle.fabric_core.specs.Fabric.{FabricState, StandsFor}

-- the log of steps, whose memories show what was stored
abbrev pub log_after : Plan → List Step → List Answered
log_after plan steps = log_of plan (memory_of plan) steps

-- the fabric represents these steps, which a script of the plan may make
pub record HasMade (plan : Plan) (steps : List Step) (fabric : FabricState) : Type 0 where
  pub declared : IsDeclared plan
  pub permitted : AllByRecursion (IsPermitted plan) steps
  pub stands : StandsFor plan steps fabric

-- after these steps the step is answered as the log with it says
abbrev pub IsAnswered : Plan → List Step → Step → Answer → Type 0
IsAnswered plan steps step answer = GoesOn plan (memory_of plan) steps step answer

-- an ordinary pair never finds what no sender of the transport has written
abbrev pub IsLikely : Plan → Step → Answer → Type 0
IsLikely plan step answer = IsOrdinaryPair plan (subject_of step) → is_unlike answer ≡ false

-- whatever steps a fabric represents, these are the frames of a lane in a session that their log has

abbrev pub IsAccepted : FabricState → LaneName → ℕ → ℕ → Type 0
IsAccepted fabric lane session count = (plan : Plan) (steps : List Step) → HasMade plan steps fabric → count ≡ length (accepted plan (log_after plan steps) lane session)

abbrev pub IsDelivered : FabricState → LaneName → ℕ → ℕ → Type 0
IsDelivered fabric lane session count = (plan : Plan) (steps : List Step) → HasMade plan steps fabric → count ≡ length (delivered plan (log_after plan steps) lane session)

-- the session of a pair, and the counters of a device

abbrev pub IsSession : FabricState → ℕ → ℕ → Type 0
IsSession fabric pair session = (plan : Plan) (steps : List Step) → HasMade plan steps fabric → session ≡ first_session plan pair + count_by (trains pair) (log_after plan steps)

abbrev pub AreCounters : FabricState → ℕ → Counters → Type 0
AreCounters fabric dev counters = (plan : Plan) (steps : List Step) → HasMade plan steps fabric → counters ≡ counters_in plan (log_after plan steps) (lane_of_device (dev_plan plan.devs dev))
