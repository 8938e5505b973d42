-- What a plan's log keeps. On ordinary pairs it is in order and once, also over lanes that switches join, and refuses
-- for want of room if and only if it should. On every pair it refuses for want of the link if and only if it should.
use Rattle.std.specs.Prelude.{◌≡◌, ℕ, ◌<◌, ◌&&◌, not, Some, List, [], ◌∷◌, ◌++◌, nat_lt}
use Rattle.step_kinds.specs.Subject.{subject_of}
use Rattle.step_kinds.specs.declared.names.LaneName.{LaneName}
use Rattle.step_kinds.specs.declared.plan.Plan.{Plan}
use Rattle.step_kinds.specs.declared.steps.Step.{Step}
use Rattle.ledger_laws.specs.Laws.{IsInOrder, IsOrdinaryPair, entries_needed, is_again, is_link_down, lane_begun_by, made_on, needs_link, refused_earlier, steps_on, times_of}
use Rattle.ledger_model.specs.Log.{Answered, delivered, room_in, up_at}
use Rattle.ledger_model.specs.Memory.{memory_of}
use Rattle.ledger_model.specs.NetworkLog.{on_bridges, switch_log}
use Rattle.ledger_model.specs.Paths.{path_frames}
use Rattle.ledger_laws.specs.NetworkLaws.{HasNoPort, bridge_ledger}
use Rattle.ledger_laws.specs.Paths.{AreOrdinary, KeepsOrder}
use Rattle.ledger_model.specs.PlanLog.{log_of_plan, steps_of}

-- the log of the first steps of a plan
abbrev pub log_so_far : Plan → List Step → List Answered
log_so_far plan before = switch_log plan (memory_of plan) before

-- a step of the plan, after these steps and before those, and its item of the log. The item of an `xnext` that sends a
-- frame has the begin which it is
pub record IsStepOf (plan : Plan) (before behind : List Step) (step : Step) (made : Answered) : Type 0 where
  pub place : steps_of plan ≡ before ++ step ∷ behind
  pub goes_on : log_so_far plan (before ++ step ∷ []) ≡ log_so_far plan before ++ made ∷ []

pub record IsTrueLog (plan : Plan) : Type 0 where
  -- what was delivered on a lane in a session is a prefix of what was accepted there, numbered from 0 on in both
  pub in_order : (lane : LaneName) (session : ℕ) → IsOrdinaryPair plan lane.pair → IsInOrder plan (log_of_plan plan) lane session
  -- no frame is delivered twice
  pub once : (lane : LaneName) (session n : ℕ) → IsOrdinaryPair plan lane.pair → times_of n (delivered plan (log_of_plan plan) lane session) < 2
  -- `again` is returned if and only if the step isn't refused for another reason, and the ring has less room than it
  -- needs
  pub again : (before behind : List Step) (step : Step) (made : Answered) (lane : LaneName) → IsStepOf plan before behind step made →
      IsOrdinaryPair plan lane.pair → lane_begun_by made.step ≡ Some lane →
      is_again made.answer ≡ (not (refused_earlier plan (bridge_ledger plan (memory_of plan) before lane.pair) made.step)
      && nat_lt (room_in plan (log_so_far plan before) lane) (entries_needed plan lane made.step))
  -- `linkdown` comes exactly on the steps that need a link, if and only if the pair's link isn't up by the log
  -- (`up_at`)
  pub link_down : (before behind : List Step) (step : Step) (made : Answered) → IsStepOf plan before behind step made →
      is_link_down made.answer ≡ (needs_link made.step && not (up_at plan (subject_of made.step) (log_so_far plan before)))
  -- the frames that went over some lanes, one after another by switches, are whole, each once and in the order of the
  -- first lane
  pub paths : (first : LaneName) (others : List LaneName) → AreOrdinary plan (first ∷ others) →
      KeepsOrder plan (log_of_plan plan) first (path_frames plan (memory_of plan) (steps_of plan) first others)
  -- where no switch has a port on a pair, the answers to the steps on it are those of the plan without the other pairs'
  -- steps
  pub separate : (pair : ℕ) → HasNoPort plan pair → made_on pair (on_bridges (log_of_plan plan)) ≡ on_bridges (log_so_far plan (steps_on pair (steps_of plan)))
