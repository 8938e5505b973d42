-- What no step on a pair breaks holds of the pair after every log: for facts of a pair that no lane has in sight. And
-- what a landing write changes of its pair.
use Rattle.std.proofs.Common.{◌≡◌, ℕ, List, refl}
use Rattle.std.specs.List.{AllByRecursion}
use Rattle.step_kinds.specs.Sides.{other_side}
use Rattle.step_kinds.specs.Subject.{subject_of}
use Rattle.step_kinds.specs.declared.names.Side.{Side}
use Rattle.step_kinds.specs.declared.plan.Plan.{Plan}
use Rattle.step_kinds.specs.declared.steps.Label.{Label}
use Rattle.step_kinds.specs.declared.steps.Label.TheVariants.{Flag, Down, Bell, Index, Pad}
use Rattle.step_kinds.specs.declared.steps.Step.{Step}
use Rattle.pair_model.specs.Headers.{Bytes}
use Rattle.ledger_model.specs.Ledger.{LanePart, PairPart, SidePart, side_of, with_lane, with_side_part}
use Rattle.ledger_model.specs.Log.{Memories, ledger_of}
use Rattle.ledger_model.specs.Next.{fresh_pair}
use Rattle.ledger_model.specs.Receiving.{lands_on}
use Rattle.pair_model.specs.Plans.{pair_plan}
use Rattle.ledger_laws.proofs.EachPair.{log_after}
use Rattle.ledger_laws.proofs.LogGrowth.{left_by}
use Rattle.ledger_laws.proofs.walk.Logs.{OwnTodos}

-- what holds of a pair at the start, and is broken by no step on it that is as it should be, the writes left to post
-- being their lanes'
pub record HoldsOfPair (plan : Plan) (pair : ℕ) (Fits : Step → Type 0) (P : PairPart → Type 0) : Type 0 where
  pub fresh : P (fresh_pair (pair_plan plan pair))
  pub steps : (bytes : Bytes) (part : PairPart) (step : Step) → Fits step → subject_of step ≡ pair → OwnTodos part → P part → P (left_by plan pair bytes part step)

-- What holds of a fresh pair, and no fitting step on it breaks, holds of the pair after every log of fitting steps.
pub pair_after : (plan : Plan) (pair : ℕ) (Fits : Step → Type 0) (P : PairPart → Type 0) → HoldsOfPair plan pair Fits P → (memories : Memories) (steps : List Step) → AllByRecursion Fits steps
    → P (ledger_of plan memories steps pair)
pair_after plan pair Fits P holds =
    log_after plan pair Fits (λ log part. P part)
    (record { fresh = holds.fresh; own = λ log bytes part step fits on todos now. holds.steps bytes part step fits on todos now; other = λ log part made ne now. now })

-- What a landing write changes of its pair

-- a side's part with other doorbells or scratchpads
pub record HasLandedAt (old new : SidePart) : Type 0 where
  pub joined : new.joined ≡ old.joined
  pub flight : new.flight ≡ old.flight
  pub poked : new.poked ≡ old.poked

-- nothing, a lane, or the doorbells or scratchpads of the side that it lands at
pub landing_cases : (P : PairPart → Type 0) (pair : PairPart) (side : Side) (label : Label) → P pair → ((from : Side) (queue : ℕ) (lane : LanePart) → P (with_lane pair from queue lane))
    → ((part : SidePart) → HasLandedAt (side_of pair (other_side side)) part → P (with_side_part pair (other_side side) part)) → P (lands_on pair side label)
landing_cases P pair side (Flag queue n) same lane part = lane side queue _
landing_cases P pair side (Down queue n) same lane part = lane side queue _
landing_cases P pair side (Bell queue) same lane part = part _ (record { joined = refl; flight = refl; poked = refl })
landing_cases P pair side (Index queue n) same lane part = lane (other_side side) queue _
landing_cases P pair side (Pad i value) same lane part = part _ (record { joined = refl; flight = refl; poked = refl })
landing_cases P pair side label same lane part = same
