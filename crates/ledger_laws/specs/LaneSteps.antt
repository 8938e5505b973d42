-- The steps of a lane that a step of a cluster is.
use Rattle.std.specs.Prelude.{◌≡◌, true, List, [], ◌∷◌, ◌++◌, ◌⊎◌}
use Rattle.std.specs.List.{AllByRecursion}
use Rattle.step_kinds.specs.Sides.{other_side}
use Rattle.step_kinds.specs.declared.names.LaneName.{LaneName}
use Rattle.step_kinds.specs.declared.names.Side.{Side}
use Rattle.step_kinds.specs.declared.plan.Plan.{Plan}
use Rattle.step_kinds.specs.declared.steps.Answer.{Answer}
use Rattle.step_kinds.specs.declared.steps.Step.{Step}
use Rattle.lane_model.specs.Lane.{Entry, Lane}
use Rattle.lane_model.specs.LaneSteps.{LaneStep, Begin, Post, Land, Look, Copy, Clear, Acknowledge, GiveBack, Cut, Drop, LaneRuns}
use Rattle.lane_laws.specs.Laws.{IsFresh}
use Rattle.ring_geometry.specs.Geometry.{HasRing}
use Rattle.ledger_model.specs.Ledger.{PairPart, side_of}
use Rattle.ledger_model.specs.Log.{Memories, ledger_of}
use Rattle.ledger_model.specs.Rings.{ring_of, shown_lane}
use Rattle.pair_model.specs.Plans.{pair_plan}
use Rattle.pair_model.specs.Sizes.{layout_of, sizes_of}
use Rattle.ledger_laws.specs.LaneChanges.{LaneChange, Unchanged, LinkIsLost, FlightIsDropped, EntryIsBegun, WriteIsPosted, WriteLands, IndexLands, EntryIsFound, PartIsCopied, FlagsAreCleared, IndexIsPosted, change_of}
use Rattle.ledger_laws.specs.Laws.{GoesOn, IsOrdinaryOn, IsOrdinaryPair}

-- the steps that a change of a lane is: none, or one; where a piece of a frame waits, the first post of it begins it
-- too
abbrev pub AreStepsFor : LaneChange → List LaneStep → Type 0
AreStepsFor Unchanged steps = steps ≡ []
AreStepsFor LinkIsLost steps = steps ≡ Cut ∷ []
AreStepsFor FlightIsDropped steps = steps ≡ Drop ∷ []
AreStepsFor EntryIsBegun steps = (entry : Entry) × (steps ≡ Begin entry ∷ [])
AreStepsFor WriteIsPosted steps = (steps ≡ Post ∷ []) ⊎ ((entry : Entry) × (steps ≡ Begin entry ∷ Post ∷ []))
AreStepsFor (WriteLands write) steps = steps ≡ Land write ∷ []
AreStepsFor (IndexLands n) steps = steps ≡ GiveBack n ∷ []
AreStepsFor EntryIsFound steps = steps ≡ Look ∷ []
AreStepsFor PartIsCopied steps = steps ≡ Copy ∷ []
AreStepsFor FlagsAreCleared steps = steps ≡ Clear ∷ []
AreStepsFor IndexIsPosted steps = steps ≡ Acknowledge ∷ []

-- one lane comes from the other by the steps that a change is
pub record MovesByLaneSteps (change : LaneChange) (before after : Lane) : Type 0 where
  pub steps : List LaneStep
  pub are : AreStepsFor change steps
  pub runs : LaneRuns steps before after

-- both sides of a lane are up
pub record AreBothUp (now : PairPart) (from : Side) : Type 0 where
  pub sender : (side_of now from).up ≡ true
  pub receiver : (side_of now (other_side from)).up ≡ true

-- Let both sides of an ordinary pair be up before a step and after it. Then the lane that is shown after the step comes
-- from the one before it by the steps that the step's answer says. There are none where the step is refused or another
-- lane's.
abbrev pub EachStepIsOfTheLane : Type 0
EachStepIsOfTheLane = (plan : Plan) (memories : Memories) (steps : List Step) (step : Step) (answer : Answer) (name : LaneName) →
    let pair = pair_plan plan name.pair in
    let now = ledger_of plan memories steps name.pair in
    let next = ledger_of plan memories (steps ++ step ∷ []) name.pair in
    let sizes = sizes_of pair name.from name.queue in
    IsOrdinaryPair plan name.pair → AllByRecursion (IsOrdinaryOn name.pair) steps → HasRing (layout_of pair name.from name.queue) →
    AreBothUp now name.from → AreBothUp next name.from → GoesOn plan memories steps step answer →
    MovesByLaneSteps (change_of name (record { step = step; answer = answer })) (shown_lane sizes now (ring_of plan memories steps name) name.from name.queue)
    (shown_lane sizes next (ring_of plan memories (steps ++ step ∷ []) name) name.from name.queue)

-- A lane is shown fresh where both its sides are up before any step, and by each step after which they are and before
-- which they weren't. Nothing was begun then, nothing of it is in flight, no slot has flags, and the index word says
-- that all entries but one are free.
pub record BeginsFresh (plan : Plan) (memories : Memories) (name : LaneName) : Type 0 where
  pub at_start :
      let pair = pair_plan plan name.pair in
      let now = ledger_of plan memories [] name.pair in
      AreBothUp now name.from → IsFresh (shown_lane (sizes_of pair name.from name.queue) now (ring_of plan memories [] name) name.from name.queue)
  pub in_session : (steps : List Step) (step : Step) →
      let pair = pair_plan plan name.pair in
      let next = ledger_of plan memories (steps ++ step ∷ []) name.pair in
      AllByRecursion (IsOrdinaryOn name.pair) (steps ++ step ∷ []) → (AreBothUp (ledger_of plan memories steps name.pair) name.from → ⊥) → AreBothUp next name.from →
      IsFresh (shown_lane (sizes_of pair name.from name.queue) next (ring_of plan memories (steps ++ step ∷ []) name) name.from name.queue)

abbrev pub EachLaneBeginsFresh : Type 0
EachLaneBeginsFresh = (plan : Plan) (memories : Memories) (name : LaneName) → IsOrdinaryPair plan name.pair →
    HasRing (layout_of (pair_plan plan name.pair) name.from name.queue) → BeginsFresh plan memories name
