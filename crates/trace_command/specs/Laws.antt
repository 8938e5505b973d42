-- What is so of the numbers of posted writes in every log. A number that a landing names was posted before, belongs to
-- the label that landed, and lands once. A landing that is blocked names a write that it may not pass. A trace follows
-- these numbers.
use Rattle.std.specs.Prelude.{◌≡◌, ℕ, ◌<◌, ◌==◌, ◌||◌, Bool, true, false, not, List, [], ◌∷◌, ◌++◌, Some, count_by, filter, length, map, nat_lt, slice_get, slice_index_or, if◌then◌else◌}
use Rattle.std.specs.List.{fold}
use Rattle.step_kinds.specs.Sides.{same_side}
use Rattle.step_kinds.specs.Subject.{subject_of}
use Rattle.step_kinds.specs.declared.names.Side.{Side}
use Rattle.step_kinds.specs.declared.plan.Plan.{Plan}
use Rattle.step_kinds.specs.declared.steps.Answer.{Answer}
use Rattle.step_kinds.specs.declared.steps.Answer.TheVariants.{Acked, Blocked, Landed, Posted}
use Rattle.step_kinds.specs.declared.steps.Label.{Label}
use Rattle.step_kinds.specs.declared.steps.Label.TheVariants.{Index, Pad}
use Rattle.step_kinds.specs.declared.steps.Step.{Step}
use Rattle.step_kinds.specs.declared.steps.Step.TheVariants.{Ack, DropDone, Land, Post}
use Rattle.order_rules.specs.Order.{Order, passes}
use Rattle.pair_model.specs.Both.{at_side}
use Rattle.pair_model.specs.Orders.{order_of}
use Rattle.pair_model.specs.Plans.{pair_plan}
use Rattle.ledger_model.specs.Log.{Answered, Memories, log_of}
use Rattle.ledger_laws.specs.Flights.{in_flight}
use Rattle.ledger_laws.specs.Laws.{GoesOn}
use Rattle.ledger_model.specs.NetworkLog.{on_bridges, switch_log}
use Rattle.step_kinds.specs.AnsweredSteps.{AnsweredStep}
use Rattle.trace_command.specs.Writes.{PairWrites, SideWrites, change_by, goes_through, trace_number_at, numbers_in, pair_after, pair_in, pair_start, stopped_by, writes_after, writes_start}
use Rattle.trace_command.specs.declared.changes.Change.{Change}
use Rattle.trace_command.specs.declared.changes.Change.TheVariants.{Drops, Lands, Nothing}

-- The writes of a pair after a log

-- what an item of the log changes of a pair
abbrev pub trace_change_of : Plan → ℕ → Answered → Change
trace_change_of plan pair made = if subject_of made.step == pair then change_by (pair_plan plan pair) made.step made.answer else Nothing

abbrev pub with_item : Plan → ℕ → PairWrites → Answered → PairWrites
with_item plan pair now made = pair_after now (trace_change_of plan pair made)

abbrev pub pair_writes : Plan → List Answered → ℕ → PairWrites
pair_writes plan log pair = fold (with_item plan pair) (pair_start (pair_plan plan pair)) log

abbrev pub side_writes : Plan → List Answered → ℕ → Side → SideWrites
side_writes plan log pair side = at_side (pair_writes plan log pair).sides side

-- What was posted, and what is in flight

-- whether an item of the log posts a write that doesn't go through, as on a raw pair whose peer lacks the window
abbrev pub is_lost : Plan → Answered → Bool
is_lost plan made = lost made.step made.answer where
  lost : Step → Answer → Bool
  lost (Post p s queue) (Posted label) = not (goes_through (pair_plan plan p) s label)
  lost (Ack p s queue) (Acked n) = not (goes_through (pair_plan plan p) s (Index queue n))
  lost step answer = false

-- the labels that a side has in flight after a log, in the order of posting
abbrev pub flying_labels : Plan → List Answered → ℕ → Side → List Label
flying_labels plan log pair side = in_flight plan (filter (λ made. not (is_lost plan made)) log) pair side

-- whether an item of the log is of a step that takes writes out of what is in flight where it is made: a landing, or a
-- drop
abbrev pub takes_out : Answered → Bool
takes_out made = takes made.step where
  takes : Step → Bool
  takes (Land pair side place) = true
  takes (DropDone pair) = true
  takes step = false

-- the labels that a side posted while its pair's link was up and that go through, in order. They are what it would have
-- in flight had nothing landed and nothing been dropped.
abbrev pub posted_labels : Plan → List Answered → ℕ → Side → List Label
posted_labels plan log pair side = in_flight plan (filter (λ made. not (is_lost plan made || takes_out made)) log) pair side

-- Landings

-- a landing names a number that was posted before, and that write has the label that landed
abbrev pub LandingsAreOfTheirLabels : Type 0
LandingsAreOfTheirLabels = (plan : Plan) (memories : Memories) (steps : List Step) (pair : ℕ) (side : Side) (place : ℕ) (label : Label) →
    let log = log_of plan memories steps in
    GoesOn plan memories steps (Land pair side place) (Landed label) →
    slice_get (posted_labels plan log pair side) (trace_number_at (side_writes plan log pair side).flight place) ≡ Some label

-- the numbers that a change lands, and those that it drops
abbrev pub landed_by : Side → PairWrites → Change → List ℕ
landed_by side now (Lands from place) = if same_side from side then trace_number_at (at_side now.sides side).flight place ∷ [] else []
landed_by side now change = []

abbrev pub dropped_by : Side → PairWrites → Change → List ℕ
dropped_by side now Drops = numbers_in (at_side now.sides side).flight
dropped_by side now change = []

-- the numbers that the items of a log take out, from a pair's writes on
abbrev pub taken_from : (PairWrites → Change → List ℕ) → Plan → ℕ → PairWrites → List Answered → List ℕ
taken_from taken plan pair now [] = []
taken_from taken plan pair now (made ∷ log) = taken now (trace_change_of plan pair made) ++ taken_from taken plan pair (with_item plan pair now made) log

abbrev pub landed_numbers : Plan → List Answered → ℕ → Side → List ℕ
landed_numbers plan log pair side = taken_from (landed_by side) plan pair (pair_start (pair_plan plan pair)) log

abbrev pub dropped_numbers : Plan → List Answered → ℕ → Side → List ℕ
dropped_numbers plan log pair side = taken_from (dropped_by side) plan pair (pair_start (pair_plan plan pair)) log

-- how often a number stands in a list
abbrev pub how_often : ℕ → List ℕ → ℕ
how_often n numbers = count_by (λ m. m == n) numbers

-- The number of each write that was posted stands exactly once among those that landed, those that were dropped, and
-- those in flight; and no other number does. So each lands once at most.
abbrev pub EachNumberStandsOnce : Type 0
EachNumberStandsOnce = (plan : Plan) (memories : Memories) (steps : List Step) (pair : ℕ) (side : Side) (n : ℕ) →
    let log = log_of plan memories steps in
    how_often n (landed_numbers plan log pair side ++ (dropped_numbers plan log pair side ++ numbers_in (side_writes plan log pair side).flight))
    ≡ (if nat_lt n (length (posted_labels plan log pair side)) then 1 else 0)

-- Blocked landings

-- the order of the write at a place in flight
abbrev pub order_at : Plan → List Answered → ℕ → Side → ℕ → Order
order_at plan log pair side place = order_of (pair_plan plan pair) side (slice_index_or (flying_labels plan log pair side) place (Pad 0 0))

-- an earlier write in flight has this number, and the write at the place may not pass it
pub record IsStoppedBy (plan : Plan) (log : List Answered) (pair : ℕ) (side : Side) (place number : ℕ) : Type 0 where
  pub earlier : ℕ
  pub before : earlier < place
  pub named : trace_number_at (side_writes plan log pair side).flight earlier ≡ number
  pub may_not_pass : passes (order_at plan log pair side place) (order_at plan log pair side earlier) ≡ false

abbrev pub BlockedLandingsWait : Type 0
BlockedLandingsWait = (plan : Plan) (memories : Memories) (steps : List Step) (pair : ℕ) (side : Side) (place : ℕ) →
    let log = log_of plan memories steps in
    GoesOn plan memories steps (Land pair side place) Blocked →
    IsStoppedBy plan log pair side place (stopped_by (side_writes plan log pair side).flight place)

-- Traces

-- the steps of a trace's lines
abbrev pub trace_steps_of : List AnsweredStep → List Step
trace_steps_of lines = map (λ line. line.step) lines

-- each line has the answer that the log of all their steps has for its step
abbrev pub HaveTheirAnswers : Plan → Memories → List AnsweredStep → Type 0
HaveTheirAnswers plan memories lines = map (λ line. line.made.answer) lines ≡ map (λ made. made.answer) (switch_log plan memories (trace_steps_of lines))

-- the writes of all pairs after these lines, as a trace follows them
abbrev pub traced_writes : Plan → List AnsweredStep → List PairWrites
traced_writes plan lines = fold (λ writes line. writes_after plan.pairs writes line.step line.made.answer) (writes_start plan.pairs) lines

-- They are the writes after what the log has of bridges. A relay changes none, nor does an `xnext`, or the `begin` that
-- it is in the log.
abbrev pub TracesFollowTheLog : Type 0
TracesFollowTheLog = (plan : Plan) (memories : Memories) (lines : List AnsweredStep) (pair : ℕ) → HaveTheirAnswers plan memories lines → pair < length plan.pairs →
    pair_in (traced_writes plan lines) pair ≡ pair_writes plan (on_bridges (switch_log plan memories (trace_steps_of lines))) pair
