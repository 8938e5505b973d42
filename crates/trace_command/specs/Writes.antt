-- The numbers of posted writes. A side's writes are numbered from 0 over the whole run. The number of a write is where
-- it stands among those of its side that weren't lost as they were posted. A write is lost so where the pair's link
-- isn't up, and on a raw pair where the peer lacks the window that it goes through. It has no number.
use Rattle.std.specs.Prelude.{ℕ, ◌+◌, ◌==◌, Bool, true, false, List, [], ◌∷◌, ◌++◌, map, remove, slice_index_or, slice_set, take, if◌then◌else◌}
use Rattle.std.specs.List.{fold}
use Rattle.step_kinds.specs.Subject.{subject_of}
use Rattle.step_kinds.specs.declared.names.Side.{Side}
use Rattle.step_kinds.specs.declared.plan.PairPlan.{PairPlan}
use Rattle.step_kinds.specs.declared.steps.Answer.{Answer}
use Rattle.step_kinds.specs.declared.steps.Answer.TheVariants.{Ok as Done, OkSession, Offered, Posted, Blocked, Landed, Acked}
use Rattle.step_kinds.specs.declared.steps.Label.{Label}
use Rattle.step_kinds.specs.declared.steps.Label.TheVariants.{Index}
use Rattle.step_kinds.specs.declared.steps.Step.{Step}
use Rattle.step_kinds.specs.declared.steps.Step.TheVariants.{Train, Break, DropDone, Offer, Ready, Post, Land, Ack, Spad, Poke}
use Rattle.pair_model.specs.Both.{Both, at_side, both_of, with_side}
use Rattle.pair_model.specs.Orders.{classes_of}
use Rattle.pair_model.specs.Plans.{no_pair}
use Rattle.ledger_model.specs.Reading.{has_window}
use Rattle.trace_command.specs.declared.changes.Change.{Change}
use Rattle.trace_command.specs.declared.changes.Change.TheVariants.{Trains, Breaks, Drops, Posts, Loses, Lands, Waits, Nothing}
use Rattle.trace_command.specs.declared.writes.FlyingWrite.{FlyingWrite}

-- of a side: how many writes it posted that have a number, and those of them that are in flight, in the order of
-- posting
pub record SideWrites : Type 0 where
  pub posted : ℕ
  pub flight : List FlyingWrite

-- of a pair: whether its link is up, the session that it is in or was in last, and the writes of both sides
pub record PairWrites : Type 0 where
  pub up : Bool
  pub session : ℕ
  pub sides : Both SideWrites

-- What a step changes

-- the traffic class of a side's writes on a queue
abbrev pub class_on : PairPlan → Side → ℕ → ℕ
class_on plan side queue = slice_index_or (classes_of plan side) queue 0

-- whether a write that a side posts on a link that is up is in flight then. On a raw pair it is lost where the peer
-- lacks the window that it goes through.
abbrev pub goes_through : PairPlan → Side → Label → Bool
goes_through plan side label = if plan.raw then has_window plan side label else true

-- what the post of a queue's write changes
abbrev pub queue_posts : PairPlan → Side → ℕ → Label → Change
queue_posts plan side queue label = if goes_through plan side label then Posts side (class_on plan side queue) else Loses

-- what a step on this pair, answered so, changes of the pair's link and writes. A write past the queues has class 0.
abbrev pub change_by : PairPlan → Step → Answer → Change
change_by plan (Train pair) (OkSession session) = Trains session
change_by plan (Break pair) Done = Breaks
change_by plan (DropDone pair) Done = Drops
change_by plan (Offer pair side) (Offered index) = Posts side 0
change_by plan (Ready pair side queue) Done = Posts side 0
change_by plan (Post pair side queue) (Posted label) = queue_posts plan side queue label
change_by plan (Ack pair side queue) (Acked n) = queue_posts plan side queue (Index queue n)
change_by plan (Spad pair side index value) Done = Posts side 0
change_by plan (Poke pair side window offset bytes) Done = Posts side 0
change_by plan (Land pair side place) (Landed label) = Lands side place
change_by plan (Land pair side place) Blocked = Waits side place
change_by plan step answer = Nothing

-- What stands after it

-- one write more, which is in flight
abbrev pub trace_with_posted : SideWrites → ℕ → SideWrites
trace_with_posted now class = record { posted = now.posted + 1; flight = now.flight ++ record { number = now.posted; class = class } ∷ [] }

-- the write at this place has landed
abbrev pub trace_with_landed : SideWrites → ℕ → SideWrites
trace_with_landed now place = record now { flight = remove now.flight place }

-- nothing is in flight any more
abbrev pub with_dropped : SideWrites → SideWrites
with_dropped now = record now { flight = [] }

abbrev pub pair_after : PairWrites → Change → PairWrites
pair_after now (Trains session) = record now { up = true; session = session }
pair_after now Breaks = record now { up = false }
pair_after now Drops = record now { up = false; sides = record { a = with_dropped now.sides.a; b = with_dropped now.sides.b } }
pair_after now (Posts side class) = if now.up then record now { sides = with_side now.sides side (trace_with_posted (at_side now.sides side) class) } else now
pair_after now Loses = now
pair_after now (Lands side place) = record now { sides = with_side now.sides side (trace_with_landed (at_side now.sides side) place) }
pair_after now (Waits side place) = now
pair_after now Nothing = now

-- All pairs

abbrev pub no_writes : SideWrites
no_writes = record { posted = 0; flight = [] }

-- a pair before any step: one that is declared up is in session 1
abbrev pub pair_start : PairPlan → PairWrites
pair_start plan = record { up = plan.up; session = (if plan.up then 1 else 0); sides = both_of no_writes }

abbrev pub writes_start : List PairPlan → List PairWrites
writes_start pairs = map pair_start pairs

-- the pair of this number
abbrev pub pair_in : List PairWrites → ℕ → PairWrites
pair_in writes k = slice_index_or writes k (pair_start no_pair)

-- the change by a step of any pair
abbrev pub change_in : List PairPlan → Step → Answer → Change
change_in pairs step answer = change_by (slice_index_or pairs (subject_of step) no_pair) step answer

-- the writes of all pairs after a step, answered so
abbrev pub writes_after : List PairPlan → List PairWrites → Step → Answer → List PairWrites
writes_after pairs writes step answer =
    slice_set writes (subject_of step) (pair_after (pair_in writes (subject_of step)) (change_in pairs step answer))

-- What is said of the writes in flight

-- the write at a place in flight; where none is, it has the number 0 and the class 0
abbrev pub no_write : FlyingWrite
no_write = record { number = 0; class = 0 }

abbrev pub write_at : List FlyingWrite → ℕ → FlyingWrite
write_at flight place = slice_index_or flight place no_write

abbrev pub trace_number_at : List FlyingWrite → ℕ → ℕ
trace_number_at flight place = (write_at flight place).number

-- the number of the last of these writes that has a traffic class; 0 where none has
abbrev pub last_of_class : ℕ → List FlyingWrite → ℕ
last_of_class class flight = fold (λ found write. if write.class == class then write.number else found) 0 flight

-- the number of the write that stops the one at a place: since a strict write passes no earlier one of its traffic
-- class, it is the last of these
abbrev pub stopped_by : List FlyingWrite → ℕ → ℕ
stopped_by flight place = last_of_class (write_at flight place).class (take place flight)

-- the numbers of the writes in flight, in the order of posting
abbrev pub numbers_in : List FlyingWrite → List ℕ
numbers_in flight = map (λ write. write.number) flight
