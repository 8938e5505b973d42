-- What a step of a pair does to one lane of the pair, by its answer alone.
use Rattle.std.specs.Prelude.{ℕ, ◌==◌, Option, Some, None, if◌then◌else◌}
use Rattle.step_kinds.specs.Sides.{other_side, same_side}
use Rattle.step_kinds.specs.declared.names.LaneName.{LaneName}
use Rattle.step_kinds.specs.declared.steps.Answer.{Answer}
use Rattle.step_kinds.specs.declared.steps.Answer.TheVariants.{Ok as Done, OkNumber, Posted, Landed, ReadyFrame, Copied, Delivered, Cleared, Acked}
use Rattle.step_kinds.specs.declared.steps.Step.{Step}
use Rattle.step_kinds.specs.declared.steps.Step.TheVariants.{Break, DropDone, Begin, QpDown, Xbegin, Post, Land, Look, Copy, Clear, Ack}
use Rattle.lane_model.specs.declared.Write.{Write}
use Rattle.ledger_model.specs.Labels.{write_of, label_index_of}
use Rattle.ledger_model.specs.Log.{Answered, is_on}

pub data LaneChange : Type 0 where
  Unchanged : LaneChange
  -- the link is lost, and what was in flight on it is dropped
  LinkIsLost : LaneChange
  FlightIsDropped : LaneChange
  -- the sender begins an entry, and posts a write
  EntryIsBegun : LaneChange
  WriteIsPosted : LaneChange
  -- a write lands, or the index write of an entry
  WriteLands : (write : Write) → LaneChange
  IndexLands : (n : ℕ) → LaneChange
  -- the receiver finds an entry, copies a part of it, clears its flags, and posts its index write
  EntryIsFound : LaneChange
  PartIsCopied : LaneChange
  FlagsAreCleared : LaneChange
  IndexIsPosted : LaneChange

-- what lands is a write of the lane, an index write of it, or neither
abbrev pub change_by_write : Option Write → LaneChange
change_by_write None = Unchanged
change_by_write (Some write) = WriteLands write

abbrev pub change_by_index : Option ℕ → LaneChange
change_by_index None = Unchanged
change_by_index (Some n) = IndexLands n

-- Nothing, if the step is refused, of another lane or none; else what its answer says. What begins, ends or forgets a
-- session isn't said here.
abbrev pub change_of : LaneName → Answered → LaneChange
change_of lane made = told made.step made.answer where
  told : Step → Answer → LaneChange
  told (Break p) Done = if p == lane.pair then LinkIsLost else Unchanged
  told (DropDone p) Done = if p == lane.pair then FlightIsDropped else Unchanged
  told (Begin p side queue frame) (OkNumber n) = if is_on lane p side queue then EntryIsBegun else Unchanged
  told (QpDown p side queue) (OkNumber n) = if is_on lane p side queue then EntryIsBegun else Unchanged
  told (Xbegin p side queue dev dst kind payload) (OkNumber n) = if is_on lane p side queue then EntryIsBegun else Unchanged
  told (Post p side queue) (Posted label) = if is_on lane p side queue then WriteIsPosted else Unchanged
  told (Land p side place) (Landed label) =
      if p == lane.pair then (if same_side side lane.from then change_by_write (write_of lane.queue label) else change_by_index (label_index_of lane.queue label)) else Unchanged
  told (Look p side queue) (ReadyFrame n len) = if is_on lane p (other_side side) queue then EntryIsFound else Unchanged
  told (Copy p side queue) (Copied n part) = if is_on lane p (other_side side) queue then PartIsCopied else Unchanged
  told (Copy p side queue) (Delivered n frame) = if is_on lane p (other_side side) queue then PartIsCopied else Unchanged
  told (Clear p side queue) (Cleared n) = if is_on lane p (other_side side) queue then FlagsAreCleared else Unchanged
  told (Ack p side queue) (Acked n) = if is_on lane p (other_side side) queue then IndexIsPosted else Unchanged
  told step answer = Unchanged
