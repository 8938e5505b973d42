-- What a run of the program answers beside its status, and the whole contract of such a run.
use Rattle.std.specs.Prelude.{◌≡◌, ℕ, Option, Some, None, Ok, List, [], map, option_map}
use Rattle.cluster_run.specs.Lanes.{traffic_lanes}
use Rattle.cluster_run.specs.Runs.{IsFit, IsRunShown}
use Rattle.cluster_run.specs.stream.Streams.{AreResumed, StreamShown, streams_shown}
use Rattle.command_reply.specs.Statuses.{number_of}
use Rattle.command_reply.specs.declared.status.Status.TheVariants.{Done}
use Rattle.io_edges.specs.Whole.{HoldsAll}
use Rattle.report_text.specs.Report.{record_of}
use Rattle.script_text.specs.Script.{script_of}
use Rattle.step_kinds.specs.Runs.{LaneShown, run_shown}
use Rattle.step_kinds.specs.declared.plan.Plan.{Plan}
use Rattle.table_lane.specs.EndOfLane.{Shown}
use Rattle.traffic_command.specs.Answers.{stream_on}
use Rattle.traffic_command.specs.Text.{streams_text}
use Rattle.traffic_command.specs.Traffic.{TrafficCarried}
use Rattle.ntb_top.specs.Answers.{IsAnswerTo}
use Rattle.ntb_top.specs.Commands.{is_reading}
use Rattle.ntb_top.specs.Runs.{HasAnswered, Outside}
use Rattle.ntb_top.specs.declared.command.Command.{Command}
use Rattle.ntb_top.specs.declared.command.Command.TheVariants.{Threaded}
use Rattle.ntb_top.specs.declared.command.ThreadedCommand.TheVariants.{Run, Stream}
use Rattle.ntb_top.specs.declared.ended.Ended.{Ended}

-- what is answered beside the status: the record of a run, that of streams, and the proofs of either
pub record Beside : Type 0 where
  pub runs : Option (List LaneShown)
  pub streams : Option (List StreamShown)
  pub proofs : List Shown

abbrev pub beside_of : Ended → Beside
beside_of ended = record { runs = option_map run_shown ended.runs; streams = option_map streams_shown ended.streams; proofs = ended.proofs.items }

-- what comes with a text of `run`, and of `stream`
abbrev pub beside_run : TrafficCarried (List LaneShown) → Beside
beside_run carried = record { runs = carried.recorded; streams = None; proofs = carried.proofs }

abbrev pub beside_stream : TrafficCarried (List StreamShown) → Beside
beside_stream streamed = record { runs = None; streams = streamed.recorded; proofs = streamed.proofs }

abbrev pub nothing_beside : Beside
nothing_beside = record { runs = None; streams = None; proofs = [] }

-- The bytes declare a plan, and what was written is the text of a record that is answered, fits the plan, and is shown
-- by the answered proofs.
pub record IsTrueRun (bytes : List ℕ) (before after : Outside) (beside : Beside) : Type 0 where
  pub plan : Plan
  pub declares : script_of bytes ≡ Ok plan
  pub run : List LaneShown
  pub answered : beside.runs ≡ Some run
  pub alone : beside.streams ≡ None
  pub text : HoldsAll before.held after.held (record_of plan run)
  pub fits : IsFit plan run
  pub shown : IsRunShown plan run beside.proofs

-- The bytes declare a plan, and what was written is the text of a record that is answered. The record has the whole
-- traffic of each lane, in order, and the answered proofs make it resumed.
pub record IsTrueStream (bytes : List ℕ) (before after : Outside) (beside : Beside) : Type 0 where
  pub plan : Plan
  pub declares : script_of bytes ≡ Ok plan
  pub streams : List StreamShown
  pub answered : beside.streams ≡ Some streams
  pub alone : beside.runs ≡ None
  pub text : HoldsAll before.held after.held (streams_text plan streams)
  pub whole : streams ≡ map (stream_on plan) (traffic_lanes plan)
  pub resumed : AreResumed plan streams beside.proofs

-- The whole contract of a run with what it answers.
pub record HasEnded (command : Option Command) (before after : Outside) (status : ℕ) (beside : Beside) : Type 0 where
  -- what was taken and written, and the status: as of any command
  pub run : HasAnswered (is_reading command) (IsAnswerTo command) before after status
  -- `run` with status 0 answers the record whose text it wrote, and its proofs
  pub headline : command ≡ Some (Threaded Run) → status ≡ number_of Done → IsTrueRun run.bytes before after beside
  -- and so does `stream`
  pub streams : command ≡ Some (Threaded Stream) → status ≡ number_of Done → IsTrueStream run.bytes before after beside
  -- in every other case there is neither record nor proof
  pub alone : (command ≡ Some (Threaded Run) → status ≡ number_of Done → ⊥) → (command ≡ Some (Threaded Stream) → status ≡ number_of Done → ⊥) → beside ≡ nothing_beside
