-- What `run` and `stream` answer to the bytes of a script, and what is true of it.
use Rattle.std.specs.Prelude.{◌≡◌, ℕ, ◌+◌, Result, Some, List, map}
use Rattle.cluster_run.specs.Lanes.{losses_on, traffic_lanes}
use Rattle.cluster_run.specs.Runs.{IsFit, IsRunShown}
use Rattle.cluster_run.specs.stream.Streams.{AreResumed, StreamShown}
use Rattle.command_reply.specs.Output.{Output, reply_done}
use Rattle.report_text.specs.Report.{record_of}
use Rattle.script_text.specs.Script.{script_of}
use Rattle.script_words.specs.declared.fault.ScriptFault.{ScriptFault}
use Rattle.step_kinds.specs.Runs.{LaneShown}
use Rattle.step_kinds.specs.declared.names.LaneName.{LaneName}
use Rattle.step_kinds.specs.declared.plan.Plan.{Plan}
use Rattle.traffic_plan.specs.Lanes.{frames_on}
use Rattle.traffic_command.specs.Text.{streams_text}
use Rattle.traffic_command.specs.Traffic.{TrafficCarried, IsTrafficOf}

-- The answer of `run` where the script declares a plan: a record of that plan's traffic, its text and its proofs.
pub record IsRunOfPlan (plan : Plan) (output : Output) (carried : TrafficCarried (List LaneShown)) : Type 0 where
  pub run : List LaneShown
  -- the record that is answered is the one whose text is written
  pub answered : carried.recorded ≡ Some run
  pub text : output ≡ reply_done (record_of plan run)
  -- its lanes and sessions are the plan's: what was accepted over a lane's sessions is its traffic
  pub fits : IsFit plan run
  -- each session is shown by a proof of its lane
  pub shown : IsRunShown plan run carried.proofs

abbrev pub IsRunOfScript : Result Plan ScriptFault → Output → TrafficCarried (List LaneShown) → Type 0
IsRunOfScript read output carried = IsTrafficOf IsRunOfPlan read output carried

-- The answer of `run` to the bytes of a script.
abbrev pub IsRunOf : List ℕ → Output → TrafficCarried (List LaneShown) → Type 0
IsRunOf bytes output carried = IsRunOfScript (script_of bytes) output carried

-- what the stream of a lane brings: the lane's whole traffic, over one session more than its pair's link has losses
abbrev pub stream_on : Plan → LaneName → StreamShown
stream_on plan lane = record { name = lane; items = frames_on lane plan.traffic; sessions = 1 + losses_on plan lane }

-- The answer of `stream` where the script declares a plan: a record of the plan's streams, its text and its proofs.
pub record IsStreamOfPlan (plan : Plan) (output : Output) (carried : TrafficCarried (List StreamShown)) : Type 0 where
  pub streams : List StreamShown
  -- the record that is answered is the one whose text is written
  pub answered : carried.recorded ≡ Some streams
  pub text : output ≡ reply_done (streams_text plan streams)
  -- it has the whole traffic of each lane with traffic, each frame once and in order
  pub whole : streams ≡ map (stream_on plan) (traffic_lanes plan)
  -- and proofs of lanes show that sessions brought it
  pub resumed : AreResumed plan streams carried.proofs

abbrev pub IsStreamOfScript : Result Plan ScriptFault → Output → TrafficCarried (List StreamShown) → Type 0
IsStreamOfScript read output carried = IsTrafficOf IsStreamOfPlan read output carried

-- The answer of `stream` to the bytes of a script.
abbrev pub IsStreamOf : List ℕ → Output → TrafficCarried (List StreamShown) → Type 0
IsStreamOf bytes output carried = IsStreamOfScript (script_of bytes) output carried
