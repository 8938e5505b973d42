-- What answers a command, given the bytes that were read: the outputs that it may answer, each with what is true of it.
use Rattle.std.specs.Prelude.{◌≡◌, ℕ, Option, Some, None, List, length, nat_lt, MatchBool}
use Rattle.step_kinds.specs.Limits.{most_script_bytes}
use Rattle.step_kinds.specs.Runs.{LaneShown}
use Rattle.ntb_top.specs.Checks.{IsCheckOf}
use Rattle.cluster_run.specs.stream.Streams.{StreamShown}
use Rattle.command_reply.specs.Output.{Output, too_long, usage}
use Rattle.explore_command.specs.Answers.{IsExploreOf}
use Rattle.replay_command.specs.Answers.{IsLoadOf, IsReplayOf}
use Rattle.reads_command.specs.Answers.{IsReadsOf}
use Rattle.trace_command.specs.Answers.{IsTraceOf}
use Rattle.traffic_command.specs.Answers.{IsRunOf, IsStreamOf}
use Rattle.traffic_command.specs.Traffic.{TrafficCarried, nothing_carried}
use Rattle.ntb_top.specs.declared.command.Command.{Command}
use Rattle.ntb_top.specs.declared.command.Command.TheVariants.{Plain, Threaded}
use Rattle.ntb_top.specs.declared.command.PlainCommand.TheVariants.{Check, Explore, Load, Reads, Replay, Trace}
use Rattle.ntb_top.specs.declared.command.ThreadedCommand.TheVariants.{Run, Stream}

-- A case for each command: a relation, since several texts of `run` are right. What comes with a text of `run` and of
-- `stream` is said in `Ends`.
abbrev pub IsReplyOf : Command → List ℕ → Output → Type 0
IsReplyOf (Plain Replay) bytes output = IsReplayOf bytes output
IsReplyOf (Plain (Load seed frames)) bytes output = IsLoadOf seed frames output
IsReplyOf (Threaded Run) bytes output = (carried : TrafficCarried (List LaneShown)) × IsRunOf bytes output carried
IsReplyOf (Threaded Stream) bytes output = (streamed : TrafficCarried (List StreamShown)) × IsStreamOf bytes output streamed
IsReplyOf (Plain Reads) bytes output = IsReadsOf bytes output
IsReplyOf (Plain Trace) bytes output = IsTraceOf bytes output
IsReplyOf (Plain Check) bytes output = IsCheckOf bytes output
IsReplyOf (Plain Explore) bytes output = IsExploreOf bytes output

-- `usage` where the words are no command, `too long` where too many bytes were read, else what the command answers
abbrev pub IsAnswerTo : Option Command → List ℕ → Output → Type 0
IsAnswerTo None bytes output = output ≡ usage
IsAnswerTo (Some command) bytes output = MatchBool (nat_lt most_script_bytes (length bytes)) (output ≡ too_long) (IsReplyOf command bytes output)

-- the same of a command with something beside its text
abbrev pub IsAnswerWith : {C : Type 0} → C → (List ℕ → Output → C → Type 0) → List ℕ → Output → C → Type 0
IsAnswerWith nothing IsOf bytes output carried =
    MatchBool (nat_lt most_script_bytes (length bytes)) ((output ≡ too_long) × (carried ≡ nothing)) (IsOf bytes output carried)

abbrev pub IsRunAnswerTo : List ℕ → Output → TrafficCarried (List LaneShown) → Type 0
IsRunAnswerTo bytes output carried = IsAnswerWith nothing_carried IsRunOf bytes output carried

abbrev pub IsStreamAnswerTo : List ℕ → Output → TrafficCarried (List StreamShown) → Type 0
IsStreamAnswerTo bytes output streamed = IsAnswerWith nothing_carried IsStreamOf bytes output streamed
