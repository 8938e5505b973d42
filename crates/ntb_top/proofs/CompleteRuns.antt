-- If nothing outside fails, a command that reads answers all bytes of its source, and a load writes its summary.
use Rattle.std.proofs.Common.{◌≡◌, ◌∙◌, ℕ, ◌+◌, ◌≤◌, Bool, true, false, Option, Some, Result, Ok, Err, List, [], ◌++◌, length, inl, inr, refl, sym, subst, ap, arith, nat_lt, append-nil, MatchBool}
use Rattle.std.proofs.lemmas.Bool.{le-ltb, false≢true}
use Rattle.std.proofs.lemmas.List.{length-append}
use Rattle.ntb_top.specs.Checks.{checked}
use Rattle.cluster_run.specs.stream.Streams.{StreamShown}
use Rattle.command_reply.specs.Output.{Output, reply_done, too_long}
use Rattle.explore_command.specs.Answers.{ExploresTo}
use Rattle.io_edges.specs.Whole.{HasGiven, HoldsAll}
use Rattle.reads_command.specs.Answers.{output_of}
use Rattle.replay_command.specs.Answers.{replayed}
use Rattle.replay_command.specs.Replays.{load_text, replay_text}
use Rattle.trace_command.specs.Answers.{traced}
use Rattle.script_text.specs.Script.{declared_by, script_of}
use Rattle.script_words.specs.Before.{Before}
use Rattle.script_words.specs.declared.fault.ScriptFault.{ScriptFault}
use Rattle.step_kinds.specs.Limits.{most_script_bytes}
use Rattle.step_kinds.specs.Runs.{LaneShown}
use Rattle.step_kinds.specs.declared.plan.Plan.{Plan}
use Rattle.traffic_command.specs.Answers.{IsRunOfScript, IsStreamOfScript}
use Rattle.traffic_command.specs.Traffic.{TrafficCarried}
use Rattle.ntb_top.proofs.RunOutcomes.{answered_as}
use Rattle.ntb_top.specs.Answers.{IsAnswerTo, IsReplyOf}
use Rattle.ntb_top.specs.Commands.{command_of, command_reads}
use Rattle.ntb_top.specs.Completeness.{IsHonest, LoadsComplete, ReplaysComplete, RunsComplete}
use Rattle.ntb_top.specs.Runs.{EndsWhole, HasAnswered, HasReply, IsAtEnd, Outside}
use Rattle.ntb_top.specs.declared.command.Command.{Command}
use Rattle.ntb_top.specs.declared.command.Command.TheVariants.{Plain, Threaded}
use Rattle.ntb_top.specs.declared.command.PlainCommand.TheVariants.{Check, Explore, Load, Reads, Replay, Trace}
use Rattle.ntb_top.specs.declared.command.ThreadedCommand.TheVariants.{Run, Stream}

-- No reply has the status of a failed read, or of out of memory

of_output : (output other : Output) → output ≡ other → HasReply other.status → HasReply output.status
of_output output other is reply = subst (λ (o : Output). HasReply o.status) (sym is) reply

replay_status : (read : Result Plan ScriptFault) → HasReply (replayed read).status
replay_status (Ok plan) = (λ e. absurd (omega (arith, e)), λ e. absurd (omega (arith, e)))
replay_status (Err fault) = (λ e. absurd (omega (arith, e)), λ e. absurd (omega (arith, e)))

check_status : (read : Result Before ScriptFault) → HasReply (checked read).status
check_status (Ok declared) = (λ e. absurd (omega (arith, e)), λ e. absurd (omega (arith, e)))
check_status (Err fault) = (λ e. absurd (omega (arith, e)), λ e. absurd (omega (arith, e)))

trace_status : (read : Result Plan ScriptFault) → HasReply (traced read).status
trace_status (Ok plan) = (λ e. absurd (omega (arith, e)), λ e. absurd (omega (arith, e)))
trace_status (Err fault) = (λ e. absurd (omega (arith, e)), λ e. absurd (omega (arith, e)))

explore_status : (read : Result Plan ScriptFault) (output : Output) → ExploresTo read output → HasReply output.status
explore_status (Ok plan) output (inl all) = of_output output _ all.answer (λ e. absurd (omega (arith, e)), λ e. absurd (omega (arith, e)))
explore_status (Ok plan) output (inr many) = of_output output _ many.answer (λ e. absurd (omega (arith, e)), λ e. absurd (omega (arith, e)))
explore_status (Err fault) output h = of_output output _ h (λ e. absurd (omega (arith, e)), λ e. absurd (omega (arith, e)))

run_status : (read : Result Plan ScriptFault) (output : Output) (carried : TrafficCarried (List LaneShown)) → IsRunOfScript read output carried → HasReply output.status
run_status (Ok plan) output carried h = of_output output _ h.text (λ e. absurd (omega (arith, e)), λ e. absurd (omega (arith, e)))
run_status (Err fault) output carried h = of_output output _ h.0 (λ e. absurd (omega (arith, e)), λ e. absurd (omega (arith, e)))

stream_status : (read : Result Plan ScriptFault) (output : Output) (streamed : TrafficCarried (List StreamShown)) → IsStreamOfScript read output streamed → HasReply output.status
stream_status (Ok plan) output streamed h = of_output output _ h.text (λ e. absurd (omega (arith, e)), λ e. absurd (omega (arith, e)))
stream_status (Err fault) output streamed h = of_output output _ h.0 (λ e. absurd (omega (arith, e)), λ e. absurd (omega (arith, e)))

reads_status : (reply : Result (List ℕ) ℕ) → HasReply (output_of reply).status
reads_status (Ok text) = (λ e. absurd (omega (arith, e)), λ e. absurd (omega (arith, e)))
reads_status (Err line) = (λ e. absurd (omega (arith, e)), λ e. absurd (omega (arith, e)))

reply_status : (command : Command) (bytes : List ℕ) (output : Output) → command_reads command ≡ true → IsReplyOf command bytes output → HasReply output.status
reply_status (Plain Replay) bytes output reads h = of_output output _ h.answer (replay_status (script_of bytes))
reply_status (Plain (Load seed frames)) bytes output reads h = absurd (false≢true reads)
reply_status (Threaded Run) bytes output reads h = run_status (script_of bytes) output h.0 h.1
reply_status (Threaded Stream) bytes output reads h = stream_status (script_of bytes) output h.0 h.1
reply_status (Plain Reads) bytes output reads h = of_output output _ h.answer (reads_status _)
reply_status (Plain Trace) bytes output reads h = of_output output _ h.answer (trace_status (script_of bytes))
reply_status (Plain Check) bytes output reads h = of_output output _ h.answer (check_status (declared_by bytes))
reply_status (Plain Explore) bytes output reads h = explore_status (script_of bytes) output h

-- what was taken is the front of what the source told
taken_from : (left left' : Option (List ℕ)) (content bytes : List ℕ) → left ≡ Some content → HasGiven left left' bytes → (rest : List ℕ) × (content ≡ bytes ++ rest) × (left' ≡ Some rest)
taken_from left left' content bytes told given = subst (λ (l : Option (List ℕ)). HasGiven l left' bytes) told given

second : (test : Bool) (X Y : Type 0) → test ≡ false → MatchBool test X Y → Y
second test X Y off choice = subst (λ (b : Bool). MatchBool b X Y) off choice

whole_content : (command : Command) (before after : Outside) (status : ℕ) (content : List ℕ) → command_reads command ≡ true → IsHonest before after content →
    (run : HasAnswered true (IsAnswerTo (Some command)) before after status) → EndsWhole (IsAnswerTo (Some command) run.bytes) before after status → EndsWhole (IsReplyOf command content) before after status
whole_content command before after status content reads honest run whole =
    let taken = taken_from before.left after.left content run.bytes honest.told run.taken in
    let count : length content ≡ length run.bytes + length taken.0 = ap length taken.1 ∙ length-append run.bytes taken.0 in
    let few : length run.bytes ≤ most_script_bytes = let most = honest.few in omega arith in
    let reply : IsReplyOf command run.bytes whole.output = second (nat_lt most_script_bytes (length run.bytes)) (whole.output ≡ too_long) (IsReplyOf command run.bytes whole.output) (le-ltb most_script_bytes (length run.bytes) few) whole.answers in
    let status_ok : HasReply status = subst (λ (s : ℕ). HasReply s) (sym whole.status_is) (reply_status command run.bytes whole.output reads reply) in
    let none : taken.0 ≡ [] = subst (λ (l : Option (List ℕ)). IsAtEnd l) taken.2 (run.whole refl status_ok few) in
    let all : run.bytes ≡ content = sym (taken.1 ∙ ap (λ rest. run.bytes ++ rest) none ∙ append-nil run.bytes) in
    record { output = whole.output; answers = subst (λ (bytes : List ℕ). IsReplyOf command bytes whole.output) all reply; status_is = whole.status_is; text = whole.text; once = whole.once }

-- If source and sink don't fail, a command that reads answers the whole script in full, or is out of memory.
pub runs_complete : RunsComplete
runs_complete command before after status content reads honest run = elim run.ends [
  | inl whole ↦ inl (whole_content command before after status content reads honest run whole)
  | inr others ↦ elim others [
    | inl unread ↦ absurd (honest.read unread.cause)
    | inr rest ↦ elim rest [
      | inl cut ↦ absurd (honest.written cut.cause)
      | inr wanting ↦ inr wanting
    ]
  ]
]

-- If source and sink don't fail, `replay` of a faultless script writes its whole report, or is out of memory.
pub replays_complete : ReplaysComplete
replays_complete words before after status content plan replay honest declares run =
    elim (runs_complete (Plain Replay) before after status content refl honest (answered_as (command_of words) (Some (Plain Replay)) before after status replay run)) [
      | inl whole ↦
          let answer : whole.output ≡ reply_done (replay_text plan) = whole.answers.answer ∙ ap replayed declares in
          inl (whole.status_is ∙ ap (λ (o : Output). o.status) answer, subst (λ (o : Output). HoldsAll before.held after.held o.text) answer whole.text)
      | inr wanting ↦ inr wanting
    ]

-- a load that read nothing has written its summary
load_written : (seed frames : ℕ) (bytes : List ℕ) (before after : Outside) (status : ℕ) → bytes ≡ [] → EndsWhole (IsAnswerTo (Some (Plain (Load seed frames))) bytes) before after status →
    (status ≡ 0) × HoldsAll before.held after.held (load_text seed frames)
load_written seed frames bytes before after status none whole =
    let reply : IsReplyOf (Plain (Load seed frames)) [] whole.output = subst (λ (read : List ℕ). IsAnswerTo (Some (Plain (Load seed frames))) read whole.output) none whole.answers in
    let answer : whole.output ≡ reply_done (load_text seed frames) = reply.answer in
    (whole.status_is ∙ ap (λ (o : Output). o.status) answer, subst (λ (o : Output). HoldsAll before.held after.held o.text) answer whole.text)

-- If the sink doesn't fail, `load` writes its summary, or is out of memory.
pub loads_complete : LoadsComplete
loads_complete words before after status seed frames load calm said =
    let run = answered_as (command_of words) (Some (Plain (Load seed frames))) before after status load said in
    elim run.ends [
      | inl whole ↦ inl (load_written seed frames run.bytes before after status (run.unread refl).0 whole)
      | inr others ↦ elim others [
        | inl unread ↦ absurd (false≢true unread.reads)
        | inr rest ↦ elim rest [
          | inl cut ↦ absurd (calm cut.cause)
          | inr wanting ↦ inr wanting
        ]
      ]
    ]
