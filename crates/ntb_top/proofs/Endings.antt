-- What `run` and `stream` come to, with the record and the proofs that they answer, and what all other words come to.
use Rattle.std.proofs.Common.{◌≡◌, ◌∙◌, ℕ, Bool, true, false, Option, Some, None, Result, Ok, Err, List, length, nat_lt, inl, inr, refl, sym, subst, arith}
use Rattle.std.specs.Prelude.{MatchBool, option_map}
use Rattle.step_kinds.specs.Limits.{most_script_bytes}
use Rattle.step_kinds.specs.declared.plan.Plan.{Plan}
use Rattle.command_reply.specs.Output.{Output, too_long}
use Rattle.io_edges.specs.Whole.{HoldsAll}
use Rattle.cluster_run.specs.declared.stream.record.StreamRecord.{StreamRecord}
use Rattle.cluster_run.specs.stream.Streams.{StreamShown}
use Rattle.step_kinds.specs.Runs.{LaneShown}
use Rattle.step_kinds.specs.declared.runs.RunRecord.{RunRecord}
use Rattle.traffic_command.specs.Answers.{IsRunOf, IsRunOfScript, IsStreamOf, IsStreamOfScript}
use Rattle.traffic_command.specs.Replies.{carried_by, streamed_by}
use Rattle.traffic_command.specs.Traffic.{TrafficCarried, nothing_carried}
use Rattle.traffic_command.specs.declared.reply.TrafficReply.{TrafficReply}
use Rattle.script_text.specs.Script.{script_of}
use Rattle.script_words.specs.declared.fault.ScriptFault.{ScriptFault}
use Rattle.ntb_top.proofs.RunOutcomes.{run_answered, run_nothing, sink_of, source_of}
use Rattle.ntb_top.specs.Answers.{IsAnswerTo, IsRunAnswerTo, IsStreamAnswerTo}
use Rattle.ntb_top.specs.Commands.{command_reads, is_reading}
use Rattle.ntb_top.specs.Ends.{Beside, HasEnded, IsTrueRun, IsTrueStream, beside_run, beside_stream, nothing_beside}
use Rattle.ntb_top.specs.Inputs.{ShellGiven, HasRead, HasReplied, HasWritten}
use Rattle.ntb_top.specs.Runs.{HasAnswered, Outside}
use Rattle.ntb_top.specs.declared.command.Command.{Command}
use Rattle.ntb_top.specs.declared.command.Command.TheVariants.{Plain, Threaded}
use Rattle.ntb_top.specs.declared.command.PlainCommand.{PlainCommand}
use Rattle.ntb_top.specs.declared.command.ThreadedCommand.TheVariants.{Run, Stream}
use Rattle.ntb_top.specs.declared.input.Stop.{Stop}
use Rattle.ntb_top.specs.declared.input.Stop.TheVariants.{SourceFailed}

-- what was read stays so, whatever comes of it afterwards
read_on : {T U : Type 0} (before after : ShellGiven) (bytes : List ℕ) (value : T) (reply : U) → HasRead true before after bytes (Ok value) → HasRead true before after bytes (Ok reply)
read_on before after bytes value reply read =
    record {
      taken = read.taken;
      few = read.few;
      reads = read.reads;
      unread = read.unread;
      whole = read.whole;
      failed = λ (is : Ok reply ≡ Err SourceFailed). cc;
      kept = λ _. read.kept (λ (is : Ok value ≡ Err SourceFailed). cc);
    }

-- the reply, with what comes beside it, of a command to what was read
abbrev pub HasRunReply : ShellGiven → ShellGiven → Result (TrafficReply RunRecord) Stop → Type 0
HasRunReply before after result = HasReplied true (λ bytes (run : TrafficReply RunRecord). IsRunAnswerTo bytes run.reply (carried_by run)) before after result

abbrev pub HasStreamReply : ShellGiven → ShellGiven → Result (TrafficReply StreamRecord) Stop → Type 0
HasStreamReply before after result = HasReplied true (λ bytes (streams : TrafficReply StreamRecord). IsStreamAnswerTo bytes streams.reply (streamed_by streams)) before after result

-- it is an answer of the command, whatever comes with it
as_answer : {C : Type 0} (nothing : C) (IsOf : List ℕ → Output → C → Type 0) (long : Bool) (bytes : List ℕ) (output : Output) (carried : C) →
    MatchBool long ((output ≡ too_long) × (carried ≡ nothing)) (IsOf bytes output carried) →
    MatchBool long (output ≡ too_long) ((carried : C) × IsOf bytes output carried)
as_answer nothing IsOf true bytes output carried answer = answer.0
as_answer nothing IsOf false bytes output carried answer = (carried, answer)

abbrev run_told : (before after : ShellGiven) (run : TrafficReply RunRecord) → HasRunReply before after (Ok run) → HasReplied true (IsAnswerTo (Some (Threaded Run))) before after (Ok run.reply)
run_told before after run replied =
    record {
      bytes = replied.bytes;
      read = read_on before after replied.bytes run run.reply replied.read;
      answers = as_answer nothing_carried IsRunOf (nat_lt most_script_bytes (length replied.bytes)) replied.bytes run.reply (carried_by run) replied.answers;
    }

abbrev streams_told : (before after : ShellGiven) (streams : TrafficReply StreamRecord) → HasStreamReply before after (Ok streams) → HasReplied true (IsAnswerTo (Some (Threaded Stream))) before after (Ok streams.reply)
streams_told before after streams replied =
    record {
      bytes = replied.bytes;
      read = read_on before after replied.bytes streams streams.reply replied.read;
      answers = as_answer nothing_carried IsStreamOf (nat_lt most_script_bytes (length replied.bytes)) replied.bytes streams.reply (streamed_by streams) replied.answers;
    }

-- with status 0 the input wasn't too long
not_long : {C : Type 0} (nothing : C) (IsOf : List ℕ → Output → C → Type 0) (long : Bool) (bytes : List ℕ) (output : Output) (carried : C) →
    MatchBool long ((output ≡ too_long) × (carried ≡ nothing)) (IsOf bytes output carried) → output.status ≡ 0 → IsOf bytes output carried
not_long nothing IsOf true bytes output carried answer zero =
    absurd (subst (λ (output : Output). output.status ≡ 0 → ⊥) (sym answer.0) (λ zero. omega arith) zero)
not_long nothing IsOf false bytes output carried answer zero = answer

-- an answer with status 0 is the text of a record of the plan that the bytes declare
true_run : (bytes : List ℕ) (before after : Outside) (output : Output) (carried : TrafficCarried (List LaneShown)) (read : Result Plan ScriptFault) → script_of bytes ≡ read →
    IsRunOfScript read output carried → output.status ≡ 0 → HoldsAll before.held after.held output.text → IsTrueRun bytes before after (beside_run carried)
true_run bytes before after output carried (Ok plan) is answer zero text =
    record {
      plan = plan;
      declares = is;
      run = answer.run;
      answered = answer.answered;
      alone = refl;
      text = subst (λ (output : Output). HoldsAll before.held after.held output.text) answer.text text;
      fits = answer.fits;
      shown = answer.shown;
    }
true_run bytes before after output carried (Err fault) is answer zero text =
    absurd (subst (λ (output : Output). output.status ≡ 0 → ⊥) (sym answer.0) (λ zero. omega arith) zero)

true_stream : (bytes : List ℕ) (before after : Outside) (output : Output) (streamed : TrafficCarried (List StreamShown)) (read : Result Plan ScriptFault) → script_of bytes ≡ read →
    IsStreamOfScript read output streamed → output.status ≡ 0 → HoldsAll before.held after.held output.text → IsTrueStream bytes before after (beside_stream streamed)
true_stream bytes before after output streamed (Ok plan) is answer zero text =
    record {
      plan = plan;
      declares = is;
      streams = answer.streams;
      answered = answer.answered;
      alone = refl;
      text = subst (λ (output : Output). HoldsAll before.held after.held output.text) answer.text text;
      whole = answer.whole;
      resumed = answer.resumed;
    }
true_stream bytes before after output streamed (Err fault) is answer zero text =
    absurd (subst (λ (output : Output). output.status ≡ 0 → ⊥) (sym answer.0) (λ zero. omega arith) zero)

-- a run that has its reply, whether all of the text is written or a part
pub run_ended : (before after : Outside) (run : TrafficReply RunRecord) (status : ℕ) (beside : Beside) → HasRunReply (source_of before) (source_of after) (Ok run) →
    HasWritten (sink_of before) (sink_of after) run.reply status → (status ≡ 0 → beside ≡ beside_run (carried_by run)) → ((status ≡ 0 → ⊥) → beside ≡ nothing_beside) →
    HasEnded (Some (Threaded Run)) before after status beside
unfolding run_answered
run_ended before after run status beside replied written told alone =
    record {
      run = run_answered true (IsAnswerTo (Some (Threaded Run))) before after run.reply status (run_told (source_of before) (source_of after) run replied) written;
      headline = λ _ zero.
          elim written [
            | inl w ↦
                let ended = sym w.status_is ∙ zero in
                subst (λ (beside : Beside). IsTrueRun replied.bytes before after beside) (sym (told zero))
                (true_run replied.bytes before after run.reply (carried_by run) (script_of replied.bytes) refl
                (not_long nothing_carried IsRunOf (nat_lt most_script_bytes (length replied.bytes)) replied.bytes run.reply (carried_by run) replied.answers ended) ended w.text)
            | inr w ↦ absurd (omega (arith, zero, w.status_is))
          ];
      streams = λ (is : Some (Threaded Run) ≡ Some (Threaded Stream)) zero. cc;
      alone = λ other _. alone (λ zero. other refl zero);
    }

-- the same of streams
pub streams_ended : (before after : Outside) (streams : TrafficReply StreamRecord) (status : ℕ) (beside : Beside) → HasStreamReply (source_of before) (source_of after) (Ok streams) →
    HasWritten (sink_of before) (sink_of after) streams.reply status → (status ≡ 0 → beside ≡ beside_stream (streamed_by streams)) → ((status ≡ 0 → ⊥) → beside ≡ nothing_beside) →
    HasEnded (Some (Threaded Stream)) before after status beside
unfolding run_answered
streams_ended before after streams status beside replied written told alone =
    record {
      run = run_answered true (IsAnswerTo (Some (Threaded Stream))) before after streams.reply status (streams_told (source_of before) (source_of after) streams replied) written;
      headline = λ (is : Some (Threaded Stream) ≡ Some (Threaded Run)) zero. cc;
      streams = λ _ zero.
          elim written [
            | inl w ↦
                let ended = sym w.status_is ∙ zero in
                subst (λ (beside : Beside). IsTrueStream replied.bytes before after beside) (sym (told zero))
                (true_stream replied.bytes before after streams.reply (streamed_by streams) (script_of replied.bytes) refl
                (not_long nothing_carried IsStreamOf (nat_lt most_script_bytes (length replied.bytes)) replied.bytes streams.reply (streamed_by streams) replied.answers ended) ended w.text)
            | inr w ↦ absurd (omega (arith, zero, w.status_is))
          ];
      alone = λ _ other. alone (λ zero. other refl zero);
    }

-- a command that takes no thread, or words that are no command, with nothing beside the status
pub plain_ended : (command : Option PlainCommand) (before after : Outside) (status said : ℕ) (beside : Beside)
    → HasAnswered (is_reading (option_map Plain command)) (IsAnswerTo (option_map Plain command)) before after said → status ≡ said → beside ≡ nothing_beside
    → HasEnded (option_map Plain command) before after status beside
plain_ended None before after status said beside run is none =
    record {
      run = subst (λ status. HasAnswered false (IsAnswerTo None) before after status) (sym is) run;
      headline = λ (other : None ≡ Some (Threaded Run)) zero. cc;
      streams = λ (other : None ≡ Some (Threaded Stream)) zero. cc;
      alone = λ _ _. none;
    }
plain_ended (Some command) before after status said beside run is none =
    record {
      run = subst (λ status. HasAnswered (command_reads (Plain command)) (IsAnswerTo (Some (Plain command))) before after status) (sym is) run;
      headline = λ (other : Some (Plain command) ≡ Some (Threaded Run)) zero. cc;
      streams = λ (other : Some (Plain command) ≡ Some (Threaded Stream)) zero. cc;
      alone = λ _ _. none;
    }

-- there was no memory before anything was done
pub nothing_ended : (command : Option Command) (outside : Outside) (status : ℕ) (beside : Beside) → status ≡ 6 → beside ≡ nothing_beside → HasEnded command outside outside status beside
nothing_ended command outside status beside six none =
    record {
      run = subst (λ status. HasAnswered (is_reading command) (IsAnswerTo command) outside outside status) (sym six) (run_nothing (is_reading command) (IsAnswerTo command) outside);
      headline = λ _ zero. absurd (omega (arith, zero, six));
      streams = λ _ zero. absurd (omega (arith, zero, six));
      alone = λ _ _. none;
    }
