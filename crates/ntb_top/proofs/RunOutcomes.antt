-- What a run comes to, by what reading, the reply and writing come to. All of it holds for any command and any relation
-- between bytes and outputs.
use Rattle.std.proofs.Common.{◌≡◌, ◌∙◌, ℕ, ◌+◌, ◌<◌, ◌≤◌, Bool, true, Option, Some, None, Result, Ok, Err, List, [], IfSome, length, take, drop, replicate, inl, inr, refl, sym, subst, arith}
use Rattle.std.specs.Prelude.{IsErrOf, option_map}
use Rattle.std.proofs.lemmas.Bool.{true≢false}
use Rattle.std.proofs.lemmas.List.{length-replicate, length-take-le, take-append-drop}
use Rattle.step_kinds.specs.Limits.{most_script_bytes}
use Rattle.command_reply.specs.Output.{Output}
use Rattle.io_edges.specs.Whole.{HasGiven, HasGivenAtMost}
use Rattle.io_edges.specs.declared.whole.ReadError.{ReadError}
use Rattle.io_edges.specs.declared.whole.ReadError.TheVariants.{ReadFault, TooLong as ReadTooLong}
use Rattle.ntb_top.specs.Answers.{IsAnswerTo}
use Rattle.ntb_top.specs.Commands.{IsPlain, is_reading, plain_part}
use Rattle.ntb_top.specs.Inputs.{ShellGiven, HasInput, HasReplied, HasWritten, ShellHeld}
use Rattle.ntb_top.specs.Runs.{HasAnswered, Outside}
use Rattle.ntb_top.specs.declared.command.Command.{Command}
use Rattle.ntb_top.specs.declared.command.Command.TheVariants.{Plain, Threaded}
use Rattle.ntb_top.specs.declared.input.Input.TheVariants.{TooLong}
use Rattle.ntb_top.specs.declared.input.Stop.TheVariants.{SourceFailed}

-- Reading

nothing_given : (left : Option (List ℕ)) → HasGiven left left []
nothing_given None = refl
nothing_given (Some content) = (content, refl, refl)

-- a list of each length
list_of : (n : ℕ) → (bytes : List ℕ) × (length bytes ≡ n)
list_of n = (replicate n 0, length-replicate n 0)

-- one byte more than the limit was taken
long_taken : (limit : ℕ) (left left' : Option (List ℕ)) → IfSome left (λ content. limit < length content) → IfSome left (λ content. left' ≡ Some (drop (limit + 1) content)) →
    HasGivenAtMost (limit + 1) left left' → (bytes : List ℕ) × (length bytes ≡ limit + 1) × HasGiven left left' bytes
long_taken limit None left' long taken rest = let bytes = list_of (limit + 1) in (bytes.0, bytes.1, rest.2)
long_taken limit (Some content) left' long taken rest =
    (take (limit + 1) content, length-take-le (limit + 1) content (omega arith), (drop (limit + 1) content, sym (take-append-drop (limit + 1) content), taken))

-- what reading says of an input that is too long
pub err_known : {X : Type 0} (P : List ℕ → Type 0) (left : Option (List ℕ)) (read : Result X ReadError) → read ≡ Err ReadTooLong →
    IfSome left (λ content. IsErrOf read ReadTooLong → P content) → IfSome left P
err_known P None read is h = tt
err_known P (Some content) read is h = h is

-- and its source didn't fail
pub not_failed : {X : Type 0} (read : Result X ReadError) → read ≡ Err ReadTooLong → IsErrOf read ReadFault → ⊥
not_failed read long failed = absurd (cc (long, failed))

-- The input of a command that reads is too long where the source gave one byte past the limit, each at a read, and
-- didn't fail.
pub input_too_long : (reading : Bool) (before after : ShellGiven) → reading ≡ true → IfSome before.left (λ content. most_script_bytes < length content) →
    IfSome before.left (λ content. after.left ≡ Some (drop (most_script_bytes + 1) content)) → HasGivenAtMost (most_script_bytes + 1) before.left after.left →
    after.reads ≤ before.reads + most_script_bytes + 1 → after.faults ≡ before.faults → HasInput reading before after (Ok TooLong)
input_too_long reading before after reads long taken rest count kept =
    let found = long_taken most_script_bytes before.left after.left long taken rest in
    let most : length found.0 ≡ most_script_bytes + 1 = found.1 in
    record {
      bytes = found.0;
      read =
          record {
            taken = found.2;
            few = omega arith;
            reads = omega arith;
            unread = λ quiet. absurd (true≢false (sym reads ∙ quiet));
            whole = λ _ short. absurd (omega arith);
            failed = λ (is : Ok TooLong ≡ Err SourceFailed). cc;
            kept = λ _. kept;
          };
      input = omega arith;
    }

-- The run

abbrev pub source_of : Outside → ShellGiven
source_of outside = record { left = outside.left; faults = outside.read_faults; reads = outside.reads }

abbrev pub sink_of : Outside → ShellHeld
sink_of outside = record { held = outside.held; faults = outside.write_faults; writes = outside.writes }

-- a run that has its reply, whether all of the text is written or a part
unfoldable pub run_answered : (reading : Bool) (IsAnswer : List ℕ → Output → Type 0) (before after : Outside) (output : Output) (status : ℕ) →
    HasReplied reading IsAnswer (source_of before) (source_of after) (Ok output) → HasWritten (sink_of before) (sink_of after) output status →
    HasAnswered reading IsAnswer before after status
run_answered reading IsAnswer before after output status replied written =
    let kept : after.read_faults ≡ before.read_faults = replied.read.kept (λ (is : Ok output ≡ Err SourceFailed). cc) in
    record {
      bytes = replied.bytes;
      taken = replied.read.taken;
      few = replied.read.few;
      reads = replied.read.reads;
      unread = λ quiet. let none = replied.read.unread quiet in (none.0, none.1, kept);
      whole = λ reads answered. replied.read.whole reads;
      ends =
          elim written [
            | inl w ↦ inl (record { output = output; answers = replied.answers; status_is = w.status_is; text = w.text; once = w.once })
            | inr w ↦ inr (inr (inl (record { output = output; answers = replied.answers; status_is = w.status_is; cause = w.cause; text = w.text })))
          ];
      source_kept = λ _. kept;
      sink_kept = λ calm. elim written [ inl w ↦ w.kept | inr w ↦ absurd (calm w.status_is) ];
      headline = λ zero. elim written [
        | inl w ↦ record { output = output; answers = replied.answers; status_is = w.status_is; text = w.text; once = w.once }
        | inr w ↦ absurd (omega (arith, zero, w.status_is))
      ];
    }

-- what came of a command came of words that are this command
pub answered_as : (command said : Option Command) (before after : Outside) (status : ℕ) → command ≡ said → HasAnswered (is_reading command) (IsAnswerTo command) before after status →
    HasAnswered (is_reading said) (IsAnswerTo said) before after status
answered_as command said before after status is run = subst (λ (c : Option Command). HasAnswered (is_reading c) (IsAnswerTo c) before after status) is run

-- words that are plain are their plain part
pub plain_stays : (command : Option Command) → IsPlain command → option_map Plain (plain_part command) ≡ command
plain_stays (Some (Plain command)) plain = refl
plain_stays (Some (Threaded command)) plain = absurd plain
plain_stays None plain = refl

-- there was no memory before anything was done
pub run_nothing : (reading : Bool) (IsAnswer : List ℕ → Output → Type 0) (outside : Outside) → HasAnswered reading IsAnswer outside outside 6
run_nothing reading IsAnswer outside =
    record {
      bytes = [];
      taken = nothing_given outside.left;
      few = omega arith;
      reads = omega arith;
      unread = λ _. (refl, refl, refl);
      whole = λ reads answered few. absurd (answered.1 refl);
      ends = inr (inr (inr (record { status_is = refl; silent = record { held = refl; faults = refl; writes = refl } })));
      source_kept = λ _. refl;
      sink_kept = λ _. refl;
      headline = λ (zero : 6 ≡ 0). absurd (omega arith);
    }
