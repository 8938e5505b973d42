-- What a run comes to where nothing outside fails.
use Rattle.std.specs.Prelude.{◌≡◌, ◌⊎◌, ℕ, ◌≤◌, true, Some, Ok, List, length}
use Rattle.command_reply.specs.Statuses.{number_of}
use Rattle.command_reply.specs.declared.status.Status.TheVariants.{Done}
use Rattle.io_edges.specs.Causes.{Rose}
use Rattle.io_edges.specs.Whole.{HoldsAll}
use Rattle.replay_command.specs.Replays.{load_text, replay_text}
use Rattle.script_text.specs.Script.{script_of}
use Rattle.step_kinds.specs.Limits.{most_script_bytes}
use Rattle.step_kinds.specs.declared.plan.Plan.{Plan}
use Rattle.ntb_top.specs.Answers.{IsAnswerTo, IsReplyOf}
use Rattle.ntb_top.specs.Commands.{command_of, command_reads}
use Rattle.ntb_top.specs.Runs.{EndsWanting, EndsWhole, HasAnswered, HasRun, Outside}
use Rattle.ntb_top.specs.declared.command.Command.{Command}
use Rattle.ntb_top.specs.declared.command.Command.TheVariants.{Plain}
use Rattle.ntb_top.specs.declared.command.PlainCommand.TheVariants.{Load, Replay}

-- The source tells its bytes, which are few enough for a script, and no count of faults rose.
pub record IsHonest (before after : Outside) (content : List ℕ) : Type 0 where
  pub told : before.left ≡ Some content
  pub few : length content ≤ most_script_bytes
  pub read : Rose before.read_faults after.read_faults → ⊥
  pub written : Rose before.write_faults after.write_faults → ⊥

-- a command that reads then writes its reply to just these bytes whole, or is out of memory and writes nothing
abbrev pub RunsComplete : Type 0
RunsComplete =
    (command : Command) (before after : Outside) (status : ℕ) (content : List ℕ) → command_reads command ≡ true → IsHonest before after content →
    HasAnswered true (IsAnswerTo (Some command)) before after status → EndsWhole (IsReplyOf command content) before after status ⊎ EndsWanting before after status

-- so `replay` of a script without a fault ends with status 0 and its report, or with 6 and nothing
abbrev pub ReplaysComplete : Type 0
ReplaysComplete =
    (words : List (List ℕ)) (before after : Outside) (status : ℕ) (content : List ℕ) (plan : Plan) → command_of words ≡ Some (Plain Replay) → IsHonest before after content → script_of content ≡ Ok plan →
    HasRun words before after status → ((status ≡ number_of Done) × HoldsAll before.held after.held (replay_text plan)) ⊎ EndsWanting before after status

-- `load` over a sink that doesn't fail ends with status 0 and its summary, or with 6 and nothing
abbrev pub LoadsComplete : Type 0
LoadsComplete =
    (words : List (List ℕ)) (before after : Outside) (status seed frames : ℕ) → command_of words ≡ Some (Plain (Load seed frames)) → (Rose before.write_faults after.write_faults → ⊥) →
    HasRun words before after status → ((status ≡ number_of Done) × HoldsAll before.held after.held (load_text seed frames)) ⊎ EndsWanting before after status
