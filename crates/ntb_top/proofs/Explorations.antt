-- If `explore` ends with status 0, the text of all outcomes of a plan was written.
use Rattle.std.proofs.Common.{◌≡◌, ℕ, Bool, true, false, Option, Result, Ok, Err, List, length, nat_lt, inl, inr, refl, sym, subst, arith}
use Rattle.std.specs.Prelude.{MatchBool}
use Rattle.step_kinds.specs.Limits.{most_script_bytes}
use Rattle.step_kinds.specs.declared.plan.Plan.{Plan}
use Rattle.command_reply.specs.Output.{Output, too_long}
use Rattle.explore_command.specs.Answers.{ExploresTo, IsExploreOf, has_made}
use Rattle.explore_model.specs.Outcomes.{IsExplored}
use Rattle.explore_model.specs.States.{IsCensus}
use Rattle.explore_model.specs.Texts.{explored_text}
use Rattle.explore_model.specs.declared.outcome.Outcome.{Outcome}
use Rattle.io_edges.specs.Whole.{HoldsAll}
use Rattle.ledger_model.specs.PlanLog.{steps_of}
use Rattle.script_text.specs.Script.{script_of}
use Rattle.script_words.specs.declared.fault.ScriptFault.{ScriptFault}
use Rattle.ntb_top.specs.Answers.{IsAnswerTo}
use Rattle.ntb_top.specs.Laws.{ExplorationsAreTrue}
use Rattle.ntb_top.specs.Runs.{Outside}
use Rattle.ntb_top.specs.declared.command.Command.{Command}

-- with status 0 the input wasn't too long
not_long : (long : Bool) (bytes : List ℕ) (output : Output) → MatchBool long (output ≡ too_long) (IsExploreOf bytes output) → output.status ≡ 0 → IsExploreOf bytes output
not_long true bytes output answer zero = absurd (subst (λ (output : Output). output.status ≡ 0 → ⊥) (sym answer) (λ zero. omega arith) zero)
not_long false bytes output answer zero = answer

-- what was written of these bytes
abbrev Written : List ℕ → Outside → Outside → Type 0
Written bytes before after =
    (plan : Plan) × (found : List Outcome) × (states : ℕ) × (script_of bytes ≡ Ok plan) × HoldsAll before.held after.held (explored_text plan found states)
    × IsExplored plan (steps_of plan) found × IsCensus has_made plan (steps_of plan) states

-- with status 0 it is all outcomes of the plan that they declare
all_written : (bytes : List ℕ) (before after : Outside) (output : Output) (read : Result Plan ScriptFault) → script_of bytes ≡ read → ExploresTo read output → output.status ≡ 0 →
    HoldsAll before.held after.held output.text → Written bytes before after
all_written bytes before after output (Ok plan) is (inl all) zero text =
    (plan, all.found, all.states, is, subst (λ (output : Output). HoldsAll before.held after.held output.text) all.answer text, all.explored, all.census)
all_written bytes before after output (Ok plan) is (inr many) zero text =
    absurd (subst (λ (output : Output). output.status ≡ 0 → ⊥) (sym many.answer) (λ zero. omega arith) zero)
all_written bytes before after output (Err fault) is answer zero text =
    absurd (subst (λ (output : Output). output.status ≡ 0 → ⊥) (sym answer) (λ zero. omega arith) zero)

-- If `explore` ends with status 0, it has written all outcomes of the plan that it read, and the number of states.
pub explorations_true : ExplorationsAreTrue
explorations_true words before after is run =
    let whole = run.headline refl in
    let answers = subst (λ (command : Option Command). IsAnswerTo command run.bytes whole.output) is whole.answers in
    let zero = sym whole.status_is in
    all_written run.bytes before after whole.output (script_of run.bytes) refl
    (not_long (nat_lt most_script_bytes (length run.bytes)) run.bytes whole.output answers zero) zero whole.text
