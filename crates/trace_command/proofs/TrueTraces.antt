-- A trace that is done is true: its lines have the answers of the log of their steps.
use Rattle.std.proofs.Common.{◌≡◌, ◌∙◌, ℕ, List, [], ◌∷◌, Result, Ok, Err, length, map, refl, sym, ap, subst, arith}
use Rattle.command_reply.specs.Output.{Output}
use Rattle.ledger_model.specs.Log.{Answered}
use Rattle.ledger_model.specs.Memory.{memory_of}
use Rattle.ledger_model.specs.PlanLog.{answered_steps, log_of_plan}
use Rattle.cluster_core.proofs.Facade.{length-answers}
use Rattle.script_text.specs.Script.{script_of}
use Rattle.script_words.specs.declared.fault.ScriptFault.{ScriptFault}
use Rattle.step_kinds.specs.declared.plan.Line.{Line}
use Rattle.step_kinds.specs.declared.plan.Plan.{Plan}
use Rattle.step_kinds.specs.declared.steps.Answer.{Answer}
use Rattle.step_kinds.specs.declared.steps.Step.{Step}
use Rattle.ledger_model.specs.NetworkLog.{switch_log}
use Rattle.trace_command.specs.Laws.{HaveTheirAnswers, trace_steps_of}
use Rattle.trace_command.proofs.LinesAreTrue.{traces_are_true}
use Rattle.trace_command.specs.Answers.{HasTrueTrace, IsTraceOf, traced}

answers_in : List Answered → List Answer
answers_in log = map (λ made. made.answer) log

-- the lines have the steps of the plan, and the answers of its log
same_steps : (lines : List Line) (log : List Answered) → length log ≡ length lines → trace_steps_of (answered_steps lines log) ≡ map (λ line. line.step) lines
same_steps [] log same = refl
same_steps (line ∷ lines) [] same = absurd (omega arith)
same_steps (line ∷ lines) (made ∷ log) same = ap (λ (steps : List Step). line.step ∷ steps) (same_steps lines log (omega arith))

same_answers : (lines : List Line) (log : List Answered) → length log ≡ length lines → map (λ line. line.made.answer) (answered_steps lines log) ≡ answers_in log
unfolding answers_in
same_answers [] [] same = refl
same_answers [] (made ∷ log) same = absurd (omega arith)
same_answers (line ∷ lines) [] same = absurd (omega arith)
same_answers (line ∷ lines) (made ∷ log) same = ap (λ (answers : List Answer). made.answer ∷ answers) (same_answers lines log (omega arith))

have_answers : (plan : Plan) → HaveTheirAnswers plan (memory_of plan) (answered_steps plan.steps (log_of_plan plan))
unfolding answers_in
have_answers plan =
    let same : length (log_of_plan plan) ≡ length plan.steps = length-answers plan [] plan.steps (log_of_plan plan) refl in
    same_answers plan.steps (log_of_plan plan) same
    ∙ ap (λ (steps : List Step). answers_in (switch_log plan (memory_of plan) steps)) (sym (same_steps plan.steps (log_of_plan plan) same))

true_trace : (read : Result Plan ScriptFault) → (traced read).status ≡ 0 → (plan : Plan) × (read ≡ Ok plan) × HasTrueTrace plan
true_trace (Ok plan) zero =
    (plan, refl, λ pair side among. traces_are_true plan (memory_of plan) (answered_steps plan.steps (log_of_plan plan)) pair side (have_answers plan) among)
true_trace (Err fault) zero = absurd (omega arith)

-- What `trace` answers to a script is true: if it is done, the script declares a plan whose trace is true.
pub trace_is_true : (bytes : List ℕ) (output : Output) → output ≡ traced (script_of bytes) → IsTraceOf bytes output
trace_is_true bytes output same =
    record {
      answer = same;
      headline = λ zero. true_trace (script_of bytes) (subst (λ (output : Output). output.status ≡ 0) same zero);
    }
