-- The lines of a trace, kept one after another, are those of its definition.
use Rattle.std.proofs.Common.{◌≡◌, ◌∙◌, ℕ, List, [], ◌∷◌, ◌++◌, sym, append-nil, append_assoc}
use Rattle.std.specs.List.{fold}
use Rattle.step_kinds.specs.AnsweredSteps.{AnsweredStep}
use Rattle.trace_command.specs.Lines.{trace_step_line, step_lines}
use Rattle.trace_command.specs.Trace.{Traced, with_line}

-- Lines put to a trace's text answer by answer are the text before and then the lines that the definition gives.
pub lines_kept : (answers : List AnsweredStep) (traced : Traced) → (fold with_line traced answers).text ≡ traced.text ++ step_lines traced.plan traced.writes answers
lines_kept [] traced = sym (append-nil traced.text)
lines_kept (answered ∷ answers) traced =
    let own : List ℕ = trace_step_line traced.plan traced.writes answered.step answered.made in
    lines_kept answers (with_line traced answered) ∙ append_assoc traced.text own (step_lines traced.plan (with_line traced answered).writes answers)
