-- The lines of a trace depend on the pairs, devices and switches of a plan, and not on its list of steps.
use Rattle.std.proofs.Common.{◌≡◌, ◌∙◌, ℕ, List, [], ◌∷◌, ◌++◌, refl, ap}
use Rattle.std.specs.Prelude.{codes}
use Rattle.std.specs.Fmt.{decimal}
use Rattle.step_kinds.specs.Subject.{subject_of}
use Rattle.step_kinds.specs.declared.plan.Line.{Line}
use Rattle.step_kinds.specs.declared.plan.LineAnswer.{LineAnswer}
use Rattle.step_kinds.specs.declared.plan.Plan.{Plan}
use Rattle.step_kinds.specs.declared.steps.Step.{Step}
use Rattle.step_kinds.specs.declared.steps.Step.TheVariants.{Xbegin}
use Rattle.report_text.specs.Report.{line_of}
use Rattle.step_kinds.specs.AnsweredSteps.{AnsweredStep}
use Rattle.trace_command.specs.Lines.{change_members, made_member, trace_step_line, step_lines}
use Rattle.trace_command.specs.Steps.{answer_object, step_members, step_name}
use Rattle.trace_command.specs.Words.{named_object}
use Rattle.trace_command.specs.Writes.{PairWrites, change_in, pair_in, writes_after}

members_same : (plan : Plan) (steps : List Line) (step : Step) → step_members plan step ≡ step_members (record plan { steps = steps }) step
members_same plan steps (Xbegin pair side queue dev dst kind payload) = refl
members_same plan steps step = refl

line_same : (plan : Plan) (steps : List Line) (writes : List PairWrites) (step : Step) (made : LineAnswer) →
    trace_step_line plan writes step made ≡ trace_step_line (record plan { steps = steps }) writes step made
line_same plan steps writes step made =
    ap
    (λ (members : List ℕ).
    line_of
    (codes "{\"line\":" ++ decimal made.line ++ codes ",\"step\":" ++ named_object (step_name step) members ++ codes ",\"answer\":" ++ answer_object made.answer
    ++ made_member made.answer ++ change_members (pair_in writes (subject_of step)) (change_in plan.pairs step made.answer) ++ codes "}"))
    (members_same plan steps step)

-- The lines of a trace are the same for a plan with any other list of steps.
pub lines_same : (plan : Plan) (steps : List Line) (writes : List PairWrites) (lines : List AnsweredStep) →
    step_lines plan writes lines ≡ step_lines (record plan { steps = steps }) writes lines
lines_same plan steps writes [] = refl
lines_same plan steps writes (answered ∷ rest) =
    let after : List PairWrites = writes_after plan.pairs writes answered.step answered.made.answer in
    ap (λ (line : List ℕ). line ++ step_lines plan after rest) (line_same plan steps writes answered.step answered.made)
    ∙ ap (λ (lines : List ℕ). trace_step_line (record plan { steps = steps }) writes answered.step answered.made ++ lines) (lines_same plan steps after rest)
