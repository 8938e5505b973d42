-- A trace, made of what its functions give.
use Rattle.std.proofs.Common.{◌≡◌, ◌∙◌, ℕ, List, ◌++◌, Result, Ok, Err, OnOk, refl, ap}
use Rattle.step_kinds.specs.declared.plan.Counters.{Counters}
use Rattle.step_kinds.specs.declared.plan.Line.{Line}
use Rattle.step_kinds.specs.declared.plan.Plan.{Plan}
use Rattle.step_kinds.specs.AnsweredSteps.{AnsweredStep}
use Rattle.step_kinds.specs.declared.plan.LaneCount.{LaneCount}
use Rattle.cluster_core.specs.Counts.{filled}
use Rattle.ledger_model.specs.PlanLog.{answered_steps, device_counts, lane_counts, log_of_plan}
use Rattle.trace_command.specs.Lines.{trace_count_lines, trace_device_lines, trace_end_line, trace_ending, lane_line, step_lines}
use Rattle.trace_command.specs.Writes.{writes_start}
use Rattle.trace_command.specs.Head.{trace_head}
use Rattle.trace_command.specs.Trace.{trace_text}
use Rattle.cluster_core.proofs.Facade.{lines_of_filled}
use Rattle.trace_command.proofs.SamePlan.{lines_same}

-- the text of the trace is the definition's
pub trace_is : (declared : Plan) (steps : List Line) (lanes : List LaneCount) (devs : List Counters) (lines text : List ℕ) →
    lines ≡ trace_head declared.pairs ++ step_lines declared (writes_start declared.pairs) (answered_steps steps (log_of_plan (record declared { steps = steps }))) →
    lanes ≡ filled (lane_counts (record declared { steps = steps }) (log_of_plan (record declared { steps = steps }))) →
    devs ≡ device_counts (record declared { steps = steps }) (log_of_plan (record declared { steps = steps })) →
    text ≡ lines ++ trace_ending declared lanes devs → text ≡ trace_text (record declared { steps = steps })
trace_is declared steps lanes devs lines text of_lines of_lanes of_devs is =
    let plan : Plan = record declared { steps = steps } in
    let answered : List AnsweredStep = answered_steps steps (log_of_plan plan) in
    let counts : List LaneCount = lane_counts plan (log_of_plan plan) in
    let own : List ℕ = step_lines plan (writes_start declared.pairs) answered in
    is
    ∙ ap (λ (before : List ℕ). before ++ trace_ending declared lanes devs) (of_lines ∙ ap (λ (made : List ℕ). trace_head declared.pairs ++ made) (lines_same declared steps (writes_start declared.pairs) answered))
    ∙ ap (λ (given : List LaneCount). (trace_head declared.pairs ++ own) ++ trace_ending declared given devs) of_lanes
    ∙ ap (λ (given : List Counters). (trace_head declared.pairs ++ own) ++ trace_ending declared (filled counts) given) of_devs
    ∙ ap (λ (shown : List ℕ). (trace_head declared.pairs ++ own) ++ ((shown ++ trace_device_lines declared.devs (device_counts plan (log_of_plan plan))) ++ trace_end_line)) (lines_of_filled (trace_count_lines declared.pairs) (lane_line declared.pairs) (λ count. refl) counts)

-- A text that ends with counts ends with what they are.
pub ending_same : {T E : Type 0} (declared : Plan) (lanes given : List LaneCount) (devs counted : List Counters) (old new : List ℕ) (result : Result T E) →
    lanes ≡ given → devs ≡ counted → OnOk result (new ≡ old ++ trace_ending declared lanes devs) → OnOk result (new ≡ old ++ trace_ending declared given counted)
ending_same declared lanes given devs counted old new (Err error) same_lanes same_devs is = tt
ending_same declared lanes given devs counted old new (Ok done) same_lanes same_devs is =
    is ∙ ap (λ (shown : List LaneCount). old ++ trace_ending declared shown devs) same_lanes ∙ ap (λ (shown : List Counters). old ++ trace_ending declared given shown) same_devs
