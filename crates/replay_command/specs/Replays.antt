-- What is written of a plan whose steps are replayed: the report, and the summary of a generated load. Both are read
-- off the log, in which memories show what was stored.
use Rattle.std.specs.Prelude.{ℕ, ◌+◌, ◌-◌, ◌^◌, Bool, true, false, List, [], ◌∷◌, ◌++◌, count_by, codes, if◌then◌else◌, length, min}
use Rattle.std.specs.List.{flat_map}
use Rattle.step_kinds.specs.AnsweredSteps.{AnsweredStep}
use Rattle.step_kinds.specs.declared.names.LaneName.{LaneName}
use Rattle.step_kinds.specs.declared.names.Side.TheVariants.{A}
use Rattle.step_kinds.specs.declared.plan.Line.{Line}
use Rattle.step_kinds.specs.declared.plan.LineAnswer.{LineAnswer}
use Rattle.step_kinds.specs.declared.plan.Plan.{Plan}
use Rattle.step_kinds.specs.declared.steps.Answer.{Answer}
use Rattle.step_kinds.specs.declared.steps.Answer.TheVariants.{Blocked}
use Rattle.ledger_model.specs.Log.{Answered, accepted, delivered}
use Rattle.ledger_model.specs.PlanLog.{device_counts, lane_counts, log_of_plan}
use Rattle.report_text.specs.Report.{answer_line, line_of, report_of}
use Rattle.report_text.specs.Texts.{numbers_text}
use Rattle.traffic_plan.specs.Load.{load_of}

-- each step's line with its answer
abbrev pub line_answers : List Line → List Answered → List LineAnswer
line_answers [] log = []
line_answers (line ∷ lines) [] = []
line_answers (line ∷ lines) (made ∷ log) = record { line = line.line; answer = made.answer } ∷ line_answers lines log

-- the lines of all answers
abbrev pub answers_text : List Line → List Answered → List ℕ
answers_text lines log = flat_map answer_line (line_answers lines log)

-- The report of a plan: its answers, what its lanes accepted and delivered, what its devices counted, and the end.
abbrev pub replay_text : Plan → List ℕ
replay_text plan =
    let log = log_of_plan plan in
    report_of plan (line_answers plan.steps log) (lane_counts plan log) (device_counts plan log)

-- The summary of a generated load, whose one lane is from side A on queue 0 in the session in which its pair starts

abbrev pub load_lane : LaneName
load_lane = record { pair = 0; from = A; queue = 0 }

abbrev pub is_blocked : Answer → Bool
is_blocked Blocked = true
is_blocked answer = false

-- its line, with the frames that were accepted and delivered and the landings that were blocked
abbrev pub summary_text : ℕ → ℕ → ℕ → ℕ → ℕ → List ℕ
summary_text seed frames taken given blocked =
    line_of
    (codes "load" ++ numbers_text (seed ∷ frames ∷ []) ++ codes " accepted" ++ numbers_text (taken ∷ []) ++ codes " delivered"
    ++ numbers_text (given ∷ []) ++ codes " blocked" ++ numbers_text (blocked ∷ []))

abbrev pub load_text : ℕ → ℕ → List ℕ
load_text seed frames =
    let plan = load_of seed frames in
    let log = log_of_plan plan in
    summary_text seed frames (length (accepted plan log load_lane 1)) (length (delivered plan log load_lane 1)) (count_by (λ made. is_blocked made.answer) log)

-- What a load keeps of its answers: one answer more, counted where it is `blocked`, up to 2^64 - 1
abbrev pub with_blocked : ℕ → AnsweredStep → ℕ
with_blocked count answered = if is_blocked answered.made.answer then min (count + 1) (2 ^ 64 - 1) else count
