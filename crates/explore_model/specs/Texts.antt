-- The text of an exploration. Each line ends with a line feed.
use Rattle.std.specs.Prelude.{ℕ, ◌+◌, ◌==◌, Bool, List, [], ◌∷◌, ◌++◌, codes, count_by, if◌then◌else◌, length, nat_eq, slice_index_or, take}
use Rattle.std.specs.Cmp.Lexicographic.{pointwise}
use Rattle.std.specs.Fmt.{decimal}
use Rattle.std.specs.List.{flat_map, list_all, range_with_len}
use Rattle.step_kinds.specs.declared.plan.Line.{Line}
use Rattle.step_kinds.specs.declared.plan.Plan.{Plan}
use Rattle.step_kinds.specs.declared.steps.Step.TheVariants.{Train}
use Rattle.report_text.specs.Report.{end_line, line_of, pair_name, side_text}
use Rattle.report_text.specs.Texts.{numbers_text}
use Rattle.explore_model.specs.declared.outcome.Landing.{Landing}
use Rattle.explore_model.specs.declared.outcome.Outcome.{Outcome}

-- the line of the script from which its step of a number comes, from 0
abbrev pub line_at : List Line → ℕ → ℕ
line_at steps k = (slice_index_or steps k (record { line = 0; step = Train 0 })).line

-- which of its line's steps that is, from 1
abbrev pub place_in_line : List Line → ℕ → ℕ
place_in_line steps k = count_by (λ made. made.line == line_at steps k) (take k steps) + 1

-- the answer of an outcome to a step
abbrev pub outcome_answer_at : Outcome → ℕ → List ℕ
outcome_answer_at outcome k = slice_index_or outcome.answers k []

-- the answer of the first outcome to it
abbrev pub first_answer : List Outcome → ℕ → List ℕ
first_answer [] k = []
first_answer (outcome ∷ outcomes) k = outcome_answer_at outcome k

-- whether all outcomes have the same answer to it
abbrev pub agree_on : List Outcome → ℕ → Bool
agree_on outcomes k = list_all (λ outcome. pointwise nat_eq (outcome_answer_at outcome k) (first_answer outcomes k)) outcomes

-- the first line
abbrev pub head_line : List Outcome → ℕ → List ℕ
head_line outcomes states = line_of (codes "outcomes" ++ numbers_text (length outcomes ∷ []) ++ codes " states" ++ numbers_text (states ∷ []))

-- the step of the script before which a further landing is made: its line, and which of the line's steps it is
abbrev pub place_text : Plan → ℕ → List ℕ
place_text plan at = codes "by" ++ numbers_text (line_at plan.steps at ∷ place_in_line plan.steps at ∷ [])

-- a landing as a script writes it
abbrev pub land_text : Plan → Landing → List ℕ
land_text plan landing = codes " land " ++ pair_name plan.pairs landing.pair ++ 32 ∷ side_text landing.side ++ numbers_text (landing.place ∷ [])

-- a further landing
abbrev pub landing_line : Plan → Landing → List ℕ
landing_line plan landing = line_of (place_text plan landing.at ++ land_text plan landing)

-- an answer after the number of its line
abbrev pub text_line : Plan → ℕ → List ℕ → List ℕ
text_line plan k text = line_of (decimal (line_at plan.steps k) ++ 32 ∷ text)

-- the answer of an outcome to a step on which outcomes differ
abbrev pub differing_line : Plan → List Outcome → Outcome → ℕ → List ℕ
differing_line plan outcomes outcome k = if agree_on outcomes k then [] else text_line plan k (outcome_answer_at outcome k)

-- the answer of all outcomes to a step on which they agree
abbrev pub common_line : Plan → List Outcome → ℕ → List ℕ
common_line plan outcomes k = if agree_on outcomes k then codes "always " ++ text_line plan k (first_answer outcomes k) else []

-- the numbers of the script's steps
abbrev pub step_numbers : Plan → List ℕ
step_numbers plan = range_with_len 0 (length plan.steps)

-- stands where there is no outcome
abbrev pub no_outcome : Outcome
no_outcome = record { answers = []; landings = [] }

-- an outcome: its number from 1, its further landings, and its answers to the steps on which outcomes differ
abbrev pub outcome_lines : Plan → List Outcome → ℕ → List ℕ
outcome_lines plan outcomes k =
    let outcome = slice_index_or outcomes k no_outcome in
    line_of (codes "outcome" ++ numbers_text ((k + 1) ∷ [])) ++ flat_map (landing_line plan) outcome.landings
    ++ flat_map (differing_line plan outcomes outcome) (step_numbers plan)

-- the text of the outcomes of a plan, in whose exploration this many states were reached
abbrev pub explored_text : Plan → List Outcome → ℕ → List ℕ
explored_text plan outcomes states =
    head_line outcomes states ++ flat_map (outcome_lines plan outcomes) (range_with_len 0 (length outcomes))
    ++ flat_map (common_line plan outcomes) (step_numbers plan) ++ end_line
