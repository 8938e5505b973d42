-- The lines of a text, one after another.
use Rattle.std.proofs.Common.{◌≡◌, ℕ, ◌+◌, ◌==◌, ◌≤◌, ◌<◌, Option, Some, None, IfSome, Result, Ok, Err, List, [], ◌∷◌, ◌++◌, length, map, refl, sym, ap, ◌∙◌, append_assoc, Bor, arith}
use Rattle.std.specs.List.{slice_split}
use Rattle.std.specs.Option.{option_map_or}
use Rattle.script_words.specs.Words.{lines_of, without_return}
use Rattle.script_words.specs.Reads.{result_map}
use Rattle.script_words.specs.declared.fault.Cause.{Cause}
use Rattle.reads_command.specs.Lines.{LineStep, before_more, go_on, reads_line_gives, reads_lines}
use Rattle.read_path.specs.PathLog.{path_answer_to, path_after_step}
use Rattle.reads_command.specs.Report.{made_line, made_lines}
use Rattle.read_path.specs.declared.steps.PathStep.{PathStep}
use Rattle.reads_command.specs.Replies.{ReplyState, reads_with_line}

-- the lines of a text's answers, if the reply so far has some of them and these lines are left
abbrev pub lines_left : ReplyState → ℕ → List (List ℕ) → Result (List ℕ) ℕ
lines_left reply n lines = result_map (λ steps. reply.text ++ made_lines reply.path steps) (reads_lines n reply.steps lines)

-- a line that gives a step or none
line_added : (reply : ReplyState) (n : ℕ) (line : List ℕ) (lines : List (List ℕ)) (given : Option PathStep) → reads_line_gives n reply.steps line ≡ Ok given
    → lines_left reply n (line ∷ lines) ≡ lines_left (reads_with_line n reply given) (n + 1) lines
line_added reply n line lines given gives =
    ap (λ (r : Result (Option PathStep) Cause). result_map (λ steps. reply.text ++ made_lines reply.path steps) (go_on n r (reads_lines (n + 1) reply.steps lines) (reads_lines (n + 1) (reply.steps + 1) lines))) gives
    ∙ by_given given (reads_lines (n + 1) (reply.steps + 1) lines) refl
  where
    with_step : (step : PathStep) (more : Result (List LineStep) ℕ)
        → result_map (λ steps. reply.text ++ made_lines reply.path steps) (before_more n step more)
        ≡ result_map (λ steps. (reply.text ++ made_line n (path_answer_to reply.path step)) ++ made_lines (path_after_step reply.path step) steps) more
    with_step step (Ok more) = ap (λ (l : List ℕ). Ok l) (sym (append_assoc reply.text (made_line n (path_answer_to reply.path step)) (made_lines (path_after_step reply.path step) more)))
    with_step step (Err bad) = refl

    by_given : (given : Option PathStep) (more : Result (List LineStep) ℕ) → more ≡ reads_lines (n + 1) (reply.steps + 1) lines
        → result_map (λ steps. reply.text ++ made_lines reply.path steps) (go_on n (Ok given) (reads_lines (n + 1) reply.steps lines) (reads_lines (n + 1) (reply.steps + 1) lines))
        ≡ lines_left (reads_with_line n reply given) (n + 1) lines
    by_given None more is = refl
    by_given (Some step) more is = with_step step (reads_lines (n + 1) (reply.steps + 1) lines)

-- The text that is left, line by line

abbrev pub text_left : Option (Bor (List ℕ)) → List (List ℕ)
text_left rest = option_map_or (λ text. lines_of text.now) rest []

-- a text is its first line and what is left
pub first_line : (text line full : List ℕ) (rest : Option (Bor (List ℕ))) → slice_split (λ b. b == 10) text ≡ full ∷ option_map_or (λ rest. slice_split (λ b. b == 10) rest.now) rest [] → line ≡ without_return full
    → lines_of text ≡ line ∷ text_left rest
first_line text line full rest split cut = ap (map without_return) split ∙ (by_rest rest ∙ ap (λ (l : List ℕ). l ∷ text_left rest) (sym cut)) where
  by_rest : (rest : Option (Bor (List ℕ))) → map without_return (full ∷ option_map_or (λ rest. slice_split (λ b. b == 10) rest.now) rest []) ≡ without_return full ∷ text_left rest
  by_rest None = refl
  by_rest (Some text) = refl

-- a turn over one line of what is left
pub line_turn : (reply new : ReplyState) (n : ℕ) (text line full : List ℕ) (rest : Option (Bor (List ℕ))) (given : Option PathStep)
    → slice_split (λ b. b == 10) text ≡ full ∷ option_map_or (λ rest. slice_split (λ b. b == 10) rest.now) rest [] → line ≡ without_return full
    → reads_line_gives n reply.steps line ≡ Ok given → new ≡ reads_with_line n reply given
    → lines_left reply n (lines_of text) ≡ lines_left new (n + 1) (text_left rest)
line_turn reply new n text line full rest given split cut gives is =
    ap (lines_left reply n) (first_line text line full rest split cut)
    ∙ (line_added reply n line (text_left rest) given gives ∙ ap (λ (r : ReplyState). lines_left r (n + 1) (text_left rest)) (sym is))

-- one line more, with what is left of it, is no more than the bytes
pub count_turn : (rest : Option (Bor (List ℕ))) (text : List ℕ) (n most : ℕ) → IfSome rest (λ more. length more.now < length text) → n + (length text + 1) ≤ most → n + 1 + option_map_or (λ text. length text.now + 1) rest 0 ≤ most
count_turn None text n most shorter few = omega (arith, few)
count_turn (Some more) text n most shorter few = omega (arith, few, shorter)
