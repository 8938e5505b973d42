-- The reply to a text of reads: a line for each step with the number of its line and its answer, and `end`.
use Rattle.std.specs.Prelude.{ℕ, List, [], ◌∷◌, ◌++◌, map, codes, Result}
use Rattle.std.specs.Fmt.{decimal}
use Rattle.script_words.specs.Reads.{result_map}
use Rattle.reads_command.specs.Lines.{LineStep, reads_steps_of}
use Rattle.read_path.specs.Path.{PathState, fresh_path}
use Rattle.read_path.specs.PathLog.{PathEntry, path_answer_to, path_after_step, path_log_of}
use Rattle.reads_command.specs.Texts.{reads_answer_text}
use Rattle.read_path.specs.declared.steps.PathAnswer.{PathAnswer}

-- `LINE ANSWER`
abbrev pub made_line : ℕ → PathAnswer → List ℕ
made_line line answer = decimal line ++ 32 ∷ reads_answer_text answer ++ 10 ∷ []

-- the lines of steps that are made on a path
abbrev pub made_lines : PathState → List LineStep → List ℕ
made_lines path [] = []
made_lines path (made ∷ more) = made_line made.line (path_answer_to path made.step) ++ made_lines (path_after_step path made.step) more

abbrev pub reads_end_line : List ℕ
reads_end_line = codes "end" ++ 10 ∷ []

-- the reply to a text's steps
abbrev pub reads_report_of : List LineStep → List ℕ
reads_report_of steps = made_lines fresh_path steps ++ reads_end_line

-- the reply to a text, or the number of its first bad line
abbrev pub reply_to : List ℕ → Result (List ℕ) ℕ
reply_to bytes = result_map reads_report_of (reads_steps_of bytes)

-- the log of a text's steps
abbrev pub log_of_lines : List LineStep → List PathEntry
log_of_lines steps = path_log_of (map (λ made. made.step) steps)
