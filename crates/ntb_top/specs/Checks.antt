-- What `check` answers.
use Rattle.std.specs.Prelude.{◌≡◌, ℕ, ◌-◌, Result, Ok, Err, Option, Some, None, List, [], ◌∷◌, ◌++◌, codes, length, map, sum}
use Rattle.std.specs.Fmt.{decimal}
use Rattle.command_reply.specs.Output.{Output, reply_done, refused_at}
use Rattle.pair_model.specs.TrafficPlans.{frames_in}
use Rattle.report_text.specs.Report.{line_of}
use Rattle.report_text.specs.Texts.{numbers_text}
use Rattle.script_text.specs.Script.{declared_by}
use Rattle.script_words.specs.Before.{Before}
use Rattle.script_words.specs.Causes.{cause_text}
use Rattle.script_words.specs.declared.fault.LineFault.{LineFault}
use Rattle.pair_settings.specs.declared.settings.Range.{Range}
use Rattle.script_words.specs.declared.fault.ScriptFault.{ScriptFault}
use Rattle.step_kinds.specs.declared.plan.Plan.{Plan}

-- a count after a word
abbrev pub count_text : List ℕ → ℕ → List ℕ
count_text word n = word ++ numbers_text (n ∷ [])

-- the frames of a plan's traffic, and its losses of links
abbrev pub check_frames_of : Plan → ℕ
check_frames_of plan = sum (map frames_in plan.traffic)

abbrev pub breaks_of : Plan → ℕ
breaks_of plan = length plan.traffic - check_frames_of plan

-- how much a plan with this many hosts has, as one line
abbrev pub plan_counts_text : Plan → ℕ → List ℕ
plan_counts_text plan hosts =
    line_of
    (count_text (codes "ok pairs") (length plan.pairs) ++ count_text (codes " devices") (length plan.devs) ++ count_text (codes " switches") (length plan.switches)
    ++ count_text (codes " steps") (length plan.steps) ++ count_text (codes " frames") (check_frames_of plan) ++ count_text (codes " breaks") (breaks_of plan)
    ++ count_text (codes " hosts") hosts)

-- how much a script declares, as one line
abbrev pub check_counts_text : Before → List ℕ
check_counts_text declared = plan_counts_text declared.plan (length declared.hosts)

-- the least and the largest number that the word may spell, if it has a range
abbrev pub range_text : Option Range → List ℕ
range_text None = []
range_text (Some range) = numbers_text (range.least ∷ range.most ∷ [])

-- where a line's fault was found, and what it is
abbrev pub check_place_text : LineFault → List ℕ
check_place_text fault = codes "word " ++ decimal fault.word ++ 32 ∷ cause_text fault.cause ++ range_text fault.range

-- how much a script declares, or its fault with its place
abbrev pub checked : Result Before ScriptFault → Output
checked (Ok declared) = reply_done (check_counts_text declared)
checked (Err fault) = refused_at fault.line (check_place_text fault.fault)

-- the answer of `check` to the bytes of a script
pub record IsCheckOf (bytes : List ℕ) (output : Output) : Type 0 where
  pub answer : output ≡ checked (declared_by bytes)
