use Rattle.std.proofs.Common.{map, ap}
use Rattle.std.proofs.lemmas.List.{length-map}
use Rattle.script_words.specs.Before.{with_given}
use Rattle.script_words.specs.Reads.{result_map}
use Rattle.script_words.specs.StepLines.{step_line}
use Rattle.script_text.specs.ParseClauses.{Adds}
use Rattle.script_text.proofs.FewWords.{of_none, of_one, of_two, of_three, of_four, of_five}
use Rattle.script_text.proofs.LongLines.{step_line_long}
use Rattle.script_text.proofs.step_lines.step_line.Goals as goal

pub returns-in-empty : goal.returns-in-empty
returns-in-empty c =
    of_none (λ words. Adds c.args.line c.args.before.now c.lone_line.new.before c.lone_line.result (step_line c.args.before.now c.args.word.now words)) c.args.words.now c.in-empty.len_below c.lone_line.ensures

pub returns-in-len1 : goal.returns-in-len1
returns-in-len1 c =
    of_one (λ words. Adds c.args.line c.args.before.now c.line_of_one.new.before c.line_of_one.result (step_line c.args.before.now c.args.word.now words)) c.args.words.now c.in-len1.len_at_least c.in-len1.len_below c.line_of_one.ensures

pub returns-in-len2 : goal.returns-in-len2
returns-in-len2 c =
    of_two (λ words. Adds c.args.line c.args.before.now c.line_of_two.new.before c.line_of_two.result (step_line c.args.before.now c.args.word.now words)) c.args.words.now c.in-len2.len_at_least c.in-len2.len_below c.line_of_two.ensures

pub returns-in-len3 : goal.returns-in-len3
returns-in-len3 c =
    of_three (λ words. Adds c.args.line c.args.before.now c.line_of_three.new.before c.line_of_three.result (step_line c.args.before.now c.args.word.now words)) c.args.words.now c.in-len3.len_at_least c.in-len3.len_below c.line_of_three.ensures

pub returns-in-len4 : goal.returns-in-len4
returns-in-len4 c =
    of_four (λ words. Adds c.args.line c.args.before.now c.line_of_four.new.before c.line_of_four.result (step_line c.args.before.now c.args.word.now words)) c.args.words.now c.in-len4.len_at_least c.in-len4.len_below c.line_of_four.ensures

pub returns-in-len5 : goal.returns-in-len5
returns-in-len5 c =
    of_five (λ words. Adds c.args.line c.args.before.now c.line_of_five.new.before c.line_of_five.result (step_line c.args.before.now c.args.word.now words)) c.args.words.now c.in-len5.len_at_least c.in-len5.len_below c.line_of_five.ensures

pub returns-in_default : goal.returns-in_default
returns-in_default c =
    rw c.unknown_line.ensures (ap (result_map (with_given c.args.line c.args.before.now)) (step_line_long c.args.before.now c.args.word.now (map (λ word. word.now) c.args.words.now) (rw (length-map c.args.words.now (λ word. word.now)) c.in_default.len_at_least)))
