use Rattle.std.proofs.Common.{◌+◌, ◌≤◌, Result, Err, [], length, sym, ◌∙◌, ap, subst}
use Rattle.std.proofs.lemmas.Result.{err_from_is_err_and}
use Rattle.std.specs.Option.{option_map_or}
use Rattle.script_words.specs.Before.{Before}
use Rattle.script_words.specs.Words.{lines_of}
use Rattle.script_words.specs.declared.fault.ScriptFault.{ScriptFault}
use Rattle.script_text.specs.ParseClauses.{Parses, after_line}
use Rattle.script_text.specs.Script.{line_gives, read_lines}
use Rattle.script_text.proofs.LinesRead.{then_lines, line_turn, count_turn, error_stays}
use Rattle.script_text.proofs.Whole.{after_held}
use Rattle.script_text.proofs.script.add_lines.Goals as goal

pub loop-rest-preserved : goal.loop-rest-preserved
loop-rest-preserved c =
    let n = c.loop-rest.number in
    let before = c.loop-rest.before in
    let text = c.in-Some.text.now in
    let rest = c.cut.result.1 in
    let turn = line_turn n before text c.cut.result.0.now c.without_return.result.now rest c.cut.ensures.parts c.without_return.ensures in
    let few : n + (length text + 1) ≤ length c.args.bytes.now + 2 =
    rw c.in-Some.is at c.loop-rest.invariant.counted in
    record {
      read = c.loop-rest.invariant.read ∙ (ap (λ o. read_lines n before (option_map_or (λ text. lines_of text.now) o [])) c.in-Some.is
          ∙ (turn ∙ ap (then_lines n (option_map_or (λ text. lines_of text.now) rest [])) c.in_ok-add_line.ensures));
      held = (after_held n before c.without_return.result.now c.loop-rest.invariant.held).holds c.add_line.new.before c.in_ok-add_line.ensures;
      counted = count_turn rest text n (length c.args.bytes.now + 2) c.cut.ensures.shorter few;
    }

pub returns-in_err-add_line : goal.returns-in_err-add_line
returns-in_err-add_line c =
    let n = c.loop-rest.number in
    let before = c.loop-rest.before in
    let rest = c.cut.result.1 in
    let turn = line_turn n before c.in-Some.text.now c.cut.result.0.now c.without_return.result.now rest c.cut.ensures.parts c.without_return.ensures in
    let read = c.loop-rest.invariant.read ∙ (ap (λ o. read_lines n before (option_map_or (λ text. lines_of text.now) o [])) c.in-Some.is ∙ turn) in
    let error = c.in_err-add_line.field-0.0 in
    let P : Result Before ScriptFault → Type 0 = λ read. Parses {X = Before} (Err error) read in
    let p = err_from_is_err_and c.from_residual.result c.from_residual.ensures.1 in
    rw (p.1, p.2)
    (subst P (sym read)
    (error_stays n (option_map_or (λ text. lines_of text.now) rest []) error (after_line n before (line_gives n before c.without_return.result.now)) c.in_err-add_line.ensures))
