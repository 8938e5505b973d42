use Rattle.std.proofs.Common.{◌∙◌}
use Rattle.std.proofs.lemmas.Bool.{cond-true, cond-false}
use Rattle.script_text.proofs.AddedLines.{adds_by}
use Rattle.script_text.proofs.FewWords.{compared}
use Rattle.script_text.proofs.step_lines.line_of_four.Goals as goal

pub returns-then-eq : goal.returns-then-eq
returns-then-eq c =
    adds_by c.args.line c.args.before.now c.receive_line.new.before c.receive_line.result _ _
    (cond-true _ _ _ (compared c.args.word.now _ _ _ _ c.eq.ensures c.as_slice.ensures c.if-eq.true))
    c.receive_line.ensures

pub returns-then-eq-2 : goal.returns-then-eq-2
returns-then-eq-2 c =
    adds_by c.args.line c.args.before.now c.spad_line.new.before c.spad_line.result _ _
    (cond-false _ _ _ (compared c.args.word.now _ _ _ _ c.eq.ensures c.as_slice.ensures c.if-eq.false)
    ∙ cond-true _ _ _ (compared c.args.word.now _ _ _ _ c.eq-else-eq.ensures c.as_slice-else-eq.ensures c.if-eq-2.true))
    c.spad_line.ensures

pub returns-then-eq-3 : goal.returns-then-eq-3
returns-then-eq-3 c =
    adds_by c.args.line c.args.before.now c.show_memory_line.new.before c.show_memory_line.result _ _
    (cond-false _ _ _ (compared c.args.word.now _ _ _ _ c.eq.ensures c.as_slice.ensures c.if-eq.false)
    ∙ cond-false _ _ _ (compared c.args.word.now _ _ _ _ c.eq-else-eq.ensures c.as_slice-else-eq.ensures c.if-eq-2.false)
    ∙ cond-true _ _ _ (compared c.args.word.now _ _ _ _ c.eq-else-eq-2.ensures c.as_slice-else-eq-2.ensures c.if-eq-3.true))
    c.show_memory_line.ensures

pub returns-then-eq-4 : goal.returns-then-eq-4
returns-then-eq-4 c =
    adds_by c.args.line c.args.before.now c.ethernet_line.new.before c.ethernet_line.result _ _
    (cond-false _ _ _ (compared c.args.word.now _ _ _ _ c.eq.ensures c.as_slice.ensures c.if-eq.false)
    ∙ cond-false _ _ _ (compared c.args.word.now _ _ _ _ c.eq-else-eq.ensures c.as_slice-else-eq.ensures c.if-eq-2.false)
    ∙ cond-false _ _ _ (compared c.args.word.now _ _ _ _ c.eq-else-eq-2.ensures c.as_slice-else-eq-2.ensures c.if-eq-3.false)
    ∙ cond-true _ _ _ (compared c.args.word.now _ _ _ _ c.eq-else-eq-3.ensures c.as_slice-else-eq-3.ensures c.if-eq-4.true))
    c.ethernet_line.ensures

pub returns-then-eq-5 : goal.returns-then-eq-5
returns-then-eq-5 c =
    adds_by c.args.line c.args.before.now c.ethernet_line-then-eq-5.new.before c.ethernet_line-then-eq-5.result _ _
    (cond-false _ _ _ (compared c.args.word.now _ _ _ _ c.eq.ensures c.as_slice.ensures c.if-eq.false)
    ∙ cond-false _ _ _ (compared c.args.word.now _ _ _ _ c.eq-else-eq.ensures c.as_slice-else-eq.ensures c.if-eq-2.false)
    ∙ cond-false _ _ _ (compared c.args.word.now _ _ _ _ c.eq-else-eq-2.ensures c.as_slice-else-eq-2.ensures c.if-eq-3.false)
    ∙ cond-false _ _ _ (compared c.args.word.now _ _ _ _ c.eq-else-eq-3.ensures c.as_slice-else-eq-3.ensures c.if-eq-4.false)
    ∙ cond-true _ _ _ (compared c.args.word.now _ _ _ _ c.eq-else-eq-4.ensures c.as_slice-else-eq-4.ensures c.if-eq-5.true))
    c.ethernet_line-then-eq-5.ensures
