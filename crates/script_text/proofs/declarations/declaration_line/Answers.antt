use Rattle.std.proofs.Common.{Err, sym, ◌∙◌, ap}
use Rattle.std.proofs.lemmas.Bool.{cond-true, cond-false}
use Rattle.script_words.specs.Compact.{given_of}
use Rattle.script_text.proofs.FewWords.{compared, reads_by}
use Rattle.script_text.proofs.declarations.declaration_line.Goals as goal

pub returns-then-eq : goal.returns-then-eq
returns-then-eq c =
    reads_by given_of c.or_fault.result _ _
    (cond-true _ _ _ (compared c.args.word.now _ _ _ _ c.eq.ensures c.as_slice.ensures c.if-eq.true)
    ∙ sym c.host_words.ensures)
    c.or_fault.ensures

pub returns-then-eq-2 : goal.returns-then-eq-2
returns-then-eq-2 c =
    reads_by given_of c.pair_words.result _ _
    (cond-false _ _ _ (compared c.args.word.now _ _ _ _ c.eq.ensures c.as_slice.ensures c.if-eq.false)
    ∙ cond-true _ _ _ (compared c.args.word.now _ _ _ _ c.eq-else-eq.ensures c.as_slice-else-eq.ensures c.if-eq-2.true))
    c.pair_words.ensures

pub returns-then-eq-3 : goal.returns-then-eq-3
returns-then-eq-3 c =
    reads_by given_of c.or_fault-then-eq-3.result _ _
    (cond-false _ _ _ (compared c.args.word.now _ _ _ _ c.eq.ensures c.as_slice.ensures c.if-eq.false)
    ∙ cond-false _ _ _ (compared c.args.word.now _ _ _ _ c.eq-else-eq.ensures c.as_slice-else-eq.ensures c.if-eq-2.false)
    ∙ cond-true _ _ _ (compared c.args.word.now _ _ _ _ c.eq-else-eq-2.ensures c.as_slice-else-eq-2.ensures c.if-eq-3.true)
    ∙ sym c.dev_words.ensures)
    c.or_fault-then-eq-3.ensures

pub returns-then-eq-4 : goal.returns-then-eq-4
returns-then-eq-4 c =
    reads_by given_of c.or_fault-then-eq-4.result _ _
    (cond-false _ _ _ (compared c.args.word.now _ _ _ _ c.eq.ensures c.as_slice.ensures c.if-eq.false)
    ∙ cond-false _ _ _ (compared c.args.word.now _ _ _ _ c.eq-else-eq.ensures c.as_slice-else-eq.ensures c.if-eq-2.false)
    ∙ cond-false _ _ _ (compared c.args.word.now _ _ _ _ c.eq-else-eq-2.ensures c.as_slice-else-eq-2.ensures c.if-eq-3.false)
    ∙ cond-true _ _ _ (compared c.args.word.now _ _ _ _ c.eq-else-eq-3.ensures c.as_slice-else-eq-3.ensures c.if-eq-4.true)
    ∙ sym c.class_words.ensures)
    c.or_fault-then-eq-4.ensures

pub returns-then-eq-5 : goal.returns-then-eq-5
returns-then-eq-5 c =
    reads_by given_of c.switch_words.result _ _
    (cond-false _ _ _ (compared c.args.word.now _ _ _ _ c.eq.ensures c.as_slice.ensures c.if-eq.false)
    ∙ cond-false _ _ _ (compared c.args.word.now _ _ _ _ c.eq-else-eq.ensures c.as_slice-else-eq.ensures c.if-eq-2.false)
    ∙ cond-false _ _ _ (compared c.args.word.now _ _ _ _ c.eq-else-eq-2.ensures c.as_slice-else-eq-2.ensures c.if-eq-3.false)
    ∙ cond-false _ _ _ (compared c.args.word.now _ _ _ _ c.eq-else-eq-3.ensures c.as_slice-else-eq-3.ensures c.if-eq-4.false)
    ∙ cond-true _ _ _ (compared c.args.word.now _ _ _ _ c.eq-else-eq-4.ensures c.as_slice-else-eq-4.ensures c.if-eq-5.true))
    c.switch_words.ensures

pub returns-then-eq-6 : goal.returns-then-eq-6
returns-then-eq-6 c =
    reads_by given_of c.or_fault-then-eq-6.result _ _
    (cond-false _ _ _ (compared c.args.word.now _ _ _ _ c.eq.ensures c.as_slice.ensures c.if-eq.false)
    ∙ cond-false _ _ _ (compared c.args.word.now _ _ _ _ c.eq-else-eq.ensures c.as_slice-else-eq.ensures c.if-eq-2.false)
    ∙ cond-false _ _ _ (compared c.args.word.now _ _ _ _ c.eq-else-eq-2.ensures c.as_slice-else-eq-2.ensures c.if-eq-3.false)
    ∙ cond-false _ _ _ (compared c.args.word.now _ _ _ _ c.eq-else-eq-3.ensures c.as_slice-else-eq-3.ensures c.if-eq-4.false)
    ∙ cond-false _ _ _ (compared c.args.word.now _ _ _ _ c.eq-else-eq-4.ensures c.as_slice-else-eq-4.ensures c.if-eq-5.false)
    ∙ cond-true _ _ _ (compared c.args.word.now _ _ _ _ c.eq-else-eq-5.ensures c.as_slice-else-eq-5.ensures c.if-eq-6.true)
    ∙ sym c.lone_word.ensures)
    c.or_fault-then-eq-6.ensures

pub returns-then-eq-7 : goal.returns-then-eq-7
returns-then-eq-7 c =
    reads_by given_of c.or_fault-then-eq-7.result _ _
    (cond-false _ _ _ (compared c.args.word.now _ _ _ _ c.eq.ensures c.as_slice.ensures c.if-eq.false)
    ∙ cond-false _ _ _ (compared c.args.word.now _ _ _ _ c.eq-else-eq.ensures c.as_slice-else-eq.ensures c.if-eq-2.false)
    ∙ cond-false _ _ _ (compared c.args.word.now _ _ _ _ c.eq-else-eq-2.ensures c.as_slice-else-eq-2.ensures c.if-eq-3.false)
    ∙ cond-false _ _ _ (compared c.args.word.now _ _ _ _ c.eq-else-eq-3.ensures c.as_slice-else-eq-3.ensures c.if-eq-4.false)
    ∙ cond-false _ _ _ (compared c.args.word.now _ _ _ _ c.eq-else-eq-4.ensures c.as_slice-else-eq-4.ensures c.if-eq-5.false)
    ∙ cond-false _ _ _ (compared c.args.word.now _ _ _ _ c.eq-else-eq-5.ensures c.as_slice-else-eq-5.ensures c.if-eq-6.false)
    ∙ cond-true _ _ _ (compared c.args.word.now _ _ _ _ c.eq-else-eq-6.ensures c.as_slice-else-eq-6.ensures c.if-eq-7.true)
    ∙ sym c.lone_word-then-eq-7.ensures)
    c.or_fault-then-eq-7.ensures

pub returns-else-eq-7 : goal.returns-else-eq-7
returns-else-eq-7 c =
    cond-false _ _ _ (compared c.args.word.now _ _ _ _ c.eq.ensures c.as_slice.ensures c.if-eq.false)
    ∙ cond-false _ _ _ (compared c.args.word.now _ _ _ _ c.eq-else-eq.ensures c.as_slice-else-eq.ensures c.if-eq-2.false)
    ∙ cond-false _ _ _ (compared c.args.word.now _ _ _ _ c.eq-else-eq-2.ensures c.as_slice-else-eq-2.ensures c.if-eq-3.false)
    ∙ cond-false _ _ _ (compared c.args.word.now _ _ _ _ c.eq-else-eq-3.ensures c.as_slice-else-eq-3.ensures c.if-eq-4.false)
    ∙ cond-false _ _ _ (compared c.args.word.now _ _ _ _ c.eq-else-eq-4.ensures c.as_slice-else-eq-4.ensures c.if-eq-5.false)
    ∙ cond-false _ _ _ (compared c.args.word.now _ _ _ _ c.eq-else-eq-5.ensures c.as_slice-else-eq-5.ensures c.if-eq-6.false)
    ∙ cond-false _ _ _ (compared c.args.word.now _ _ _ _ c.eq-else-eq-6.ensures c.as_slice-else-eq-6.ensures c.if-eq-7.false)
    ∙ ap Err (sym c.unknown_line.ensures)
