use Rattle.std.proofs.Common.{◌≡◌, Err, map, sym, ◌∙◌, ap}
use Rattle.std.proofs.lemmas.Bool.{cond-true, cond-false}
use Rattle.std.proofs.lemmas.List.{length-map}
use Rattle.script_words.specs.Compact.{given_of}
use Rattle.script_words.specs.Reads.{ReadsLine, result_map}
use Rattle.script_words.specs.TrafficLines.{traffic_line}
use Rattle.script_text.proofs.FewWords.{of_none, of_one, of_two, of_three, of_four, of_five, compared, reads_by}
use Rattle.script_text.proofs.LongLines.{traffic_line_long}
use Rattle.script_text.proofs.traffic_lines.traffic_line.Goals as goal

pub returns-in-empty : goal.returns-in-empty
returns-in-empty c = of_none (λ words. traffic_line c.args.before.now c.args.word.now words ≡ Err c.unknown_line.result) c.args.words.now c.in-empty.len_below (ap Err (sym c.unknown_line.ensures))

pub returns-in-len2 : goal.returns-in-len2
returns-in-len2 c = of_two (λ words. traffic_line c.args.before.now c.args.word.now words ≡ Err c.unknown_line-in-len2.result) c.args.words.now c.in-len2.len_at_least c.in-len2.len_below (ap Err (sym c.unknown_line-in-len2.ensures))

pub returns-in-len3 : goal.returns-in-len3
returns-in-len3 c = of_three (λ words. traffic_line c.args.before.now c.args.word.now words ≡ Err c.unknown_line-in-len3.result) c.args.words.now c.in-len3.len_at_least c.in-len3.len_below (ap Err (sym c.unknown_line-in-len3.ensures))

pub returns-then-eq : goal.returns-then-eq
returns-then-eq c =
    of_one (λ words. ReadsLine (result_map given_of c.or_fault.result) (traffic_line c.args.before.now c.args.word.now words)) c.args.words.now c.in-len1.len_at_least c.in-len1.len_below
    (reads_by given_of c.or_fault.result _ _
    (cond-true _ _ _ (compared c.args.word.now _ _ _ _ c.eq.ensures c.as_slice.ensures c.if-eq.true) ∙ sym c.break_line.ensures) c.or_fault.ensures)

pub returns-else-eq : goal.returns-else-eq
returns-else-eq c =
    of_one (λ words. traffic_line c.args.before.now c.args.word.now words ≡ Err c.unknown_line-else-eq.result) c.args.words.now c.in-len1.len_at_least c.in-len1.len_below
    (cond-false _ _ _ (compared c.args.word.now _ _ _ _ c.eq.ensures c.as_slice.ensures c.if-eq.false) ∙ ap Err (sym c.unknown_line-else-eq.ensures))

pub returns-else-eq-2 : goal.returns-else-eq-2
returns-else-eq-2 c =
    of_four (λ words. traffic_line c.args.before.now c.args.word.now words ≡ Err c.unknown_line-else-eq-2.result) c.args.words.now c.in-len4.len_at_least c.in-len4.len_below
    (cond-false _ _ _ (compared c.args.word.now _ _ _ _ c.eq-in-len4.ensures c.as_slice-in-len4.ensures c.if-eq-2.false) ∙ ap Err (sym c.unknown_line-else-eq-2.ensures))

pub returns-then-eq-3 : goal.returns-then-eq-3
returns-then-eq-3 c =
    of_five (λ words. ReadsLine (result_map given_of c.or_fault-then-eq-3.result) (traffic_line c.args.before.now c.args.word.now words)) c.args.words.now c.in-len5.len_at_least c.in-len5.len_below
    (reads_by given_of c.or_fault-then-eq-3.result _ _
    (cond-true _ _ _ (compared c.args.word.now _ _ _ _ c.eq-in-len5.ensures c.as_slice-in-len5.ensures c.if-eq-3.true) ∙ sym c.flood_line.ensures) c.or_fault-then-eq-3.ensures)

pub returns-else-eq-3 : goal.returns-else-eq-3
returns-else-eq-3 c =
    of_five (λ words. traffic_line c.args.before.now c.args.word.now words ≡ Err c.unknown_line-else-eq-3.result) c.args.words.now c.in-len5.len_at_least c.in-len5.len_below
    (cond-false _ _ _ (compared c.args.word.now _ _ _ _ c.eq-in-len5.ensures c.as_slice-in-len5.ensures c.if-eq-3.false) ∙ ap Err (sym c.unknown_line-else-eq-3.ensures))

pub returns-then-eq-2 : goal.returns-then-eq-2
returns-then-eq-2 c =
    of_four (λ words. ReadsLine (result_map given_of c.frame_line.result) (traffic_line c.args.before.now c.args.word.now words)) c.args.words.now c.in-len4.len_at_least c.in-len4.len_below
    (rw (compared c.args.word.now _ _ _ _ c.eq-in-len4.ensures c.as_slice-in-len4.ensures c.if-eq-2.true) c.frame_line.ensures)

pub returns-in_default : goal.returns-in_default
returns-in_default c =
    rw c.unknown_line-in_default.ensures (traffic_line_long c.args.before.now c.args.word.now (map (λ word. word.now) c.args.words.now) (rw (length-map c.args.words.now (λ word. word.now)) c.in_default.len_at_least))
