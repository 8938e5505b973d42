use Rattle.std.proofs.Common.{◌++◌, ◌+◌, [], ◌∷◌, filter, map, slice_range, sym, ◌∙◌, ap, append_assoc, arith}
use Rattle.std.proofs.lemmas.Bool.{eq-eqb, ne_eqb}
use Rattle.script_words.specs.Words.{is_filled}
use Rattle.script_text.proofs.Splits.{words_from, text_byte, words_byte, words_space}
use Rattle.script_text.proofs.lines.read_short.Goals.{then-byte-eq32+in_ok-push_word, else-byte-eq32+else-byte-lt32+else-byte-gt126}
use Rattle.script_text.proofs.lines.read_short.Goals as goal

pub loop-i-preserved : goal.loop-i-preserved
loop-i-preserved c =
    let line = c.args.line.now in
    let start = c.loop-i.start in
    let i = c.loop-i.i in
    let lt = c.loop-i-test.true in
    let before = c.loop-i.invariant in
    elim c.if-byte-eq32.branch [
      | then-byte-eq32+in_ok-push_word w ↦
          let space = w.if-byte-eq32.true in
          record {
            begins = omega (arith, w.start-is);
            text = before.text ∙ text_byte line i lt (omega (arith, space)) (omega (arith, space));
            words = rw (w.words-is, w.start-is, w.in_ok-push_word.ensures)
                (before.words ∙ (ap (λ words. map (λ word. word.now) c.loop-i.words.items ++ words) (words_space line start i lt (eq-eqb _ _ space)) ∙ sym (append_assoc (map (λ word. word.now) c.loop-i.words.items) (filter is_filled (slice_range line start i ∷ [])) (words_from line (i + 1) (i + 1)))));
          }
      | else-byte-eq32+else-byte-lt32+else-byte-gt126 w ↦ record {
        begins = omega (arith, w.start-is, before.begins);
        text = before.text ∙ text_byte line i lt w.if-byte-lt32.false w.if-byte-gt126.false;
        words = rw (w.words-is, w.start-is)
            (before.words ∙ ap (λ words. map (λ word. word.now) c.loop-i.words.items ++ words) (words_byte line start i before.begins lt (ne_eqb _ _ w.if-byte-eq32.false)));
      }
    ]
