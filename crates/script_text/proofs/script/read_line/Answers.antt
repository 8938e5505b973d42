use Rattle.std.proofs.Common.{◌==◌, map, sym, ◌∙◌, ap, subst}
use Rattle.std.specs.List.{slice_split}
use Rattle.script_text.specs.SoundLines.{Filled}
use Rattle.script_text.proofs.WordFacts.{filter_filled}
use Rattle.script_text.proofs.script.read_line.Goals as goal

pub words_line-requires-clause-filled : goal.words_line-requires-clause-filled
words_line-requires-clause-filled c =
    let read = ap (map (λ word. word.now)) c.deref.ensures.value ∙ c.in_ok-read_words.ensures.words c.if-not-branch.false in
    subst Filled (sym read) (filter_filled (slice_split (λ b. b == 32) c.args.line.now))
