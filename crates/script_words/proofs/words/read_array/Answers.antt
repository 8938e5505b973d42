use Rattle.std.proofs.Common.{sym, ◌∙◌}
use Rattle.std.proofs.lemmas.List.{length-replicate}
use Rattle.script_words.proofs.HexWords.{array_refused}
use Rattle.script_words.proofs.words.read_array.Goals as goal

pub returns-then-is_err : goal.returns-then-is_err
returns-then-is_err g c = sym (array_refused c.args.word.now g.row.N _ c.decode_to_slice.result _ (length-replicate _ _) c.decode_to_slice.ensures.value (sym c.is_err.ensures.value ∙ c.if-is_err.true))
