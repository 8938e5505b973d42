use Rattle.script_words.proofs.HexTexts.{hex_texts}
use Rattle.script_words.proofs.laws.bytes_are_hex.Goals as goal

pub returns : goal.returns
returns c = hex_texts
