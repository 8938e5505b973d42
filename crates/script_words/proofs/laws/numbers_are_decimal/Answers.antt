use Rattle.script_words.proofs.NumberTexts.{number_texts}
use Rattle.script_words.proofs.laws.numbers_are_decimal.Goals as goal

pub returns : goal.returns
returns c = number_texts
