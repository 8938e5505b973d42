use Rattle.std.proofs.Common.{◌≡◌, ◌<◌, ◌^◌, drop}
use Rattle.script_words.specs.Words as spelled
use Rattle.script_words.proofs.Numbers.{read_on}
use Rattle.script_words.proofs.words.number_of.Given as goal

abbrev pub invariant-loop-digit : goal.invariant-loop-digit
invariant-loop-digit l = record { small : l.value < 2 ^ 32; reads : spelled.word_number_of l.word ≡ read_on l.value (drop l.digit-index l.word) }
