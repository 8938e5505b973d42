use Rattle.std.proofs.Common.{sym, ◌∙◌}
use Rattle.script_words.proofs.Numbers.{read_on-past}
use Rattle.script_words.proofs.words.number_of.Goals as goal

pub returns-then-value : goal.returns-then-value
returns-then-value c = sym (c.loop-digit.invariant.reads ∙ read_on-past _ _ _ c.loop-digit-test.true c.if-value.true)
