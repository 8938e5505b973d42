use Rattle.ledger_laws.proofs.RingLawHolds.{index_word_is_tail}
use Rattle.ledger_laws.proofs.laws.index_word_is_tail.Goals as goal

pub returns : goal.returns
returns c = index_word_is_tail
