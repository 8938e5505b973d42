use Rattle.ledger_laws.proofs.laws.answers_are_right.Goals as goal
use Rattle.ledger_laws.proofs.AllTogether.{answers_are_right}

pub returns : goal.returns
returns c = answers_are_right
