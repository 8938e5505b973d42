use Rattle.ledger_laws.proofs.NeitherDiffersNorLong.{no_ordinary_ver_differs_or_long}
use Rattle.ledger_laws.proofs.laws.no_ordinary_ver_differs_or_long.Goals as goal

pub returns : goal.returns
returns c = no_ordinary_ver_differs_or_long
