use Rattle.stream_laws.proofs.WorldLaws.{all_is_brought}
use Rattle.stream_laws.proofs.laws.all_is_brought.Goals as goal

pub returns : goal.returns
returns c = all_is_brought
