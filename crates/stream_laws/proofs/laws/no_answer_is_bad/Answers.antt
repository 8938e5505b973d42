use Rattle.stream_laws.proofs.WorldLaws.{no_answer_is_bad}
use Rattle.stream_laws.proofs.laws.no_answer_is_bad.Goals as goal

pub returns : goal.returns
returns c = no_answer_is_bad
