use Rattle.stream_laws.proofs.WorldLaws.{every_world_is_ordered}
use Rattle.stream_laws.proofs.laws.every_world_is_ordered.Goals as goal

pub returns : goal.returns
returns c = every_world_is_ordered
