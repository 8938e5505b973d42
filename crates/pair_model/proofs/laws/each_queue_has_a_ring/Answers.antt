use Rattle.pair_model.proofs.Rings.{each_queue_has_a_ring}
use Rattle.pair_model.proofs.laws.each_queue_has_a_ring.Goals as goal

pub returns : goal.returns
returns c = each_queue_has_a_ring
