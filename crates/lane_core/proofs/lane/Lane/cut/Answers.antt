use Rattle.lane_laws.proofs.Facade.{cut_keeps}
use Rattle.lane_core.specs.LaneView.{lane_seen}
use Rattle.lane_core.proofs.lane.Lane.cut.Goals as goal

pub invariant_of-self : goal.invariant_of-self
invariant_of-self c =
    let kept = c.self.invariant in
    record {
      law = cut_keeps (lane_seen c.self.inside) kept.law;
      sending = kept.sending;
      index_room = kept.index_room;
      buffers = kept.buffers;
    }

pub returns-clause-law : goal.returns-clause-law
returns-clause-law c = (invariant_of-self c).law
