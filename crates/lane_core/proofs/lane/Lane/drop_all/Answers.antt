use Rattle.std.proofs.Common.{ap, ◌∙◌, arith}
use Rattle.lane_laws.proofs.Facade.{drop_keeps}
use Rattle.lane_core.specs.Calls.{LaneValue}
use Rattle.lane_core.specs.LaneView.{lane_seen}
use Rattle.lane_core.proofs.lane.Lane.drop_all.Goals as goal

pub invariant_of-self : goal.invariant_of-self
invariant_of-self c =
    let kept = c.self.invariant in
    let law = drop_keeps (lane_seen c.self.inside) (ap (λ (value : LaneValue). value.lane.up) c.self.view_is ∙ c.requires) kept.law in
    rw (c.discard.ensures, c.discard-2.ensures)
    (record {
      law = law;
      sending = record { few = kept.sending.few; small = kept.sending.small; orders = λ k d below. absurd (omega arith); room = kept.sending.room };
      index_room = kept.index_room;
      buffers = kept.buffers;
    })

pub returns-clause-law : goal.returns-clause-law
returns-clause-law c = (invariant_of-self c).law
