use Rattle.std.proofs.Common.{length, ap, arith}
use Rattle.lane_model.specs.declared.Phase.TheVariants.{Idle}
use Rattle.lane_core.proofs.Parts.{not_copying}
use Rattle.lane_core.proofs.FreshLaw.{started}
use Rattle.lane_core.proofs.lane.Lane.new.Goals as goal

pub invariant_of-result : goal.invariant_of-result
invariant_of-result c =
    let none_sent = ap length c.new.ensures.items in
    let none_left = ap length c.new-2.ensures.items in
    record {
      law = started c.args.entries c.args.max c.new.result.items c.new-2.result.items c.new-3.result c.new-4.result c.in_ok-ring.ring.items c.requires.two_entries
          c.new.ensures.items c.new-2.ensures.items c.new-3.ensures c.new-4.ensures c.in_ok-ring.ensures;
      sending = record { few = omega arith; small = c.requires.fits; orders = rw c.new-3.ensures (λ k d below. absurd (omega arith)); room = omega arith };
      index_room = omega arith;
      buffers = not_copying Idle 0 _ _ _ (λ e. cc e);
    }

pub returns-clause-law : goal.returns-clause-law
returns-clause-law c = (invariant_of-result c).law
