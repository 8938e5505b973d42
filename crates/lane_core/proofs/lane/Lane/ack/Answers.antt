use Rattle.std.proofs.Common.{ap, ◌∙◌, sym, subst, arith, map, List, ℕ}
use Rattle.lane_model.specs.Law.{HoldsRingLaw}
use Rattle.lane_model.specs.Steps.{after_ack}
use Rattle.lane_model.specs.declared.Phase.TheVariants.{Idle}
use Rattle.lane_laws.proofs.Facade.{ack_keeps}
use Rattle.lane_core.specs.LaneView.{lane_seen}
use Rattle.lane_core.specs.declared.write.IndexWrite.{IndexWrite}
use Rattle.lane_core.proofs.Parts.{not_copying, map-posted}
use Rattle.lane_core.proofs.lane.Lane.ack.Goals as goal

pub invariant_of-self : goal.invariant_of-self
invariant_of-self c =
    let kept = c.self.invariant in
    let old = c.self.inside in
    let number = λ (write : IndexWrite). write.number in
    let returning = ap (map number) c.post.ensures.writes ∙ map-posted number old.up old.returning.writes (record { number = old.acked }) in
    record {
      law = subst (λ (numbers : List ℕ). HoldsRingLaw (record (after_ack (lane_seen old)) { returning = numbers })) (sym returning) (ack_keeps (lane_seen old) c.in-Cleared.is kept.law);
      sending = kept.sending;
      index_room = omega arith;
      buffers = not_copying Idle old.part _ _ _ (λ e. cc e);
    }

pub returns-clause-law : goal.returns-clause-law
returns-clause-law c = (invariant_of-self c).law
