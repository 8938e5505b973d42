use Rattle.std.proofs.Common.{length, ap, ◌∙◌, sym, subst, arith, map, List}
use Rattle.std.proofs.lemmas.List.{length-map}
use Rattle.lane_model.specs.Law.{HoldsRingLaw}
use Rattle.lane_model.specs.Steps.{after_post}
use Rattle.lane_model.specs.declared.Write.{Write}
use Rattle.lane_laws.proofs.Facade.{post_keeps}
use Rattle.lane_core.specs.Parts.{IsKnown, entry_seen}
use Rattle.lane_core.specs.LaneView.{lane_seen}
use Rattle.lane_core.specs.declared.write.PostedWrite.{PostedWrite}
use Rattle.lane_core.proofs.Parts.{All-posted, map-posted}
use Rattle.lane_core.proofs.Writes.{next_is_known}
use Rattle.lane_core.proofs.lane.Lane.post.Goals as goal

pub label-requires : goal.label-requires
label-requires c =
    let old = c.self.inside in
    let known = next_is_known (lane_seen old) c.in_ok-mark.mark c.pop_front.new.self.items c.in_ok-mark.ensures.items c.self.invariant.law.2.coming.last in
    let count = length-map old.sent.items entry_seen ∙ sym (ap length c.deref.ensures.value) in
    subst (IsKnown c.in_ok-mark.mark) count known

pub invariant_of-self-2 : goal.invariant_of-self-2
invariant_of-self-2 c =
    let kept = c.self.invariant in
    let old = c.self.inside in
    let mark = c.in_ok-mark.mark in
    let rest = c.pop_front.new.self.items in
    let write : PostedWrite = record { mark = mark; strict = old.strict } in
    let flight = ap (map (λ (w : PostedWrite). w.mark)) c.post.ensures.writes ∙ map-posted (λ (w : PostedWrite). w.mark) old.up old.flight.writes write in
    let one_less = ap length c.in_ok-mark.ensures.items in
    record {
      law = subst (λ (marks : List Write). HoldsRingLaw (record (after_post (lane_seen old) mark rest) { flight = marks })) (sym flight) (post_keeps (lane_seen old) mark rest c.in_ok-mark.ensures.items kept.law);
      sending = record {
        few = kept.sending.few;
        small = kept.sending.small;
        orders = All-posted old.strict old.up old.flight.writes mark c.post.new.flight.writes c.post.ensures.writes kept.sending.orders;
        room = omega (arith, kept.sending.room, one_less, c.post.ensures.spare);
      };
      index_room = kept.index_room;
      buffers = kept.buffers;
    }

pub returns-clause-law : goal.returns-clause-law
returns-clause-law c = (invariant_of-self-2 c).law
