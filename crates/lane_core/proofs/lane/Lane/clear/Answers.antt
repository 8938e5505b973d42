use Rattle.std.proofs.Common.{◌≤◌, ap, ◌∙◌, sym, subst, arith, map, List}
use Rattle.std.proofs.lemmas.List.{with_items_is}
use Rattle.lane_model.specs.Lane.{Slot}
use Rattle.lane_model.specs.Law.{HoldsRingLaw}
use Rattle.lane_model.specs.Steps.{after_clear}
use Rattle.lane_model.specs.declared.Phase.{Phase}
use Rattle.lane_model.specs.declared.Phase.TheVariants.{Cleared}
use Rattle.lane_laws.proofs.Facade.{clear_keeps}
use Rattle.lane_core.specs.Parts.{place_seen, with_flags_at}
use Rattle.lane_core.specs.LaneView.{index_room, lane_seen}
use Rattle.lane_core.proofs.Parts.{not_copying}
use Rattle.lane_core.proofs.StoredSlots.{with_flags_at-is}
use Rattle.lane_core.proofs.lane.Lane.clear.Goals as goal

pub invariant_of-self : goal.invariant_of-self
invariant_of-self c =
    let kept = c.self.invariant in
    let old = c.self.inside in
    let ring =
    ap (map place_seen) (with_items_is old.ring c.put_flags.new.ring (omega arith))
    ∙ c.put_flags.ensures
    ∙ ap (λ places. with_flags_at (map place_seen places) old.cleared 0) c.deref_mut.ensures.value
    ∙ with_flags_at-is (lane_seen old) old.cleared 0 kept.law.2.room.slots in
    record {
      law = subst (λ (places : List Slot). HoldsRingLaw (record (after_clear (lane_seen old)) { ring = places })) (sym ring) (clear_keeps (lane_seen old) c.in-Copied.is kept.law);
      sending = kept.sending;
      index_room = subst (λ (phase : Phase). index_room phase ≤ old.returning.spare) c.in-Copied.is kept.index_room;
      buffers = not_copying Cleared old.part _ _ _ (λ e. cc e);
    }

pub returns-clause-law : goal.returns-clause-law
returns-clause-law c = (invariant_of-self c).law
