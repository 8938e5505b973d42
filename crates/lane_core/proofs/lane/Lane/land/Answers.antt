use Rattle.std.proofs.Common.{◌≡◌, ◌+◌, List, None, length, map, option_map, slice_get, ap, ◌∙◌, sym, subst, arith}
use Rattle.std.specs.List.{remove}
use Rattle.std.specs.Vec.{with_items}
use Rattle.std.proofs.lemmas.Bool.{cond-false}
use Rattle.std.proofs.lemmas.List.{length-map, with_items_is}
use Rattle.std.proofs.lemmas.Option.{slice_get-map}
use Rattle.lane_model.specs.Law.{HoldsRingLaw}
use Rattle.lane_model.specs.Steps.{after_landing}
use Rattle.pair_model.specs.Labels.{label_of}
use Rattle.lane_core.specs.Calls.{LaneValue, core_with_lane, core_land_answer, core_after_land, core_number_of}
use Rattle.lane_core.specs.Parts.{IsKnown, core_entry_in, entry_seen, place_seen, core_ring_after}
use Rattle.lane_core.specs.LaneView.{lane_seen, value_seen}
use Rattle.lane_core.specs.declared.answers.LaneLand.TheVariants.{Landed, Blocked, Nothing}
use Rattle.lane_core.specs.declared.entry.Entry.{Entry}
use Rattle.lane_core.specs.declared.slot.Slot.{Slot}
use Rattle.lane_core.specs.declared.write.PostedWrite.{PostedWrite}
use Rattle.lane_core.proofs.LandSteps.{order_of_write, was_nothing, was_blocked, has_landed, is_held_back, landed_lane, past_the_end, answer_nothing, after_nothing, answer_landed, after_landed}
use Rattle.lane_core.proofs.lane.Lane.land.Goals as goal

pub invariant_of-self : goal.invariant_of-self
invariant_of-self c =
    let kept = c.self.invariant in
    let old = c.self.inside in
    let found = was_nothing _ _ c.in-Nothing.ensures.answer in
    let same : c.land.new.self ≡ old.flight = c.in-Nothing.ensures.after ∙ cond-false _ _ _ (past_the_end order_of_write old.flight.writes c.args.place found) in
    rw same kept

pub returns-in-Nothing-clause-law : goal.returns-in-Nothing-clause-law
returns-in-Nothing-clause-law c = (invariant_of-self c).law

pub returns-in-Nothing-clause-answer : goal.returns-in-Nothing-clause-answer
returns-in-Nothing-clause-answer c =
    let old = c.self.inside in
    let found = was_nothing _ _ c.in-Nothing.ensures.answer in
    let none : slice_get (lane_seen old).flight c.args.place ≡ None = slice_get-map (λ (w : PostedWrite). w.mark) old.flight.writes c.args.place ∙ ap (option_map (λ (w : PostedWrite). w.mark)) found in
    subst (λ (value : LaneValue). Nothing ≡ core_land_answer value c.args.place) c.self.view_is (sym (answer_nothing (value_seen old) c.args.place none))

pub invariant_of-self-in-Blocked : goal.invariant_of-self-in-Blocked
invariant_of-self-in-Blocked c =
    let kept = c.self.invariant in
    let old = c.self.inside in
    let waits = was_blocked _ _ c.in-Blocked.ensures.answer in
    let same : c.land.new.self ≡ old.flight = c.in-Blocked.ensures.after ∙ cond-false _ _ _ waits.2 in
    rw same kept

pub returns-in-Blocked-clause-law : goal.returns-in-Blocked-clause-law
returns-in-Blocked-clause-law c = (invariant_of-self-in-Blocked c).law

pub returns-in-Nothing-clause-after : goal.returns-in-Nothing-clause-after
returns-in-Nothing-clause-after c =
    let old = c.self.inside in
    let found = was_nothing _ _ c.in-Nothing.ensures.answer in
    let none : slice_get (lane_seen old).flight c.args.place ≡ None = slice_get-map (λ (w : PostedWrite). w.mark) old.flight.writes c.args.place ∙ ap (option_map (λ (w : PostedWrite). w.mark)) found in
    let same : c.land.new.self ≡ old.flight = c.in-Nothing.ensures.after ∙ cond-false _ _ _ (past_the_end order_of_write old.flight.writes c.args.place found) in
    rw same (subst (λ (value : LaneValue). value_seen old ≡ core_with_lane value (core_after_land value c.args.place)) c.self.view_is (ap (core_with_lane (value_seen old)) (sym (after_nothing (value_seen old) c.args.place none))))

pub returns-in-Blocked-clause-answer : goal.returns-in-Blocked-clause-answer
returns-in-Blocked-clause-answer c =
    let old = c.self.inside in
    let held = is_held_back old c.args.place c.in-Blocked.ensures.answer c.self.invariant.sending.orders in
    subst (λ (value : LaneValue). Blocked ≡ core_land_answer value c.args.place) c.self.view_is (sym held.0)

pub returns-in-Blocked-clause-after : goal.returns-in-Blocked-clause-after
returns-in-Blocked-clause-after c =
    let old = c.self.inside in
    let waits = was_blocked _ _ c.in-Blocked.ensures.answer in
    let same : c.land.new.self ≡ old.flight = c.in-Blocked.ensures.after ∙ cond-false _ _ _ waits.2 in
    let held = is_held_back old c.args.place c.in-Blocked.ensures.answer c.self.invariant.sending.orders in
    rw same (subst (λ (value : LaneValue). value_seen old ≡ core_with_lane value (core_after_land value c.args.place)) c.self.view_is (ap (core_with_lane (value_seen old)) (sym held.1)))

pub store-requires-clause-can : goal.store-requires-clause-can
store-requires-clause-can c =
    let landed = has_landed c.self.inside c.args.place c.in-Landed.field-0 c.land.new.self c.in-Landed.ensures.answer c.in-Landed.ensures.after c.self.invariant in
    rw (c.deref_mut.ensures.value, c.deref.ensures.value) landed.lands.can

pub label-requires : goal.label-requires
label-requires c =
    let old = c.self.inside in
    let landed = has_landed old c.args.place c.in-Landed.field-0 c.land.new.self c.in-Landed.ensures.answer c.in-Landed.ensures.after c.self.invariant in
    let count = length-map old.sent.items entry_seen ∙ sym (ap length c.deref-in-Landed.ensures.value) in
    subst (IsKnown c.in-Landed.field-0.mark) count landed.lands.known

-- the lane after the landing is the model's
lane_after : (c : goal.After-label) → record (lane_seen c.self.inside) {
  flight = map (λ (w : PostedWrite). w.mark) c.land.new.self.writes;
  ring = map place_seen (with_items c.self.inside.ring c.store.new.ring).items;
  flagged = c.self.inside.flagged + c.landed_flags.result;
} ≡ after_landing (lane_seen c.self.inside) c.in-Landed.field-0.mark (remove (lane_seen c.self.inside).flight c.args.place)
lane_after c =
    let old = c.self.inside in
    let mark = c.in-Landed.field-0.mark in
    let landed = has_landed old c.args.place c.in-Landed.field-0 c.land.new.self c.in-Landed.ensures.answer c.in-Landed.ensures.after c.self.invariant in
    let ring =
    ap (map place_seen) (with_items_is old.ring c.store.new.ring (omega arith))
    ∙ c.store.ensures
    ∙ ap (λ (places : List Slot). core_ring_after (map place_seen places) (map entry_seen c.deref.result.now) mark) c.deref_mut.ensures.value
    ∙ ap (λ (entries : List Entry). core_ring_after (map place_seen old.ring.items) (map entry_seen entries) mark) c.deref.ensures.value in
    landed_lane (lane_seen old) _ _ _ _ mark c.self.invariant.law.2.room.slots landed.marks ring (ap (λ count. old.flagged + count) c.landed_flags.ensures)

pub invariant_of-self-in-Landed : goal.invariant_of-self-in-Landed
invariant_of-self-in-Landed c =
    let kept = c.self.invariant in
    let old = c.self.inside in
    let landed = has_landed old c.args.place c.in-Landed.field-0 c.land.new.self c.in-Landed.ensures.answer c.in-Landed.ensures.after kept in
    record {
      law = subst HoldsRingLaw (sym (lane_after c)) landed.lands.law;
      sending = record { few = kept.sending.few; small = kept.sending.small; orders = landed.orders; room = omega (arith, kept.sending.room, landed.spare) };
      index_room = kept.index_room;
      buffers = kept.buffers;
    }

pub returns-in-Landed-clause-law : goal.returns-in-Landed-clause-law
returns-in-Landed-clause-law c = (invariant_of-self-in-Landed c).law

pub returns-in-Landed-clause-answer : goal.returns-in-Landed-clause-answer
returns-in-Landed-clause-answer c =
    let old = c.self.inside in
    let mark = c.in-Landed.field-0.mark in
    let landed = has_landed old c.args.place c.in-Landed.field-0 c.land.new.self c.in-Landed.ensures.answer c.in-Landed.ensures.after c.self.invariant in
    let labelled = c.label.ensures ∙ ap (λ (entries : List Entry). label_of old.queue (core_entry_in (map entry_seen entries) (core_number_of mark)) mark) c.deref-in-Landed.ensures.value in
    subst (λ (value : LaneValue). Landed c.label.result ≡ core_land_answer value c.args.place) c.self.view_is
    (ap Landed labelled ∙ sym (answer_landed (value_seen old) c.args.place mark landed.found landed.may))

pub returns-in-Landed-clause-after : goal.returns-in-Landed-clause-after
returns-in-Landed-clause-after c =
    let old = c.self.inside in
    let mark = c.in-Landed.field-0.mark in
    let landed = has_landed old c.args.place c.in-Landed.field-0 c.land.new.self c.in-Landed.ensures.answer c.in-Landed.ensures.after c.self.invariant in
    ap (core_with_lane (value_seen old)) (lane_after c ∙ sym (after_landed (value_seen old) c.args.place mark landed.found landed.may))
    ∙ ap (λ (value : LaneValue). core_with_lane value (core_after_land value c.args.place)) c.self.view_is
