use Rattle.std.proofs.Common.{ap, ◌∙◌, sym, arith}
use Rattle.std.proofs.lemmas.List.{length-map}
use Rattle.lane_core.specs.Parts.{entry_seen}
use Rattle.lane_core.specs.Calls.{LaneValue, core_with_lane, after_land_index}
use Rattle.lane_core.specs.LaneView.{value_seen}
use Rattle.lane_core.proofs.IndexLandings.{has_returned, returned_answer, none_returned, blocked_return, unmoved_answer, unmoved_after}
use Rattle.lane_core.proofs.lane.Lane.land_index.Goals as goal

pub invariant_of-self : goal.invariant_of-self
invariant_of-self c = rw (none_returned c.self.inside c.args.place c.land.new.self c.in-Nothing.ensures.answer c.in-Nothing.ensures.after).same c.self.invariant

pub returns-in-Nothing-clause-law : goal.returns-in-Nothing-clause-law
returns-in-Nothing-clause-law c = (invariant_of-self c).law

pub returns-in-Nothing-clause-answer : goal.returns-in-Nothing-clause-answer
returns-in-Nothing-clause-answer c = unmoved_answer (none_returned c.self.inside c.args.place c.land.new.self c.in-Nothing.ensures.answer c.in-Nothing.ensures.after) c.self.view_is

pub returns-in-Nothing-clause-after : goal.returns-in-Nothing-clause-after
returns-in-Nothing-clause-after c = unmoved_after (none_returned c.self.inside c.args.place c.land.new.self c.in-Nothing.ensures.answer c.in-Nothing.ensures.after) c.self.view_is

pub invariant_of-self-in-Blocked : goal.invariant_of-self-in-Blocked
invariant_of-self-in-Blocked c = rw (blocked_return c.self.inside c.args.place c.land.new.self c.in-Blocked.ensures.answer c.in-Blocked.ensures.after).same c.self.invariant

pub returns-in-Blocked-clause-law : goal.returns-in-Blocked-clause-law
returns-in-Blocked-clause-law c = (invariant_of-self-in-Blocked c).law

pub returns-in-Blocked-clause-answer : goal.returns-in-Blocked-clause-answer
returns-in-Blocked-clause-answer c = unmoved_answer (blocked_return c.self.inside c.args.place c.land.new.self c.in-Blocked.ensures.answer c.in-Blocked.ensures.after) c.self.view_is

pub returns-in-Blocked-clause-after : goal.returns-in-Blocked-clause-after
returns-in-Blocked-clause-after c = unmoved_after (blocked_return c.self.inside c.args.place c.land.new.self c.in-Blocked.ensures.answer c.in-Blocked.ensures.after) c.self.view_is

pub overflow_add-self : goal.overflow_add-self
overflow_add-self c =
    let landed = has_returned c.self.inside c.args.place c.in-Landed.field-0 c.land.new.self c.in-Landed.ensures.answer c.in-Landed.ensures.after c.self.invariant.law in
    let count = length-map c.self.inside.sent.items entry_seen in
    omega (arith, landed.begun, c.self.invariant.sending.few, count)

pub invariant_of-self-in-Landed : goal.invariant_of-self-in-Landed
invariant_of-self-in-Landed c =
    let kept = c.self.invariant in
    let old = c.self.inside in
    let landed = has_returned old c.args.place c.in-Landed.field-0 c.land.new.self c.in-Landed.ensures.answer c.in-Landed.ensures.after kept.law in
    record {
      law = rw c.position_of-self-inside.ensures.value landed.law;
      sending = kept.sending;
      index_room = rw landed.spare kept.index_room;
      buffers = kept.buffers;
    }

pub returns-in-Landed-clause-law : goal.returns-in-Landed-clause-law
returns-in-Landed-clause-law c = (invariant_of-self-in-Landed c).law

pub returns-in-Landed-clause-answer : goal.returns-in-Landed-clause-answer
returns-in-Landed-clause-answer c = returned_answer (has_returned c.self.inside c.args.place c.in-Landed.field-0 c.land.new.self c.in-Landed.ensures.answer c.in-Landed.ensures.after c.self.invariant.law) c.self.view_is

pub returns-in-Landed-clause-after : goal.returns-in-Landed-clause-after
returns-in-Landed-clause-after c =
    let old = c.self.inside in
    let landed = has_returned old c.args.place c.in-Landed.field-0 c.land.new.self c.in-Landed.ensures.answer c.in-Landed.ensures.after c.self.invariant.law in
    rw c.position_of-self-inside.ensures.value
    (ap (core_with_lane (value_seen old)) (sym landed.after) ∙ ap (λ (value : LaneValue). core_with_lane value (after_land_index value.lane c.args.place)) c.self.view_is)
