use Rattle.std.proofs.Common.{◌≡◌, ◌∙◌, ℕ, ◌+◌, ◌-◌, ◌<◌, List, Option, Some, ap, arith, length, subst, sym, add-zero}
use Rattle.std.proofs.lemmas.List.{length-set, take_all}
use Rattle.explore_search.specs.Closing.{ClosedUpTo, GroupClosed, states_in}
use Rattle.explore_search.specs.declared.layers.Group.{Group}
use Rattle.explore_search.proofs.ClosedLayers.{closed_next, closed_none, grown_next, none_found, states_more}
use Rattle.explore_search.proofs.groups.close_groups.Goals as goal

pub close_group-requires-clause-group : goal.close_group-requires-clause-group
close_group-requires-clause-group g c =
    let d = c.index-layer-place.result in
    let size = c.loop-place.invariant.closed.size in
    (c.loop-place.invariant.closed.grown c.loop-place.place d (omega arith)).grown.each (c.requires.layer c.loop-place.place d (omega arith))

pub loop-place-init : goal.loop-place-init
loop-place-init g c = record {
  closed = closed_none g.M.Machine.has_made g.M.Machine.plan_held g.M.Machine.key_of c.args.plan.now c.args.done c.args.layer.now;
  count = sym (add-zero c.args.before);
  few = c.requires.before;
}

pub loop-place-preserved : goal.loop-place-preserved
loop-place-preserved g c =
    let d = c.index-layer-place.result in
    let closed : GroupClosed g.M.Machine.has_made g.M.Machine.plan_held g.M.Machine.key_of c.args.plan.now c.args.done c.close_group.new.group (c.args.limit - c.loop-place.count) (Some c.in-Some.states) =
    subst (λ (found : Option ℕ). GroupClosed g.M.Machine.has_made g.M.Machine.plan_held g.M.Machine.key_of c.args.plan.now c.args.done c.close_group.new.group (c.args.limit - c.loop-place.count) found) c.in-Some.is c.in_ok-states.ensures.closed in
    let more = states_more c.loop-place.layer c.loop-place.place c.close_group.new.group (omega arith) in
    record {
      closed =
          closed_next g.M.Machine.has_made g.M.Machine.plan_held g.M.Machine.key_of c.args.plan.now c.args.done c.args.layer.now c.loop-place.layer c.loop-place.place d c.close_group.new.group (omega arith)
          c.loop-place.invariant.closed c.in_ok-states.ensures.grown closed.2;
      count = omega (arith, closed.0, c.loop-place.invariant.count, more);
      few = omega (arith, closed.1, c.loop-place.invariant.few);
    }

pub returns : goal.returns
returns g c =
    let size = c.loop-place.invariant.closed.size in
    let at : c.loop-place.place ≡ length c.args.layer.now = omega arith in (
      subst (λ (n : ℕ). ClosedUpTo g.M.Machine.has_made g.M.Machine.plan_held g.M.Machine.key_of c.args.plan.now c.args.done n c.args.layer.now c.loop-place.layer) at c.loop-place.invariant.closed,
      c.loop-place.invariant.count ∙ ap (λ (groups : List (Group g.row.M.Denot)). c.args.before + states_in groups) (take_all c.loop-place.place c.loop-place.layer (omega arith)),
      c.loop-place.invariant.few,
    )

pub returns-in_default : goal.returns-in_default
returns-in_default g c =
    let d = c.index-layer-place.result in
    let more = states_more c.loop-place.layer c.loop-place.place c.close_group.new.group (omega arith) in
    let size = length-set c.loop-place.layer c.loop-place.place c.close_group.new.group in
    let past : c.args.limit - c.loop-place.count < length c.close_group.new.group.states = none_found _ c.in_ok-states.field-0 c.in_default.not-Some c.in_ok-states.ensures.closed in (
      c.loop-place.place,
      omega arith,
      grown_next g.M.Machine.has_made g.M.Machine.plan_held g.M.Machine.key_of c.args.plan.now c.args.done c.args.layer.now c.loop-place.layer c.loop-place.place d c.close_group.new.group (omega arith)
          c.loop-place.invariant.closed c.in_ok-states.ensures.grown,
      omega (arith, c.loop-place.invariant.count, more),
    )
