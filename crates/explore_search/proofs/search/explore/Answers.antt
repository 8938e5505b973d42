use Rattle.std.proofs.Common.{◌≡◌, arith, length}
use Rattle.explore_model.specs.States.{most_states}
use Rattle.explore_search.specs.Whole.{IsBased, IsCount}
use Rattle.explore_search.proofs.Census.{count_of_none}
use Rattle.explore_search.proofs.LayersInTurn.{count_of_some, full_of_some, last_counted, last_explored, more_of_none, next_of_full}
use Rattle.explore_search.proofs.WholeLayers.{groups_have_states}
use Rattle.explore_search.proofs.search.explore.Goals as goal

pub loop-done-init : goal.loop-done-init
loop-done-init g c = record {
  layer = c.in_ok-layer.ensures;
  count = count_of_none g.M.Machine.has_made g.M.Machine.plan_held g.M.Machine.key_of c.args.plan.now;
  few = omega arith;
}

pub close_layer-requires-clause-layer : goal.close_layer-requires-clause-layer
close_layer-requires-clause-layer g c = c.loop-done.invariant.layer.kept

pub step_layer-requires-clause-layer : goal.step_layer-requires-clause-layer
step_layer-requires-clause-layer g c =
    (full_of_some g.M.Machine.has_made g.M.Machine.plan_held g.M.Machine.key_of c.args.plan.now c.loop-done.done c.loop-done.states most_states c.in-Some.count c.loop-done.layer.items c.close_layer.new.layer.items c.in_ok-count.field-0
    (omega (arith, c.len-done-end.ensures)) c.in-Some.is c.in_ok-count.ensures c.loop-done.invariant.layer).kept

pub loop-done-preserved : goal.loop-done-preserved
loop-done-preserved g c =
    let full = full_of_some g.M.Machine.has_made g.M.Machine.plan_held g.M.Machine.key_of c.args.plan.now c.loop-done.done c.loop-done.states most_states c.in-Some.count c.loop-done.layer.items c.close_layer.new.layer.items c.in_ok-count.field-0
    (omega (arith, c.len-done-end.ensures)) c.in-Some.is c.in_ok-count.ensures c.loop-done.invariant.layer in
    let count = count_of_some g.M.Machine.has_made g.M.Machine.plan_held g.M.Machine.key_of c.args.plan.now c.loop-done.done c.loop-done.states most_states c.in-Some.count c.loop-done.layer.items c.close_layer.new.layer.items c.in_ok-count.field-0
    (omega (arith, c.len-done-end.ensures)) c.in-Some.is c.in_ok-count.ensures c.loop-done.invariant.layer c.loop-done.invariant.count in
    record {
      layer = next_of_full g.M.Machine.has_made g.M.Machine.plan_held g.M.Machine.key_of c.args.plan.now c.loop-done.done c.close_layer.new.layer.items c.in_ok-layer-2.layer.items (omega (arith, c.len-done-end.ensures)) full c.in_ok-layer-2.ensures;
      count = count.0;
      few = count.1;
    }

pub returns-in_default : goal.returns-in_default
returns-in_default g c =
    more_of_none g.M.Machine.has_made g.M.Machine.plan_held g.M.Machine.key_of c.args.plan.now c.loop-done.done c.loop-done.states most_states c.loop-done.layer.items c.close_layer.new.layer.items c.in_ok-count.field-0
    (omega (arith, c.len-done-end.ensures)) c.in_default.not-Some c.in_ok-count.ensures c.loop-done.invariant.layer c.loop-done.invariant.count

pub outcomes_of-requires : goal.outcomes_of-requires
outcomes_of-requires g c =
    groups_have_states g.M.Machine.has_made g.M.Machine.plan_held g.M.Machine.key_of c.args.plan.now c.loop-done.done c.loop-done.layer.items c.loop-done.invariant.layer.ordered

pub returns : goal.returns
returns g c =
    let all : c.loop-done.done ≡ length c.args.plan.now.steps = omega (arith, c.len-done-end.ensures) in (
      last_explored g.M.Machine.has_made g.M.Machine.plan_held g.M.Machine.key_of c.args.plan.now c.loop-done.done c.loop-done.layer.items c.in_ok-outcomes_of.field-0.items all c.loop-done.invariant.layer c.in_ok-outcomes_of.ensures,
      last_counted g.M.Machine.has_made g.M.Machine.plan_held g.M.Machine.key_of c.args.plan.now c.loop-done.done c.loop-done.states all c.loop-done.invariant.count,
      c.loop-done.invariant.few,
    )
