use Rattle.std.proofs.Common.{◌∙◌, ℕ, ◌+◌, List, arith, length, subst, sym}
use Rattle.std.proofs.lemmas.Iterator.Adapters.{YieldsList-from_vec}
use Rattle.std.proofs.lemmas.Iterator.Consumers.{YieldsList-end, YieldsList-turn}
use Rattle.std.proofs.lemmas.List.{length-map, length_push}
use Rattle.step_kinds.specs.declared.plan.Line.{Line}
use Rattle.explore_search.specs.Layers.{AreKept}
use Rattle.explore_search.specs.declared.layers.Group.{Group}
use Rattle.explore_search.proofs.NextLayer.{IsNextOf, next_of_all, next_of_more, next_of_none}
use Rattle.explore_search.proofs.groups.step_layer.Goals as goal

pub step_group-requires-clause-group : goal.step_group-requires-clause-group
step_group-requires-clause-group g c =
    let turn = YieldsList-turn (YieldsList-from_vec c.args.layer.items c.into_iter-group-iterator.ensures.into_iter_gives.0 (c.into_iter-group-iterator.ensures.into_iter_gives.1 ∙ c.args.layer.ok.0)) c.loop-group.yielded c.loop-group.group-iterator c.loop-group.yielded_by _ c.next.new.self c.in-Some.group c.in-Some.is c.next.ensures.steps in
    subst (λ (group : Group g.row.M.Denot). AreKept g.M.Machine.has_made g.M.Machine.plan_held g.M.Machine.key_of c.args.plan.now c.args.done group.states) (sym turn.1)
    (c.requires.layer (length c.loop-group.yielded) c.in-Some.group turn.0)

pub loop-group-init : goal.loop-group-init
loop-group-init g c =
    subst (λ (next : List (Group g.row.M.Denot)). IsNextOf g.M.Machine.has_made g.M.Machine.plan_held g.M.Machine.key_of c.args.plan.now c.args.done c.args.layer.items 0 next) (sym c.new-next.ensures.items)
    (next_of_none g.M.Machine.has_made g.M.Machine.plan_held g.M.Machine.key_of c.args.plan.now c.args.done c.args.layer.items)

pub loop-group-preserved : goal.loop-group-preserved
loop-group-preserved g c =
    let turn = YieldsList-turn (YieldsList-from_vec c.args.layer.items c.into_iter-group-iterator.ensures.into_iter_gives.0 (c.into_iter-group-iterator.ensures.into_iter_gives.1 ∙ c.args.layer.ok.0)) c.loop-group.yielded c.loop-group.group-iterator c.loop-group.yielded_by _ c.next.new.self c.in-Some.group c.in-Some.is c.next.ensures.steps in
    let steps = length-map c.args.plan.now.steps (λ (line : Line). line.step) in
    subst (λ (count : ℕ). IsNextOf g.M.Machine.has_made g.M.Machine.plan_held g.M.Machine.key_of c.args.plan.now c.args.done c.args.layer.items count c.add_groups.new.groups.items)
    (sym (length_push c.loop-group.yielded c.in-Some.group))
    (subst (λ (next : List (Group g.row.M.Denot)). IsNextOf g.M.Machine.has_made g.M.Machine.plan_held g.M.Machine.key_of c.args.plan.now c.args.done c.args.layer.items (length c.loop-group.yielded + 1) next)
    (sym c.in_ok-add_groups.ensures)
    (next_of_more g.M.Machine.has_made g.M.Machine.plan_held g.M.Machine.key_of c.args.plan.now c.args.done c.args.layer.items (length c.loop-group.yielded) c.loop-group.next.items c.in_ok-after.after.items c.in-Some.group
    (omega (arith, c.requires.done)) turn.0 turn.1 c.loop-group.invariant c.in_ok-after.ensures.groups c.in_ok-after.ensures.covers))

pub returns : goal.returns
returns g c =
    let all = YieldsList-end (YieldsList-from_vec c.args.layer.items c.into_iter-group-iterator.ensures.into_iter_gives.0 (c.into_iter-group-iterator.ensures.into_iter_gives.1 ∙ c.args.layer.ok.0)) c.loop-group.yielded c.loop-group.group-iterator c.loop-group.yielded_by _ c.next.new.self c.in-None.is c.next.ensures.steps in
    next_of_all g.M.Machine.has_made g.M.Machine.plan_held g.M.Machine.key_of c.args.plan.now c.args.done c.args.layer.items (length c.loop-group.yielded) c.loop-group.next.items (omega (arith, all.1)) c.loop-group.invariant
