use Rattle.std.proofs.Common.{◌≡◌, ◌++◌, List, arith, drop, length, subst, sym, take}
use Rattle.std.specs.Prelude.{IfOk}
use Rattle.std.proofs.lemmas.List.{take_at}
use Rattle.explore_search.specs.Closing.{LayerClosed}
use Rattle.explore_search.specs.declared.layers.Group.{Group}
use Rattle.explore_search.proofs.groups.close_layer.Goals as goal

pub returns : goal.returns
returns g c =
    let new : List (Group g.row.M.Denot) = c.close_groups.new.layer in
    let size = c.close_groups.auto.layer in
    let long = c.args.layer.now.ok.0 in
    let whole : take c.args.layer.now.len (new ++ drop (length new) c.args.layer.now.items) ≡ new = take_at new (drop (length new) c.args.layer.now.items) c.args.layer.now.len (omega (arith, c.as_mut_slice-groups.ensures.len)) in
    subst (λ (after : List (Group g.row.M.Denot)). IfOk c.close_groups.result (LayerClosed g.M.Machine.has_made g.M.Machine.plan_held g.M.Machine.key_of c.args.plan.now c.args.done c.args.before c.args.limit c.args.layer.now.items after)) (sym whole)
    (subst (λ (before : List (Group g.row.M.Denot)). IfOk c.close_groups.result (LayerClosed g.M.Machine.has_made g.M.Machine.plan_held g.M.Machine.key_of c.args.plan.now c.args.done c.args.before c.args.limit before new)) c.as_mut_slice-groups.ensures.value
    c.close_groups.ensures)
