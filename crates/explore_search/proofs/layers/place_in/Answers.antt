use Rattle.std.proofs.Common.{◌∙◌, ℕ, List, [], ap, refl, subst, sym}
use Rattle.std.specs.Prelude.{Ok, Err}
use Rattle.std.proofs.lemmas.Result.{on_ok_weaker}
use Rattle.explore_search.specs.Layers.{HasPlaced, IsSearchPlace}
use Rattle.explore_search.specs.States.{Joined}
use Rattle.explore_search.specs.declared.layers.Branch.{Branch}
use Rattle.explore_search.specs.declared.states.State.{State}
use Rattle.explore_search.proofs.StatesInBranches.{placed_found, placed_new}
use Rattle.explore_search.proofs.layers.place_in.Goals as goal

pub returns-in-Ok : goal.returns-in-Ok
returns-in-Ok g c =
    let branch : Branch g.row.M.Denot = c.index_mut.result.now in
    let now : Branch g.row.M.Denot = record { text = branch.text; states = c.join.new.states } in
    let place : IsSearchPlace c.args.branches.now.items c.args.text (Ok c.in-Ok.place) =
    subst (λ (text : List ℕ). IsSearchPlace c.args.branches.now.items text (Ok c.in-Ok.place)) c.as_slice.ensures
    (subst (λ (branches : List (Branch g.row.M.Denot)). IsSearchPlace branches c.as_slice.result.now (Ok c.in-Ok.place)) c.deref.ensures.value c.in-Ok.ensures) in
    on_ok_weaker c.join.result
    (λ joined.
    placed_found g.M.Machine.has_made g.M.Machine.plan_held g.M.Machine.key_of c.args.plan.now c.args.done g.met.M.Machine.same_steps c.args.text c.args.landings.items c.args.branches.now.items
    c.in-Ok.place branch now place.0 c.index_mut.ensures.value (ap (λ (branch : Branch g.row.M.Denot). branch.text) c.index_mut.ensures.value ∙ place.1 branch) refl joined c.requires.branches)
    c.join.ensures

pub returns-in_ok-insert-in-Err : goal.returns-in_ok-insert-in-Err
returns-in_ok-insert-in-Err g c =
    let now : Branch g.row.M.Denot = record { text = c.args.text; states = c.join-in-Err.new.states } in
    let place : IsSearchPlace c.args.branches.now.items c.args.text (Err c.in-Err.place) =
    subst (λ (text : List ℕ). IsSearchPlace c.args.branches.now.items text (Err c.in-Err.place)) c.as_slice.ensures
    (subst (λ (branches : List (Branch g.row.M.Denot)). IsSearchPlace branches c.as_slice.result.now (Err c.in-Err.place)) c.deref.ensures.value c.in-Err.ensures) in
    let joined : Joined g.M.Machine.has_made g.M.Machine.plan_held g.M.Machine.key_of c.args.plan.now c.args.done c.args.landings.items [] now.states =
    subst (λ (states : List (State g.row.M.Denot)). Joined g.M.Machine.has_made g.M.Machine.plan_held g.M.Machine.key_of c.args.plan.now c.args.done c.args.landings.items states now.states)
    c.new-states.ensures c.in_ok-join-in-Err.ensures in
    subst (λ (branches : List (Branch g.row.M.Denot)). HasPlaced g.M.Machine.has_made g.M.Machine.plan_held g.M.Machine.key_of c.args.plan.now c.args.done c.args.text c.args.landings.items c.args.branches.now.items branches)
    (sym c.in_ok-insert-in-Err.ensures.items)
    (placed_new g.M.Machine.has_made g.M.Machine.plan_held g.M.Machine.key_of c.args.plan.now c.args.done g.met.M.Machine.same_steps c.args.text c.args.landings.items c.args.branches.now.items
    c.in-Err.place now place.0 place.1 place.2 refl joined c.requires.branches)
