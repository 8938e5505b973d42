use Rattle.std.proofs.Common.{◌∙◌, ◌∷◌, ◌++◌, [], List, ap, subst, sym}
use Rattle.step_kinds.specs.declared.steps.Step.{Step}
use Rattle.explore_model.specs.declared.outcome.Landing.{Landing}
use Rattle.explore_search.specs.Paths.{path, search_script_of}
use Rattle.explore_search.specs.States.{Joined}
use Rattle.explore_search.specs.declared.layers.Group.{Group}
use Rattle.explore_search.specs.declared.states.State.{State}
use Rattle.explore_search.proofs.AlongPaths.{path_begins}
use Rattle.explore_search.proofs.WholeLayers.{start_based}
use Rattle.explore_search.proofs.search.start.Goals as goal

pub join-requires-clause-machine : goal.join-requires-clause-machine
join-requires-clause-machine g c =
    let script = search_script_of c.args.plan.now in
    record {
      made =
          subst (λ (made : List Step). g.M.Machine.has_made c.in_ok-machine.machine c.args.plan.now made)
          (sym (ap (λ (landings : List Landing). path script landings 0) c.new.ensures.items ∙ path_begins script)) c.in_ok-machine.ensures.made;
      held = c.in_ok-machine.ensures.plan;
    }

pub returns : goal.returns
returns g c =
    let group : Group g.row.M.Denot = record { answers = c.new-2.result; states = c.join.new.states } in
    start_based g.M.Machine.has_made g.M.Machine.plan_held g.M.Machine.key_of c.args.plan.now g.met.M.Machine.same_steps c.new.result.items group c.in_ok-machine.machine c.push.new.self.items
    c.new.ensures.items c.in_ok-machine.ensures.made c.new-2.ensures
    (subst (λ (states : List (State g.row.M.Denot)). Joined g.M.Machine.has_made g.M.Machine.plan_held g.M.Machine.key_of c.args.plan.now 0 c.new.result.items states group.states) c.new-states.ensures c.in_ok-join.ensures)
    (c.in_ok-push.ensures.items ∙ ap (λ (layer : List (Group g.row.M.Denot)). layer ++ group ∷ []) c.new-layer.ensures.items)
