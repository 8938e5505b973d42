use Rattle.std.proofs.Common.{◌∙◌, List, Option, ap, get_or, subst, sym}
use Rattle.std.proofs.lemmas.List.{get_or_read}
use Rattle.std.specs.Prelude.{IfSome}
use Rattle.explore_search.specs.Spread.{Lands}
use Rattle.explore_search.specs.States.{IsMachineAt, made_to}
use Rattle.explore_search.specs.declared.states.State.{State}
use Rattle.explore_search.proofs.KnownStates.{leads_to_known}
use Rattle.explore_search.proofs.known.leads_back.Goals as goal

pub returns : goal.returns
returns g c = λ yes d.
    let plan = c.args.plan.now in
    let state : State g.row.M.Denot = c.index-as_slice-from.result in
    let here = c.index-as_slice-from.is ∙ ap (λ (states : List (State g.row.M.Denot)). get_or states c.args.from state) c.as_slice.ensures in
    let kept = subst (λ (state : State g.row.M.Denot). IfSome state.machine (IsMachineAt g.M.Machine.has_made g.M.Machine.plan_held plan (made_to plan c.args.done state))) (sym here)
    (c.requires.states c.args.from state c.requires.from).kept in
    let own = subst (λ (machine : Option g.row.M.Denot). IfSome machine (IsMachineAt g.M.Machine.has_made g.M.Machine.plan_held plan (made_to plan c.args.done state)))
    (ap (λ (state : State g.row.M.Denot). state.machine) c.index-as_slice-from.is ∙ c.in-Some.is) kept in
    subst (λ (state : State g.row.M.Denot). Lands g.M.Machine.has_made plan c.args.done c.args.states.now state c.args.landing)
    (get_or_read c.args.states.now c.args.from state c.requires.from here d)
    (leads_to_known g.M.Machine.has_made g.M.Machine.plan_held g.M.Machine.key_of g.met.M.Machine.same_steps plan c.args.done c.args.states.now state c.in-Some.machine c.args.landing c.requires.states own.made
    (c.lands_among.ensures yes))
