use Rattle.std.proofs.Common.{◌∙◌, ◌++◌, ℕ, List, ap, subst, sym}
use Rattle.std.proofs.lemmas.Option.{IfSome_then}
use Rattle.std.proofs.lemmas.Result.{on_ok_weaker}
use Rattle.explore_search.specs.Paths.{path, search_script_of}
use Rattle.explore_search.specs.States.{IsMachineAt, found}
use Rattle.explore_search.proofs.SameStates.{state_by}
use Rattle.explore_search.proofs.StatesAdded.{added_last}
use Rattle.explore_search.proofs.states.join.Goals as goal

pub returns-then-branch : goal.returns-then-branch
returns-then-branch g c =
    found ((c.in_ok-is_among.ensures (path (search_script_of c.args.plan.now) c.args.landings.items c.args.done) c.requires.machine.made).0 c.if-branch.true)

pub returns : goal.returns
returns g c =
    let plan = c.args.plan.now in
    let made = path (search_script_of plan) c.args.landings.items c.args.done in
    on_ok_weaker c.push.result
    (λ pushed.
    added_last g.M.Machine.has_made g.M.Machine.plan_held g.M.Machine.key_of plan c.args.done c.args.landings.items c.args.states.now c.push.new.self pushed.state pushed.is
    (state_by g.M.Machine.has_made g.M.Machine.plan_held g.M.Machine.key_of plan c.args.done pushed.state c.args.landings.items c.push_key.new.key.items c.kept-machine.result
    pushed.landings_are pushed.key_is pushed.machine_is c.requires.landings
    (λ machine has.
    g.met.M.Machine.same_keys plan made machine c.args.machine has c.requires.machine.made ∙ sym (c.in_ok-push_key.ensures ∙ ap (λ (key : List ℕ). key ++ g.M.Machine.key_of c.args.machine) c.in_ok-key.ensures.items))
    (IfSome_then c.kept-machine.result c.kept-machine.ensures
    (λ machine same. subst (λ (machine : g.row.M.Denot). IsMachineAt g.M.Machine.has_made g.M.Machine.plan_held plan made machine) (sym same) c.requires.machine)))
    pushed.landings_are
    (λ covers. let covered = (c.in_ok-is_among.ensures made c.requires.machine.made).1 covers in cc))
    c.push.ensures.ok
