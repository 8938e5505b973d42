use Rattle.std.proofs.Common.{◌≡◌, ◌∙◌, Bool, false, true, List, [], ◌∷◌, ◌++◌, ap, arith, get_or, refl, subst, sym}
use Rattle.std.proofs.lemmas.List.{get_or_read, length-map}
use Rattle.std.proofs.lemmas.List.Elements.{All-push}
use Rattle.std.specs.List.{All}
use Rattle.step_kinds.specs.declared.plan.Line.{Line}
use Rattle.step_kinds.specs.declared.steps.Step.{Step}
use Rattle.ledger_model.specs.Memory.{memory_of}
use Rattle.ledger_model.specs.NetworkLog.{answer_after}
use Rattle.explore_model.specs.Schedules.{is_landed}
use Rattle.explore_model.specs.declared.outcome.Landing.{Landing}
use Rattle.explore_search.specs.Paths.{IsLandingBy, path, search_script_of}
use Rattle.explore_search.specs.Spread.{Lands}
use Rattle.explore_search.specs.States.{IsMachineAt, made_to}
use Rattle.explore_search.specs.declared.states.State.{State}
use Rattle.explore_search.proofs.StatesAdded.{grown_by_landing, grown_same, leads_by_landing, made_by_landing}
use Rattle.explore_search.proofs.LandedAnswers.{landed_is_landed, other_not_landed}
use Rattle.explore_search.proofs.spread.land.Goals as goal

not_true : (b : Bool) → (b ≡ true → ⊥) → b ≡ false
not_true true other = absurd (other refl)
not_true false other = refl

pub returns-in_default : goal.returns-in_default
returns-in_default g c =
    let plan = c.args.plan.now in
    let state : State g.row.M.Denot = c.index-as_slice-from.result in
    let here = c.index-as_slice-from.is ∙ ap (λ (states : List (State g.row.M.Denot)). get_or states c.args.from state) c.as_slice.ensures in
    let other = other_not_landed c.in_ok-answer.answer c.in_default.not-Landed in
    record {
      grown = grown_same g.M.Machine.has_made g.M.Machine.plan_held g.M.Machine.key_of plan c.args.done c.args.states.now;
      lands = λ d.
          subst (λ (state : State g.row.M.Denot). Lands g.M.Machine.has_made plan c.args.done c.args.states.now state c.args.landing)
          (get_or_read c.args.states.now c.args.from state c.requires.from here d)
          (λ made reaches landed.
          let has = g.met.M.Machine.same_steps plan (made_to plan c.args.done state) made reaches.0 c.in_ok-machine.machine reaches.1 c.in_ok-machine.ensures.made reaches.2 in
          absurd (other (ap is_landed (c.in_ok-answer.ensures.answer plan made has ∙ ap (λ (step : Step). answer_after plan (memory_of plan) made step) c.as_step.ensures) ∙ landed)));
      spare = λ d.
          subst (λ (state : State g.row.M.Denot). IsMachineAt g.M.Machine.has_made g.M.Machine.plan_held plan (made_to plan c.args.done state) c.step.new.self)
          (get_or_read c.args.states.now c.args.from state c.requires.from here d)
          (record {
            made =
                c.in_ok-answer.ensures.rests plan (made_to plan c.args.done state) c.in_ok-machine.ensures.made c.args.landing c.as_step.ensures
                (not_true (is_landed c.in_ok-answer.answer) other);
            held = c.in_ok-answer.ensures.plan ∙ c.in_ok-machine.ensures.held;
          });
    }

pub join-requires-clause-landings : goal.join-requires-clause-landings
join-requires-clause-landings g c =
    let state : State g.row.M.Denot = c.index-as_slice-from-2.result in
    let here = c.index-as_slice-from-2.is ∙ ap (λ (states : List (State g.row.M.Denot)). get_or states c.args.from state) c.as_slice-2.ensures in
    let at = c.requires.landing.at in
    subst (λ (landings : List Landing). All (IsLandingBy c.args.plan.now c.args.done) landings)
    (sym (c.in_ok-landings.ensures ∙ ap (λ (landings : List Landing). landings ++ c.args.landing ∷ []) (c.deref.ensures.value ∙ ap (λ (state : State g.row.M.Denot). state.landings.items) (sym c.index-as_slice-from-2.is))))
    (All-push (IsLandingBy c.args.plan.now c.args.done) state.landings.items c.args.landing
    (subst (λ (state : State g.row.M.Denot). All (IsLandingBy c.args.plan.now c.args.done) state.landings.items) (sym here) (c.requires.states c.args.from state c.requires.from).landings)
    (record { may = c.requires.landing.may; at = omega arith }))

pub join-requires-clause-machine : goal.join-requires-clause-machine
join-requires-clause-machine g c =
    let plan = c.args.plan.now in
    let first : State g.row.M.Denot = c.index-as_slice-from.result in
    let here = c.index-as_slice-from.is ∙ ap (λ (states : List (State g.row.M.Denot)). get_or states c.args.from first) c.as_slice.ensures in
    let state : State g.row.M.Denot = c.index-as_slice-from-2.result in
    let again = c.index-as_slice-from-2.is ∙ ap (λ (states : List (State g.row.M.Denot)). get_or states c.args.from state) c.as_slice-2.ensures in
    let same = get_or_read c.args.states.now c.args.from first c.requires.from here state ∙ sym again in
    let landings : List Landing = state.landings.items in
    let copied = c.deref.ensures.value ∙ ap (λ (state : State g.row.M.Denot). state.landings.items) (sym c.index-as_slice-from-2.is) in
    record {
      made =
          made_by_landing g.M.Machine.has_made g.M.Machine.plan_held g.M.Machine.key_of plan c.args.done c.step.new.self landings c.in_ok-landings.landings.items c.args.landing c.as_step.result
          (c.in_ok-answer.ensures.made plan (path (search_script_of plan) landings c.args.done)
          (subst (λ (state : State g.row.M.Denot). g.M.Machine.has_made c.in_ok-machine.machine plan (made_to plan c.args.done state)) same c.in_ok-machine.ensures.made))
          c.as_step.ensures c.requires.landing.at (c.in_ok-landings.ensures ∙ ap (λ (landings : List Landing). landings ++ c.args.landing ∷ []) copied);
      held = c.in_ok-answer.ensures.plan ∙ c.in_ok-machine.ensures.held;
    }

pub returns-clause-grown : goal.returns-clause-grown
returns-clause-grown g c =
    let plan = c.args.plan.now in
    let first : State g.row.M.Denot = c.index-as_slice-from.result in
    let here = c.index-as_slice-from.is ∙ ap (λ (states : List (State g.row.M.Denot)). get_or states c.args.from first) c.as_slice.ensures in
    let state : State g.row.M.Denot = c.index-as_slice-from-2.result in
    let again = c.index-as_slice-from-2.is ∙ ap (λ (states : List (State g.row.M.Denot)). get_or states c.args.from state) c.as_slice-2.ensures in
    let same = get_or_read c.args.states.now c.args.from first c.requires.from here state ∙ sym again in
    let at = subst (λ (state : State g.row.M.Denot). g.M.Machine.has_made c.in_ok-machine.machine plan (made_to plan c.args.done state)) same c.in_ok-machine.ensures.made in
    let copied = c.deref.ensures.value ∙ ap (λ (state : State g.row.M.Denot). state.landings.items) (sym c.index-as_slice-from-2.is) in
    let size = length-map plan.steps (λ (line : Line). line.step) in
    grown_by_landing g.M.Machine.has_made g.M.Machine.plan_held g.M.Machine.key_of plan c.args.done c.args.states.now c.join.new.states c.args.from state c.args.landing c.in_ok-landings.landings.items
    c.requires.from again (omega arith) c.requires.landing (c.in_ok-landings.ensures ∙ ap (λ (landings : List Landing). landings ++ c.args.landing ∷ []) copied)
    (ap is_landed (ap (λ (step : Step). answer_after plan (memory_of plan) (made_to plan c.args.done state) step) (sym c.as_step.ensures) ∙ sym (c.in_ok-answer.ensures.answer plan (made_to plan c.args.done state) at))
    ∙ landed_is_landed c.in_ok-answer.answer c.in-Landed.label c.in-Landed.is)
    c.in_ok-join.ensures

pub returns-clause-lands : goal.returns-clause-lands
returns-clause-lands g c =
    λ d.
    let plan = c.args.plan.now in
    let first : State g.row.M.Denot = c.index-as_slice-from.result in
    let here = c.index-as_slice-from.is ∙ ap (λ (states : List (State g.row.M.Denot)). get_or states c.args.from first) c.as_slice.ensures in
    let state : State g.row.M.Denot = c.index-as_slice-from-2.result in
    let again = c.index-as_slice-from-2.is ∙ ap (λ (states : List (State g.row.M.Denot)). get_or states c.args.from state) c.as_slice-2.ensures in
    let same = get_or_read c.args.states.now c.args.from first c.requires.from here state ∙ sym again in
    let at = subst (λ (state : State g.row.M.Denot). g.M.Machine.has_made c.in_ok-machine.machine plan (made_to plan c.args.done state)) same c.in_ok-machine.ensures.made in
    let copied = c.deref.ensures.value ∙ ap (λ (state : State g.row.M.Denot). state.landings.items) (sym c.index-as_slice-from-2.is) in
    subst (λ (state : State g.row.M.Denot). Lands g.M.Machine.has_made plan c.args.done c.join.new.states state c.args.landing)
    (get_or_read c.args.states.now c.args.from state c.requires.from again d)
    (leads_by_landing g.M.Machine.has_made g.M.Machine.plan_held g.M.Machine.key_of plan c.args.done g.met.M.Machine.same_steps c.args.states.now c.join.new.states state c.args.landing c.in_ok-landings.landings.items
    c.in_ok-machine.machine c.step.new.self c.as_step.result at (λ made has. c.in_ok-answer.ensures.made plan made has) c.as_step.ensures
    (made_by_landing g.M.Machine.has_made g.M.Machine.plan_held g.M.Machine.key_of plan c.args.done c.step.new.self state.landings.items c.in_ok-landings.landings.items c.args.landing c.as_step.result
    (c.in_ok-answer.ensures.made plan (path (search_script_of plan) state.landings.items c.args.done) at)
    c.as_step.ensures c.requires.landing.at (c.in_ok-landings.ensures ∙ ap (λ (landings : List Landing). landings ++ c.args.landing ∷ []) copied))
    c.in_ok-join.ensures)
