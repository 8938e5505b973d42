use Rattle.std.proofs.Common.{◌∙◌, List, ap, get_or, subst}
use Rattle.std.proofs.lemmas.Result.{on_ok_weaker}
use Rattle.report_text.specs.Texts.{answer_text}
use Rattle.explore_model.specs.declared.outcome.Landing.{Landing}
use Rattle.explore_search.specs.Paths.{path, search_script_of}
use Rattle.explore_search.specs.States.{IsMachineAt}
use Rattle.explore_search.proofs.NextStates.{made_by_step, step_of_line, stepped}
use Rattle.explore_search.proofs.layers.step_state.Goals as goal

pub place_in-requires-clause-machine : goal.place_in-requires-clause-machine
place_in-requires-clause-machine g c =
    let plan = c.args.plan.now in
    let landings : List Landing = c.args.state.landings.items in
    let at : IsMachineAt g.M.Machine.has_made g.M.Machine.plan_held plan (path (search_script_of plan) landings c.args.done) c.in_ok-machine.machine =
    subst (λ (landings : List Landing). IsMachineAt g.M.Machine.has_made g.M.Machine.plan_held plan (path (search_script_of plan) landings c.args.done) c.in_ok-machine.machine) c.deref.ensures.value c.in_ok-machine.ensures in
    record {
      made =
          made_by_step g.M.Machine.has_made g.M.Machine.plan_held g.M.Machine.key_of plan c.args.done c.step.new.self landings (get_or c.as_slice.result.now c.args.done c.index-as_slice-done.result).step c.requires.state.landings c.requires.done
          (step_of_line plan c.as_slice.result.now c.args.done c.index-as_slice-done.result c.as_slice.ensures c.requires.done)
          (c.in_ok-answer.ensures.made plan (path (search_script_of plan) landings c.args.done) at.made);
      held = c.in_ok-answer.ensures.plan ∙ at.held;
    }

pub returns : goal.returns
returns g c =
    let plan = c.args.plan.now in
    let landings : List Landing = c.args.state.landings.items in
    let at : IsMachineAt g.M.Machine.has_made g.M.Machine.plan_held plan (path (search_script_of plan) landings c.args.done) c.in_ok-machine.machine =
    subst (λ (landings : List Landing). IsMachineAt g.M.Machine.has_made g.M.Machine.plan_held plan (path (search_script_of plan) landings c.args.done) c.in_ok-machine.machine) c.deref.ensures.value c.in_ok-machine.ensures in
    on_ok_weaker c.place_in.result
    (λ placed.
    stepped g.M.Machine.has_made g.M.Machine.plan_held g.M.Machine.key_of plan c.args.done g.met.M.Machine.same_steps c.args.state c.args.branches.now.items c.place_in.new.branches.items
    c.in_ok-machine.machine c.step.new.self (get_or c.as_slice.result.now c.args.done c.index-as_slice-done.result).step c.of_vec-text.result c.requires.state.landings c.requires.done
    (step_of_line plan c.as_slice.result.now c.args.done c.index-as_slice-done.result c.as_slice.ensures c.requires.done) at.made
    (λ made has. c.in_ok-answer.ensures.made plan made has)
    (λ made has. c.of_vec-text.ensures ∙ c.in_ok-text_of.ensures ∙ ap answer_text (c.in_ok-answer.ensures.answer plan made has))
    placed)
    c.place_in.ensures
