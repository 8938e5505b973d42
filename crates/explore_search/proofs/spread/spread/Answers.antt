use Rattle.std.proofs.Common.{◌∙◌, List, arith, ap, get_or, length, subst, sym}
use Rattle.std.proofs.lemmas.List.{get_or_read}
use Rattle.step_kinds.specs.declared.names.Side.TheVariants.{A}
use Rattle.explore_model.specs.declared.outcome.Landing.{Landing}
use Rattle.explore_search.specs.Spread.{IsNext}
use Rattle.explore_search.specs.States.{IsMachineAt, IsSpareOf, made_to}
use Rattle.explore_search.specs.declared.states.State.{State}
use Rattle.explore_search.proofs.Candidates.{all_tried}
use Rattle.explore_search.proofs.StatesAdded.{grown_more, grown_same, no_fewer, stands_still}
use Rattle.explore_search.proofs.TriedStates.{led_more, spread_by_tried}
use Rattle.explore_search.proofs.spread.spread.Goals as goal

no_landing : Landing
no_landing = record { at = 0; pair = 0; side = A; place = 0 }

pub land-requires-clause-states : goal.land-requires-clause-states
land-requires-clause-states g c = c.loop-landing.invariant.grown.each c.requires.states

pub land-requires-clause-from : goal.land-requires-clause-from
land-requires-clause-from g c =
    let more = no_fewer g.M.Machine.has_made g.M.Machine.plan_held g.M.Machine.key_of c.args.plan.now c.args.done c.args.states.now c.loop-landing.states c.loop-landing.invariant.grown in
    omega (arith, c.requires.from)

pub land-requires-clause-spare : goal.land-requires-clause-spare
land-requires-clause-spare g c =
    λ d.
    subst (λ (state : State g.row.M.Denot). IsSpareOf g.M.Machine.has_made g.M.Machine.plan_held c.args.plan.now c.args.done c.loop-landing.spare state)
    (sym (stands_still g.M.Machine.has_made g.M.Machine.plan_held g.M.Machine.key_of c.args.plan.now c.args.done c.args.states.now c.loop-landing.states c.args.from d c.loop-landing.invariant.grown c.requires.from))
    (c.loop-landing.invariant.spare d)

pub land-requires-clause-landing : goal.land-requires-clause-landing
unfolding no_landing
land-requires-clause-landing g c =
    let plan = c.args.plan.now in
    let state : State g.row.M.Denot = c.index-as_slice-from.result in
    let tried = all_tried g.M.Machine.has_made plan c.args.done c.in_ok-machine.machine g.met.M.Machine.same_steps state c.in_ok-landings.landings.items c.in_ok-machine.ensures.made c.in_ok-landings.ensures in
    let size = ap length c.deref-landing-items.ensures.value in
    subst (λ (landings : _). IsNext plan c.args.done (get_or landings c.loop-landing.landing-index no_landing)) (sym c.deref-landing-items.ensures.value)
    (tried.each c.loop-landing.landing-index no_landing (omega arith))

pub loop-landing-init : goal.loop-landing-init
loop-landing-init g c =
    let state : State g.row.M.Denot = c.index-as_slice-from.result in
    let here = c.index-as_slice-from.is ∙ ap (λ (states : List (State g.row.M.Denot)). get_or states c.args.from state) c.as_slice.ensures in
    record {
      grown = grown_same g.M.Machine.has_made g.M.Machine.plan_held g.M.Machine.key_of c.args.plan.now c.args.done c.args.states.now;
      led = λ k d state below. absurd (omega arith);
      spare = λ d.
          subst (λ (state : State g.row.M.Denot). IsMachineAt g.M.Machine.has_made g.M.Machine.plan_held c.args.plan.now (made_to c.args.plan.now c.args.done state) c.in_ok-machine.machine)
          (get_or_read c.args.states.now c.args.from state c.requires.from here d) c.in_ok-machine.ensures;
    }

pub loop-landing-preserved : goal.loop-landing-preserved
unfolding no_landing
loop-landing-preserved g c = record {
  grown =
      grown_more g.M.Machine.has_made g.M.Machine.plan_held g.M.Machine.key_of c.args.plan.now c.args.done c.args.states.now c.loop-landing.states c.land.new.states
      c.loop-landing.invariant.grown c.in_ok-spare.ensures.grown;
  led =
      led_more g.M.Machine.has_made g.M.Machine.plan_held g.M.Machine.key_of c.args.plan.now c.args.done c.args.states.now c.loop-landing.states c.land.new.states
      c.args.from c.deref-landing-items.result.now c.loop-landing.landing-index no_landing c.requires.from (omega arith) c.loop-landing.invariant.grown c.in_ok-spare.ensures.grown
      c.loop-landing.invariant.led c.in_ok-spare.ensures.lands;
  spare = λ d.
      subst (λ (state : State g.row.M.Denot). IsSpareOf g.M.Machine.has_made g.M.Machine.plan_held c.args.plan.now c.args.done c.in_ok-spare.spare state)
      (stands_still g.M.Machine.has_made g.M.Machine.plan_held g.M.Machine.key_of c.args.plan.now c.args.done c.args.states.now c.loop-landing.states c.args.from d c.loop-landing.invariant.grown c.requires.from)
      (c.in_ok-spare.ensures.spare d);
}

pub returns : goal.returns
returns g c =
    let plan = c.args.plan.now in
    let state : State g.row.M.Denot = c.index-as_slice-from.result in
    let here = c.index-as_slice-from.is ∙ ap (λ (states : List (State g.row.M.Denot)). get_or states c.args.from state) c.as_slice.ensures in
    let tried = all_tried g.M.Machine.has_made plan c.args.done c.in_ok-machine.machine g.met.M.Machine.same_steps state c.in_ok-landings.landings.items c.in_ok-machine.ensures.made c.in_ok-landings.ensures in
    record {
      grown = c.loop-landing.invariant.grown;
      spread =
          spread_by_tried g.M.Machine.has_made g.M.Machine.plan_held g.M.Machine.key_of plan c.args.done c.args.states.now c.loop-landing.states
          c.args.from state c.deref-landing-items.result.now c.in_ok-landings.landings.items c.loop-landing.landing-index c.requires.from here c.deref-landing-items.ensures.value
          (omega arith) tried c.loop-landing.invariant.led;
    }
