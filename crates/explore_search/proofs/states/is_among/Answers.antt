use Rattle.std.proofs.Common.{◌∙◌, ℕ, ◌<◌, List, Option, ap, arith, get_or, length, refl, subst, sym}
use Rattle.std.proofs.lemmas.List.{get_or_default}
use Rattle.std.specs.Prelude.{IfSome}
use Rattle.explore_search.specs.States.{Reaches}
use Rattle.explore_search.specs.declared.states.State.{State}
use Rattle.explore_search.proofs.ChainedStates.{StandsAt, last_within, stands_nowhere, stands_on}
use Rattle.explore_search.proofs.SameStates.{other_key, some_is}
use Rattle.explore_search.proofs.states.is_among.Goals as goal

pub returns-then-branch : goal.returns-then-branch
returns-then-branch g c =
    let state : State g.row.M.Denot = c.index-as_slice-place.result in
    let here = c.index-as_slice-place.is ∙ ap (λ (states : List (State g.row.M.Denot)). get_or states c.in-Some.place state) c.as_slice.ensures in
    let below : c.in-Some.place < length c.args.states.now = subst (λ (last : Option ℕ). IfSome last (λ place. place < length c.args.states.now)) c.in-Some.is c.loop-last.invariant.within in
    λ made has. (
      λ _. some_is g.M.Machine.has_made c.args.plan.now c.args.done c.args.states.now made c.in-Some.place state here below ((c.in_ok-is_state_of.ensures made has).0 c.if-branch.true),
      λ _. refl,
    )

pub loop-last-preserved : goal.loop-last-preserved
loop-last-preserved g c =
    let state : State g.row.M.Denot = c.index-as_slice-place.result in
    let here = c.index-as_slice-place.is ∙ ap (λ (states : List (State g.row.M.Denot)). get_or states c.in-Some.place state) c.as_slice.ensures in
    let below : c.in-Some.place < length c.args.states.now = subst (λ (last : Option ℕ). IfSome last (λ place. place < length c.args.states.now)) c.in-Some.is c.loop-last.invariant.within in
    record {
      within =
          subst (λ (last : Option ℕ). IfSome last (λ place. place < length c.args.states.now)) (ap (λ (state : State g.row.M.Denot). state.before) (sym here))
          (last_within c.args.states.now (get_or c.args.states.now c.in-Some.place state).key.items c.in-Some.place (get_or c.args.states.now c.in-Some.place state).before (omega arith)
          (c.last_with-last.ensures.before c.in-Some.place state below));
      stands = λ made has.
          stands_on c.args.states.now c.args.key.now.items (λ state. Reaches g.M.Machine.has_made c.args.plan.now c.args.done state made) c.in-Some.place state c.last_with-last.ensures.before below here
          (λ k d within differ.
          other_key g.M.Machine.has_made g.M.Machine.plan_held g.M.Machine.key_of g.met.M.Machine.same_keys c.args.plan.now c.args.done (get_or c.args.states.now k d) c.args.machine.now made c.args.key.now.items
          (c.requires.states k d within) has c.requires.key differ)
          (subst (λ (last : Option ℕ). StandsAt c.args.states.now c.args.key.now.items (λ state. Reaches g.M.Machine.has_made c.args.plan.now c.args.done state made) last) c.in-Some.is
          (c.loop-last.invariant.stands made has))
          (λ d reaches.
          let met = subst (λ (state : State g.row.M.Denot). Reaches g.M.Machine.has_made c.args.plan.now c.args.done state made) (get_or_default c.args.states.now c.in-Some.place d state below ∙ sym here) reaches in
          let yes_is = (c.in_ok-is_state_of.ensures made has).1 met in
          cc);
    }

pub returns : goal.returns
returns g c =
    λ made has. (
      λ yes_is. (absurd (cc)),
      λ some.
          absurd
          (stands_nowhere c.args.states.now c.args.key.now.items (λ state. Reaches g.M.Machine.has_made c.args.plan.now c.args.done state made)
          (subst (λ (last : Option ℕ). StandsAt c.args.states.now c.args.key.now.items (λ state. Reaches g.M.Machine.has_made c.args.plan.now c.args.done state made) last) c.in_default.is
          (c.loop-last.invariant.stands made has)) some),
    )
