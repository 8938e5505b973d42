use Rattle.std.proofs.Common.{◌∙◌, ℕ, ◌<◌, List, Option, ap, get_or, length, subst, sym}
use Rattle.std.specs.Prelude.{IfSome}
use Rattle.explore_search.specs.declared.states.State.{State}
use Rattle.explore_search.proofs.known.lands_among.Goals as goal

pub returns-in-Some : goal.returns-in-Some
returns-in-Some g c = λ yes.
    let state : State g.row.M.Denot = c.index-as_slice-place.result in
    let here = c.index-as_slice-place.is ∙ ap (λ (states : List (State g.row.M.Denot)). get_or states c.in-Some.place state) c.as_slice.ensures in
    let below = subst (λ (last : Option ℕ). IfSome last (λ place. place < length c.args.states.now)) c.in-Some.is c.loop-last.invariant in
    (c.in-Some.place, state, below, sym here, record { kept = c.in-Some-machine.kept; is = c.in-Some-machine.is; merges = c.lands_as.ensures.merges c.if-lands_as.true })
