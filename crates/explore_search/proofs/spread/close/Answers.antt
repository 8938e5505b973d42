use Rattle.std.proofs.Common.{◌<◌, arith, length}
use Rattle.std.proofs.lemmas.Bool.{leb-true}
use Rattle.explore_search.proofs.StatesAdded.{grown_more, no_fewer}
use Rattle.explore_search.proofs.TriedStates.{spread_more}
use Rattle.explore_search.proofs.spread.close.Goals as goal
use Rattle.explore_search.proofs.spread.close.Goals.{then-loop-from-test+else-len-room, else-loop-from-test}

pub loop-from-preserved : goal.loop-from-preserved
loop-from-preserved g c =
    let more = no_fewer g.M.Machine.has_made g.M.Machine.plan_held g.M.Machine.key_of c.args.plan.now c.args.done c.loop-from.states c.spread.new.states c.in_ok-spread.ensures.grown in
    let below : c.loop-from.from < length c.loop-from.states = omega (arith, c.len.ensures) in
    record {
      within = omega arith;
      grown =
          grown_more g.M.Machine.has_made g.M.Machine.plan_held g.M.Machine.key_of c.args.plan.now c.args.done c.args.states.now c.loop-from.states c.spread.new.states
          c.loop-from.invariant.grown c.in_ok-spread.ensures.grown;
      spread =
          spread_more g.M.Machine.has_made g.M.Machine.plan_held g.M.Machine.key_of c.args.plan.now c.args.done c.loop-from.states c.spread.new.states c.loop-from.from below
          c.in_ok-spread.ensures.grown c.loop-from.invariant.spread c.in_ok-spread.ensures.spread;
    }

pub returns-clause-closed : goal.returns-clause-closed
returns-clause-closed g c =
    λ yes k d below.
    let fits = leb-true c.len-2.result c.args.room yes in
    c.loop-from.invariant.spread k d
    (elim c.loop-from-test.branch [
      | then-loop-from-test+else-len-room w ↦ absurd (omega (arith, w.if-len-room.false, w.len-in-loop-from.ensures, c.len-2.ensures))
      | else-loop-from-test w ↦ omega (arith, w.loop-from-test.false, c.len.ensures)
    ])
