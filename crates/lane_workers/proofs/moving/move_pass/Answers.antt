use Rattle.std.proofs.Common.{arith}
use Rattle.lane_workers.specs.Choices.Chosen.{NoMove, OneMore}
use Rattle.lane_workers.proofs.moving.move_pass.Goals as goal

pub loop-made-init : goal.loop-made-init
loop-made-init g c = record {
  made = omega arith;
  lane = cc;
  back_lane = cc;
  entries = cc;
  back_entries = cc;
  tries = omega arith;
  back_tries = omega arith;
  chosen = NoMove c.new-choices.ensures;
}

pub loop-made-preserved : goal.loop-made-preserved
loop-made-preserved g c =
    let before = c.loop-made.invariant in
    let turn = c.move_turn-turn.ensures in
    record {
      made = omega arith;
      lane = cc;
      back_lane = cc;
      entries = cc;
      back_entries = cc;
      tries = omega arith;
      back_tries = omega arith;
      chosen = OneMore turn.chosen.0 before.chosen turn.chosen.1 turn.chosen.2;
    }

pub returns-then-ends_with-clause-chosen : goal.returns-then-ends_with-clause-chosen
returns-then-ends_with-clause-chosen g c =
    let turn = c.move_turn-turn.ensures.chosen in (_, OneMore turn.0 c.loop-made.invariant.chosen turn.1 turn.2)
