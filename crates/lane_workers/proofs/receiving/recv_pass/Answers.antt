use Rattle.std.proofs.Common.{arith}
use Rattle.lane_workers.proofs.LaterFrames.{is_later, got_later}
use Rattle.lane_workers.proofs.receiving.recv_pass.Goals as goal

pub loop-made-preserved : goal.loop-made-preserved
loop-made-preserved g c =
    let before = c.loop-made.invariant in
    let turn = c.recv_turn-turn.ensures in
    record {
      made = omega arith;
      lane = cc;
      entries = cc;
      kept = (is_later _ _ _ before.kept turn.kept).begins;
      got = got_later _ _ _ _ _ _ before.kept turn.kept before.got turn.got;
      room = cc;
      left = omega arith;
      tries = omega arith;
      idle = λ some. turn.idle;
    }

pub returns-after-loop-made-clause-idle : goal.returns-after-loop-made-clause-idle
returns-after-loop-made-clause-idle g c = c.loop-made.invariant.idle (omega arith)

pub returns-then-ends_with-clause-kept : goal.returns-then-ends_with-clause-kept
returns-then-ends_with-clause-kept g c = (is_later _ _ _ c.loop-made.invariant.kept c.recv_turn-turn.ensures.kept).begins

pub returns-then-ends_with-clause-got : goal.returns-then-ends_with-clause-got
returns-then-ends_with-clause-got g c = got_later _ _ _ _ _ _ c.loop-made.invariant.kept c.recv_turn-turn.ensures.kept c.loop-made.invariant.got c.recv_turn-turn.ensures.got
