use Rattle.std.proofs.Common.{◌≡◌, ◌+◌, ◌-◌, ◌*◌, ◌≤◌, min, map, sum}
use Rattle.lane_model.specs.Lane.{chunks_in, count_from}
use Rattle.plan_numbers.proofs.writes.posts_in.Given as goal

abbrev pub invariant-loop-piece : goal.invariant-loop-piece
invariant-loop-piece l = record {
  counted : l.posts ≡ sum (map (λ k. chunks_in (min l.largest (l.len - l.largest * k)) + 4) (count_from 0 l.piece));
  few : l.posts ≤ 516 * l.piece;
}
