-- The end stands at its lane's table, and sent a frame for each byte before this one at most.
use Rattle.std.proofs.Common.{◌≡◌, ◌≤◌, length}
use Rattle.examples.proofs.lane_threads.send_all.Given as goal

abbrev pub invariant-loop-byte : goal.invariant-loop-byte
invariant-loop-byte l = record {
  lane : l.end.lane ≡ l.fn.end.lane;
  few : length l.end.part.sent ≤ l.byte-index;
}
