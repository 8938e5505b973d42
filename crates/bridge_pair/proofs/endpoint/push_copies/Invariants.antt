use Rattle.std.proofs.Common.{◌≡◌, ◌+◌, length, take}
use Rattle.bridge_pair.proofs.endpoint.push_copies.Given as goal

abbrev pub invariant-loop-place : goal.invariant-loop-place
invariant-loop-place l = record {
  writes : l.copied.writes ≡ take l.place l.queue.writes;
  spare : l.copied.spare + l.place ≡ length l.queue.writes + l.queue.spare;
}
