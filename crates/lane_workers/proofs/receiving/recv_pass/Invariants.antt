use Rattle.std.proofs.Common.{◌≡◌, ◌+◌, ◌-◌, ◌≤◌, ◌++◌, length, take, drop}
use Rattle.table_lane.specs.LaneNames.{Idle}
use Rattle.lane_workers.proofs.receiving.recv_pass.Given as goal

abbrev pub invariant-loop-made : goal.invariant-loop-made
invariant-loop-made g l = record {
  made : l.made ≤ l.turns;
  lane : l.end.lane ≡ l.initial.end.lane;
  entries : l.end.part.entries ≡ l.initial.end.part.entries;
  kept : take (length l.initial.end.part.got) l.end.part.got ≡ l.initial.end.part.got;
  got : l.got.frames ≡ l.initial.got.frames ++ drop (length l.initial.end.part.got) l.end.part.got;
  room : l.got.spare + length l.got.frames ≡ l.initial.got.spare + length l.initial.got.frames;
  left : l.turns ≤ l.got.spare + l.made;
  tries : l.end.part.loads ≡ l.initial.end.part.loads + l.made;
  idle : 1 ≤ l.made → l.end.part.phase ≡ Idle;
}

abbrev pub decreases-loop-made : goal.decreases-loop-made
decreases-loop-made g l = l.turns - l.made
