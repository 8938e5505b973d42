use Rattle.std.proofs.Common.{◌≡◌, ◌≢◌, ◌+◌, ◌-◌, ◌≤◌, ◌++◌, [], length}
use Rattle.lane_workers.specs.Passes.{HaveBytes}
use Rattle.lane_workers.proofs.sending.send_pass.Given as goal

abbrev pub invariant-loop-made : goal.invariant-loop-made
invariant-loop-made g l = record {
  made : l.made ≤ l.turns;
  lane : l.end.lane ≡ l.initial.end.lane;
  entries : l.end.part.entries ≡ l.initial.end.part.entries;
  order : l.end.part.sent ++ l.todo.frames ≡ l.initial.end.part.sent ++ l.initial.todo.frames;
  count : length l.end.part.sent + length l.todo.frames ≡ length l.initial.end.part.sent + length l.initial.todo.frames;
  grows : length l.initial.end.part.sent ≤ length l.end.part.sent;
  bytes : HaveBytes l.todo.frames;
  room : l.todo.spare + length l.todo.frames ≡ l.initial.todo.spare + length l.initial.todo.frames;
  one_each : l.end.part.link_loads ≤ l.initial.end.part.link_loads + l.made;
  tries : l.todo.frames ≢ [] → l.end.part.link_loads ≡ l.initial.end.part.link_loads + l.made;
}

abbrev pub decreases-loop-made : goal.decreases-loop-made
decreases-loop-made g l = l.turns - l.made
