use Rattle.std.proofs.Common.{◌≡◌, ◌+◌, ◌-◌, ◌%◌, ◌^◌, ◌≤◌}
use Rattle.table_lane.specs.Tries.{tries}
use Rattle.lane_workers.specs.Choices.{Chosen}
use Rattle.lane_workers.proofs.moving.move_pass.Given as goal

abbrev pub invariant-loop-made : goal.invariant-loop-made
invariant-loop-made g l = record {
  made : l.made ≤ l.turns;
  lane : l.mover.lane ≡ l.initial.mover.lane;
  back_lane : l.back.lane ≡ l.initial.back.lane;
  entries : l.mover.part.entries ≡ l.initial.mover.part.entries;
  back_entries : l.back.part.entries ≡ l.initial.back.part.entries;
  tries : tries l.initial.mover.part + l.made ≤ tries l.mover.part;
  back_tries : l.back.part.loads ≡ l.initial.back.part.loads + l.made;
  chosen : Chosen ((l.fn.choices + l.fn.first) % 2 ^ 64) l.initial.mover.part l.made l.choices l.mover.part;
}

abbrev pub decreases-loop-made : goal.decreases-loop-made
decreases-loop-made g l = l.turns - l.made
