use Rattle.std.proofs.Common.{◌≡◌, ◌++◌, drop, map, take}
use Rattle.bridge_pair.specs.Bridge.{flight_of}
use Rattle.fabric_core.specs.Parts.{HasOtherRoom, all_unused}
use Rattle.fabric_core.proofs.pairs.forget_all.Given as goal
use Rattle.fabric_rule.specs.Moves.{forgotten_queue}

abbrev pub invariant-loop-number : goal.invariant-loop-number
invariant-loop-number l = record {
  items : l.queues.items ≡ map forgotten_queue (take l.number l.fn.queues.items) ++ drop l.number l.fn.queues.items;
  bridge : HasOtherRoom l.fn.pair l.fn.side l.pair;
  room : (flight_of l.pair l.fn.side).spare ≡ all_unused (drop l.number l.fn.queues.items);
}
