use Rattle.std.proofs.Common.{◌≡◌, ◌*◌}
use Rattle.std.specs.List.{flat_map, range_with_len}
use Rattle.traffic_plan.specs.Load.{lines_of_frame, state_after}
use Rattle.traffic_plan.proofs.load.load_lines.Given as goal

abbrev pub invariant-loop-k : goal.invariant-loop-k
invariant-loop-k l = record {
  words : l.words ≡ state_after l.seed (2 * l.k);
  steps : l.steps ≡ flat_map (lines_of_frame l.seed) (range_with_len 0 l.k);
}
