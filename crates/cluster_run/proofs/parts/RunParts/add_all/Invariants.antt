use Rattle.std.proofs.Common.{List, ◌++◌, map}
use Rattle.step_kinds.specs.Runs.{lane_shown}
use Rattle.cluster_run.specs.LaneKeys.{LaneKey, ComesTo, ComeTo, keys_of}
use Rattle.cluster_run.proofs.parts.RunParts.add_all.Given as goal

abbrev pub invariant-loop-work : goal.invariant-loop-work
invariant-loop-work l =
    (keys : List LaneKey) → ComeTo ComesTo keys (map lane_shown l.fn.self.lanes.items) l.fn.self.proofs.items
    → ComeTo ComesTo (keys ++ keys_of l.yielded) (map lane_shown l.self.lanes.items) l.self.proofs.items
