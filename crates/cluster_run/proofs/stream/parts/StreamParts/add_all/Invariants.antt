use Rattle.std.proofs.Common.{List, ◌++◌, map}
use Rattle.cluster_run.specs.LaneKeys.{LaneKey, ComeTo, keys_of}
use Rattle.cluster_run.specs.stream.Keys.{StreamComesTo}
use Rattle.cluster_run.specs.stream.Streams.{stream_shown}
use Rattle.cluster_run.proofs.stream.parts.StreamParts.add_all.Given as goal

abbrev pub invariant-loop-work : goal.invariant-loop-work
invariant-loop-work l =
    (keys : List LaneKey) → ComeTo StreamComesTo keys (map stream_shown l.fn.self.lanes.items) l.fn.self.proofs.items
    → ComeTo StreamComesTo (keys ++ keys_of l.yielded) (map stream_shown l.self.lanes.items) l.self.proofs.items
