-- The lines of the lanes before the index are in the text.
use Rattle.std.proofs.Common.{◌≡◌, ◌++◌, take}
use Rattle.std.specs.List.{flat_map}
use Rattle.cluster_run.specs.stream.Streams.{stream_shown}
use Rattle.traffic_command.specs.Text.{lane_lines}
use Rattle.traffic_command.proofs.text.push_streams.Given as goal

abbrev pub invariant-loop-lane : goal.invariant-loop-lane
invariant-loop-lane l = l.text.items ≡ l.initial.text.items ++ flat_map (λ lane. lane_lines l.pairs (stream_shown lane)) (take l.lane-index l.lanes)
