use Rattle.std.proofs.Common.{◌≡◌, []}
use Rattle.std.specs.List.{flat_map, range_with_len}
use Rattle.traffic_plan.specs.Load.{frames_given, lines_of_frame, load_of}
use Rattle.cluster_core.specs.PlanSteps.{HasKept}
use Rattle.replay_command.specs.Replays.{with_blocked}
use Rattle.replay_command.proofs.load.count_blocked.Given as goal

abbrev pub invariant-loop : goal.invariant-loop
invariant-loop l = record {
  load : l.load ≡ frames_given l.seed l.counter;
  kept : HasKept with_blocked (load_of l.seed l.frames) [] (flat_map (lines_of_frame l.seed) (range_with_len 0 l.counter)) l.cluster 0 l.blocked;
}
