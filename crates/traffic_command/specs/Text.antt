-- The text of a record of streams.
use Rattle.std.specs.Prelude.{ℕ, List, ◌++◌}
use Rattle.std.specs.List.{flat_map}
use Rattle.report_text.specs.Report.{end_line, stream_lines}
use Rattle.step_kinds.specs.declared.plan.PairPlan.{PairPlan}
use Rattle.step_kinds.specs.declared.plan.Plan.{Plan}
use Rattle.cluster_run.specs.stream.Streams.{StreamShown}

abbrev pub lane_lines : List PairPlan → StreamShown → List ℕ
lane_lines pairs lane = stream_lines pairs lane.name lane.items lane.sessions

-- each lane's stream in order, and `end`
abbrev pub streams_text : Plan → List StreamShown → List ℕ
streams_text plan lanes = flat_map (lane_lines plan.pairs) lanes ++ end_line
