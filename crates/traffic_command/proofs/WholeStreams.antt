-- A record that is resumed has the whole traffic of each lane.
use Rattle.std.proofs.Common.{◌≡◌, List, [], ◌∷◌, ◌++◌, map, refl, ◌∙◌, ap}
use Rattle.std.specs.List.{flat_map}
use Rattle.step_kinds.specs.declared.plan.Line.{Line}
use Rattle.step_kinds.specs.declared.plan.PairPlan.{PairPlan}
use Rattle.step_kinds.specs.declared.plan.Plan.{Plan}
use Rattle.table_lane.specs.EndOfLane.{Shown}
use Rattle.cluster_run.specs.Lanes.{traffic_lanes}
use Rattle.cluster_run.specs.stream.Streams.{AreResumed, AreStreams, IsStream, StreamShown, stream_shown}
use Rattle.cluster_run.specs.declared.stream.record.StreamRun.{StreamRun}
use Rattle.traffic_command.specs.Answers.{stream_on}
use Rattle.traffic_command.specs.Text.{lane_lines}

one_whole : (plan : Plan) (lane : StreamShown) (proofs : List Shown) → IsStream plan lane proofs → lane ≡ stream_on plan lane.name
one_whole plan lane proofs is =
    ap (λ items. record { name = lane.name; items = items; sessions = lane.sessions }) is.resumed.whole
    ∙ ap (λ sessions. record { name = lane.name; items = (stream_on plan lane.name).items; sessions = sessions }) is.losses

each_whole : (plan : Plan) (streams : List StreamShown) (proofs : List Shown) → AreStreams plan streams proofs → streams ≡ map (stream_on plan) (map (λ (lane : StreamShown). lane.name) streams)
each_whole plan [] proofs are = refl
each_whole plan (lane ∷ lanes) proofs are =
    ap (λ (l : StreamShown). l ∷ lanes) (one_whole plan lane are.0 are.3) ∙ ap (λ (rest : List StreamShown). stream_on plan lane.name ∷ rest) (each_whole plan lanes are.1 are.4)

-- A resumed record of streams has just the lanes with traffic, in order, each with the lane's whole traffic.
pub whole : (plan : Plan) (streams : List StreamShown) (proofs : List Shown) → AreResumed plan streams proofs → streams ≡ map (stream_on plan) (traffic_lanes plan)
whole plan streams proofs are = each_whole plan streams proofs are.each ∙ ap (map (stream_on plan)) are.lanes

-- a plan's streams are also those of the plan with other steps
stream_on_steps : (plan : Plan) (steps : List Line) (lane : StreamShown) (proofs : List Shown) → IsStream plan lane proofs → IsStream (record plan { steps = steps }) lane proofs
stream_on_steps plan steps lane proofs is =
    record {
      sessions = is.sessions;
      counted = is.counted;
      losses = is.losses;
      shown = is.shown;
      in_order = is.in_order;
      resumed = is.resumed;
    }

streams_on_steps : (plan : Plan) (steps : List Line) (streams : List StreamShown) (proofs : List Shown) → AreStreams plan streams proofs → AreStreams (record plan { steps = steps }) streams proofs
streams_on_steps plan steps [] proofs are = are
streams_on_steps plan steps (lane ∷ lanes) proofs are =
    (are.0, are.1, are.2, stream_on_steps plan steps lane are.0 are.3, streams_on_steps plan steps lanes are.1 are.4)

-- Proofs that make a record of streams resumed do so for the plan with any other steps too.
pub resumed_on_steps : (plan : Plan) (steps : List Line) (streams : List StreamShown) (proofs : List Shown) → AreResumed plan streams proofs → AreResumed (record plan { steps = steps }) streams proofs
resumed_on_steps plan steps streams proofs are = record { lanes = are.lanes; each = streams_on_steps plan steps streams proofs are.each }

-- the lines of the lanes of a record are those of what it shows
pub lines_shown : (pairs : List PairPlan) (lanes : List StreamRun) → flat_map (lane_lines pairs) (map stream_shown lanes) ≡ flat_map (λ (lane : StreamRun). lane_lines pairs (stream_shown lane)) lanes
lines_shown pairs [] = refl
lines_shown pairs (lane ∷ lanes) = ap (λ (rest : List _). lane_lines pairs (stream_shown lane) ++ rest) (lines_shown pairs lanes)
