use Rattle.std.proofs.Common.{◌≡◌, Ok, rules, subst}
use Rattle.step_kinds.specs.declared.names.LaneName.{LaneName}
use Rattle.script_words.specs.Before.{MoreTraffic}
use Rattle.script_words.specs.Compact.{flood_of}
use Rattle.script_words.specs.Tests.{and_then}
use Rattle.script_words.specs.TrafficLines.{script_lane_of, traffic_within}
use Rattle.script_plan.proofs.Facade.{flood_frames, flood_bytes}
use Rattle.script_text.proofs.traffic_lines.flood_line.Goals as goal

pub returns-in_err-test_lane : goal.returns-in_err-test_lane
unfolding and_then
returns-in_err-test_lane c =
    let lane : LaneName = script_lane_of c.in_ok-name.name in
    let count = c.in_ok-count.count in
    let len = c.in_ok-len.len in
    let e = c.in_err-test_lane.ensures.value (flood_of lane count len) (flood_frames lane count len) (flood_bytes lane count len) in
    search rules

pub returns : goal.returns
unfolding and_then
returns c =
    let lane : LaneName = c.lane_of-lane.result in
    let count = c.in_ok-count.count in
    let len = c.in_ok-len.len in
    let e = c.in_ok-test_lane.ensures.value (flood_of lane count len) (flood_frames lane count len) (flood_bytes lane count len) in
    rw (← c.in_ok-name.ensures.value, ← c.in_ok-count.ensures, ← c.in_ok-len.ensures)
    (subst (λ (l : LaneName). Ok (MoreTraffic (flood_of lane count len)) ≡ traffic_within c.args.before.now l len (flood_of l count len)) c.lane_of-lane.ensures e)
