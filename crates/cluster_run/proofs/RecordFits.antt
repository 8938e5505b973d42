-- The record of lanes that come to their keys fits the plan, and their proofs show it.
use Rattle.std.proofs.Common.{◌≡◌, ℕ, zero, suc, ◌+◌, ◌*◌, ◌≤◌, Bool, true, false, cond, Result, Ok, Err, IfOk, List, [], ◌∷◌, ◌++◌, length, map, filter, drop, slice_index_or, refl, sym, ◌∙◌, ap, arith, length-append}
use Rattle.std.proofs.lemmas.List.{length-map}
use Rattle.std.proofs.lemmas.List.Elements.{All-cons, All-nil}
use Rattle.std.specs.List.{All, flat_map, range_with_len}
use Rattle.step_kinds.specs.Runs.{LaneShown}
use Rattle.step_kinds.specs.declared.names.LaneName.{LaneName}
use Rattle.step_kinds.specs.declared.plan.Plan.{Plan}
use Rattle.table_lane.specs.EndOfLane.{Shown}
use Rattle.traffic_plan.specs.Lanes.{frames_on}
use Rattle.cluster_run.specs.Lanes.{CanRun, lanes_of, lanes_in, has_traffic, traffic_lanes, entries_on, losses_on}
use Rattle.cluster_run.specs.Runs.{FitsLane, IsFit, IsRunShown, lane_proofs}
use Rattle.cluster_run.specs.LaneKeys.{LaneKey, key_of, keys_from, ComesTo, ComeTo}
use Rattle.cluster_run.specs.ByLane.{LaneFrames, lane_frames, lane_frames_of, by_lane, has_frame, keys_with, keys_with_frames, AreOfTraffic}
use Rattle.cluster_run.proofs.RunSoFar.{all_keys, names_of}
use Rattle.cluster_run.proofs.TrafficLanes.{few_waiting}
use Rattle.cluster_run.specs.declared.by_lane.LaneTraffic.{LaneTraffic}

-- each lane of the sorted traffic has its frames
each_of_traffic : (plan : Plan) (lanes : List LaneTraffic) (names : List LaneName) → map lane_frames lanes ≡ map (lane_frames_of plan.traffic) names → AreOfTraffic plan lanes
each_of_traffic plan [] names same = All-nil (λ (lane : LaneTraffic). lane.frames.frames ≡ frames_on lane.name plan.traffic)
each_of_traffic plan (lane ∷ lanes) [] same = absurd (let many = ap length same in omega (arith, many))
each_of_traffic plan (lane ∷ lanes) (name ∷ names) same =
    let first : lane_frames lane ≡ lane_frames_of plan.traffic name = ap (λ (all : List LaneFrames). slice_index_or all 0 (lane_frames lane)) same in
    let rest : map lane_frames lanes ≡ map (lane_frames_of plan.traffic) names = ap (λ (all : List LaneFrames). drop 1 all) same in
    All-cons (λ (lane : LaneTraffic). lane.frames.frames ≡ frames_on lane.name plan.traffic) lane lanes
    (ap (λ (l : LaneFrames). l.frames) first ∙ ap (λ (l : LaneFrames). frames_on l.name plan.traffic) (sym first)) (each_of_traffic plan lanes names rest)

-- Lanes that are a plan's traffic sorted by lane each have just their frames of that traffic.
pub are_of_traffic : (plan : Plan) (lanes : List LaneTraffic) → map lane_frames lanes ≡ by_lane plan.traffic (length plan.pairs) → AreOfTraffic plan lanes
are_of_traffic plan lanes same = each_of_traffic plan lanes (lanes_in (length plan.pairs)) same

length-lanes_from : (a n : ℕ) → length (flat_map lanes_of (range_with_len a n)) ≤ 32 * n
length-lanes_from a zero = omega arith
length-lanes_from a (suc n) =
    let parts = length-append (lanes_of a) (flat_map lanes_of (range_with_len (a + 1) n)) in
    let rest = length-lanes_from (a + 1) n in
    omega arith

-- A plan that can be run has at most 65,535 lanes when its traffic is sorted by lane.
pub few_lanes : (plan : Plan) → CanRun plan → (lanes : List LaneTraffic) → map lane_frames lanes ≡ by_lane plan.traffic (length plan.pairs) → length lanes ≤ 65535
few_lanes plan can lanes same =
    let many = ap length same in
    let shown = length-map lanes lane_frames in
    let named = length-map (lanes_in (length plan.pairs)) (lane_frames_of plan.traffic) in
    let all = length-lanes_from 0 (length plan.pairs) in
    let pairs = can.few_pairs in
    omega arith

-- the keys of the sorted traffic are those of the lanes with traffic
named_more : (plan : Plan) (name : LaneName) (lanes : List LaneFrames) (names : List LaneName) (b : Bool) → ((number : ℕ) → keys_with plan number lanes ≡ keys_from plan number names)
    → (number : ℕ) → keys_with plan number (cond b (lane_frames_of plan.traffic name ∷ lanes) lanes) ≡ keys_from plan number (cond b (name ∷ names) names)
named_more plan name lanes names true same number = ap (λ (rest : List LaneKey). key_of plan number name ∷ rest) (same (number + 1))
named_more plan name lanes names false same number = same number

keys_named : (plan : Plan) (names : List LaneName) (number : ℕ) → keys_with_frames plan number (map (lane_frames_of plan.traffic) names) ≡ keys_from plan number (filter (has_traffic plan.traffic) names)
keys_named plan [] number = refl
keys_named plan (name ∷ names) number =
    named_more plan name (filter has_frame (map (lane_frames_of plan.traffic) names)) (filter (has_traffic plan.traffic) names) (has_traffic plan.traffic name) (keys_named plan names) number

-- lanes that come to the keys of these names
fits_lane : (plan : Plan) (number : ℕ) (name : LaneName) (lane : LaneShown) (proofs : List Shown) → ComesTo (key_of plan number name) lane proofs → FitsLane plan lane
fits_lane plan number name lane proofs come = record {
  sessions = come.sessions ∙ ap (λ (n : LaneName). 1 + losses_on plan n) (sym come.name);
  traffic = come.traffic ∙ ap (λ (n : LaneName). frames_on n plan.traffic) (sym come.name);
  nothing_left = come.nothing_left;
}

fit_all : (plan : Plan) (number : ℕ) (names : List LaneName) (run : List LaneShown) (proofs : List Shown) → ComeTo ComesTo (keys_from plan number names) run proofs → All (FitsLane plan) run
fit_all plan number [] [] proofs come = All-nil (FitsLane plan)
fit_all plan number [] (lane ∷ run) proofs come = absurd come
fit_all plan number (name ∷ names) [] proofs come = absurd come
fit_all plan number (name ∷ names) (lane ∷ run) proofs come =
    All-cons (FitsLane plan) lane run (fits_lane plan number name lane come.0 come.3) (fit_all plan (number + 1) names run come.1 come.4)

shown_all : (plan : Plan) (number : ℕ) (names : List LaneName) (run : List LaneShown) (proofs : List Shown) → ComeTo ComesTo (keys_from plan number names) run proofs → IsRunShown plan run proofs
shown_all plan number [] [] proofs come = come
shown_all plan number [] (lane ∷ run) proofs come = absurd come
shown_all plan number (name ∷ names) [] proofs come = absurd come
shown_all plan number (name ∷ names) (lane ∷ run) proofs come =
    come.2 ∙ (ap (λ (first : List Shown). first ++ come.1) (come.3.shown ∙ ap (λ (n : LaneName). lane_proofs (entries_on plan n) lane.sessions) (sym come.3.name))
    ∙ ap (λ (rest : List Shown). lane_proofs (entries_on plan lane.name) lane.sessions ++ rest) (shown_all plan (number + 1) names run come.1 come.4))

-- The keys of those lanes of a sorted traffic that have a frame are the keys of the plan's lanes with traffic.
pub all_named : (plan : Plan) (lanes : List LaneTraffic) (tasks : List LaneKey) → map lane_frames lanes ≡ by_lane plan.traffic (length plan.pairs) → tasks ≡ keys_with_frames plan 0 (map lane_frames lanes) → tasks ≡ all_keys plan
all_named plan lanes tasks sorted keys = keys ∙ (ap (keys_with_frames plan 0) sorted ∙ keys_named plan (lanes_in (length plan.pairs)) 0)

-- what holds of a result that isn't an error, by what else holds of it
pub on_ok : {T E : Type 0} (P Q : T → Type 0) (result : Result T E) → ((value : T) → P value → Q value) → IfOk result P → IfOk result Q
on_ok P Q (Ok value) weaker holds = weaker value holds
on_ok P Q (Err e) weaker holds = tt

-- and there are few
pub few_named : (plan : Plan) → CanRun plan → (lanes : List LaneTraffic) (tasks : List LaneKey) → map lane_frames lanes ≡ by_lane plan.traffic (length plan.pairs) → tasks ≡ keys_with_frames plan 0 (map lane_frames lanes) → length tasks ≤ 65535
few_named plan can lanes tasks sorted keys =
    let few = few_lanes plan can lanes sorted in
    let fewer = few_waiting plan (map lane_frames lanes) 0 in
    let shown = length-map lanes lane_frames in
    let many = ap length keys in
    omega arith

-- A record that comes to the keys of all the plan's lanes with traffic fits the plan.
pub record_fits : (plan : Plan) (run : List LaneShown) (proofs : List Shown) → ComeTo ComesTo (all_keys plan) run proofs → IsFit plan run
record_fits plan run proofs come =
    record { lanes = names_of ComesTo (λ (lane : LaneShown). lane.name) (λ key lane proofs come. come.name) plan 0 (traffic_lanes plan) run proofs come; each = fit_all plan 0 (traffic_lanes plan) run proofs come }

-- A record that comes to the keys of all the plan's lanes with traffic is shown by its proofs.
pub record_shown : (plan : Plan) (run : List LaneShown) (proofs : List Shown) → ComeTo ComesTo (all_keys plan) run proofs → IsRunShown plan run proofs
record_shown plan run proofs come = shown_all plan 0 (traffic_lanes plan) run proofs come
