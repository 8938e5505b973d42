-- The lanes of a plan's traffic: what the plan says of them.
use Rattle.std.proofs.Common.{◌≡◌, ◌≢◌, ℕ, suc, ◌+◌, ◌<◌, ◌≤◌, ◌==◌, ◌&&◌, Bool, true, false, IsTrue, ◌↔◌, cond, Some, None, if◌then◌else◌, List, [], ◌∷◌, ◌++◌, length, map, filter, sum, count_by, slice_index_or, refl, sym, ◌∙◌, ap, subst, arith}
use Rattle.std.proofs.lemmas.Bool.{and_parts, eqb-true, false≢true}
use Rattle.std.proofs.lemmas.List.{map-append}
use Rattle.std.proofs.lemmas.List.Elements.{All-cons, All-nil, filter-append}
use Rattle.std.proofs.lemmas.List.FromFn.{get_or-map-range_with_len, length-map-range_with_len}
use Rattle.std.proofs.lemmas.List.Sums.{sum_by-cons}
use Rattle.std.specs.List.{All, cons_option}
use Rattle.step_kinds.specs.Sides.{same_lane, same_side}
use Rattle.step_kinds.specs.declared.names.Side.{Side}
use Rattle.step_kinds.specs.declared.names.Side.TheVariants.{A, B}
use Rattle.step_kinds.specs.declared.names.LaneName.{LaneName}
use Rattle.step_kinds.specs.declared.plan.PairPlan.{PairPlan}
use Rattle.step_kinds.specs.declared.plan.Plan.{Plan}
use Rattle.step_kinds.specs.declared.plan.Traffic.{Traffic}
use Rattle.step_kinds.specs.declared.plan.Traffic.TheVariants.{Send, Break}
use Rattle.ring_geometry.specs.Geometry.{Layout, entries_of}
use Rattle.pair_model.specs.Plans.{pair_plan, side_plan}
use Rattle.pair_model.specs.Sizes.{layout_of}
use Rattle.pair_model.specs.TrafficPlans.{IsTraffic, IsTrafficLane, frames_in, is_break_of}
use Rattle.lane_workers.specs.Passes.{HaveBytes}
use Rattle.traffic_plan.specs.Lanes.{frames_on}
use Rattle.cluster_run.specs.LaneKeys.{LaneKey}
use Rattle.cluster_run.specs.Lanes.{CanRun, entries_on, losses_on}
use Rattle.cluster_run.specs.ByLane.{LaneFrames, lane_frames, has_frame, key_with, keys_with, keys_with_frames}
use Rattle.cluster_run.specs.Tasks.{CanBeRun, losses_by_pair}
use Rattle.cluster_run.specs.declared.by_lane.LaneTraffic.{LaneTraffic}

-- two lanes that are tested to be the same are
sides_same : (one other : Side) → same_side one other ≡ true → one ≡ other
sides_same A A same = refl
sides_same A B same = absurd (false≢true same)
sides_same B A same = absurd (false≢true same)
sides_same B B same = refl

lanes_same : (one other : LaneName) → same_lane one other ≡ true → one ≡ other
lanes_same one other same =
    let outer = and_parts (one.pair == other.pair) (same_side one.from other.from && (one.queue == other.queue)) same in
    let inner = and_parts (same_side one.from other.from) (one.queue == other.queue) outer.1 in
    ap (λ (pair : ℕ). record { pair = pair; from = one.from; queue = one.queue }) (eqb-true one.pair other.pair outer.0)
    ∙ (ap (λ (from : Side). record { pair = other.pair; from = from; queue = one.queue }) (sides_same one.from other.from inner.0)
    ∙ ap (λ (queue : ℕ). record { pair = other.pair; from = other.from; queue = queue }) (eqb-true one.queue other.queue inner.1))

others : (plan : Plan) (item : Traffic) (items : List Traffic) → All (IsTraffic plan) (item ∷ items) → All (IsTraffic plan) items
others plan item items all k d below = all (suc k) d (omega arith)

-- a lane with a frame may have traffic
lane_found : (plan : Plan) (lane other : LaneName) (frame : List ℕ) (rest : List (List ℕ)) (b : Bool) → same_lane other lane ≡ b → IsTrafficLane plan other → (rest ≢ [] → IsTrafficLane plan lane)
    → cons_option (if same_lane other lane then Some frame else None) rest ≢ [] → IsTrafficLane plan lane
lane_found plan lane other frame rest true same may later some = subst (IsTrafficLane plan) (lanes_same other lane same) may
lane_found plan lane other frame rest false same may later some = later (λ none. some (ap (λ (b : Bool). cons_option (if b then Some frame else None) rest) same ∙ none))

-- A lane with a frame in a traffic that a script can declare is one that may have traffic.
pub traffic_lane : (plan : Plan) (lane : LaneName) (traffic : List Traffic) → All (IsTraffic plan) traffic → frames_on lane traffic ≢ [] → IsTrafficLane plan lane
traffic_lane plan lane [] all some = absurd (some refl)
traffic_lane plan lane (Break pair ∷ items) all some = traffic_lane plan lane items (others plan (Break pair) items all) some
traffic_lane plan lane (Send other frame ∷ items) all some =
    lane_found plan lane other frame (frames_on lane items) (same_lane other lane) refl (all 0 (Send other frame) (omega arith)).0 (traffic_lane plan lane items (others plan (Send other frame) items all)) some

-- each of its frames has a byte
bytes_with : (frame : List ℕ) (rest : List (List ℕ)) (b : Bool) → 0 < length frame → HaveBytes rest → HaveBytes (cons_option (if b then Some frame else None) rest)
bytes_with frame rest true one bytes = All-cons (λ (frame : List ℕ). frame ≢ []) frame rest (λ none. let empty = ap length none in absurd (omega (arith, one, empty))) bytes
bytes_with frame rest false one bytes = bytes

bytes_on : (plan : Plan) (lane : LaneName) (traffic : List Traffic) → All (IsTraffic plan) traffic → HaveBytes (frames_on lane traffic)
bytes_on plan lane [] all = All-nil (λ (frame : List ℕ). frame ≢ [])
bytes_on plan lane (Break pair ∷ items) all = bytes_on plan lane items (others plan (Break pair) items all)
bytes_on plan lane (Send other frame ∷ items) all =
    bytes_with frame (frames_on lane items) (same_lane other lane) (all 0 (Send other frame) (omega arith)).1 (bytes_on plan lane items (others plan (Send other frame) items all))

-- and it has no more frames than the traffic
few_with : (frame : List ℕ) (rest : List (List ℕ)) (b : Bool) (n : ℕ) → length rest ≤ n → length (cons_option (if b then Some frame else None) rest) ≤ 1 + n
few_with frame rest true n few = omega (arith, few)
few_with frame rest false n few = omega (arith, few)

few_on : (lane : LaneName) (traffic : List Traffic) → length (frames_on lane traffic) ≤ sum (map frames_in traffic)
few_on lane [] = omega arith
few_on lane (Break pair ∷ items) = let first = sum_by-cons (λ (n : ℕ). n) 0 (map frames_in items) in let rest = few_on lane items in omega (arith, first, rest)
few_on lane (Send other frame ∷ items) =
    let first = sum_by-cons (λ (n : ℕ). n) 1 (map frames_in items) in
    let few = few_with frame (frames_on lane items) (same_lane other lane) (sum (map frames_in items)) (few_on lane items) in
    omega (arith, first, few)

-- A lane that has frames, those of a runnable plan's traffic on it, can be run.
pub can_be_run : (plan : Plan) → CanRun plan → (lane : LaneTraffic) (is_empty : Bool) → is_empty ≡ false → (IsTrue is_empty ↔ (lane.frames.frames ≡ [])) → lane.frames.frames ≡ frames_on lane.name plan.traffic
    → CanBeRun plan lane
can_be_run plan can lane is_empty full tells frames =
    let few = few_on lane.name plan.traffic in
    let all = can.few_frames in
    let same = ap length frames in
    record {
      traffic = traffic_lane plan lane.name plan.traffic can.traffic (λ none. not_empty is_empty full (tells.1 (frames ∙ none)));
      bytes = subst HaveBytes (sym frames) (bytes_on plan lane.name plan.traffic can.traffic);
      few = omega arith;
    } where
      not_empty : (b : Bool) → b ≡ false → IsTrue b → ⊥
      not_empty b full empty = false≢true (sym full ∙ empty)

-- the queue of a lane with traffic is one of its sender's
pub among_sides : (plan : Plan) (lane : LaneName) → IsTrafficLane plan lane → lane.queue < (side_plan (pair_plan plan lane.pair) lane.from).queues
among_sides plan lane may = at_side lane.from where
  at_side : (from : Side) → lane.queue < (side_plan (pair_plan plan lane.pair) from).queues
  at_side A = may.among.0
  at_side B = may.among.1

-- the key of a lane that waits, by the numbers of its pair
pub losses_found : (plan : Plan) (losses : List ℕ) (pair : ℕ) → losses ≡ losses_by_pair plan → pair < length plan.pairs → (pair < length losses) × (slice_index_or losses pair 0 ≡ count_by (is_break_of pair) plan.traffic)
losses_found plan losses pair are declared =
    let count : ℕ → ℕ = λ pair. count_by (is_break_of pair) plan.traffic in
    let many = ap length are ∙ length-map-range_with_len count 0 (length plan.pairs) in
    (omega arith, ap (λ (losses : List ℕ). slice_index_or losses pair 0) are ∙ get_or-map-range_with_len count 0 (length plan.pairs) pair pair 0 declared (omega arith))

-- A lane's name and frames with the entries of its ring and the losses of its pair's link are its key by the plan.
pub task_key : (plan : Plan) (number : ℕ) (lane : LaneTraffic) (pair : PairPlan) (ring : Layout) (entries losses : ℕ) → pair ≡ pair_plan plan lane.name.pair → ring ≡ layout_of pair lane.name.from lane.name.queue → entries ≡ entries_of ring
    → losses ≡ losses_on plan lane.name
    → record { name = lane.name; number = number; entries = entries; losses = losses; traffic = lane.frames.frames } ≡ key_with plan number (lane_frames lane)
task_key plan number lane pair ring entries losses pair_is ring_is entries_is losses_is =
    let value : entries ≡ entries_on plan lane.name = entries_is ∙ (ap entries_of ring_is ∙ ap (λ (pair : PairPlan). entries_of (layout_of pair lane.name.from lane.name.queue)) pair_is) in
    ap (λ (entries : ℕ). record { name = lane.name; number = number; entries = entries; losses = losses; traffic = lane.frames.frames }) value
    ∙ ap (λ (losses : ℕ). record { name = lane.name; number = number; entries = entries_on plan lane.name; losses = losses; traffic = lane.frames.frames }) losses_is

-- no more lanes wait than there are
few_more : (plan : Plan) (lane : LaneFrames) (rest : List LaneFrames) (b : Bool) (n : ℕ) → ((number : ℕ) → length (keys_with plan number rest) ≤ n) → (number : ℕ) → length (keys_with plan number (cond b (lane ∷ rest) rest)) ≤ suc n
few_more plan lane rest true n few number = let rest_few = few (number + 1) in omega arith
few_more plan lane rest false n few number = let rest_few = few number in omega arith

-- The lanes that have a frame, and so a key, are no more than all lanes that are given.
pub few_waiting : (plan : Plan) (lanes : List LaneFrames) (number : ℕ) → length (keys_with_frames plan number lanes) ≤ length lanes
few_waiting plan [] number = omega arith
few_waiting plan (lane ∷ lanes) number = few_more plan lane (filter has_frame lanes) (has_frame lane) (length lanes) (few_waiting plan lanes) number

-- the keys of more lanes go on with the next number
keys_with-append : (plan : Plan) (lanes more : List LaneFrames) (number : ℕ) → keys_with plan number (lanes ++ more) ≡ keys_with plan number lanes ++ keys_with plan (number + length (keys_with plan number lanes)) more
keys_with-append plan [] more number = let here : number ≡ number + 0 = omega arith in ap (λ (n : ℕ). keys_with plan n more) here
keys_with-append plan (lane ∷ lanes) more number =
    let rest = keys_with plan (number + 1) lanes in
    let there : number + 1 + length rest ≡ number + suc (length rest) = omega arith in
    ap (λ (keys : List LaneKey). key_with plan number lane ∷ keys) (keys_with-append plan lanes more (number + 1) ∙ ap (λ (n : ℕ). rest ++ keys_with plan n more) there)

-- If the lanes that wait are those of a list that have a frame, numbered from 0, they still are with one lane more.
pub waiting_more : (plan : Plan) (lanes : List LaneTraffic) (lane : LaneTraffic) (old new : List LaneKey) → old ≡ keys_with_frames plan 0 (map lane_frames lanes)
    → new ≡ old ++ keys_with_frames plan (length old) (lane_frames lane ∷ []) → new ≡ keys_with_frames plan 0 (map lane_frames (lanes ++ lane ∷ []))
waiting_more plan lanes lane old new old_is new_is =
    let shown = map lane_frames lanes in
    let all = filter has_frame shown in
    let more = filter has_frame (lane_frames lane ∷ []) in
    let keys = keys_with plan 0 all in
    let many : length keys ≡ 0 + length keys = omega arith in
    new_is ∙ (ap (λ (keys : List LaneKey). keys ++ keys_with plan (length keys) more) old_is
    ∙ (ap (λ (n : ℕ). keys ++ keys_with plan n more) many
    ∙ (sym (keys_with-append plan all more 0)
    ∙ (ap (keys_with plan 0) (sym (filter-append has_frame shown (lane_frames lane ∷ []))) ∙ ap (keys_with_frames plan 0) (sym (map-append lane_frames lanes (lane ∷ [])))))))
