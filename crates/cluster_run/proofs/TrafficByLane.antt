-- Traffic that is sorted into lanes, item by item.
use Rattle.std.proofs.Common.{◌≡◌, ℕ, zero, suc, ◌+◌, ◌<◌, Bool, true, false, Result, Ok, Err, OnOk, Some, None, if◌then◌else◌, List, [], ◌∷◌, ◌++◌, length, map, take, slice_index_or, slice_set, refl, sym, ◌∙◌, ap, subst, arith, append-nil, append_assoc}
use Rattle.std.proofs.lemmas.List.{get_or-map, length-map, map-append, map-set, take_more}
use Rattle.std.proofs.lemmas.List.FromFn.{map-range_with_len_more}
use Rattle.std.proofs.lemmas.List.Elements.{filter_map-append}
use Rattle.std.specs.List.{cons_option, flat_map, range_with_len}
use Rattle.step_kinds.specs.Sides.{same_lane}
use Rattle.step_kinds.specs.declared.names.Side.{Side}
use Rattle.step_kinds.specs.declared.names.Side.TheVariants.{A, B}
use Rattle.step_kinds.specs.declared.names.LaneName.{LaneName}
use Rattle.step_kinds.specs.declared.plan.Plan.{Plan}
use Rattle.step_kinds.specs.declared.plan.Traffic.{Traffic}
use Rattle.step_kinds.specs.declared.plan.Traffic.TheVariants.{Send, Break}
use Rattle.pair_model.specs.TrafficPlans.{IsTraffic}
use Rattle.traffic_plan.specs.Lanes.{frame_on, frames_on}
use Rattle.cluster_run.specs.Lanes.{CanRun, lanes_in, lanes_of}
use Rattle.cluster_run.specs.ByLane.{LaneFrames, lane_frames, lane_frames_of, by_lane, lane_place_of, lane_with_frame, no_lane, lanes_with, HasLanePlace}
use Rattle.cluster_run.specs.declared.by_lane.LaneTraffic.{LaneTraffic}
use Rattle.cluster_run.proofs.PlacesOfLanes.{NoneIs, IsOnlyAt, only_within, only_at_place}

-- a frame that is put at a place of the lanes
within : (lanes place : ℕ) (item : Traffic) (lane : LaneName) (frame : List ℕ) → item ≡ Send lane frame → place ≡ lane_place_of lane → HasLanePlace lanes item → place < lanes
within lanes place item lane frame item_is place_is has = let there : lane_place_of lane < lanes = subst (λ (item : Traffic). HasLanePlace lanes item) item_is has in omega (arith, there, place_is)

-- Lanes in which a frame is put after those of its lane, at the lane's place, are the lanes with this item more.
pub put_shown : {T E : Type 0} (result : Result T E) (lanes : List LaneTraffic) (place : ℕ) (d new : LaneTraffic) (item : Traffic) (lane : LaneName) (frame : List ℕ)
    → item ≡ Send lane frame → place ≡ lane_place_of lane → HasLanePlace (length lanes) item → OnOk result (lane_frames new ≡ lane_with_frame (lane_frames (slice_index_or lanes place d)) frame)
    → OnOk result (map lane_frames (slice_set lanes place new) ≡ lanes_with (map lane_frames lanes) item)
put_shown (Err e) lanes place d new item lane frame item_is place_is has added = tt
put_shown (Ok x) lanes place d new item lane frame item_is place_is has added =
    let there : lane_frames (slice_index_or lanes place d) ≡ slice_index_or (map lane_frames lanes) place no_lane = sym (get_or-map lane_frames lanes place d no_lane (within (length lanes) place item lane frame item_is place_is has)) in
    subst (λ (item : Traffic). map lane_frames (slice_set lanes place new) ≡ lanes_with (map lane_frames lanes) item) (sym item_is)
    (subst (λ (p : ℕ). map lane_frames (slice_set lanes place new) ≡ slice_set (map lane_frames lanes) p (lane_with_frame (slice_index_or (map lane_frames lanes) p no_lane) frame)) place_is
    (map-set lane_frames lanes place new ∙ ap (slice_set (map lane_frames lanes) place) (added ∙ ap (λ (l : LaneFrames). lane_with_frame l frame) there)))

-- the frames on a lane with one item more
frames_with : (lane l : LaneName) (frame : List ℕ) (traffic : List Traffic) (b : Bool) → same_lane lane l ≡ b
    → frames_on l (traffic ++ Send lane frame ∷ []) ≡ frames_on l traffic ++ cons_option (if b then Some frame else None) []
frames_with lane l frame traffic b is =
    filter_map-append (frame_on l) traffic (Send lane frame ∷ []) ∙ ap (λ (b : Bool). frames_on l traffic ++ cons_option (if b then Some frame else None) []) is

none_with : (lane : LaneName) (frame : List ℕ) (traffic : List Traffic) (lanes : List LaneName) → NoneIs lane lanes
    → map (lane_frames_of traffic) lanes ≡ map (lane_frames_of (traffic ++ Send lane frame ∷ [])) lanes
none_with lane frame traffic [] none = refl
none_with lane frame traffic (l ∷ lanes) none =
    let same : frames_on l (traffic ++ Send lane frame ∷ []) ≡ frames_on l traffic = frames_with lane l frame traffic false none.0 ∙ append-nil (frames_on l traffic) in
    ap (λ (frames : List (List ℕ)). record { name = l; frames = frames } ∷ map (lane_frames_of traffic) lanes) (sym same)
    ∙ ap (λ (rest : List LaneFrames). lane_frames_of (traffic ++ Send lane frame ∷ []) l ∷ rest) (none_with lane frame traffic lanes none.1)

only_with : (lane : LaneName) (frame : List ℕ) (traffic : List Traffic) (place : ℕ) (lanes : List LaneName) → IsOnlyAt place lane lanes
    → slice_set (map (lane_frames_of traffic) lanes) place (lane_with_frame (slice_index_or (map (lane_frames_of traffic) lanes) place no_lane) frame) ≡ map (lane_frames_of (traffic ++ Send lane frame ∷ [])) lanes
only_with lane frame traffic place [] only = absurd only
only_with lane frame traffic zero (l ∷ lanes) only =
    ap (λ (frames : List (List ℕ)). record { name = l; frames = frames } ∷ map (lane_frames_of traffic) lanes) (sym (frames_with lane l frame traffic true only.0))
    ∙ ap (λ (rest : List LaneFrames). lane_frames_of (traffic ++ Send lane frame ∷ []) l ∷ rest) (none_with lane frame traffic lanes only.1)
only_with lane frame traffic (suc place) (l ∷ lanes) only =
    let same : frames_on l (traffic ++ Send lane frame ∷ []) ≡ frames_on l traffic = frames_with lane l frame traffic false only.0 ∙ append-nil (frames_on l traffic) in
    ap (λ (rest : List LaneFrames). lane_frames_of traffic l ∷ rest) (only_with lane frame traffic place lanes only.1)
    ∙ ap (λ (frames : List (List ℕ)). record { name = l; frames = frames } ∷ map (lane_frames_of (traffic ++ Send lane frame ∷ [])) lanes) (sym same)

-- an item of a traffic stands at its lane's place among all lanes
abbrev pub IsPlaced : ℕ → Traffic → Type 0
IsPlaced pairs (Send lane frame) = IsOnlyAt (lane_place_of lane) lane (lanes_in pairs)
IsPlaced pairs (Break pair) = Unit {0}

-- In a plan that can be run the lane of each frame stands, among all lanes, at its place and nowhere else.
pub is_placed : (plan : Plan) → CanRun plan → (item : Traffic) → IsTraffic plan item → IsPlaced (length plan.pairs) item
is_placed plan can (Send lane frame) traffic =
    let pair = can.pairs lane.pair traffic.0.declared in
    only_at_place lane (length plan.pairs) (let few = pair.side_a.queues in let among = traffic.0.among in omega arith) traffic.0.declared
is_placed plan can (Break pair) traffic = tt

-- A frame whose lane stands at its place among all lanes has a place among as many lanes.
pub has_place : (lanes pairs : ℕ) (item : Traffic) → lanes ≡ length (lanes_in pairs) → IsPlaced pairs item → HasLanePlace lanes item
has_place lanes pairs (Send lane frame) many placed = let within = only_within lane (lane_place_of lane) (lanes_in pairs) placed in omega arith
has_place lanes pairs (Break pair) many placed = tt

-- a loss of a link is on no lane
break_with : (pair : ℕ) (traffic : List Traffic) (lanes : List LaneName) → map (lane_frames_of traffic) lanes ≡ map (lane_frames_of (traffic ++ Break pair ∷ [])) lanes
break_with pair traffic [] = refl
break_with pair traffic (l ∷ lanes) =
    let same : frames_on l (traffic ++ Break pair ∷ []) ≡ frames_on l traffic = filter_map-append (frame_on l) traffic (Break pair ∷ []) ∙ append-nil (frames_on l traffic) in
    ap (λ (frames : List (List ℕ)). record { name = l; frames = frames } ∷ map (lane_frames_of traffic) lanes) (sym same)
    ∙ ap (λ (rest : List LaneFrames). lane_frames_of (traffic ++ Break pair ∷ []) l ∷ rest) (break_with pair traffic lanes)

-- Putting one item more on its lane, in a traffic sorted by lane, sorts the traffic with that item after it.
pub lanes_with-item : (pairs : ℕ) (traffic : List Traffic) (item : Traffic) → IsPlaced pairs item → lanes_with (by_lane traffic pairs) item ≡ by_lane (traffic ++ item ∷ []) pairs
lanes_with-item pairs traffic (Send lane frame) placed = only_with lane frame traffic (lane_place_of lane) (lanes_in pairs) placed
lanes_with-item pairs traffic (Break pair) placed = break_with pair traffic (lanes_in pairs)

-- the lanes of a side, and of a pair, without frames, in order
pub lanes_of-empty : (pair : ℕ) → map (lane_frames_of []) (lanes_of pair) ≡
    map (λ queue. lane_frames_of [] (record { pair = pair; from = A; queue = queue })) (range_with_len 0 16) ++ map (λ queue. lane_frames_of [] (record { pair = pair; from = B; queue = queue })) (range_with_len 0 16)
lanes_of-empty pair = refl

flat_map-last : {X : Type 0} (f : ℕ → List X) (a n : ℕ) → flat_map f (range_with_len a (suc n)) ≡ flat_map f (range_with_len a n) ++ f (a + n)
flat_map-last f a zero = let same : a + 0 ≡ a = omega arith in append-nil (f a) ∙ ap f (sym same)
flat_map-last f a (suc n) =
    let same : a + 1 + n ≡ a + suc n = omega arith in
    ap (λ rest. f a ++ rest) (flat_map-last f (a + 1) n) ∙ (sym (append_assoc (f a) (flat_map f (range_with_len (a + 1) n)) (f (a + 1 + n))) ∙ ap (λ k. f a ++ flat_map f (range_with_len (a + 1) n) ++ f k) same)

-- one pair more
pub by_lane-pair : (pair : ℕ) (old with_a with_b : List LaneFrames) → old ≡ by_lane [] pair
    → with_a ≡ old ++ map (λ queue. lane_frames_of [] (record { pair = pair; from = A; queue = queue })) (range_with_len 0 16)
    → with_b ≡ with_a ++ map (λ queue. lane_frames_of [] (record { pair = pair; from = B; queue = queue })) (range_with_len 0 16)
    → with_b ≡ by_lane [] (pair + 1)
by_lane-pair pair old with_a with_b old_is a_is b_is =
    let side_a = map (λ queue. lane_frames_of [] (record { pair = pair; from = A; queue = queue })) (range_with_len 0 16) in
    let side_b = map (λ queue. lane_frames_of [] (record { pair = pair; from = B; queue = queue })) (range_with_len 0 16) in
    let next : pair + 1 ≡ suc pair = omega arith in
    let here : 0 + pair ≡ pair = omega arith in
    let last : lanes_in (pair + 1) ≡ lanes_in pair ++ lanes_of pair = ap (λ n. lanes_in n) next ∙ (flat_map-last lanes_of 0 pair ∙ ap (λ k. lanes_in pair ++ lanes_of k) here) in
    b_is ∙ (ap (λ lanes. lanes ++ side_b) a_is ∙ (append_assoc old side_a side_b ∙ (ap (λ lanes. lanes ++ (side_a ++ side_b)) old_is
    ∙ (sym (map-append (lane_frames_of []) (lanes_in pair) (lanes_of pair)) ∙ ap (map (lane_frames_of [])) (sym last)))))

-- one queue more of a side
pub side_more : (pair : ℕ) (from : Side) (queue : ℕ) (before : List LaneFrames) (old new : List LaneTraffic) (lane : LaneTraffic)
    → map lane_frames old ≡ before ++ map (λ queue. lane_frames_of [] (record { pair = pair; from = from; queue = queue })) (range_with_len 0 queue)
    → new ≡ old ++ lane ∷ [] → lane_frames lane ≡ lane_frames_of [] (record { pair = pair; from = from; queue = queue })
    → map lane_frames new ≡ before ++ map (λ queue. lane_frames_of [] (record { pair = pair; from = from; queue = queue })) (range_with_len 0 (queue + 1))
side_more pair from queue before old new lane old_is new_is lane_is =
    let f : ℕ → LaneFrames = λ queue. lane_frames_of [] (record { pair = pair; from = from; queue = queue }) in
    let more : map f (range_with_len 0 (queue + 1)) ≡ map f (range_with_len 0 queue) ++ f queue ∷ [] = map-range_with_len_more f 0 queue queue (omega arith) in
    ap (map lane_frames) new_is ∙ (map-append lane_frames old (lane ∷ []) ∙ (ap (λ lanes. lanes ++ lane_frames lane ∷ []) old_is
    ∙ (append_assoc before (map f (range_with_len 0 queue)) (lane_frames lane ∷ []) ∙ (ap (λ l. before ++ (map f (range_with_len 0 queue) ++ l ∷ [])) lane_is ∙ ap (λ lanes. before ++ lanes) (sym more)))))

-- an item of the plan's traffic, taken from a list that is the traffic
pub item_placed : (plan : Plan) → CanRun plan → (items : List Traffic) (i : ℕ) (item : Traffic) → items ≡ plan.traffic → i < length items → item ≡ slice_index_or items i item → IsPlaced (length plan.pairs) item
item_placed plan can items i item items_are below item_is =
    let there : slice_index_or items i item ≡ slice_index_or plan.traffic i item = ap (λ (items : List Traffic). slice_index_or items i item) items_are in
    let all = ap length items_are in
    is_placed plan can item (subst (IsTraffic plan) (sym (item_is ∙ there)) (can.traffic i item (omega arith)))

-- A traffic sorted by lane has as many lanes as there are in all pairs, frames or not.
pub lanes_counted : (lanes slice : List LaneTraffic) (traffic : List Traffic) (pairs : ℕ) → slice ≡ lanes → map lane_frames lanes ≡ by_lane traffic pairs → length slice ≡ length (lanes_in pairs)
lanes_counted lanes slice traffic pairs same is = ap length same ∙ (sym (length-map lanes lane_frames) ∙ (ap length is ∙ length-map (lanes_in pairs) (lane_frames_of traffic)))

-- the lanes with one item more of the traffic
pub item_put : (pairs : ℕ) (items : List Traffic) (i : ℕ) (item : Traffic) (lanes slice new : List LaneTraffic) → i < length items → item ≡ slice_index_or items i item → IsPlaced pairs item
    → slice ≡ lanes → map lane_frames lanes ≡ by_lane (take i items) pairs → map lane_frames new ≡ lanes_with (map lane_frames slice) item → map lane_frames new ≡ by_lane (take (i + 1) items) pairs
item_put pairs items i item lanes slice new below item_is placed same is put =
    let more : take (i + 1) items ≡ take i items ++ item ∷ [] = take_more items i item below ∙ ap (λ x. take i items ++ x ∷ []) (sym item_is) in
    put ∙ (ap (λ (lanes : List LaneTraffic). lanes_with (map lane_frames lanes) item) same ∙ (ap (λ (lanes : List LaneFrames). lanes_with lanes item) is
    ∙ (lanes_with-item pairs (take i items) item placed ∙ ap (λ (traffic : List Traffic). by_lane traffic pairs) (sym more))))
