-- Counts of lanes, those that count nothing left out, and of devices.
use Rattle.std.proofs.Common.{◌≡◌, ◌∙◌, ℕ, zero, suc, ◌+◌, ◌<◌, ◌≤◌, Bool, true, false, not, ◌==◌, ◌&&◌, List, [], ◌∷◌, ◌++◌, cond, map, length, get_or, min, take, refl, sym, ap, subst, arith, append_assoc}
use Rattle.std.specs.List.{All, AllByRecursion, flat_map, range_with_len}
use Rattle.std.proofs.lemmas.Grind.{flat_map-append}
use Rattle.std.proofs.lemmas.List.{append-nil, get_or_read, map-append, take_more}
use Rattle.std.proofs.lemmas.List.Elements.{All-filter, All-from_recursion, filter-append}
use Rattle.std.proofs.lemmas.List.FromFn.{map-range_with_len_more}
use Rattle.pair_model.specs.PlanParts.{declared_part}
use Rattle.step_kinds.specs.declared.names.LaneName.{LaneName}
use Rattle.step_kinds.specs.declared.names.Side.{Side}
use Rattle.step_kinds.specs.declared.names.Side.TheVariants.{A, B}
use Rattle.step_kinds.specs.declared.plan.Counters.{Counters}
use Rattle.step_kinds.specs.declared.plan.DevPlan.{DevPlan}
use Rattle.step_kinds.specs.declared.plan.PairPlan.{PairPlan}
use Rattle.step_kinds.specs.declared.plan.Plan.{Plan}
use Rattle.pair_model.specs.Plans.{dev_plan, no_dev, no_pair, pair_plan}
use Rattle.ledger_model.specs.Log.{Answered, counters_in, lane_of_device}
use Rattle.step_kinds.specs.declared.plan.LaneCount.{LaneCount}
use Rattle.cluster_core.specs.Counts.{HasQueues, counts_some, filled, lanes_from}
use Rattle.ledger_model.specs.PlanLog.{last_session, lane_count, lane_counts, lanes_of_pair, sessions_of_lane}

-- Counts of nothing have no line

line_or_none : (b : Bool) (line : List ℕ) (lines : LaneCount → List ℕ) (count : LaneCount) (rest : List LaneCount) → lines count ≡ cond b [] line →
    flat_map lines (cond (not b) (count ∷ rest) rest) ≡ lines count ++ flat_map lines rest
line_or_none true line lines count rest is = ap (λ (text : List ℕ). text ++ flat_map lines rest) (sym is)
line_or_none false line lines count rest is = refl

-- Leaving out the counts of no frame at all changes nothing in lines that only the others have.
pub lines_of_filled : (lines line : LaneCount → List ℕ) → ((count : LaneCount) → lines count ≡ cond ((count.accepted == 0) && (count.delivered == 0)) [] (line count)) →
    (counts : List LaneCount) → flat_map lines (filled counts) ≡ flat_map lines counts
lines_of_filled lines line is [] = refl
lines_of_filled lines line is (count ∷ counts) =
    line_or_none ((count.accepted == 0) && (count.delivered == 0)) (line count) lines count (filled counts) (is count)
    ∙ ap (λ (text : List ℕ). lines count ++ text) (lines_of_filled lines line is counts)

-- Counts added in turn

-- those of two lists, one after the other
pub adds_both : (old mid new : List LaneCount) (xs ys : List LaneCount) → mid ≡ old ++ filled xs → new ≡ mid ++ filled ys → new ≡ old ++ filled (xs ++ ys)
adds_both old mid new xs ys first second =
    second ∙ ap (λ (before : List LaneCount). before ++ filled ys) first ∙ append_assoc old (filled xs) (filled ys)
    ∙ ap (λ (more : List LaneCount). old ++ more) (sym (filter-append counts_some xs ys))

-- Adding the counts of an empty list leaves the counts as they were.
pub adds_none : (old : List LaneCount) → old ≡ old ++ filled []
adds_none old = sym (append-nil old)

-- a count of something is added, and one of nothing isn't
pub adds_one : (old : List LaneCount) (count : LaneCount) → counts_some count ≡ true → old ++ count ∷ [] ≡ old ++ filled (count ∷ [])
adds_one old count some = ap (λ (b : Bool). old ++ cond b (count ∷ []) []) (sym some)

-- Adding a count of no frame at all leaves the counts as they were.
pub adds_nothing : (old : List LaneCount) (count : LaneCount) → counts_some count ≡ false → old ≡ old ++ filled (count ∷ [])
adds_nothing old count none = sym (append-nil old) ∙ ap (λ (b : Bool). old ++ cond b (count ∷ []) []) (sym none)

-- one session more
pub sessions_more : (plan : Plan) (log : List Answered) (lane : LaneName) (before : ℕ) →
    map (lane_count plan log lane) (range_with_len 1 (before + 1)) ≡ map (lane_count plan log lane) (range_with_len 1 before) ++ lane_count plan log lane (before + 1) ∷ []
sessions_more plan log lane before = map-range_with_len_more (lane_count plan log lane) 1 before (before + 1) (omega arith)

-- one queue more
pub lanes_more : (plan : Plan) (log : List Answered) (pair : ℕ) (from : Side) (queue : ℕ) →
    flat_map (sessions_of_lane plan log) (lanes_from pair from (queue + 1))
    ≡ flat_map (sessions_of_lane plan log) (lanes_from pair from queue) ++ sessions_of_lane plan log (record { pair = pair; from = from; queue = queue })
lanes_more plan log pair from queue =
    let lane : LaneName = record { pair = pair; from = from; queue = queue } in
    ap (flat_map (sessions_of_lane plan log)) (map-range_with_len_more (λ (q : ℕ). record { pair = pair; from = from; queue = q }) 0 queue queue (omega arith))
    ∙ flat_map-append (sessions_of_lane plan log) (lanes_from pair from queue) (lane ∷ [])
    ∙ ap (λ (last : List LaneCount). flat_map (sessions_of_lane plan log) (lanes_from pair from queue) ++ last) (append-nil (sessions_of_lane plan log lane))

-- one pair more

same_list : (xs : List ℕ) → map (λ x. x) xs ≡ xs
same_list [] = refl
same_list (x ∷ xs) = ap (λ (rest : List ℕ). x ∷ rest) (same_list xs)

range_more : (a n j : ℕ) → a + n ≡ j → range_with_len a (n + 1) ≡ range_with_len a n ++ j ∷ []
range_more a n j e =
    sym (same_list (range_with_len a (n + 1))) ∙ map-range_with_len_more (λ (x : ℕ). x) a n j e ∙ ap (λ (xs : List ℕ). xs ++ j ∷ []) (same_list (range_with_len a n))

-- the queues that both sides of a pair have
abbrev pub queues_of : Plan → ℕ → ℕ
queues_of plan k = min (pair_plan plan k).a.queues (pair_plan plan k).b.queues

-- Lane counts of one pair more are those of the pairs before it, then that pair's from side A, then from side B.
pub pairs_more : (plan : Plan) (log : List Answered) (k : ℕ) →
    flat_map (sessions_of_lane plan log) (flat_map (lanes_of_pair plan) (range_with_len 0 (k + 1)))
    ≡ flat_map (sessions_of_lane plan log) (flat_map (lanes_of_pair plan) (range_with_len 0 k))
    ++ (flat_map (sessions_of_lane plan log) (lanes_from k A (queues_of plan k)) ++ flat_map (sessions_of_lane plan log) (lanes_from k B (queues_of plan k)))
pairs_more plan log k =
    let sessions : LaneName → List LaneCount = sessions_of_lane plan log in
    let before : List LaneName = flat_map (lanes_of_pair plan) (range_with_len 0 k) in
    let from_a : List LaneName = lanes_from k A (queues_of plan k) in
    let from_b : List LaneName = lanes_from k B (queues_of plan k) in
    let own : flat_map (lanes_of_pair plan) (k ∷ []) ≡ from_a ++ from_b =
    append-nil (from_a ++ (from_b ++ [])) ∙ ap (λ (lanes : List LaneName). from_a ++ lanes) (append-nil from_b) in
    ap (λ (ks : List ℕ). flat_map sessions (flat_map (lanes_of_pair plan) ks)) (range_more 0 k k (omega arith))
    ∙ ap (flat_map sessions) (flat_map-append (lanes_of_pair plan) (range_with_len 0 k) (k ∷ []))
    ∙ flat_map-append sessions before (flat_map (lanes_of_pair plan) (k ∷ []))
    ∙ ap (λ (lanes : List LaneName). flat_map sessions before ++ flat_map sessions lanes) own
    ∙ ap (λ (counts : List LaneCount). flat_map sessions before ++ counts) (flat_map-append sessions from_a from_b)

-- Each count names a pair of the plan

all_append : {X : Type 0} (P : X → Type 0) (xs ys : List X) → AllByRecursion P xs → AllByRecursion P ys → AllByRecursion P (xs ++ ys)
all_append P [] ys one other = other
all_append P (x ∷ xs) ys one other = (one.0, all_append P xs ys one.1 other)

all_map : {X Y : Type 0} (P : Y → Type 0) (f : X → Y) (xs : List X) → ((x : X) → P (f x)) → AllByRecursion P (map f xs)
all_map P f [] each = tt
all_map P f (x ∷ xs) each = (each x, all_map P f xs each)

all_flat_map : {X Y : Type 0} (Q : X → Type 0) (P : Y → Type 0) (f : X → List Y) (xs : List X) → AllByRecursion Q xs →
    ((x : X) → Q x → AllByRecursion P (f x)) → AllByRecursion P (flat_map f xs)
all_flat_map Q P f [] all each = tt
all_flat_map Q P f (x ∷ xs) all each = all_append P (f x) (flat_map f xs) (each x all.0) (all_flat_map Q P f xs all.1 each)

all_below : (most a n : ℕ) → a + n ≤ most → AllByRecursion (λ k. k < most) (range_with_len a n)
all_below most a zero h = tt
all_below most a (suc n) h = (omega arith, all_below most (a + 1) n (omega arith))

lanes_below : (plan : Plan) (most k : ℕ) → k < most → AllByRecursion (λ lane. lane.pair < most) (lanes_of_pair plan k)
lanes_below plan most k lt =
    let P : LaneName → Type 0 = λ lane. lane.pair < most in
    let of_side : (from : Side) → AllByRecursion P (lanes_from k from (queues_of plan k)) =
    λ from. all_map P (λ (queue : ℕ). record { pair = k; from = from; queue = queue }) (range_with_len 0 (queues_of plan k)) (λ queue. lt) in
    all_append P (lanes_from k A (queues_of plan k)) (lanes_from k B (queues_of plan k) ++ []) (of_side A)
    (all_append P (lanes_from k B (queues_of plan k)) [] (of_side B) tt)

-- Each lane count of a plan, of those that count a frame, names a pair that the plan has.
pub all_known : (plan : Plan) (log : List Answered) → All (λ count. count.name.pair < length plan.pairs) (filled (lane_counts plan log))
all_known plan log =
    let most : ℕ = length plan.pairs in
    let P : LaneCount → Type 0 = λ count. count.name.pair < most in
    let Q : LaneName → Type 0 = λ lane. lane.pair < most in
    let lanes : AllByRecursion Q (flat_map (lanes_of_pair plan) (range_with_len 0 most)) =
    all_flat_map (λ (k : ℕ). k < most) Q (lanes_of_pair plan) (range_with_len 0 most) (all_below most 0 most (omega arith)) (lanes_below plan most) in
    let counts : AllByRecursion P (lane_counts plan log) =
    all_flat_map Q P (sessions_of_lane plan log) (flat_map (lanes_of_pair plan) (range_with_len 0 most)) lanes
    (λ lane lt. all_map P (lane_count plan log lane) (range_with_len 1 (last_session plan log lane.pair)) (λ session. lt)) in
    All-filter counts_some P (lane_counts plan log) (All-from_recursion P (lane_counts plan log) counts)

-- Devices

-- The counters of a plan's first devices, with the next device's after them, are those of one device more.
pub devices_more : (plan : Plan) (log : List Answered) (k : ℕ) → k < length plan.devs →
    map (λ dev. counters_in plan log (lane_of_device dev)) (take k plan.devs) ++ counters_in plan log (lane_of_device (dev_plan plan.devs k)) ∷ []
    ≡ map (λ dev. counters_in plan log (lane_of_device dev)) (take (k + 1) plan.devs)
devices_more plan log k lt =
    let counters : DevPlan → Counters = λ dev. counters_in plan log (lane_of_device dev) in
    sym (map-append counters (take k plan.devs) (dev_plan plan.devs k ∷ [])) ∙ ap (map counters) (sym (take_more plan.devs k no_dev lt))

-- A pair of a plan and its queues

own_pair : (plan : Plan) (k : ℕ) (pair : PairPlan) → k < length plan.pairs → pair ≡ get_or plan.pairs k pair → pair ≡ pair_plan plan k
own_pair plan k pair lt is = get_or_read plan.pairs k pair lt is no_pair

-- Both sides of a pair have the lesser of their two numbers of queues.
pub has_queues : (plan kept : Plan) (k : ℕ) (pair : PairPlan) (queues : ℕ) → kept ≡ declared_part plan → k < length plan.pairs → pair ≡ get_or plan.pairs k pair →
    queues ≡ min pair.a.queues pair.b.queues → HasQueues kept k queues
has_queues plan kept k pair queues same lt is least =
    let own : pair ≡ pair_plan plan k = own_pair plan k pair lt is in
    let in_a : queues ≤ pair.a.queues = omega arith in
    let in_b : queues ≤ pair.b.queues = omega arith in
    let of_plan : HasQueues (declared_part plan) k queues =
    record {
      declared = lt;
      side_a = subst (λ (sides : PairPlan). queues ≤ sides.a.queues) own in_a;
      side_b = subst (λ (sides : PairPlan). queues ≤ sides.b.queues) own in_b;
    } in
    subst (λ (kept : Plan). HasQueues kept k queues) (sym same) of_plan

-- the counts of one pair more
pub adds_pair : (plan : Plan) (log : List Answered) (k : ℕ) (pair : PairPlan) (queues : ℕ) (old mid new : List LaneCount) →
    k < length plan.pairs → pair ≡ get_or plan.pairs k pair → queues ≡ min pair.a.queues pair.b.queues →
    old ≡ filled (flat_map (sessions_of_lane plan log) (flat_map (lanes_of_pair plan) (range_with_len 0 k))) →
    mid ≡ old ++ filled (flat_map (sessions_of_lane plan log) (lanes_from k A queues)) →
    new ≡ mid ++ filled (flat_map (sessions_of_lane plan log) (lanes_from k B queues)) →
    new ≡ filled (flat_map (sessions_of_lane plan log) (flat_map (lanes_of_pair plan) (range_with_len 0 (k + 1))))
adds_pair plan log k pair queues old mid new lt is least before first second =
    let sessions : LaneName → List LaneCount = sessions_of_lane plan log in
    let counts : List LaneCount = flat_map sessions (flat_map (lanes_of_pair plan) (range_with_len 0 k)) in
    let from_a : List LaneCount = flat_map sessions (lanes_from k A queues) in
    let from_b : List LaneCount = flat_map sessions (lanes_from k B queues) in
    let same : queues ≡ queues_of plan k = least ∙ ap (λ (sides : PairPlan). min sides.a.queues sides.b.queues) (own_pair plan k pair lt is) in
    adds_both old mid new from_a from_b first second
    ∙ ap (λ (kept : List LaneCount). kept ++ filled (from_a ++ from_b)) before
    ∙ sym (filter-append counts_some counts (from_a ++ from_b))
    ∙ ap (λ (q : ℕ). filled (counts ++ (flat_map sessions (lanes_from k A q) ++ flat_map sessions (lanes_from k B q)))) same
    ∙ ap filled (sym (pairs_more plan log k))
