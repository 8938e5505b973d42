-- Each lane with traffic is of a pair of the plan, and so is each lane of a record that has them in order.
use Rattle.std.proofs.Common.{◌≡◌, ℕ, zero, suc, ◌+◌, ◌<◌, ◌≤◌, List, length, map, get_or, sym, ◌∙◌, ap, subst, arith}
use Rattle.std.proofs.lemmas.List.{get_or-map, length-map}
use Rattle.std.proofs.lemmas.List.Elements.{All-append, All-filter, All-map, All-nil}
use Rattle.std.specs.List.{All, flat_map, range_with_len}
use Rattle.step_kinds.specs.Limits.{most_queues}
use Rattle.step_kinds.specs.declared.names.LaneName.{LaneName}
use Rattle.step_kinds.specs.declared.names.Side.{Side}
use Rattle.step_kinds.specs.declared.names.Side.TheVariants.{A, B}
use Rattle.step_kinds.specs.declared.plan.Plan.{Plan}
use Rattle.cluster_run.specs.Lanes.{has_traffic, lanes_in, lanes_of, traffic_lanes}

-- the lanes of a pair from a side
abbrev lanes_from : ℕ → Side → List LaneName
lanes_from pair from = map (λ queue. record { pair = pair; from = from; queue = queue }) (range_with_len 0 most_queues)

from_known : (pair pairs : ℕ) (from : Side) → pair < pairs → All (λ (lane : LaneName). lane.pair < pairs) (lanes_from pair from)
from_known pair pairs from known =
    All-map (λ (lane : LaneName). lane.pair < pairs) (λ queue. record { pair = pair; from = from; queue = queue }) (range_with_len 0 most_queues) (λ k d below. known)

-- the lanes of this many pairs, from a pair on
lanes_known : (first count pairs : ℕ) → first + count ≤ pairs → All (λ (lane : LaneName). lane.pair < pairs) (flat_map lanes_of (range_with_len first count))
lanes_known first zero pairs few = All-nil (λ (lane : LaneName). lane.pair < pairs)
lanes_known first (suc count) pairs few =
    All-append (λ (lane : LaneName). lane.pair < pairs) (lanes_of first) (flat_map lanes_of (range_with_len (first + 1) count))
    (All-append (λ (lane : LaneName). lane.pair < pairs) (lanes_from first A) (lanes_from first B) (from_known first pairs A (omega arith)) (from_known first pairs B (omega arith)))
    (lanes_known (first + 1) count pairs (omega arith))

-- the lanes with traffic
traffic_known : (plan : Plan) → All (λ (lane : LaneName). lane.pair < length plan.pairs) (traffic_lanes plan)
traffic_known plan =
    All-filter (has_traffic plan.traffic) (λ (lane : LaneName). lane.pair < length plan.pairs) (lanes_in (length plan.pairs))
    (lanes_known 0 (length plan.pairs) (length plan.pairs) (omega arith))

-- Each lane of a record whose lanes are the plan's lanes with traffic names a pair of the plan. What a record's lanes
-- show, and the names of that, are handed in.
pub known_pairs : {Run Shown : Type 0} (shown_of : Run → Shown) (name_of : Shown → LaneName) (plan : Plan) (runs : List Run) → map name_of (map shown_of runs) ≡ traffic_lanes plan
    → All (λ run. (name_of (shown_of run)).pair < length plan.pairs) runs
known_pairs shown_of name_of plan runs are =
    let all : All (λ (lane : LaneName). lane.pair < length plan.pairs) (map name_of (map shown_of runs)) =
    subst (λ (names : List LaneName). All (λ (lane : LaneName). lane.pair < length plan.pairs) names) (sym are) (traffic_known plan) in
    λ k d below.
    let within : k < length (map shown_of runs) = subst (λ many. k < many) (sym (length-map runs shown_of)) below in
    let named : get_or (map name_of (map shown_of runs)) k (name_of (shown_of d)) ≡ name_of (shown_of (get_or runs k d)) =
    get_or-map name_of (map shown_of runs) k (shown_of d) (name_of (shown_of d)) within ∙ ap name_of (get_or-map shown_of runs k d (shown_of d) below) in
    subst (λ (name : LaneName). name.pair < length plan.pairs) named
    (all k (name_of (shown_of d)) (subst (λ many. k < many) (sym (length-map (map shown_of runs) name_of)) within))
