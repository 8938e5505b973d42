-- How many items a traffic has: its frames, and the losses of all pairs' links.
use Rattle.std.proofs.Common.{◌≡◌, ℕ, zero, suc, ◌+◌, ◌*◌, ◌^◌, ◌<◌, ◌≤◌, cond, Bool, List, [], ◌∷◌, ◌++◌, length, map, sum, count_by, sym, ◌∙◌, ap, arith}
use Rattle.std.proofs.lemmas.Bool.{eq-eqb}
use Rattle.std.proofs.lemmas.List.FromFn.{map-range_with_len_more}
use Rattle.std.proofs.lemmas.List.Sums.{sum_by-cons}
use Rattle.std.specs.List.{All, range_with_len}
use Rattle.step_kinds.specs.declared.plan.Plan.{Plan}
use Rattle.step_kinds.specs.declared.plan.Traffic.{Traffic}
use Rattle.step_kinds.specs.declared.plan.Traffic.TheVariants.{Send, Break}
use Rattle.pair_model.specs.TrafficPlans.{IsTraffic, frames_in, is_break_of}
use Rattle.cluster_run.specs.Lanes.{CanRun}

-- the losses of the links of n pairs, from pair a on
abbrev losses_from : List Traffic → ℕ → ℕ → ℕ
losses_from traffic a n = sum (map (λ pair. count_by (is_break_of pair) traffic) (range_with_len a n))

first_pair : (traffic : List Traffic) (a n : ℕ) → losses_from traffic a (suc n) ≡ count_by (is_break_of a) traffic + losses_from traffic (a + 1) n
first_pair traffic a n = sum_by-cons (λ (count : ℕ). count) (count_by (is_break_of a) traffic) (map (λ pair. count_by (is_break_of pair) traffic) (range_with_len (a + 1) n))

first_item : (pair : ℕ) (item : Traffic) (items : List Traffic) → count_by (is_break_of pair) (item ∷ items) ≡ cond (is_break_of pair item) 1 0 + count_by (is_break_of pair) items
first_item pair item items = sum_by-cons (λ (item : Traffic). cond (is_break_of pair item) 1 0) item items

losses_grow : (item : Traffic) (items : List Traffic) (a n : ℕ) → losses_from items a n ≤ losses_from (item ∷ items) a n
losses_grow item items a zero = omega arith
losses_grow item items a (suc n) =
    let before = first_pair items a n in
    let after = first_pair (item ∷ items) a n in
    let first = first_item a item items in
    let rest = losses_grow item items (a + 1) n in
    omega arith

losses_grow_by_one : (pair : ℕ) (items : List Traffic) (a n k : ℕ) → pair ≡ a + k → k < n → losses_from items a n + 1 ≤ losses_from (Break pair ∷ items) a n
losses_grow_by_one pair items a zero k is within = absurd (omega (arith, within))
losses_grow_by_one pair items a (suc n) zero is within =
    let before = first_pair items a n in
    let after = first_pair (Break pair ∷ items) a n in
    let here : pair ≡ a = omega arith in
    let first : count_by (is_break_of a) (Break pair ∷ items) ≡ 1 + count_by (is_break_of a) items = first_item a (Break pair) items ∙ ap (λ (b : Bool). cond b 1 0 + count_by (is_break_of a) items) (eq-eqb pair a here) in
    let rest = losses_grow (Break pair) items (a + 1) n in
    omega arith
losses_grow_by_one pair items a (suc n) (suc k) is within =
    let before = first_pair items a n in
    let after = first_pair (Break pair ∷ items) a n in
    let first = first_item a (Break pair) items in
    let rest = losses_grow_by_one pair items (a + 1) n k (omega arith) (omega arith) in
    omega arith

items_counted : (plan : Plan) (traffic : List Traffic) → All (IsTraffic plan) traffic → length traffic ≤ sum (map frames_in traffic) + losses_from traffic 0 (length plan.pairs)
items_counted plan [] all = omega arith
items_counted plan (Send lane frame ∷ items) all =
    let rest = items_counted plan items (λ k d below. all (suc k) d (omega arith)) in
    let first = sum_by-cons (λ (n : ℕ). n) 1 (map frames_in items) in
    let grow = losses_grow (Send lane frame) items 0 (length plan.pairs) in
    omega arith
items_counted plan (Break pair ∷ items) all =
    let rest = items_counted plan items (λ k d below. all (suc k) d (omega arith)) in
    let first = sum_by-cons (λ (n : ℕ). n) 0 (map frames_in items) in
    let declared = (all 0 (Break pair) (omega arith)).0 in
    let grow = losses_grow_by_one pair items 0 (length plan.pairs) pair (omega arith) declared in
    omega arith

few_losses : (traffic : List Traffic) → ((pair : ℕ) → count_by (is_break_of pair) traffic ≤ 100) → (a n : ℕ) → losses_from traffic a n ≤ 100 * n
few_losses traffic each a zero = omega arith
few_losses traffic each a (suc n) =
    let first = first_pair traffic a n in
    let here = each a in
    let rest = few_losses traffic each (a + 1) n in
    omega arith

-- A plan that can be run has fewer than 2^32 items of traffic, frames and link losses together.
pub few_items : (plan : Plan) → CanRun plan → length plan.traffic < 2 ^ 32
few_items plan can =
    let counted = items_counted plan plan.traffic can.traffic in
    let losses = few_losses plan.traffic can.few_breaks 0 (length plan.pairs) in
    let frames = can.few_frames in
    let pairs = can.few_pairs in
    omega arith

-- the losses of one pair more
pub losses_more : (traffic : List Traffic) (pair loss : ℕ) (old new : List ℕ) → old ≡ map (λ pair. count_by (is_break_of pair) traffic) (range_with_len 0 pair)
    → new ≡ old ++ loss ∷ [] → loss ≡ count_by (is_break_of pair) traffic → new ≡ map (λ pair. count_by (is_break_of pair) traffic) (range_with_len 0 (pair + 1))
losses_more traffic pair loss old new old_is new_is loss_is =
    let count : ℕ → ℕ = λ pair. count_by (is_break_of pair) traffic in
    new_is ∙ (ap (λ losses. losses ++ loss ∷ []) old_is ∙ (ap (λ loss. map count (range_with_len 0 pair) ++ loss ∷ []) loss_is ∙ sym (map-range_with_len_more count 0 pair pair (omega arith))))
