-- Where a lane stands among all lanes: at its place, and nowhere else.
use Rattle.std.proofs.Common.{◌≡◌, ◌≢◌, ℕ, zero, suc, ◌+◌, ◌*◌, ◌<◌, ◌≤◌, ◌==◌, inl, inr, true, false, List, [], ◌∷◌, ◌++◌, length, map, refl, subst, arith}
use Rattle.std.proofs.lemmas.Bool.{and_left, and_right, and_from}
use Rattle.std.proofs.lemmas.Bool.Decides.{eqb_tells}
use Rattle.std.specs.List.{flat_map, range_with_len}
use Rattle.step_kinds.specs.Sides.{same_lane, same_side}
use Rattle.step_kinds.specs.declared.names.Side.{Side}
use Rattle.step_kinds.specs.declared.names.Side.TheVariants.{A, B}
use Rattle.step_kinds.specs.declared.names.LaneName.{LaneName}
use Rattle.cluster_run.specs.Lanes.{lanes_of, lanes_in}
use Rattle.cluster_run.specs.ByLane.{side_place, lane_place_of}

-- the lane is none of these, or is the one at this place alone
abbrev pub NoneIs : LaneName → List LaneName → Type 0
NoneIs lane [] = Unit {0}
NoneIs lane (l ∷ ls) = (same_lane lane l ≡ false) × NoneIs lane ls

abbrev pub IsOnlyAt : ℕ → LaneName → List LaneName → Type 0
IsOnlyAt place lane [] = ⊥
IsOnlyAt zero lane (l ∷ ls) = (same_lane lane l ≡ true) × NoneIs lane ls
IsOnlyAt (suc place) lane (l ∷ ls) = (same_lane lane l ≡ false) × IsOnlyAt place lane ls

none_in_both : (lane : LaneName) (xs ys : List LaneName) → NoneIs lane xs → NoneIs lane ys → NoneIs lane (xs ++ ys)
none_in_both lane [] ys left right = right
none_in_both lane (x ∷ xs) ys left right = (left.0, none_in_both lane xs ys left.1 right)

only_in_first : (lane : LaneName) (place : ℕ) (xs ys : List LaneName) → IsOnlyAt place lane xs → NoneIs lane ys → IsOnlyAt place lane (xs ++ ys)
only_in_first lane place [] ys left right = absurd left
only_in_first lane zero (x ∷ xs) ys left right = (left.0, none_in_both lane xs ys left.1 right)
only_in_first lane (suc place) (x ∷ xs) ys left right = (left.0, only_in_first lane place xs ys left.1 right)

only_in_second : (lane : LaneName) (place at : ℕ) (xs ys : List LaneName) → length xs + place ≡ at → NoneIs lane xs → IsOnlyAt place lane ys → IsOnlyAt at lane (xs ++ ys)
only_in_second lane place at [] ys sum left right = let same : place ≡ at = omega arith in subst (λ at. IsOnlyAt at lane ys) same right
only_in_second lane place zero (x ∷ xs) ys sum left right = absurd (omega (arith, sum))
only_in_second lane place (suc at) (x ∷ xs) ys sum left right = (left.0, only_in_second lane place at xs ys (omega (arith, sum)) left.1 right)

-- The one place at which a lane stands in a list of lanes is below the list's length.
pub only_within : (lane : LaneName) (place : ℕ) (xs : List LaneName) → IsOnlyAt place lane xs → place < length xs
only_within lane place [] only = absurd only
only_within lane zero (x ∷ xs) only = omega arith
only_within lane (suc place) (x ∷ xs) only = let within = only_within lane place xs only.1 in omega arith

-- two lanes differ in their pair, their side or their queue
unequal : (a b : ℕ) → a ≢ b → (a == b) ≡ false
unequal a b differ = elim (eqb_tells a b) [ inl same ↦ absurd (differ same.1) | inr other ↦ other.0 ]

equal : (a b : ℕ) → a ≡ b → (a == b) ≡ true
equal a b same = elim (eqb_tells a b) [ inl tells ↦ tells.0 | inr other ↦ absurd (other.1 same) ]

other_pair : (one other : LaneName) → one.pair ≢ other.pair → same_lane one other ≡ false
other_pair one other differ = and_left _ _ (unequal one.pair other.pair differ)

other_side : (one other : LaneName) → same_side one.from other.from ≡ false → same_lane one other ≡ false
other_side one other differ = and_right _ _ (and_left _ _ differ)

other_queue : (one other : LaneName) → one.queue ≢ other.queue → same_lane one other ≡ false
other_queue one other differ = and_right _ _ (and_right _ _ (unequal one.queue other.queue differ))

abbrev lane_with : ℕ → Side → ℕ → LaneName
lane_with pair from queue = record { pair = pair; from = from; queue = queue }

same_as_itself : (from : Side) → same_side from from ≡ true
same_as_itself A = refl
same_as_itself B = refl

-- among the queues of one side
none_in_side : (lane : LaneName) (pair : ℕ) (from : Side) (a n : ℕ) → ((queue : ℕ) → a ≤ queue → same_lane lane (record { pair = pair; from = from; queue = queue }) ≡ false)
    → NoneIs lane (map (λ queue. record { pair = pair; from = from; queue = queue }) (range_with_len a n))
none_in_side lane pair from a zero differ = tt
none_in_side lane pair from a (suc n) differ = (differ a (omega arith), none_in_side lane pair from (a + 1) n (λ queue from_a. differ queue (omega arith)))

only_in_side : (pair : ℕ) (from : Side) (queue a n k : ℕ) → queue ≡ a + k → k < n
    → IsOnlyAt k (record { pair = pair; from = from; queue = queue }) (map (λ queue. record { pair = pair; from = from; queue = queue }) (range_with_len a n))
only_in_side pair from queue a zero k is within = absurd (omega (arith, within))
only_in_side pair from queue a (suc n) zero is within =
    let lane : LaneName = record { pair = pair; from = from; queue = queue } in (
      and_from _ _ (equal pair pair refl) (and_from _ _ (same_as_itself from) (equal queue a (omega arith))),
      none_in_side lane pair from (a + 1) n (λ other from_a. other_queue lane (record { pair = pair; from = from; queue = other }) (omega arith)),
    )
only_in_side pair from queue a (suc n) (suc k) is within =
    let lane : LaneName = record { pair = pair; from = from; queue = queue } in
    (other_queue lane (record { pair = pair; from = from; queue = a }) (omega arith), only_in_side pair from queue (a + 1) n k (omega arith) (omega arith))

-- among the lanes of one pair
none_in_pair : (lane : LaneName) (pair : ℕ) → lane.pair ≢ pair → NoneIs lane (lanes_of pair)
none_in_pair lane pair differ =
    none_in_both lane (map (lane_with pair A) (range_with_len 0 16)) (map (lane_with pair B) (range_with_len 0 16))
    (none_in_side lane pair A 0 16 (λ queue from_0. other_pair lane (record { pair = pair; from = A; queue = queue }) differ))
    (none_in_side lane pair B 0 16 (λ queue from_0. other_pair lane (record { pair = pair; from = B; queue = queue }) differ))

only_in_pair : (pair : ℕ) (from : Side) (queue : ℕ) → queue < 16 → IsOnlyAt (side_place from + queue) (record { pair = pair; from = from; queue = queue }) (lanes_of pair)
only_in_pair pair A queue few =
    let lane : LaneName = record { pair = pair; from = A; queue = queue } in
    let same : queue ≡ side_place A + queue = omega arith in
    subst (λ place. IsOnlyAt place lane (lanes_of pair)) same
    (only_in_first lane queue (map (lane_with pair A) (range_with_len 0 16)) (map (lane_with pair B) (range_with_len 0 16)) (only_in_side pair A queue 0 16 queue (omega arith) few)
    (none_in_side lane pair B 0 16 (λ other from_0. other_side lane (record { pair = pair; from = B; queue = other }) refl)))
only_in_pair pair B queue few =
    let lane : LaneName = record { pair = pair; from = B; queue = queue } in
    only_in_second lane queue (side_place B + queue) (map (lane_with pair A) (range_with_len 0 16)) (map (lane_with pair B) (range_with_len 0 16)) refl
    (none_in_side lane pair A 0 16 (λ other from_0. other_side lane (record { pair = pair; from = A; queue = other }) refl)) (only_in_side pair B queue 0 16 queue (omega arith) few)

-- among the lanes of all pairs
none_before : (lane : LaneName) (a n : ℕ) → lane.pair < a → NoneIs lane (flat_map lanes_of (range_with_len a n))
none_before lane a zero before = tt
none_before lane a (suc n) before = none_in_both lane (lanes_of a) (flat_map lanes_of (range_with_len (a + 1) n)) (none_in_pair lane a (omega arith)) (none_before lane (a + 1) n (omega arith))

length-lanes_of : (pair : ℕ) → length (lanes_of pair) ≡ 32
length-lanes_of pair = refl

only_from : (pair : ℕ) (from : Side) (queue a n k : ℕ) → queue < 16 → pair ≡ a + k → k < n
    → IsOnlyAt (32 * k + (side_place from + queue)) (record { pair = pair; from = from; queue = queue }) (flat_map lanes_of (range_with_len a n))
only_from pair from queue a zero k few is within = absurd (omega (arith, within))
only_from pair from queue a (suc n) zero few is within =
    let lane : LaneName = record { pair = pair; from = from; queue = queue } in
    let first : pair ≡ a = omega arith in
    let place : side_place from + queue ≡ 32 * 0 + (side_place from + queue) = omega arith in
    subst (λ place. IsOnlyAt place lane (lanes_of a ++ flat_map lanes_of (range_with_len (a + 1) n))) place
    (only_in_first lane (side_place from + queue) (lanes_of a) (flat_map lanes_of (range_with_len (a + 1) n)) (subst (λ here. IsOnlyAt (side_place from + queue) lane (lanes_of here)) first (only_in_pair pair from queue few)) (none_before lane (a + 1) n (omega arith)))
only_from pair from queue a (suc n) (suc k) few is within =
    let lane : LaneName = record { pair = pair; from = from; queue = queue } in
    let many = length-lanes_of a in
    only_in_second lane (32 * k + (side_place from + queue)) (32 * suc k + (side_place from + queue)) (lanes_of a) (flat_map lanes_of (range_with_len (a + 1) n)) (omega arith) (none_in_pair lane a (omega arith)) (only_from pair from queue (a + 1) n k few (omega arith) (omega arith))

-- Among all lanes of this many pairs a lane stands at the place that its name gives, and nowhere else.
pub only_at_place : (lane : LaneName) (pairs : ℕ) → lane.queue < 16 → lane.pair < pairs → IsOnlyAt (lane_place_of lane) lane (lanes_in pairs)
only_at_place lane pairs few among = only_from lane.pair lane.from lane.queue 0 pairs lane.pair few (omega arith) among
