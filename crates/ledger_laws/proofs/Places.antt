-- Lanes and origins by the tests on them.
use Rattle.std.proofs.Common.{◌≡◌, ℕ, ◌==◌, Bool, true, false, refl, ap, ◌∙◌, inl, inr, arith}
use Rattle.std.specs.Prelude.{◌&&◌}
use Rattle.std.proofs.lemmas.Bool.{and_from, and_parts, eq-eqb, eqb-true, false≢true}
use Rattle.step_kinds.specs.Sides.{other_side, same_lane, same_side}
use Rattle.step_kinds.specs.declared.names.LaneName.{LaneName}
use Rattle.step_kinds.specs.declared.names.Side.{Side}
use Rattle.step_kinds.specs.declared.names.Side.TheVariants.{A, B}
use Rattle.ledger_model.specs.Log.{is_on}
use Rattle.ledger_model.specs.Origins.{Origin}
use Rattle.ledger_model.specs.Paths.{same_origin}
use Rattle.ledger_model.specs.Ports.{receiver_of}
use Rattle.ledger_laws.specs.Paths.{IsBefore}

same_side-true : (a b : Side) → same_side a b ≡ true → a ≡ b
same_side-true A A e = refl
same_side-true A B e = absurd (false≢true e)
same_side-true B A e = absurd (false≢true e)
same_side-true B B e = refl

same_side-itself : (a : Side) → same_side a a ≡ true
same_side-itself A = refl
same_side-itself B = refl

other_side-twice : (a : Side) → other_side (other_side a) ≡ a
other_side-twice A = refl
other_side-twice B = refl

-- A lane that passes the test for a pair, a side and a queue is the lane with just these.
pub lane_is : (lane : LaneName) (pair : ℕ) (side : Side) (queue : ℕ) → is_on lane pair side queue ≡ true → record { pair = pair; from = side; queue = queue } ≡ lane
lane_is lane pair side queue e =
    let parts = and_parts (pair == lane.pair) (same_side side lane.from && (queue == lane.queue)) e in
    let rest = and_parts (same_side side lane.from) (queue == lane.queue) parts.1 in
    let p = eqb-true pair lane.pair parts.0 in
    let s = same_side-true side lane.from rest.0 in
    let q = eqb-true queue lane.queue rest.1 in
    ap (λ n. record { pair = n; from = side; queue = queue }) p ∙ ap (λ n. record { pair = lane.pair; from = n; queue = queue }) s
    ∙ ap (λ n. record { pair = lane.pair; from = lane.from; queue = n }) q

-- Every lane passes the test for its own pair, side and queue.
pub lane_itself : (lane : LaneName) → is_on lane lane.pair lane.from lane.queue ≡ true
lane_itself lane =
    and_from (lane.pair == lane.pair) (same_side lane.from lane.from && (lane.queue == lane.queue)) (eq-eqb lane.pair lane.pair refl)
    (and_from (same_side lane.from lane.from) (lane.queue == lane.queue) (same_side-itself lane.from) (eq-eqb lane.queue lane.queue refl))

-- Two lanes that pass the test of being the same are equal.
pub same_lane-true : (one other : LaneName) → same_lane one other ≡ true → one ≡ other
same_lane-true one other e = lane_is other one.pair one.from one.queue e

-- the side and the queue on which a lane is received is that of the side that copies there
pub receiver-towards : (pair : ℕ) (side : Side) (queue : ℕ) → receiver_of (record { pair = pair; from = other_side side; queue = queue }) ≡ record { pair = pair; from = side; queue = queue }
receiver-towards pair side queue = ap (λ s. record { pair = pair; from = s; queue = queue }) (other_side-twice side)

-- Two origins that pass the test of being the same are equal.
pub same_origin-true : (one other : Origin) → same_origin one other ≡ true → one ≡ other
same_origin-true one other e =
    let parts = and_parts (same_lane one.lane other.lane) (one.session == other.session && (one.number == other.number)) e in
    let rest = and_parts (one.session == other.session) (one.number == other.number) parts.1 in
    ap (λ l. record { lane = l; session = one.session; number = one.number }) (same_lane-true one.lane other.lane parts.0)
    ∙ ap (λ n. record { lane = other.lane; session = n; number = one.number }) (eqb-true one.session other.session rest.0)
    ∙ ap (λ n. record { lane = other.lane; session = other.session; number = n }) (eqb-true one.number other.number rest.1)

-- an origin that is before another is another one
pub before-another : (one other : Origin) → IsBefore one other → (one ≡ other → ⊥)
before-another one other (inl less) e = let s = ap (λ (o : Origin). o.session) e in absurd (omega arith)
before-another one other (inr less) e = let n = ap (λ (o : Origin). o.number) e in absurd (omega (arith, less.1))

-- If one origin is before another on its lane, the test of being the same tells them apart.
pub before-differs : (one other : Origin) → IsBefore one other → same_origin one other ≡ false
before-differs one other less = by (same_origin one other) refl
  where
    by : (b : Bool) → same_origin one other ≡ b → b ≡ false
    by true e = absurd (before-another one other less (same_origin-true one other e))
    by false e = refl

-- Of two origins not each can be before the other: the order by session and number is asymmetric.
pub before-one_way : (one other : Origin) → IsBefore one other → IsBefore other one → ⊥
before-one_way one other (inl a) (inl b) = omega arith
before-one_way one other (inl a) (inr b) = omega (arith, b.0)
before-one_way one other (inr a) (inl b) = omega (arith, a.0)
before-one_way one other (inr a) (inr b) = omega (arith, a.1, b.1)
