use Rattle.std.proofs.Common.{arith, ◌≡◌, ◌+◌, ◌-◌, ◌<◌, ℕ, inl, inr, sym, ap, ◌∙◌}
use Rattle.table_lane.specs.LaneNames.{tail_of}
use Rattle.table_lane.proofs.Positions.{position_below, number_ahead}
use Rattle.table_lane.proofs.back.number_at.Goals as goal

pub returns-then-position-last-clause-value : goal.returns-then-position-last-clause-value
returns-then-position-last-clause-value c =
    let new = c.requires.new in
    let above = c.if-position-last.true in
    sym (number_ahead c.args.entries c.args.freed c.args.last c.args.position (c.args.position - c.args.last) c.requires.ring.0 new.2 new.0 (inl (omega arith)) (omega arith) (omega (arith, new.0))).0

pub returns-else-position-last-clause-value : goal.returns-else-position-last-clause-value
returns-else-position-last-clause-value c =
    let N : ℕ = c.args.entries in
    let new = c.requires.new in
    let other = new.1 in
    let below = c.if-position-last.false in
    let last : c.args.last < N = position_below N (c.args.freed + N - 1) c.args.last c.requires.ring.0 new.2 in
    sym (number_ahead N c.args.freed c.args.last c.args.position (c.args.position + N - c.args.last) c.requires.ring.0 new.2 new.0 (inr (omega arith)) (omega arith) (omega (arith, new.0))).0

pub returns-else-position-last-clause-newest : goal.returns-else-position-last-clause-newest
returns-else-position-last-clause-newest c =
    let N : ℕ = c.args.entries in
    let new = c.requires.new in
    let other = new.1 in
    let below = c.if-position-last.false in
    let last : c.args.last < N = position_below N (c.args.freed + N - 1) c.args.last c.requires.ring.0 new.2 in
    let same : c.args.freed + (c.args.position + N - c.args.last) ≡ c.args.freed + (c.args.position + N - c.args.last) - 1 + 1 = omega arith in
    (number_ahead N c.args.freed c.args.last c.args.position (c.args.position + N - c.args.last) c.requires.ring.0 new.2 new.0 (inr (omega arith)) (omega arith) (omega (arith, new.0))).1 ∙ ap (tail_of N) same
