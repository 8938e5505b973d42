-- The borders of a ring follow one another.
use Rattle.std.proofs.Common.{◌≡◌, ℕ, ◌+◌, ◌<◌, ◌≤◌, Bool, true, false, length, sym, ap, ◌∙◌, arith}
use Rattle.table_lane.specs.LaneNames.{Lane, Phase, PhaseCounts, Idle, Copying, Copied, Cleared}
use Rattle.table_lane.specs.Borders.{Slots}
use Rattle.table_lane.specs.ShownLane.{hand_in, claimed_by}
use Rattle.table_lane.specs.Moment.{Moment, ShowsLane}

pub record InOrder (N : ℕ) (m : Moment) : Type 0 where
  pub two : 2 ≤ N
  pub freed : m.back.freed ≤ m.lane.acked
  pub acked : m.lane.acked ≤ m.lane.cleared
  pub cleared : m.lane.cleared ≤ length m.recv.got
  pub looked : length m.recv.got + length m.recv.hand ≤ m.mover.flagged
  pub taken : m.mover.flagged + length m.mover.held ≤ length m.send.sent
  pub sent : length m.send.sent ≤ claimed_by (length m.send.sent) m.send.claims
  pub claimed : claimed_by (length m.send.sent) m.send.claims < m.back.freed + N

-- a copying receiver looks at a landed entry
looked_within : (phase : Phase) (lane : Lane) → lane.got ≤ lane.flagged → PhaseCounts phase lane.acked lane.cleared lane.got lane.flagged → lane.got + hand_in phase ≤ lane.flagged
looked_within Idle lane low counts = omega arith
looked_within Copying lane low counts = let c = counts.2 in omega arith
looked_within Copied lane low counts = omega arith
looked_within Cleared lane low counts = omega arith

one_or_none : (claims : Bool) (n : ℕ) → n ≤ claimed_by n claims
one_or_none true n = omega arith
one_or_none false n = omega arith

-- If a table shows a lane, the counts of its entries follow one another, from those given back to those claimed.
pub in_order : (N : ℕ) (m : Moment) (slots : Slots) → ShowsLane N m slots → InOrder N m
in_order N m slots h =
    let law = h.law.2 in
    let two : 2 ≤ m.lane.entries = law.room.two_entries in
    let a : m.lane.freed ≤ m.lane.acked = law.counts.freed_first in
    let b : m.lane.acked ≤ m.lane.cleared = law.counts.acked_first in
    let c : m.lane.cleared ≤ m.lane.got = law.counts.cleared_first in
    let d : m.lane.got + hand_in m.lane.phase ≤ m.lane.flagged = looked_within m.lane.phase m.lane law.counts.got_first law.receiver.phase_counts in
    let e : hand_in m.lane.phase ≡ length m.recv.hand = ap hand_in h.parts.stage ∙ sym h.receiving.in_hand in
    let entries = h.of.entries in
    let freed = h.parts.given_back in
    let got = h.parts.copied in
    let flagged = h.parts.whole in
    let f : m.mover.flagged + length m.mover.held ≤ length m.send.sent = h.holding.within in
    let g : claimed_by (length m.send.sent) m.send.claims + 1 ≤ m.back.freed + N = h.room.one_free in
    record {
      two = omega arith;
      freed = omega arith;
      acked = b;
      cleared = omega arith;
      looked = omega arith;
      taken = f;
      sent = one_or_none m.send.claims (length m.send.sent);
      claimed = omega arith;
    }
