-- What is kept by side and queue, if one queue of one side has something else.
use Rattle.std.proofs.Common.{◌≡◌, ℕ, Bool, true, List, [], ◌++◌, refl, sym, ap, ◌∙◌, subst, inl, inr}
use Rattle.std.proofs.lemmas.Bool.{cases_eq}
use Rattle.std.proofs.lemmas.List.{append-nil}
use Rattle.step_kinds.specs.Bits.{has_bit, with_bit}
use Rattle.step_kinds.specs.Sides.{other_side}
use Rattle.step_kinds.specs.declared.names.Side.{Side}
use Rattle.step_kinds.specs.declared.names.Side.TheVariants.{A, B}
use Rattle.lane_model.specs.Lane.{Entry}
use Rattle.pair_model.specs.Both.{Both, at_side, with_side}
use Rattle.ledger_model.specs.Ledger.{LanePart, SidePart, updated}
use Rattle.fabric_rule.specs.StandsFor.{sent_of}
use Rattle.fabric_rule.proofs.Counts.{has-with_other, has-with_same}
use Rattle.fabric_rule.proofs.Flights.{SentGrows}
use Rattle.fabric_rule.proofs.Follows.{updated_here, updated_other}

-- a side has this at a queue, and at the others, and its peer at all, what was there
pub record OneChanges {X : Type 0} (side peer : Side) (queue : ℕ) (old new : Both (ℕ → X)) (x : X) : Type 0 where
  pub here : at_side new side queue ≡ x
  pub others : (other : ℕ) → (other ≡ queue → ⊥) → at_side new side other ≡ at_side old side other
  pub peers : (other : ℕ) → at_side new peer other ≡ at_side old peer other

-- What is kept by side and queue and stays as it was counts as changed at one queue, to the value that it had there.
pub stays : {X : Type 0} (old : Both (ℕ → X)) (side peer : Side) (queue : ℕ) → OneChanges side peer queue old old (at_side old side queue)
stays old side peer queue = record { here = refl; others = λ other ne. refl; peers = λ other. refl }

-- Putting a value at one queue of a side leaves that side's other queues and all of its peer's as they were.
pub changes : {X : Type 0} (old : Both (ℕ → X)) (side : Side) (queue : ℕ) (x : X) → OneChanges side (other_side side) queue old (with_side old side (updated (at_side old side) queue x)) x
changes old A queue x = record { here = updated_here old.a queue x; others = updated_other old.a queue x; peers = λ other. refl }
changes old B queue x = record { here = updated_here old.b queue x; others = updated_other old.b queue x; peers = λ other. refl }

-- the same of the peer of a side
pub peer_changes : {X : Type 0} (old : Both (ℕ → X)) (side : Side) (queue : ℕ) (x : X) → OneChanges (other_side side) side queue old (with_side old (other_side side) (updated (at_side old (other_side side)) queue x)) x
peer_changes old A queue x = changes old B queue x
peer_changes old B queue x = changes old A queue x

-- of what is read of it where that stays
pub same_read : {X Y : Type 0} {side peer : Side} {queue : ℕ} {old new : Both (ℕ → X)} {x : X} (g : X → Y) → OneChanges side peer queue old new x → g x ≡ g (at_side old side queue) → (other : ℕ) → g (at_side new side other) ≡ g (at_side old side other)
same_read {side = side} {queue = queue} {old = old} {new = new} g one same other = elim (cases_eq other queue) [
  | inl e ↦ subst (λ (other : ℕ). g (at_side new side other) ≡ g (at_side old side other)) (sym e) (ap g one.here ∙ same)
  | inr ne ↦ ap g (one.others other ne)
]

-- lanes whose entries grow
pub grows_at : {side peer : Side} {queue : ℕ} {old new : Both (ℕ → LanePart)} {lane : LanePart} (more : List Entry) → OneChanges side peer queue old new lane → lane.sent ≡ (at_side old side queue).sent ++ more
    → SentGrows (sent_of (at_side old side)) (sent_of (at_side new side))
grows_at {side = side} {queue = queue} {old = old} {new = new} more one grows other = elim (cases_eq other queue) [
  | inl e ↦ (more, subst (λ (other : ℕ). sent_of (at_side new side) other ≡ sent_of (at_side old side) other ++ more) (sym e) (ap (λ (lane : LanePart). lane.sent) one.here ∙ grows))
  | inr ne ↦ ([], ap (λ (lane : LanePart). lane.sent) (one.others other ne) ∙ sym (append-nil (sent_of (at_side old side) other)))
]

-- If one queue of a side changes, each of its peer's queues still has the entries that were sent on it.
pub peer_grows : {side peer : Side} {queue : ℕ} {old new : Both (ℕ → LanePart)} {lane : LanePart} → OneChanges side peer queue old new lane → SentGrows (sent_of (at_side old peer)) (sent_of (at_side new peer))
peer_grows {peer = peer} {old = old} one other = ([], ap (λ (lane : LanePart). lane.sent) (one.peers other) ∙ sym (append-nil (sent_of (at_side old peer) other)))

-- sides that differ in what is closed alone, and in that at this queue of this side
pub record OneCloses (side peer : Side) (queue : ℕ) (old new : Both SidePart) (closed : Bool) : Type 0 where
  pub alike : (s : Side) → record (at_side new s) { closed = 0 } ≡ record (at_side old s) { closed = 0 }
  pub here : has_bit (at_side new side).closed queue ≡ closed
  pub others : (other : ℕ) → (other ≡ queue → ⊥) → has_bit (at_side new side).closed other ≡ has_bit (at_side old side).closed other
  pub peers : (other : ℕ) → has_bit (at_side new peer).closed other ≡ has_bit (at_side old peer).closed other

-- If both sides stay as they were, each of their queues is closed just if it was before.
pub none_closes : (old : Both SidePart) (side peer : Side) (queue : ℕ) → OneCloses side peer queue old old (has_bit (at_side old side).closed queue)
none_closes old side peer queue = record { alike = λ s. refl; here = refl; others = λ other ne. refl; peers = λ other. refl }

-- Marking one queue of a side as closed leaves its other queues, its peer's, and all else of both sides as they were.
pub one_closes : (old : Both SidePart) (side : Side) (queue : ℕ) → OneCloses side (other_side side) queue old (with_side old side (record (at_side old side) { closed = with_bit (at_side old side).closed queue })) true
one_closes old A queue = record { alike = alike; here = has-with_same old.a.closed queue; others = has-with_other old.a.closed queue; peers = λ other. refl }
  where
    alike : (s : Side) → record (at_side (with_side old A (record old.a { closed = with_bit old.a.closed queue })) s) { closed = 0 } ≡ record (at_side old s) { closed = 0 }
    alike A = refl
    alike B = refl
one_closes old B queue = record { alike = alike; here = has-with_same old.b.closed queue; others = has-with_other old.b.closed queue; peers = λ other. refl }
  where
    alike : (s : Side) → record (at_side (with_side old B (record old.b { closed = with_bit old.b.closed queue })) s) { closed = 0 } ≡ record (at_side old s) { closed = 0 }
    alike A = refl
    alike B = refl
