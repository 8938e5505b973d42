-- Two bridges have the same ends if and only if both ends of the two pairs are the same.
use Rattle.std.proofs.Common.{◌≡◌, ℕ, List, ap, subst, sym}
use Rattle.bridge_regs.specs.Doorbell.{Doorbell}
use Rattle.pair_model.specs.Both.{Both}
use Rattle.step_kinds.specs.declared.names.Side.{Side}
use Rattle.step_kinds.specs.declared.names.Side.TheVariants.{A, B}
use Rattle.bridge_pair.specs.Bridge.{Bridge, bridge_bytes_of, flight_of}
use Rattle.bridge_pair.specs.Same.{HasSameEnds, IsSameEnd}
use Rattle.bridge_pair.specs.Views.{bridge_seen}
use Rattle.bridge_pair.specs.declared.pair.Pair.TheInside.{Inside}

-- where both ends are the same, the bridges have the same ends
ends_seen : (one other : Inside) → IsSameEnd one.a other.a → IsSameEnd one.b other.b → HasSameEnds (bridge_seen one) (bridge_seen other)
ends_seen one other a b =
    record {
      pads = cc (a.pads, b.pads);
      bells = cc (a.bells, b.bells);
      bytes = bytes;
      writes = writes;
    }
  where
    bytes : (side : Side) → bridge_bytes_of (bridge_seen one) side ≡ bridge_bytes_of (bridge_seen other) side
    bytes A = a.bytes
    bytes B = b.bytes

    writes : (side : Side) → (flight_of (bridge_seen one) side).writes ≡ (flight_of (bridge_seen other) side).writes
    writes A = b.writes
    writes B = a.writes

-- also as contracts see the bridges
pub same_ends : (one other : Inside) (seen shown : Bridge) → bridge_seen one ≡ seen → bridge_seen other ≡ shown → IsSameEnd one.a other.a → IsSameEnd one.b other.b
    → HasSameEnds seen shown
same_ends one other seen shown is are a b =
    subst (λ (bridge : Bridge). HasSameEnds bridge shown) is (subst (λ (bridge : Bridge). HasSameEnds (bridge_seen one) bridge) are (ends_seen one other a b))

-- what contracts see to be the same is so of what is kept
unseen : (one other : Inside) (seen shown : Bridge) → bridge_seen one ≡ seen → bridge_seen other ≡ shown → HasSameEnds seen shown → HasSameEnds (bridge_seen one) (bridge_seen other)
unseen one other seen shown is are same =
    subst (λ (bridge : Bridge). HasSameEnds bridge (bridge_seen other)) (sym is) (subst (λ (bridge : Bridge). HasSameEnds seen bridge) (sym are) same)

-- then side A's end is the same
pub end_a : (one other : Inside) (seen shown : Bridge) → bridge_seen one ≡ seen → bridge_seen other ≡ shown → HasSameEnds seen shown → IsSameEnd one.a other.a
end_a one other seen shown is are both =
    let same = unseen one other seen shown is are both in
    record {
      pads = ap (λ (pads : Both (List ℕ)). pads.a) same.pads;
      bells = ap (λ (bells : Both Doorbell). bells.a) same.bells;
      bytes = same.bytes A;
      writes = same.writes B;
    }

-- and side B's
pub end_b : (one other : Inside) (seen shown : Bridge) → bridge_seen one ≡ seen → bridge_seen other ≡ shown → HasSameEnds seen shown → IsSameEnd one.b other.b
end_b one other seen shown is are both =
    let same = unseen one other seen shown is are both in
    record {
      pads = ap (λ (pads : Both (List ℕ)). pads.b) same.pads;
      bells = ap (λ (bells : Both Doorbell). bells.b) same.bells;
      bytes = same.bytes B;
      writes = same.writes A;
    }
