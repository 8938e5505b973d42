-- Positions in a ring, without remainders.
use Rattle.std.proofs.Common.{◌≡◌, ℕ, ◌+◌, ◌-◌, ◌%◌, ◌<◌, ◌≤◌, ◌⊎◌, inl, inr, sym, ap, ◌∙◌, arith, mod-lt, mod-eq_of_lt}
use Rattle.std.proofs.Math.Nat.{mod-add-mod, add-mod_right}
use Rattle.table_lane.specs.LaneNames.{tail_of}
use Rattle.table_lane.specs.ShownLane.{number_at}
use Rattle.table_lane.proofs.Facade.{number_is}

-- a position is below the number of entries
pub position_below : (N n position : ℕ) → 2 ≤ N → position ≡ n % N → position < N
position_below N n position two at = let small : n % N < N = mod-lt n (omega (arith, two)) in omega arith

-- the position of a later entry, if it is before the end of the ring
pub position_further : (N n position more further : ℕ) → position ≡ n % N → further ≡ position + more → further < N → further ≡ (n + more) % N
position_further N n position more further at is below = sym (mod-eq_of_lt below) ∙ ap (λ k. k % N) is ∙ ap (λ k. (k + more) % N) at ∙ mod-add-mod n N more

-- and where it is past the end
pub position_round : (N n position more further : ℕ) → position ≡ n % N → further + N ≡ position + more → further < N → further ≡ (n + more) % N
position_round N n position more further at is below = sym (mod-eq_of_lt below) ∙ sym (add-mod_right further N) ∙ ap (λ k. k % N) is ∙ ap (λ k. (k + more) % N) at ∙ mod-add-mod n N more

-- The entry this many after the last one that was given back: its number, and then it is the last one.
pub number_ahead : (N freed last position ahead : ℕ) → 2 ≤ N → last ≡ tail_of N freed → position < N → (last + ahead ≡ position) ⊎ (last + ahead ≡ position + N) → 0 < ahead → ahead < N
    → (number_at N freed position ≡ freed + ahead - 1) × (position ≡ tail_of N (freed + ahead))
number_ahead N freed last position ahead two tail below is some few =
    let n : ℕ = freed + ahead - 1 in
    let same : n + N ≡ freed + N - 1 + ahead = omega arith in
    let at : position ≡ (freed + N - 1 + ahead) % N = elim is [
      | inl near ↦ position_further N (freed + N - 1) last ahead position tail (sym near) below
      | inr far ↦ position_round N (freed + N - 1) last ahead position tail (sym far) below
    ] in
    let of : position ≡ n % N = at ∙ ap (λ k. k % N) (sym same) ∙ add-mod_right n N in
    let next : freed + N - 1 + ahead ≡ freed + ahead + N - 1 = omega arith in
    (ap (number_at N freed) of ∙ number_is N freed n (omega arith) (omega arith), at ∙ ap (λ k. k % N) next)
