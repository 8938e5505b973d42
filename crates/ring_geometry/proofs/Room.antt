-- The free entries by head and index word, and by the counts.
use Rattle.std.proofs.Common.{◌≡◌, ℕ, ◌+◌, ◌-◌, ◌%◌, ◌<◌, ◌≤◌, inl, inr, ◌∙◌, arith}
use Rattle.std.proofs.Math.Nat.{mod-eq_of_lt, mod-eq-sub-mod, mod-add-mod}
use Rattle.std.proofs.lemmas.Nat.{mod_below}
use Rattle.std.proofs.lemmas.Bool.{cases_lt, le-leb, lt-leb}
use Rattle.lane_model.specs.Ring.{free_entries, head_of, tail_of, room_of}

-- a step that is shorter than the ring wraps once or not at all, and free_entries undoes it
free_step : (n head room : ℕ) → head < n → room < n → free_entries n head ((head + room) % n) ≡ room
free_step n head room p q = elim (cases_lt (head + room) n) [
  | inl r ↦ rw (mod-eq_of_lt r, le-leb head (head + room) (omega arith)) (omega arith)
  | inr r ↦
      let e : (head + room) % n ≡ head + room - n =
      mod-eq-sub-mod {n = head + room} {m = n} r ∙ mod-eq_of_lt (omega arith) in
      rw (e, lt-leb head (head + room - n) (omega arith)) (omega arith)
]

-- from a head, the tail that is `room` further on shows just that room
free_ahead : (n begun room : ℕ) → room < n → free_entries n (begun % n) ((begun + room) % n) ≡ room
free_ahead n begun room p =
    rw (← mod-add-mod begun n room) (free_step n (begun % n) room (mod_below begun n (omega arith)) p)

-- Head and index word show just as many free entries as the counts say, if one of at least two stays free.
pub free_is_room : (entries begun freed : ℕ) → 2 ≤ entries → freed ≤ begun → begun ≤ freed + entries - 1
    → free_entries entries (head_of entries begun) (tail_of entries freed) ≡ room_of entries begun freed
free_is_room entries begun freed p q r =
    let room : ℕ = entries - 1 - (begun - freed) in
    let e : begun + room ≡ freed + entries - 1 = omega arith in
    rw e at (free_ahead entries begun room (omega arith))
