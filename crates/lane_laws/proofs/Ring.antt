-- The slots of a ring after one was written.
use Rattle.std.proofs.Common.{◌≡◌, ◌≢◌, ℕ, ◌%◌, ◌<◌, ◌≤◌, length, get_or, sym, subst, ap, ◌∙◌, inl, inr, arith, mod-lt, length-set, get_or-set_same, get_or-set_other}
use Rattle.std.proofs.lemmas.Bool.{cases_eq}
use Rattle.lane_model.specs.Lane.{Lane, Slot, blank_slot, lane_slot_of, ring_with}

-- the slot that was written
pub place_same : (lane : Lane) (n m : ℕ) (slot : Slot) → length lane.ring ≡ lane.entries → 2 ≤ lane.entries → m % lane.entries ≡ n % lane.entries
    → get_or (ring_with lane n slot) (m % lane.entries) blank_slot ≡ slot
place_same lane n m slot slots two e =
    let small : n % lane.entries < lane.entries = mod-lt n (omega arith) in
    ap (λ k. get_or (ring_with lane n slot) k blank_slot) e ∙ get_or-set_same lane.ring (n % lane.entries) slot blank_slot (omega arith)

-- another slot
pub place_other : (lane : Lane) (n m : ℕ) (slot : Slot) → m % lane.entries ≢ n % lane.entries
    → get_or (ring_with lane n slot) (m % lane.entries) blank_slot ≡ lane_slot_of lane m
place_other lane n m slot e = get_or-set_other lane.ring (n % lane.entries) (m % lane.entries) slot blank_slot e

-- A ring in which one slot was replaced has as many slots as before.
pub length-ring_with : (lane : Lane) (n : ℕ) (slot : Slot) → length lane.ring ≡ lane.entries → length (ring_with lane n slot) ≡ lane.entries
length-ring_with lane n slot slots = length-set lane.ring (n % lane.entries) slot ∙ slots

-- what holds of the slot that is written and of each other slot holds of each
pub each_place : (lane : Lane) (n k : ℕ) (slot : Slot) (P : Slot → Type 0) → length lane.ring ≡ lane.entries → k < lane.entries
    → P slot → P (get_or lane.ring k blank_slot) → P (get_or (ring_with lane n slot) k blank_slot)
each_place lane n k slot P slots below new old = elim (cases_eq k (n % lane.entries)) [
  | inl same ↦ subst P (sym (ap (λ j. get_or (ring_with lane n slot) j blank_slot) same ∙ get_or-set_same lane.ring (n % lane.entries) slot blank_slot (omega arith))) new
  | inr apart ↦ subst P (sym (get_or-set_other lane.ring (n % lane.entries) k slot blank_slot apart)) old
]
