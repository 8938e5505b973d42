-- Areas of a window: each lies within it, and two of different queues share nothing.
use Rattle.std.proofs.Common.{◌≡◌, ◌≢◌, ℕ, ◌+◌, ◌*◌, ◌/◌, ◌%◌, ◌<◌, ◌≤◌, cond, ltb, inl, inr, ap, arith}
use Rattle.std.proofs.Math.Nat.{mul-le-mul_left, mod-add-div, mul-div-le}
use Rattle.std.proofs.lemmas.Nat.{mod_below}
use Rattle.std.proofs.lemmas.Bool.{cases_lt, cases_order, lt-ltb}
use Rattle.ring_geometry.specs.Geometry.{Layout, HasRing, window_of, queues_in_window, area, area_start, ring_bytes, frame_size, entries_of, slot_of}
use Rattle.ring_geometry.specs.Laws.{IsSameSide, StandApart}

-- an earlier quotient leaves room for the next
pub row_ends : (size a b : ℕ) → a < b → size * a + size ≤ size * b
row_ends size a b h = grind (arith, mul-le-mul_left {m = a + 1} {n = b} size (omega arith))

-- of the queues in one window, those before a queue are fewer than all
place_below : (queue queues windows : ℕ) → 0 < windows → queue < queues
    → queue / windows < queues / windows + cond (ltb (queue % windows) (queues % windows)) 1 0
place_below queue queues windows p q =
    let a = mod-add-div queue windows in
    let b = mod-add-div queues windows in
    elim (cases_lt (queues / windows) (queue / windows)) [
      | inl h ↦ absurd (omega (arith, row_ends windows _ _ h, mod_below queues windows p))
      | inr h ↦ elim (cases_lt (queue % windows) (queues % windows)) [
        | inl r ↦ rw lt-ltb (omega arith)
        | inr r ↦ elim (cases_lt (queue / windows) (queues / windows)) [
          | inl s ↦ omega arith
          | inr s ↦ let e : queue / windows ≡ queues / windows = omega arith in absurd (omega (arith, ap (λ x. windows * x) e))
        ]
      ]
    ]

-- The area of a queue's ring lies within its window.
pub area_in_window : (l : Layout) → HasRing l → area_start l + area l ≤ l.window
area_in_window l h =
    let below = place_below l.queue l.queues l.windows h.some_window h.a_queue in
    omega (arith, row_ends (area l) (l.queue / l.windows) (queues_in_window l) below, mul-div-le l.window (queues_in_window l))

same_area : (k l : Layout) → IsSameSide k l → window_of k ≡ window_of l → area k ≡ area l
same_area k l e w =
    let a = e.window in
    let b = e.windows in
    let c = e.queues in
    cc

apart_at : (size a b : ℕ) → a ≢ b → StandApart (size * a) size (size * b) size
apart_at size a b ne = elim (cases_order a b) [
  | inl e ↦ absurd (ne e)
  | inr o ↦ elim o [ inl h ↦ inl (row_ends size a b h) | inr h ↦ inr (row_ends size b a h) ]
]

quotients_differ : (a b n : ℕ) → a % n ≡ b % n → a ≢ b → a / n ≢ b / n
quotients_differ a b n e ne q =
    let x = mod-add-div a n in
    let y = mod-add-div b n in
    ne (cc)

-- The areas of two queues of one side that lie in the same window share no byte.
pub areas_apart : (k l : Layout) → HasRing k → HasRing l → IsSameSide k l → window_of k ≡ window_of l → k.queue ≢ l.queue
    → StandApart (area_start k) (area k) (area_start l) (area l)
areas_apart k l _ _ e w ne =
    let places : k.queue / k.windows ≢ l.queue / l.windows =
    λ p. quotients_differ k.queue l.queue l.windows (rw e.windows at w) ne (rw e.windows at p) in
    rw (same_area k l e w) (apart_at (area l) (k.queue / k.windows) (l.queue / l.windows) places)

-- an entry lies before the index word
pub slot_in_area : (l : Layout) → HasRing l → (i : ℕ) → i < entries_of l → slot_of l i + frame_size l + 4 ≤ area_start l + area l
slot_in_area l h i p =
    let ends = row_ends (frame_size l) i (entries_of l) p in
    let fits = mul-div-le (ring_bytes l) (frame_size l) in
    let index = h.index_fits in
    grind arith

-- Each slot of a ring lies within its window, with four bytes or more of the window after it for the index word.
pub slot_in_window : (l : Layout) → HasRing l → (i : ℕ) → i < entries_of l → slot_of l i + frame_size l + 4 ≤ l.window
slot_in_window l h i p = omega (arith, slot_in_area l h i p, area_in_window l h)
