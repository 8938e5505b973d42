-- Where slots are, as one border moves.
use Rattle.std.proofs.Common.{◌≡◌, ◌≢◌, ℕ, ◌+◌, ◌%◌, ◌<◌, ◌≤◌, Bool, List, set, sym, ap, ◌∙◌, inl, inr, arith, mod-lt, length-set, Option, if◌then◌else◌, nat_lt}
use Rattle.std.proofs.lemmas.Bool.{lt-ltb, le-ltb, cases_eq, cases_lt}
use mathlib.Core.Option.{some, none}
use mathlib.Core.Option as home
use lib.ListN.{get_elem?}
use Rattle.atomic_table.proofs.Lists.{set_here, set_else}
use Rattle.table_lane.specs.Views.{TableBytes}
use Rattle.table_lane.specs.Borders.{Borders, Slots, empty, out, full, slot_at, TableSlotsStand}
use Rattle.table_lane.proofs.LaneLaws.{other_number}

-- the slot by what is known of its number
abbrev pub slot_by : (a b c d e f : Bool) → home.Option (Option TableBytes) → home.Option (Option TableBytes)
slot_by a b c d e f here = if a then empty else if b then out else if c then here else if d then out else if e then here else if f then out else empty

-- How n compares with the borders of a ring says where the slot of entry n is, and what is in it.
pub slot_is : (k : Borders) (sent : List TableBytes) (n : ℕ) {a b c d e f : Bool} → nat_lt n k.cleared ≡ a → nat_lt n k.looked ≡ b → nat_lt n k.flagged ≡ c → nat_lt n k.taken ≡ d → nat_lt n k.sent ≡ e
    → nat_lt n k.claimed ≡ f → slot_at k sent n ≡ slot_by a b c d e f (full sent n)
slot_is k sent n p q r s t u = λ i. slot_by (p i) (q i) (r i) (s i) (t i) (u i) (full sent n)

-- a border that moves by one moves past one number
pub moves_past : (n border : ℕ) → n ≢ border → nat_lt n (border + 1) ≡ nat_lt n border
moves_past n border other = elim (cases_lt n border) [
  | inl below ↦ lt-ltb n (border + 1) (omega arith) ∙ sym (lt-ltb n border below)
  | inr above ↦ le-ltb n (border + 1) (omega arith) ∙ sym (le-ltb n border above)
]

-- two numbers less than N apart have different positions
pub apart : (N low n m : ℕ) → low ≤ n → n < low + N → low ≤ m → m < low + N → n ≢ m → n % N ≢ m % N
apart N low n m a b c d other = elim (cases_lt n m) [
  | inl less ↦ λ e. other_number N n m less (omega arith) (sym e)
  | inr more ↦ λ e. other_number N m n (omega arith) (omega arith) e
]

-- one slot changes
pub slot_changes : (N : ℕ) (before after : Borders) (sent more : List TableBytes) (slots : Slots) (m : ℕ) (new : home.Option (Option TableBytes)) → 0 < N → TableSlotsStand N before sent slots → after.freed ≡ before.freed
    → before.freed ≤ m → m < before.freed + N → ((n : ℕ) → n ≢ m → slot_at after more n ≡ slot_at before sent n) → slot_at after more m ≡ new → TableSlotsStand N after more (set slots (m % N) new)
slot_changes N before after sent more slots m new some_slot stand freed low high same here =
    let at : ℕ = m % N in
    let within : at < N = mod-lt m some_slot in
    record {
      count = length-set slots at new ∙ stand.count;
      at = λ n from to. elim (cases_eq n m) [
        | inl is ↦ ap (λ (k : ℕ). get_elem? (set slots at new) (k % N)) is ∙ set_here slots at new (omega (arith, stand.count)) ∙ ap some (sym here) ∙ ap (λ (k : ℕ). some (slot_at after more k)) (sym is)
        | inr other ↦
            let low_n : before.freed ≤ n = omega arith in
            let high_n : n < before.freed + N = omega arith in
            set_else slots at (n % N) new (apart N before.freed n m low_n high_n low high other) ∙ stand.at n low_n high_n ∙ ap some (sym (same n other))
      ];
    }
