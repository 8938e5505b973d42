-- Laws of landing.
use Rattle.std.specs.Prelude.{◌≡◌, ◌≢◌, ℕ, ◌⊎◌, ◌==◌, ◌&&◌, ◌||◌, nat_lt, Bool, List, ◌∷◌, ◌++◌, All, IsTrue, length, map, filter, slice_index, remove}
use Rattle.order_rules.specs.Order.{Order, relaxed, may_land}

-- a write is relaxed, or none of those before it has its class
abbrev pub IsRelaxedOrFirstOfClass : List Order → Order → Type 0
IsRelaxedOrFirstOfClass before write = (write.kind ≡ relaxed) ⊎ All (λ earlier. earlier.class ≢ write.class) before

-- Of the writes `before ++ write ∷ after` only those that are `kept` are looked at, and `write` is one of them.
-- It then stands after those kept of `before`, may land there, and leaves the kept of the others.
pub record LandsAmongKept {W : Type 0} (order : W → Order) (kept : W → Bool) (before : List W) (write : W) (after : List W) : Type 0 where
  pub stands : filter kept (before ++ write ∷ after) ≡ filter kept before ++ write ∷ filter kept after
  pub lands : IsTrue (may_land (map order (filter kept (before ++ write ∷ after))) (length (filter kept before)))
  pub leaves : filter kept (remove (before ++ write ∷ after) (length before)) ≡ remove (filter kept (before ++ write ∷ after)) (length (filter kept before))

-- whether the write at this place may land by the kinds alone: it stands in the list, and is relaxed or first
abbrev pub lands_by_kind : List ℕ → ℕ → Bool
lands_by_kind kinds place = nat_lt place (length kinds) && (slice_index kinds place == relaxed || place == 0)
