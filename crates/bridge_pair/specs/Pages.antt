-- Which pages of a memory calls promise.
use Rattle.std.specs.Prelude.{◌≡◌, ℕ, ◌⊎◌, List, Contains}
use Rattle.step_kinds.specs.declared.names.Side.{Side}
use Rattle.bridge_pair.specs.Bridge.{Bridge, pages_of, with_pages}

-- all pages that were promised stay so, and any further ones are among those that are touched
pub record PagesGrow (touched : ℕ → Type 0) (old new : List ℕ) : Type 0 where
  pub stay : (page : ℕ) → Contains old page → Contains new page
  pub only : (page : ℕ) → Contains new page → Contains old page ⊎ touched page

-- only pages of a side's memory became promised, and they are among those that are touched; all else is as it was
pub record OnlyPagesGrow (touched : ℕ → Type 0) (side : Side) (old new : Bridge) : Type 0 where
  pub rest : new ≡ with_pages old side (pages_of new side)
  pub pages : PagesGrow touched (pages_of old side) (pages_of new side)
