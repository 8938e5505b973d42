-- Which posted writes may overtake which, after PCI Express Base 4.0, section 2.4.
-- A kind is a number. The posted writes are of kind 0, relaxed, and kind 1, strict.
use Rattle.std.specs.Prelude.{ℕ, Bool, false, ◌==◌, ◌||◌, not, List, take, Option, Some, None, slice_get}
use Rattle.std.specs.List.{list_all}

abbrev pub relaxed : ℕ
relaxed = 0

abbrev pub strict : ℕ
strict = 1

-- whether a posted write of the later kind may pass an earlier one of the other kind: a relaxed one may pass any
abbrev pub may_pass : ℕ → ℕ → Bool
may_pass later earlier = later == relaxed

-- the order of a posted write: how it is ordered, and its traffic class
pub record Order : Type 0 where
  pub kind : ℕ
  pub class : ℕ

-- whether a later posted write may pass an earlier one: between different traffic classes no order holds
abbrev pub passes : Order → Order → Bool
passes later earlier = may_pass later.kind earlier.kind || not (later.class == earlier.class)

-- whether this write may land where these stand before it: it passes each of them. If no write stands, none lands
abbrev pub lands_behind : Option Order → List Order → Bool
lands_behind None before = false
lands_behind (Some write) before = list_all (passes write) before

-- whether the write at this place of a list in flight may land
abbrev pub may_land : List Order → ℕ → Bool
may_land orders place = lands_behind (slice_get orders place) (take place orders)
