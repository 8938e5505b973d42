-- What a `Geometry` keeps lies in its window.
use Rattle.std.proofs.Common.{ℕ, ◌+◌, ◌*◌, ◌<◌, ◌≤◌}
use Rattle.ring_geometry.specs.GeometryFields.{IsKept, geometry_layout_of}
use Rattle.ring_geometry.specs.declared.Geometry.TheInside.{Inside}
use Rattle.ring_geometry.proofs.Areas.{area_in_window, slot_in_window}

-- The area that a `Geometry` keeps lies within its window.
pub kept_area_within : (g : Inside) → IsKept g → g.area_begin + g.area_bytes ≤ g.window
kept_area_within g h = rw (h.begin_is, h.area_is) (area_in_window (geometry_layout_of g) h.placed.ring)

-- Each slot by the numbers that a `Geometry` keeps lies in its window, with four bytes or more after it.
pub kept_slot_within : (g : Inside) → IsKept g → (i : ℕ) → i < g.entries → g.area_begin + i * g.frame_bytes + g.frame_bytes + 4 ≤ g.window
kept_slot_within g h i p =
    rw (h.begin_is, h.frame_is) (slot_in_window (geometry_layout_of g) h.placed.ring i (rw h.entries_are at p))
