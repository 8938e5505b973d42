-- What crates above may cite of the proofs of this crate: where areas, slots and spots lie, and which entries are free.
pub use Rattle.ring_geometry.proofs.Areas.{area_in_window, slot_in_window}
pub use Rattle.ring_geometry.proofs.Room.{free_is_room}
pub use Rattle.ring_geometry.proofs.SpotLemmas.{in_area, spots_apart}
