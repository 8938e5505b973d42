-- What crates above may cite of the proofs of this crate: which writes of a list may land, and what stands where.
pub use Rattle.posted_queue.proofs.CountLemmas.{count_by-remove}
pub use Rattle.posted_queue.proofs.LandingLemmas.{may_land-map, may_land-past}
pub use Rattle.posted_queue.proofs.LawLemmas.{may_land-one_class, split-at_place}
pub use Rattle.posted_queue.proofs.LevelLemmas.{slice_get-append_far}
