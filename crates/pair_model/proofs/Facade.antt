-- What crates above may cite of the proofs of this crate: which steps a plan permits, and that each queue has a ring.
-- Also what a store leaves, what is read back of it, and what a lookup finds once a source was learned.
pub use Rattle.pair_model.proofs.PermittedSteps.{makeable_by_other, permitted_by_other, queue_of_other, switches_of_other, with_lists}
pub use Rattle.pair_model.proofs.Rings.{each_queue_has_a_ring}
pub use Rattle.pair_model.proofs.StoreLemmas.{bytes_elsewhere, bytes_stored, bytes_over, word_stored, nothing_stored, length-word_bytes, number_of, Leaves, Gives, leaves_both, gives_first, gives_later, leaves_each, gives_among, leaves_mapped, gives_mapped}
pub use Rattle.pair_model.proofs.Lookups.{found-port, known-source, learned_source-below, lookup-another, lookup-source}
