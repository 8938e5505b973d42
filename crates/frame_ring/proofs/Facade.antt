-- What crates above may cite of the proofs of this crate: how many promises a call leaves unused.
pub use Rattle.frame_ring.proofs.Spare.{unused_cleared, unused_copied}
