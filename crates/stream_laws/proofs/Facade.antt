-- What crates above may cite of the proofs of this crate: which frame can be given back.
pub use Rattle.stream_laws.proofs.WorldLaws.{last_after}
