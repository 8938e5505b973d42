-- What crates above may cite of the proofs of this crate: counting up from a number.
pub use Rattle.lane_model.proofs.ConsecutiveNumbers.{get_or-count_from, length-count_from}
