-- What crates above may cite of the proofs of this crate: how many scratchpads an offer has.
pub use Rattle.hand_shake.proofs.OwnOffers.{own_length}
