-- What crates above may cite of the proofs of this crate: the laws, one name for each, and that a copy with a frame is
-- no refusal.
pub use Rattle.fabric_core.proofs.FramesDue.{due_wanted}
pub use Rattle.fabric_core.proofs.KeysLanded.{key_once_landed}
pub use Rattle.fabric_core.proofs.RefusedAgain.{refused_again}
pub use Rattle.fabric_core.proofs.SameFabrics.{one_list_makes_same, same_has_made_same, same_keys}
