-- What crates above may cite of the proofs of this crate: what stays promised, and changes of one side in a row.
pub use Rattle.bridge_pair.proofs.KeptPromises.{bytes_keep, keeps_all, keeps_both, landing_keeps_promises, link_steps_keep_promises, own_writes_keep_promises}
pub use Rattle.bridge_pair.proofs.Promises.{grows_further, grows_nothing, promised_still}
pub use Rattle.bridge_pair.proofs.Sides.{bytes_again, pages_again, pages_of-with_bytes}
