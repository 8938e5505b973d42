-- What crates above may cite of the proofs of this crate: that a plan that was read is whole.
pub use Rattle.script_text.proofs.Whole.{plan_is_whole}
