-- What crates above may cite of the proofs of this crate: a text that grows by lines.
pub use Rattle.report_text.proofs.Devices.{grown}
