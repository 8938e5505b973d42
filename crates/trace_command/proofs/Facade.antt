-- What crates above may cite of the proofs of this crate: the law of whole traces.
pub use Rattle.trace_command.proofs.LinesAreTrue.{traces_are_true}
