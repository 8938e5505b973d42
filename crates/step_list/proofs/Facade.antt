-- The lemmas that crates above cite: one more of a step that a line repeats.
pub use Rattle.step_list.proofs.Repeats.{repeats_more}
