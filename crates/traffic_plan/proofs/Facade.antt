-- What crates above may cite of the proofs of this crate: that a generated load is permitted and whole.
pub use Rattle.traffic_plan.proofs.Frames.{frames_more}
pub use Rattle.traffic_plan.proofs.Whole.{lines_permitted, load_is_whole}
