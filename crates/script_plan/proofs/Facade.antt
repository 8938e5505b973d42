-- What crates above may cite of the proofs of this crate: what floods add, and what stays declared.
pub use Rattle.script_plan.proofs.Classes.{length-set_pairs}
pub use Rattle.script_plan.proofs.Floods.{flood_bytes, flood_frames, length_flood_frame, sum-map-append}
pub use Rattle.script_plan.proofs.Soundness.{class_fits, device_stays, queue_classed, queue_stays, switch_stays}
