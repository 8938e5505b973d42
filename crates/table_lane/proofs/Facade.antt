-- What crates above may cite of the proofs of this crate: that each play is allowed, and how seats split and join.
pub use Rattle.table_lane.proofs.BackSteps.{cuts_link_allowed, sees_index_out_allowed, stores_index_allowed}
pub use Rattle.table_lane.proofs.LaneLaws.{number_is}
pub use Rattle.table_lane.proofs.MoveSteps.{sees_posted_allowed, stores_flag_allowed, stores_header_allowed}
pub use Rattle.table_lane.proofs.RecvSteps.{clears_flag_allowed, copies_frame_allowed, sees_flag_allowed, stores_index_out_allowed}
pub use Rattle.table_lane.proofs.SendSteps.{sees_index_allowed, sees_link_allowed, stores_posted_allowed}
pub use Rattle.table_lane.proofs.SplitsAndJoins.{first_lie, opens, seats_join, splits_off}
