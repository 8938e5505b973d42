-- What crates above may cite of the proofs of this crate: the laws, one name for each, and lemmas on the writes of an
-- entry.
pub use Rattle.lane_laws.proofs.LaneLaws.{fresh_holds, begin_keeps, post_keeps, land_data_keeps, land_flag_keeps, land_bell_keeps, look_keeps, copy_keeps, clear_keeps, ack_keeps, index_keeps, cut_keeps, drop_keeps, forget_keeps, free_is_room, look_sees, copy_sees, flag_is_next, index_is_next, data_is_ahead, nothing_left, each_has_one_owner}
pub use Rattle.lane_laws.proofs.NewLanes.{empty_holds, new_holds}
pub use Rattle.lane_laws.proofs.Chunks.{field_of_data, field_among, contains_cases, contains_none, contains_first, contains_later}
pub use Rattle.lane_laws.proofs.Numbers.{length-count_from, count_from-push, number_at, number_from, other_number, same_number, tail_after}
