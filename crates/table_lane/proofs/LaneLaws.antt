-- The laws of the model's lane that the steps of a table stand on, and its lemmas on remainders.
pub use Rattle.lane_model.specs.Lane.{chunks_in}
pub use Rattle.lane_model.specs.Steps.{more_to_copy}
pub use Rattle.lane_laws.proofs.Facade.{new_holds, begin_keeps, post_keeps, land_data_keeps, land_flag_keeps, land_bell_keeps, look_keeps, copy_keeps, clear_keeps, ack_keeps, index_keeps, cut_keeps, drop_keeps, free_is_room, look_sees, copy_sees}
pub use Rattle.lane_laws.proofs.Facade.{number_at as number_is, number_from, other_number, same_number, tail_after}
