use Rattle.std.proofs.Common.{refl}
use Rattle.ledger_model.proofs.examples.examples_hold.Goals as goal

pub returns : goal.returns
returns c =
    record {
      one_frame = refl;
      ring_full = refl;
      room_after_index = refl;
      long_and_busy = refl;
      chunks_in_any_order = refl;
      later_chunk_first = refl;
      flag_passes_nothing = refl;
      index_stays_strict = refl;
      second_session = refl;
      break_with_flag_in_flight = refl;
      dirty_and_not_enabled = refl;
      link_steps_out_of_state = refl;
      check_refuses_version = refl;
      check_refuses_queues = refl;
      check_refuses_windows = refl;
      check_refuses_size = refl;
      already_agreed = refl;
      masked_doorbell = refl;
      link_down_frame = refl;
      device_stops_and_wakes = refl;
      step_by_step = refl;
      link_is_needed = refl;
      tallies_count = refl;
      counters_count = refl;
      posts_and_copies = (refl, refl);
      sessions_count_up = refl;
      raw_pairs_read_bytes = (refl, refl, refl, refl);
      drop_empties_the_lists = refl;
    }
