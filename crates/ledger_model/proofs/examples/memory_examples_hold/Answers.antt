use Rattle.std.proofs.Common.{refl}
use Rattle.ledger_model.proofs.examples.memory_examples_hold.Goals as goal

pub returns : goal.returns
returns c =
    record {
      frame_in_memory = refl;
      second_queue_in_memory = refl;
      both_ways = refl;
      unequal_sizes = refl;
      largest_window = refl;
      look_after_the_senders_clean = refl;
      old_flags_are_zeroed = refl;
      forged_header = refl;
      forged_index_word = refl;
      empty_frame = refl;
      forged_link_down = refl;
      forged_offer = refl;
      overwritten_while_copied = refl;
      window_that_the_peer_lacks = refl;
      longest_frame = refl;
      frame_in_pieces = refl;
      no_room_for_two_pieces = refl;
      older_version_is_spoken = refl;
      classes_pass = refl;
      one_class_waits = refl;
    }
