-- The words of the lane's model that the rule of a table speaks in.
use Rattle.std.specs.Prelude.{ℕ, List}
pub use Rattle.lane_model.specs.Ring.{head_of, tail_of, free_entries, room_of}
pub use Rattle.lane_model.specs.declared.Write.{Write}
pub use Rattle.lane_model.specs.declared.Write.TheVariants.{Data, Flag, Bell}
pub use Rattle.lane_model.specs.declared.Field.{Field}
pub use Rattle.lane_model.specs.declared.Field.TheVariants.{Chunk, Length, Version}
pub use Rattle.lane_model.specs.declared.Phase.{Phase}
pub use Rattle.lane_model.specs.declared.Phase.TheVariants.{Idle, Copying, Copied, Cleared}
pub use Rattle.lane_model.specs.Lane.{Entry, Carries, GoesDown, bytes_of, data_of, writes_of, version_of, Slot, blank_slot, lane_slot_of, ring_with, with_field, with_flags, flags_of, done, Lane, new_lane, entry_of, free_in, count_from}
pub use Rattle.lane_model.specs.Tests.{is_copying, is_copied}
pub use Rattle.lane_model.specs.Steps.{after_begin, after_post, after_landing, after_look, after_copy, after_clear, after_ack, after_index}
pub use Rattle.lane_model.specs.LaneSteps.{LaneStep, Begin, Post, Land, Look, Copy, Clear, Acknowledge, GiveBack, Cut, Drop, Leads, LaneRuns}
pub use Rattle.lane_model.specs.Law.{HoldsRingLaw, PhaseCounts, Owner, Sender, InFlight, Landed, Receiver, Returning, owner_of}

-- a frame fits one slot: it is one entry, and none of it follows
abbrev pub entry_of_frame : List ℕ → Entry
entry_of_frame bytes = Carries bytes 0
