-- The steps of a lane, each in closed form: what a step changes where it is made. When it may be made, `LaneSteps.antt`
-- says, and so do the machine of a lane and the ledger of a cluster, each for its own steps. What it answers is no
-- matter of the model of a lane: these two alone say it.
use Rattle.std.specs.Prelude.{ℕ, ◌+◌, ◌%◌, Bool, false, List, [], ◌∷◌, ◌++◌, length, if◌then◌else◌, nat_lt}
use Rattle.lane_model.specs.Lane.{Entry, Write, Data, Flag, Bell, Lane, bytes_of, chunks_in, writes_of, flags_of, entry_of, lane_slot_of, ring_with, with_field, with_flags}
use Rattle.lane_model.specs.declared.Phase.TheVariants.{Idle, Copying, Copied, Cleared}

-- the sender begins an entry
abbrev pub after_begin : Lane → Entry → Lane
after_begin lane entry = record lane { sent = lane.sent ++ entry ∷ []; todo = writes_of (length lane.sent) entry }

-- the sender posts the next write, `rest` being those after it
abbrev pub after_post : Lane → Write → List Write → Lane
after_post lane write rest = record lane { todo = rest; flight = (if lane.up then lane.flight ++ write ∷ [] else lane.flight) }

-- a write lands, `rest` being the others in flight
abbrev pub after_landing : Lane → Write → List Write → Lane
after_landing lane (Data n field) rest = record lane { flight = rest; ring = ring_with lane n (with_field (lane_slot_of lane n) n (entry_of lane n) field) }
after_landing lane (Flag n) rest = record lane { flight = rest; ring = ring_with lane n (with_flags (lane_slot_of lane n) (flags_of (entry_of lane n))); flagged = lane.flagged + 1 }
after_landing lane Bell rest = record lane { flight = rest }

-- the receiver finds a frame
abbrev pub after_look : Lane → Lane
after_look lane = record lane { phase = Copying; part = 0 }

-- whether the entry that is being copied has a part after the next one
abbrev pub more_to_copy : Lane → Bool
more_to_copy lane = nat_lt (lane.part + 1) (chunks_in (length (bytes_of (entry_of lane lane.got))))

-- the receiver copies the next part, and with the last one has the whole frame
abbrev pub after_copy : Lane → Lane
after_copy lane = if more_to_copy lane then record lane { part = lane.part + 1 } else record lane { got = lane.got + 1; phase = Copied }

-- the receiver clears the flags
abbrev pub after_clear : Lane → Lane
after_clear lane = record lane { ring = ring_with lane lane.cleared (with_flags (lane_slot_of lane lane.cleared) 0); cleared = lane.cleared + 1; phase = Cleared }

-- the receiver posts the index write
abbrev pub after_ack : Lane → Lane
after_ack lane = record lane { acked = lane.acked + 1; phase = Idle; returning = (if lane.up then lane.returning ++ lane.acked ∷ [] else lane.returning) }

-- the index write of entry n lands, `rest` being those after it
abbrev pub after_index : Lane → ℕ → List ℕ → Lane
after_index lane n rest = record lane { returning = rest; freed = n + 1; index_word = n % lane.entries }

-- the link is lost: from now on nothing that is posted is on its way
abbrev pub after_cut : Lane → Lane
after_cut lane = record lane { up = false }

-- what was in flight on the lost link is dropped
abbrev pub after_drop : Lane → Lane
after_drop lane = record lane { flight = []; returning = [] }
