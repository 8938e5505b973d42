-- What posting and landing do to a bridge.
use Rattle.std.specs.Prelude.{ℕ, List, length, slice_set}
use Rattle.step_kinds.specs.Bits.{with_bit}
use Rattle.step_kinds.specs.Sides.{other_side}
use Rattle.step_kinds.specs.declared.names.Side.{Side}
use Rattle.bridge_regs.specs.Doorbell.{with_pending}
use Rattle.host_memory.specs.Memory.{ArePromised, written}
use Rattle.pair_model.specs.Link.{is_up}
use Rattle.posted_queue.specs.Landing.{land_answer, flight_after_landing}
use Rattle.posted_queue.specs.declared.LandAnswer.{LandAnswer}
use Rattle.posted_queue.specs.declared.LandAnswer.TheVariants.{Landed}
use Rattle.bridge_pair.specs.Bridge.{Bridge, pads_of, bells_of, bridge_bytes_of, flight_of, with_pads, with_bells, with_bytes, with_flight}
use Rattle.bridge_pair.specs.Ends.{after_posting}
use Rattle.bridge_pair.specs.Flights.{Flying, flying_order, flying_of}
use Rattle.bridge_pair.specs.Writes.{PostedWrite}
use Rattle.bridge_pair.specs.declared.flying_write.Arrival.{Arrival}
use Rattle.bridge_pair.specs.declared.flying_write.Arrival.TheVariants.{AtAddress, AtPad, AtBell}

-- the pages that what arrives at a side writes to are promised; registers have none
abbrev pub HasPages : List ℕ → Arrival → Type 0
HasPages pages (AtAddress at bytes) = ArePromised at (length bytes) pages
HasPages pages arrival = Unit {0}

-- a side posts a write: it is in flight where the link is up, and else it is lost and its promise given back
abbrev pub bridge_after_post : Bridge → Side → PostedWrite → Bridge
bridge_after_post bridge side write = with_flight bridge side (after_posting (is_up bridge.link.state) (flight_of bridge side) (flying_of bridge.plan side write))

-- what arrives at a side is stored in its memory, sets its scratchpad or rings its bit
abbrev pub bridge_arrived : Bridge → Side → Arrival → Bridge
bridge_arrived bridge side (AtAddress at bytes) = with_bytes bridge side (written at bytes (bridge_bytes_of bridge side))
bridge_arrived bridge side (AtPad index value) = with_pads bridge side (slice_set (pads_of bridge side) index value)
bridge_arrived bridge side (AtBell bit) = with_bells bridge side (with_pending (bells_of bridge side) (with_bit (bells_of bridge side).pending bit))

-- what comes of landing the write at a place of those that a side has in flight
abbrev pub landing : Bridge → Side → ℕ → LandAnswer Flying
landing bridge side place = land_answer flying_order (flight_of bridge side) place

-- a write that landed arrives
abbrev pub after_landed : Bridge → Side → LandAnswer Flying → Bridge
after_landed bridge side (Landed flying) = bridge_arrived bridge side flying.arrival
after_landed bridge side answer = bridge

abbrev pub after_land : Bridge → Side → ℕ → Bridge
after_land bridge side place =
    after_landed (with_flight bridge side (flight_after_landing flying_order (flight_of bridge side) place)) (other_side side) (landing bridge side place)
