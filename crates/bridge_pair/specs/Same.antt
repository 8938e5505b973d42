-- When two states differ at most in their plan and in what is promised.
use Rattle.std.specs.Prelude.{◌≡◌, ℕ}
use Rattle.step_kinds.specs.declared.names.Side.{Side}
use Rattle.bridge_pair.specs.Bridge.{Bridge, bridge_bytes_of, flight_of}
use Rattle.bridge_pair.specs.Calls.{after_land, landing}
use Rattle.bridge_pair.specs.Ends.{End, after_arrival}
use Rattle.bridge_pair.specs.Flights.{Flying, flying_order}
use Rattle.posted_queue.specs.Landing.{flight_after_landing, land_answer}
use Rattle.posted_queue.specs.declared.LandAnswer.TheVariants.{Landed}

-- two ends with the same registers, bytes and writes in flight
pub record IsSameEnd (one other : End) : Type 0 where
  pub pads : one.pads ≡ other.pads
  pub bells : one.bells ≡ other.bells
  pub bytes : one.memory.bytes ≡ other.memory.bytes
  pub writes : one.coming.writes ≡ other.coming.writes

-- two bridges at whose ends registers, bytes and the writes in flight towards them are the same
pub record HasSameEnds (one other : Bridge) : Type 0 where
  pub pads : one.pads ≡ other.pads
  pub bells : one.bells ≡ other.bells
  pub bytes : (side : Side) → bridge_bytes_of one side ≡ bridge_bytes_of other side
  pub writes : (side : Side) → (flight_of one side).writes ≡ (flight_of other side).writes

-- two bridges that differ at most in their plan and in what is promised
pub record IsSameBridge (one other : Bridge) : Type 0 where
  pub link : one.link ≡ other.link
  pub books : one.books ≡ other.books
  pub pads : one.pads ≡ other.pads
  pub bells : one.bells ≡ other.bells
  pub bytes : (side : Side) → bridge_bytes_of one side ≡ bridge_bytes_of other side
  pub writes : (side : Side) → (flight_of one side).writes ≡ (flight_of other side).writes

-- One write more has landed

-- two ends with the same registers and bytes
pub record HasSameParts (one other : End) : Type 0 where
  pub pads : one.pads ≡ other.pads
  pub bells : one.bells ≡ other.bells
  pub bytes : one.memory.bytes ≡ other.memory.bytes

-- the write at a place of those that come may land, and then the end is the same as another
pub record LandsAsEnd (end : End) (place : ℕ) (other : End) : Type 0 where
  pub flying : Flying
  pub lands : land_answer flying_order end.coming place ≡ Landed flying
  pub same : IsSameEnd (after_arrival (record end { coming = flight_after_landing flying_order end.coming place }) flying.arrival) other

-- the write at a place of those that a side has in flight may land, and then both ends are the same
pub record EndsLandAs (bridge : Bridge) (side : Side) (place : ℕ) (other : Bridge) : Type 0 where
  pub flying : Flying
  pub lands : landing bridge side place ≡ Landed flying
  pub same : HasSameEnds (after_land bridge side place) other

-- the write may land, and then the bridge is the same as another
pub record LandsAs (bridge : Bridge) (side : Side) (place : ℕ) (other : Bridge) : Type 0 where
  pub flying : Flying
  pub lands : landing bridge side place ≡ Landed flying
  pub same : IsSameBridge (after_land bridge side place) other
