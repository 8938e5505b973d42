-- The rings that a log leaves stand in the memories of an ordinary pair.
use Rattle.std.specs.Prelude.{◌≡◌, ℕ, ◌<◌, false, List}
use Rattle.std.specs.List.{AllByRecursion}
use Rattle.step_kinds.specs.Sides.{other_side}
use Rattle.step_kinds.specs.declared.names.LaneName.{LaneName}
use Rattle.step_kinds.specs.declared.names.Side.{Side}
use Rattle.step_kinds.specs.declared.plan.PairPlan.{PairPlan}
use Rattle.step_kinds.specs.declared.plan.Plan.{Plan}
use Rattle.step_kinds.specs.declared.steps.Step.{Step}
use Rattle.lane_model.specs.Lane.{Slot}
use Rattle.lane_model.specs.Law.{slot_among}
use Rattle.pair_model.specs.DeclaredPlans.{Agree, IsDeclared, IsPairOf, IsPermitted}
use Rattle.pair_model.specs.Plans.{pair_plan, side_plan}
use Rattle.pair_model.specs.Sizes.{sizes_of}
use Rattle.pair_model.specs.Addresses.{own_slot}
use Rattle.pair_model.specs.Headers.{Bytes, Header, header_in, index_word_in}
use Rattle.ledger_model.specs.Rings.{RingPart, ring_of}
use Rattle.ledger_model.specs.Memory.{bytes_of_site, memory_of, site_of}

-- a slot's header as the bytes of a header say it
abbrev pub header_of_slot : Slot → Header
header_of_slot slot = record { left = slot.left; ver = slot.ver; len = slot.len; flags = slot.flags }

-- a slot as the bytes at its addresses say it, in the memory of the side that receives
pub record StandsAt (plan : PairPlan) (bytes : Bytes) (side : Side) (queue largest n : ℕ) (slot : Slot) : Type 0 where
  pub payload : bytes side (own_slot plan side queue n) largest ≡ slot.payload
  pub header : header_in plan bytes side queue n ≡ header_of_slot slot

-- a ring as the bytes of both memories say it: its slots in the receiver's, its index word in the sender's
pub record RingStandsAt (plan : PairPlan) (bytes : Bytes) (from : Side) (queue : ℕ) (ring : RingPart) : Type 0 where
  pub slots : (n : ℕ) → n < (sizes_of plan from queue).entries
      → StandsAt plan bytes (other_side from) queue (sizes_of plan from queue).largest n (slot_among (sizes_of plan from queue).entries ring.ring n)
  pub index_word : index_word_in plan bytes from queue ≡ ring.index_word

-- a lane of an ordinary pair whose two sides' numbers agree
pub record IsOrdinaryLane (plan : Plan) (lane : LaneName) : Type 0 where
  pub declared : IsPairOf plan lane.pair
  pub ordinary : (pair_plan plan lane.pair).raw ≡ false
  pub agree : Agree (pair_plan plan lane.pair)
  pub among : lane.queue < (side_plan (pair_plan plan lane.pair) lane.from).queues

-- After any steps that a declared plan permits, the ring that the log leaves of such a lane stands in memory.
abbrev pub RingsStandInMemory : Type 0
RingsStandInMemory = (plan : Plan) (steps : List Step) (lane : LaneName) → IsDeclared plan → AllByRecursion (IsPermitted plan) steps → IsOrdinaryLane plan lane →
    RingStandsAt (pair_plan plan lane.pair) (bytes_of_site (site_of plan lane.pair steps)) lane.from lane.queue (ring_of plan (memory_of plan) steps lane)
