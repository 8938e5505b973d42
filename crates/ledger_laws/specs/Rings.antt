-- The law of the ring in a cluster.
use Rattle.std.specs.Prelude.{◌≡◌, true, List}
use Rattle.std.specs.List.{AllByRecursion}
use Rattle.step_kinds.specs.Sides.{other_side}
use Rattle.step_kinds.specs.declared.names.LaneName.{LaneName}
use Rattle.step_kinds.specs.declared.plan.Plan.{Plan}
use Rattle.step_kinds.specs.declared.steps.Step.{Step}
use Rattle.lane_model.specs.Law.{HoldsRingLaw}
use Rattle.lane_model.specs.Ring.{tail_of}
use Rattle.ring_geometry.specs.Geometry.{HasRing}
use Rattle.ledger_model.specs.Ledger.{LanePart, side_of, lane_of}
use Rattle.ledger_model.specs.Log.{Memories, ledger_of}
use Rattle.pair_model.specs.Plans.{pair_plan}
use Rattle.pair_model.specs.Sizes.{Sizes, layout_of, sizes_of}
use Rattle.ledger_model.specs.Rings.{RingPart, ring_of, shown_lane}
use Rattle.ledger_laws.specs.Laws.{IsOrdinaryOn, IsOrdinaryPair}

-- a ring whose index word is read as the tail of the entries that were given back
abbrev pub with_tail : Sizes → LanePart → RingPart → RingPart
with_tail sizes lane ring = record { ring = ring.ring; index_word = tail_of sizes.entries lane.freed }

-- Whenever the receiver's side is up, whatever the sender has of the session, the law of the ring holds of the lane.
-- The index word in the sender's memory, which the receiver doesn't read, counts as the tail.
abbrev pub RingLawOfReceiver : Type 0
RingLawOfReceiver = (plan : Plan) (memories : Memories) (steps : List Step) (name : LaneName) →
    let pair = pair_plan plan name.pair in
    let now = ledger_of plan memories steps name.pair in
    let sizes = sizes_of pair name.from name.queue in
    IsOrdinaryPair plan name.pair → AllByRecursion (IsOrdinaryOn name.pair) steps → HasRing (layout_of pair name.from name.queue) → (side_of now (other_side name.from)).up ≡ true →
    HoldsRingLaw (shown_lane sizes now (with_tail sizes (lane_of now name.from name.queue) (ring_of plan memories steps name)) name.from name.queue)

-- Whenever the sender's side is up, whatever the receiver has of the session, the index word says the entries that were
-- given back.
abbrev pub IndexWordIsTail : Type 0
IndexWordIsTail = (plan : Plan) (memories : Memories) (steps : List Step) (name : LaneName) →
    let pair = pair_plan plan name.pair in
    let now = ledger_of plan memories steps name.pair in
    let sizes = sizes_of pair name.from name.queue in
    IsOrdinaryPair plan name.pair → AllByRecursion (IsOrdinaryOn name.pair) steps → HasRing (layout_of pair name.from name.queue) → (side_of now name.from).up ≡ true →
    (ring_of plan memories steps name).index_word ≡ tail_of sizes.entries (lane_of now name.from name.queue).freed

-- Whenever both sides of an ordinary pair are up, the law of the ring holds of each of its lanes.
abbrev pub RingLawHolds : Type 0
RingLawHolds = (plan : Plan) (memories : Memories) (steps : List Step) (name : LaneName) →
    let pair = pair_plan plan name.pair in
    let now = ledger_of plan memories steps name.pair in
    IsOrdinaryPair plan name.pair → AllByRecursion (IsOrdinaryOn name.pair) steps → HasRing (layout_of pair name.from name.queue) → (side_of now name.from).up ≡ true → (side_of now (other_side name.from)).up ≡ true →
    HoldsRingLaw (shown_lane (sizes_of pair name.from name.queue) now (ring_of plan memories steps name) name.from name.queue)
