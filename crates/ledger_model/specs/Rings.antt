-- The ring of a lane as the log leaves it: what the landed writes, the checks and the clears of a run put into its
-- slots and its index word. With it the ledger shows a whole lane, of which the law of the ring speaks.
use Rattle.std.specs.Prelude.{ℕ, ◌-◌, ◌%◌, ◌==◌, Bool, Option, Some, None, List, [], ◌∷◌, ◌++◌, map, replicate, slice_index_or, slice_set, if◌then◌else◌}
use Rattle.step_kinds.specs.Sides.{other_side, same_side}
use Rattle.step_kinds.specs.declared.names.LaneName.{LaneName}
use Rattle.step_kinds.specs.declared.names.Side.{Side}
use Rattle.step_kinds.specs.declared.plan.Plan.{Plan}
use Rattle.step_kinds.specs.declared.steps.Label.{Label}
use Rattle.step_kinds.specs.declared.steps.Answer.{Answer}
use Rattle.step_kinds.specs.declared.steps.Answer.TheVariants.{Landed, Up, Cleared}
use Rattle.step_kinds.specs.declared.steps.Step.{Step}
use Rattle.step_kinds.specs.declared.steps.Step.TheVariants.{Land, Check, Clear}
use Rattle.lane_model.specs.declared.Write.{Write}
use Rattle.lane_model.specs.declared.Write.TheVariants.{Data, Flag, Bell}
use Rattle.lane_model.specs.Lane.{Slot, Lane, flags_of, with_field, with_flags, blank_slot}
pub use Rattle.lane_model.specs.Lane.{zeroed_slot}
use Rattle.ledger_model.specs.Labels.{write_of, label_index_of, writes_among, indexes_among}
use Rattle.ledger_model.specs.Ledger.{LanePart, PairPart, side_of, lane_of, link_up, entry_in}
use Rattle.ledger_model.specs.Log.{Answered, Memories, answered, is_on}
use Rattle.ledger_model.specs.Next.{Ledger, start, ledger_after}
use Rattle.pair_model.specs.Plans.{pair_plan}
use Rattle.pair_model.specs.Sizes.{Sizes, sizes_of}

pub record RingPart : Type 0 where
  pub ring : List Slot
  pub index_word : ℕ

-- before any step; on a pair that starts up the index word says that all entries but one are free
abbrev pub fresh_ring : Sizes → Bool → RingPart
fresh_ring sizes up = record { ring = replicate sizes.entries (zeroed_slot sizes.largest); index_word = (if up then sizes.entries - 1 else 0) }

-- a write of the lane lands
abbrev pub with_write : ℕ → LanePart → List Slot → Option Write → List Slot
with_write entries lane ring None = ring
with_write entries lane ring (Some (Data n field)) =
    slice_set ring (n % entries) (with_field (slice_index_or ring (n % entries) blank_slot) n (entry_in lane n) field)
with_write entries lane ring (Some (Flag n)) = slice_set ring (n % entries) (with_flags (slice_index_or ring (n % entries) blank_slot) (flags_of (entry_in lane n)))
with_write entries lane ring (Some Bell) = ring

abbrev pub with_index : ℕ → ℕ → Option ℕ → ℕ
with_index entries word None = word
with_index entries word (Some n) = n % entries

-- a slot whose header is zeroed
abbrev pub without_header : Slot → Slot
without_header slot = record { payload = slot.payload; left = 0; ver = 0; len = 0; flags = 0 }

-- what a step does to the ring of a lane, the lane being as it was before the step
abbrev pub ring_next : Sizes → LaneName → LanePart → RingPart → Answered → RingPart
ring_next sizes name lane now made = changed made.step made.answer where
  landed : Side → Label → RingPart
  landed from label =
      if same_side from name.from
      then record { ring = with_write sizes.entries lane now.ring (write_of name.queue label); index_word = now.index_word }
      else record { ring = now.ring; index_word = with_index sizes.entries now.index_word (label_index_of name.queue label) }

  checked : Side → RingPart
  checked side =
      if same_side side name.from
      then record { ring = now.ring; index_word = sizes.entries - 1 }
      else record { ring = map without_header now.ring; index_word = now.index_word }

  changed : Step → Answer → RingPart
  changed (Land pair from place) (Landed label) = if pair == name.pair then landed from label else now
  changed (Check pair side) Up = if pair == name.pair then checked side else now
  changed (Clear pair side queue) (Cleared n) =
      if is_on name pair (other_side side) queue
      then record { ring = slice_set now.ring (n % sizes.entries) (with_flags (slice_index_or now.ring (n % sizes.entries) blank_slot) 0); index_word = now.index_word }
      else now
  changed step answer = now

abbrev pub ring_from : Plan → Memories → LaneName → List Answered → Ledger → RingPart → List Step → RingPart
ring_from plan memories name before ledger now [] = now
ring_from plan memories name before ledger now (step ∷ steps) =
    ring_from plan memories name (before ++ answered plan (memories before) ledger step ∷ []) (ledger_after plan (memories before) ledger step)
    (ring_next (sizes_of (pair_plan plan name.pair) name.from name.queue) name (lane_of (ledger name.pair) name.from name.queue) now
    (answered plan (memories before) ledger step))
    steps

-- the ring of a lane after a list of steps
abbrev pub ring_of : Plan → Memories → List Step → LaneName → RingPart
ring_of plan memories steps name =
    let pair = pair_plan plan name.pair in
    ring_from plan memories name [] (start plan) (fresh_ring (sizes_of pair name.from name.queue) pair.up) steps

-- the lane that a ledger's lane, its writes and index writes in flight, and a ring show
abbrev pub ledger_lane_shown : Sizes → ℕ → Bool → List Write → List ℕ → LanePart → RingPart → Lane
ledger_lane_shown sizes queue up writes indexes lane ring = record {
  entries = sizes.entries;
  largest = sizes.largest;
  up = up;
  sent = lane.sent;
  todo = writes_among queue lane.todo;
  flight = writes;
  returning = indexes;
  ring = ring.ring;
  index_word = ring.index_word;
  flagged = lane.flagged;
  got = lane.got;
  cleared = lane.cleared;
  acked = lane.acked;
  freed = lane.freed;
  phase = lane.phase;
  part = lane.part;
}

-- the same of a pair
abbrev pub shown_lane : Sizes → PairPart → RingPart → Side → ℕ → Lane
shown_lane sizes pair ring from queue =
    ledger_lane_shown sizes queue (link_up pair) (writes_among queue (side_of pair from).flight) (indexes_among queue (side_of pair (other_side from)).flight) (lane_of pair from queue) ring
