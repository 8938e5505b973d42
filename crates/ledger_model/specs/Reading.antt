-- What a step learns of the rings of a pair. On an ordinary pair the ledger says it: the entries that were begun and
-- landed. On a raw pair, if anything may be written past the transport, the bytes in memory say it, whoever wrote them.
use Rattle.std.specs.Prelude.{ℕ, ◌==◌, Bool, true, nat_lt, List, length, if◌then◌else◌}
use Rattle.step_kinds.specs.Sides.{other_side}
use Rattle.step_kinds.specs.declared.names.Side.{Side}
use Rattle.step_kinds.specs.declared.plan.PairPlan.{PairPlan}
use Rattle.step_kinds.specs.declared.steps.Label.{Label}
use Rattle.step_kinds.specs.declared.steps.Label.TheVariants.{Chunk, Len, Ver, Flag, Down, Index, Raw}
use Rattle.lane_model.specs.Lane.{Entry, Carries, GoesDown, bytes_of, chunk_of}
use Rattle.ring_geometry.specs.Geometry.{window_of}
use Rattle.pair_model.specs.Plans.{side_plan}
use Rattle.pair_model.specs.Sizes.{layout_of, sizes_of}
use Rattle.pair_model.specs.Headers.{Bytes, Found, NoEntry, ALinkDownEntry, AnEntry, found_in_memory, part_in_memory, index_word_in, free_in_memory}
use Rattle.ledger_model.specs.Ledger.{LanePart, PairPart, lane_of, lane_to, free_of, head_in, tail_in, entry_in}

pub record Reading : Type 0 where
  -- of the lane that a side sends on a queue: how many entries are free, and the index word
  pub free : Side → ℕ → ℕ
  pub index_word : Side → ℕ → ℕ
  -- what a side finds at the next entry that it receives on a queue, and the bytes of the part that it copies next
  pub found : Side → ℕ → Found
  pub part : Side → ℕ → List ℕ
  -- whether a write that a side posts goes through a window that the peer has
  pub reaches : Side → Label → Bool

-- By the ledger

abbrev pub found_entry : Entry → Found
found_entry (Carries bytes left) = AnEntry (length bytes) left
found_entry GoesDown = ALinkDownEntry

-- the next entry, if its flags have landed
abbrev pub found_in_ledger : LanePart → Found
found_in_ledger lane = if lane.flagged == lane.got then NoEntry else found_entry (entry_in lane lane.got)

abbrev pub part_in_ledger : LanePart → List ℕ
part_in_ledger lane = chunk_of (bytes_of (entry_in lane lane.got)) lane.part

abbrev pub by_ledger : PairPlan → PairPart → Reading
by_ledger plan pair =
    record {
      free = λ side queue. free_of (sizes_of plan side queue) (lane_of pair side queue);
      index_word = λ side queue. tail_in (sizes_of plan side queue) (lane_of pair side queue);
      found = λ side queue. found_in_ledger (lane_to pair side queue);
      part = λ side queue. part_in_ledger (lane_to pair side queue);
      reaches = λ side label. true;
    }

-- By the bytes

-- whether the peer has the window that a side's write goes through; a doorbell and a scratchpad go through none
abbrev pub has_window : PairPlan → Side → Label → Bool
has_window plan side label = nat_lt (through label) (side_plan plan (other_side side)).windows where
  through : Label → ℕ
  through (Chunk q n part) = window_of (layout_of plan side q)
  through (Len q n) = window_of (layout_of plan side q)
  through (Ver q n) = window_of (layout_of plan side q)
  through (Flag q n) = window_of (layout_of plan side q)
  through (Down q n) = window_of (layout_of plan side q)
  through (Index q n) = window_of (layout_of plan side q)
  through (Raw window offset len) = window
  through label = 0

abbrev pub by_bytes : PairPlan → Bytes → PairPart → Reading
by_bytes plan bytes pair =
    record {
      free = λ side queue. free_in_memory (sizes_of plan side queue).entries (head_in (sizes_of plan side queue) (lane_of pair side queue)) (index_word_in plan bytes side queue);
      index_word = λ side queue. index_word_in plan bytes side queue;
      found = λ side queue. found_in_memory plan bytes side queue (lane_to pair side queue).got (length (lane_to pair side queue).gathered);
      part = λ side queue. part_in_memory plan bytes side queue (lane_to pair side queue).got (lane_to pair side queue).len (lane_to pair side queue).part;
      reaches = has_window plan;
    }

-- the reading of a pair: a raw pair answers by the bytes
abbrev pub reading_of : PairPlan → Bytes → PairPart → Reading
reading_of plan bytes pair = if plan.raw then by_bytes plan bytes pair else by_ledger plan pair
