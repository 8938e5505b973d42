-- Which bytes the writes of a ring bring, and through which window: a label's target, by the numbers of the side that
-- posts it.
use Rattle.std.specs.Prelude.{ℕ, ◌+◌, ◌*◌, ◌%◌, Option, Some, None, List, length}
use Rattle.step_kinds.specs.declared.names.Side.{Side}
use Rattle.step_kinds.specs.declared.plan.PairPlan.{PairPlan}
use Rattle.step_kinds.specs.declared.steps.Label.{Label}
use Rattle.step_kinds.specs.declared.steps.Label.TheVariants.{Chunk, Len, Ver, Flag, Down}
use Rattle.lane_model.specs.Lane.{Entry, bytes_of, left_of, chunk_of, chunk_size, done}
use Rattle.ring_geometry.specs.Geometry.{entries_of, window_of, slot_of, header_of, index_of}
use Rattle.pair_model.specs.Sizes.{layout_of, layout_to}
use Rattle.pair_model.specs.Addresses.{peer_address}
use Rattle.pair_model.specs.Headers.{word_bytes, len_offset, flags_offset, version_bytes}
use Rattle.pair_model.specs.Stores.{Store, store_at}

-- bytes through a window, from an offset in it on
pub record WindowWrite : Type 0 where
  pub window : ℕ
  pub offset : ℕ
  pub bytes : List ℕ

-- bytes through the window of one of a side's queues
abbrev pub queue_write : PairPlan → Side → ℕ → ℕ → List ℕ → WindowWrite
queue_write plan side queue offset bytes = record { window = window_of (layout_of plan side queue); offset = offset; bytes = bytes }

-- the offsets of the slot to which a side sends entry n, and of its header
abbrev pub slot_offset : PairPlan → Side → ℕ → ℕ → ℕ
slot_offset plan side queue n = slot_of (layout_of plan side queue) (n % entries_of (layout_of plan side queue))

abbrev pub header_offset : PairPlan → Side → ℕ → ℕ → ℕ
header_offset plan side queue n = header_of (layout_of plan side queue) (n % entries_of (layout_of plan side queue))

-- what a label's write brings that is one of this entry's; a doorbell goes through no window
abbrev pub entry_write : PairPlan → Side → Entry → Label → Option WindowWrite
entry_write plan side entry (Chunk queue n part) = Some (queue_write plan side queue (slot_offset plan side queue n + chunk_size * part) (chunk_of (bytes_of entry) part))
entry_write plan side entry (Len queue n) = Some (queue_write plan side queue (header_offset plan side queue n + len_offset plan) (word_bytes (length (bytes_of entry))))
entry_write plan side entry (Ver queue n) = Some (queue_write plan side queue (header_offset plan side queue n) (version_bytes plan n (left_of entry)))
entry_write plan side entry (Flag queue n) = Some (queue_write plan side queue (header_offset plan side queue n + flags_offset plan) (word_bytes done))
entry_write plan side entry (Down queue n) = Some (queue_write plan side queue (header_offset plan side queue n + flags_offset plan) (word_bytes (done + 2)))
entry_write plan side entry label = None

-- what the index write of entry n brings: it names the entry's slot in the ring that the writer receives in
abbrev pub index_write : PairPlan → Side → ℕ → ℕ → WindowWrite
index_write plan side queue n = queue_write plan side queue (index_of (layout_of plan side queue)) (word_bytes (n % entries_of (layout_to plan side queue)))

-- what it stores in the peer's memory as it lands
abbrev pub store_of_write : PairPlan → Side → WindowWrite → Store
store_of_write plan side write = store_at (peer_address plan side write.window write.offset) write.bytes
