-- Worked examples of addresses, headers, index words and stores.
use Rattle.std.specs.Prelude.{◌≡◌, ℕ, [], ◌∷◌, replicate, Some, option_map}
use Rattle.step_kinds.specs.declared.names.Side.TheVariants.{A, B}
use Rattle.step_kinds.specs.declared.plan.PairPlan.{PairPlan}
use Rattle.pair_model.specs.PlanExamples.{small_side, small_pair, pieces_pair, two_queues}
use Rattle.pair_model.specs.Sizes.{sizes_of}
use Rattle.pair_model.specs.Addresses.{own_slot, own_header, own_index_word, peer_address, peer_ring, slot_address, header_address, index_word_address}
use Rattle.pair_model.specs.Headers.{Header, NoEntry, ALinkDownEntry, AnotherVersion, TooManyBytes, AnEntry, found_with, header_with, version_bytes, len_offset, flags_offset, free_in_memory}
use Rattle.step_kinds.specs.declared.steps.Label.TheVariants.{Chunk, Len, Ver, Flag, Down}
use Rattle.lane_model.specs.Lane.{Carries, GoesDown}
use Rattle.pair_model.specs.FreshRings.{fresh_index_word, zeroed_header, zeroed_flags}
use Rattle.pair_model.specs.RingWrites.{entry_write, index_write, store_of_write}
use Rattle.pair_model.specs.Stores.{store_at, byte_in, bytes_in}

-- the slots of a ring of four, their headers, and the index word at the end of the other side's area
abbrev pub OneQueue : Type 0
OneQueue =
    (slot_address (peer_ring small_pair A 0) 0 ≡ 0) × (slot_address (peer_ring small_pair A 0) 1 ≡ 1023) × (slot_address (peer_ring small_pair A 0) 4 ≡ 0) × (header_address (peer_ring small_pair A 0) 0 ≡ 1011)
    × (own_slot small_pair B 0 5 ≡ 1023) × (own_header small_pair B 0 1 ≡ 2034) × (own_index_word small_pair A 0 ≡ 4092) × (index_word_address (peer_ring small_pair B 0) ≡ 4092)

-- the second of two queues in a window
abbrev pub SecondQueue : Type 0
SecondQueue = (slot_address (peer_ring two_queues A 1) 0 ≡ 2048) × (header_address (peer_ring two_queues A 1) 0 ≡ 3058) × (own_index_word two_queues A 1 ≡ 4092) × (own_index_word two_queues A 0 ≡ 2044)

-- three queues take two windows in turn, and a window begins where the memory's cap puts it
abbrev pub three_queues : PairPlan
three_queues = record small_pair {
  a = record small_side { queues = 3; windows = 2; cap = 8192 };
  b = record small_side { queues = 3; windows = 2; cap = 8192 };
}

abbrev pub TwoWindows : Type 0
TwoWindows = (slot_address (peer_ring three_queues A 1) 0 ≡ 8192) × (slot_address (peer_ring three_queues A 2) 0 ≡ 2048) × (own_index_word three_queues B 1 ≡ 12284) × (peer_address three_queues A 1 5 ≡ 8197)

-- with windows of unequal sizes an index word stands where the window of its writer ends
abbrev pub unequal_pair : PairPlan
unequal_pair = record small_pair { a = record small_side { cap = 8192 }; b = record small_side { size = 8192 } }

abbrev pub UnequalSizes : Type 0
UnequalSizes = (own_index_word unequal_pair A 0 ≡ 8188) × (index_word_address (peer_ring unequal_pair B 0) ≡ 8188) × (own_index_word unequal_pair B 0 ≡ 4092) × (index_word_address (peer_ring unequal_pair A 0) ≡ 4092)

-- the fields of a header, and what the write of a version brings
abbrev pub HeaderFields : Type 0
HeaderFields =
    (header_with small_pair (λ offset. offset) ≡ record { left = 0; ver = 0; len = 4; flags = 8 })
    × (header_with pieces_pair (λ offset. offset) ≡ record { left = 0; ver = 4; len = 8; flags = 12 })
    × (len_offset small_pair ≡ 4) × (flags_offset small_pair ≡ 8) × (len_offset pieces_pair ≡ 8) × (flags_offset pieces_pair ≡ 12)
    × (version_bytes small_pair 258 7 ≡ 2 ∷ 1 ∷ 0 ∷ 0 ∷ []) × (version_bytes pieces_pair 258 7 ≡ 7 ∷ 0 ∷ 0 ∷ 0 ∷ 2 ∷ 1 ∷ 0 ∷ 0 ∷ [])

abbrev pub header : ℕ → ℕ → ℕ → Header
header ver len flags = record { left = 2; ver = ver; len = len; flags = flags }

-- what a receiver finds, in the order of the tests: flags, link down, the version, the length, the whole frame's length
abbrev pub WhatIsFound : Type 0
WhatIsFound =
    (found_with (sizes_of pieces_pair A 0) 9 0 (header 9 5 2) ≡ NoEntry) × (found_with (sizes_of pieces_pair A 0) 9 0 (header 3 5 3) ≡ ALinkDownEntry)
    × (found_with (sizes_of pieces_pair A 0) 9 0 (header 3 5 1) ≡ AnotherVersion 3 9) × (found_with (sizes_of pieces_pair A 0) 9 0 (header 9 1008 1) ≡ TooManyBytes 1008 1007)
    × (found_with (sizes_of pieces_pair A 0) 9 2015 (header 9 1007 1) ≡ TooManyBytes 3022 3021) × (found_with (sizes_of pieces_pair A 0) 9 2014 (header 9 1007 1) ≡ AnEntry 1007 2)

-- an index word that names no slot counts as no room
abbrev pub FreeEntries : Type 0
FreeEntries = (free_in_memory 4 0 3 ≡ 3) × (free_in_memory 4 3 0 ≡ 1) × (free_in_memory 4 1 1 ≡ 0) × (free_in_memory 4 0 4 ≡ 0)

-- the last byte stored at an address, else 0
abbrev pub LastStored : Type 0
LastStored =
    (byte_in (store_at 2 (7 ∷ 8 ∷ []) ∷ store_at 3 (9 ∷ 9 ∷ []) ∷ []) 3 ≡ 8)
    × (bytes_in (store_at 2 (7 ∷ 8 ∷ []) ∷ store_at 3 (9 ∷ 9 ∷ []) ∷ []) 1 5 ≡ 0 ∷ 7 ∷ 8 ∷ 9 ∷ 0 ∷ [])

-- What the writes of an entry store at the peer: a chunk, the length, the version, and the flags of a frame and of a
-- link-down entry. The second chunk stands 128 bytes after the first. The index write of entry 5 names its slot.
abbrev pub WritesOfAnEntry : Type 0
WritesOfAnEntry =
    (option_map (store_of_write small_pair A) (entry_write small_pair A (Carries (replicate 130 7) 0) (Chunk 0 1 1)) ≡ Some (store_at 1151 (7 ∷ 7 ∷ [])))
    × (option_map (store_of_write small_pair A) (entry_write small_pair A (Carries (replicate 130 7) 0) (Len 0 1)) ≡ Some (store_at 2038 (130 ∷ 0 ∷ 0 ∷ 0 ∷ [])))
    × (option_map (store_of_write small_pair A) (entry_write small_pair A (Carries (replicate 130 7) 0) (Ver 0 1)) ≡ Some (store_at 2034 (1 ∷ 0 ∷ 0 ∷ 0 ∷ [])))
    × (option_map (store_of_write small_pair A) (entry_write small_pair A (Carries (replicate 130 7) 0) (Flag 0 1)) ≡ Some (store_at 2042 (1 ∷ 0 ∷ 0 ∷ 0 ∷ [])))
    × (option_map (store_of_write small_pair A) (entry_write small_pair A GoesDown (Down 0 1)) ≡ Some (store_at 2042 (3 ∷ 0 ∷ 0 ∷ 0 ∷ [])))
    × (store_of_write small_pair B (index_write small_pair B 0 5) ≡ store_at 4092 (1 ∷ 0 ∷ 0 ∷ 0 ∷ []))

-- of a piece of version 5: left and version together, then the length and the flags
abbrev pub WritesOfAPiece : Type 0
WritesOfAPiece =
    (option_map (store_of_write pieces_pair A) (entry_write pieces_pair A (Carries (7 ∷ []) 2) (Ver 0 1)) ≡ Some (store_at 2030 (2 ∷ 0 ∷ 0 ∷ 0 ∷ 1 ∷ 0 ∷ 0 ∷ 0 ∷ [])))
    × (option_map (store_of_write pieces_pair A) (entry_write pieces_pair A (Carries (7 ∷ []) 2) (Len 0 1)) ≡ Some (store_at 2038 (1 ∷ 0 ∷ 0 ∷ 0 ∷ [])))
    × (option_map (store_of_write pieces_pair A) (entry_write pieces_pair A (Carries (7 ∷ []) 2) (Flag 0 1)) ≡ Some (store_at 2042 (1 ∷ 0 ∷ 0 ∷ 0 ∷ [])))

-- a ring in which nothing stands: the index word is the last slot, headers are zero; and a clear zeroes the flags alone
abbrev pub FreshRing : Type 0
FreshRing =
    (fresh_index_word small_pair A 0 ≡ store_at 4092 (3 ∷ 0 ∷ 0 ∷ 0 ∷ [])) × (zeroed_header small_pair B 0 1 ≡ store_at 2034 (replicate 12 0))
    × (zeroed_flags small_pair B 0 1 ≡ store_at 2042 (0 ∷ 0 ∷ 0 ∷ 0 ∷ [])) × (zeroed_flags pieces_pair B 0 1 ≡ store_at 2042 (0 ∷ 0 ∷ 0 ∷ 0 ∷ []))

pub record ByteExamplesHold : Type 0 where
  pub one_queue : OneQueue
  pub second_queue : SecondQueue
  pub two_windows : TwoWindows
  pub unequal_sizes : UnequalSizes
  pub header_fields : HeaderFields
  pub what_is_found : WhatIsFound
  pub free_entries : FreeEntries
  pub last_stored : LastStored
  pub writes_of_an_entry : WritesOfAnEntry
  pub writes_of_a_piece : WritesOfAPiece
  pub fresh_ring : FreshRing
