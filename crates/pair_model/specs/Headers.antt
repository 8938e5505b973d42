-- Headers and index words as bytes, and what a receiver and a sender make of them, whoever wrote them. All fields are
-- words of four bytes, the lowest byte first.
use Rattle.std.specs.Prelude.{ℕ, ◌+◌, ◌-◌, ◌*◌, ◌==◌, not, min, nat_lt, List, ◌++◌, if◌then◌else◌}
use Rattle.byteorder.specs.Endian.{little_bytes, little_number}
use Rattle.step_kinds.specs.Bits.{has_bit}
use Rattle.step_kinds.specs.declared.names.Side.{Side}
use Rattle.step_kinds.specs.declared.plan.PairPlan.{PairPlan}
use Rattle.lane_model.specs.Lane.{chunk_size, version_of}
use Rattle.lane_model.specs.Ring.{free_entries}
use Rattle.pair_model.specs.Sizes.{Sizes, agreed_version, layout_to, sizes_in}
use Rattle.pair_model.specs.Addresses.{own_slot, own_header, own_index_word}

-- the bytes of a side's memory, by address and length
abbrev pub Bytes : Type 0
Bytes = Side → ℕ → ℕ → List ℕ

abbrev pub word_bytes : ℕ → List ℕ
word_bytes value = little_bytes 4 value

abbrev pub word_at : Bytes → Side → ℕ → ℕ
word_at bytes side at = little_number 4 (bytes side at 4)

-- Headers

-- where the length and the flags stand in a header: the version is first, on version 5 after the number of entries that
-- follow
abbrev pub len_offset : PairPlan → ℕ
len_offset plan = if agreed_version plan == 5 then 8 else 4

abbrev pub flags_offset : PairPlan → ℕ
flags_offset plan = if agreed_version plan == 5 then 12 else 8

-- what the write of entry n's version brings: on version 5 the number of entries that follow goes with it
abbrev pub version_bytes : PairPlan → ℕ → ℕ → List ℕ
version_bytes plan n left = if agreed_version plan == 5 then word_bytes left ++ word_bytes (version_of n) else word_bytes (version_of n)

-- the fields of a header; where no number of entries stands, none follows
pub record Header : Type 0 where
  pub left : ℕ
  pub ver : ℕ
  pub len : ℕ
  pub flags : ℕ

abbrev pub header_with : PairPlan → (ℕ → ℕ) → Header
header_with plan word =
    if agreed_version plan == 5
    then record { left = word 0; ver = word 4; len = word 8; flags = word 12 }
    else record { left = 0; ver = word 0; len = word 4; flags = word 8 }

-- the header of the slot in which a side receives entry n
abbrev pub header_in : PairPlan → Bytes → Side → ℕ → ℕ → Header
header_in plan bytes side queue n = header_with plan (λ offset. word_at bytes side (own_header plan side queue n + offset))

-- Receiving

-- What a receiver finds at the next entry.
pub data Found : Type 0 where
  -- the flags lack DONE
  NoEntry : Found
  ALinkDownEntry : Found
  -- a version that isn't the next entry's
  AnotherVersion : (seen : ℕ) (own : ℕ) → Found
  -- more bytes than an entry's payload, or than a frame, may have
  TooManyBytes : (len : ℕ) (most : ℕ) → Found
  -- an entry with its length, and the number of entries of its frame that follow
  AnEntry : (len : ℕ) (left : ℕ) → Found

-- what a header says to a receiver that has taken this many entries and copied this many bytes of the frame under way
abbrev pub found_with : Sizes → ℕ → ℕ → Header → Found
found_with sizes got gathered header =
    if not (has_bit header.flags 0) then NoEntry
    else if has_bit header.flags 1 then ALinkDownEntry
    else if not (header.ver == version_of got) then AnotherVersion header.ver (version_of got)
    else if nat_lt sizes.largest header.len then TooManyBytes header.len sizes.largest
    else if nat_lt sizes.most (gathered + header.len) then TooManyBytes (gathered + header.len) sizes.most
    else AnEntry header.len header.left

abbrev pub found_in_memory : PairPlan → Bytes → Side → ℕ → ℕ → ℕ → Found
found_in_memory plan bytes side queue got gathered = found_with (sizes_in plan (layout_to plan side queue)) got gathered (header_in plan bytes side queue got)

-- a part of entry `got`, which has this many bytes, as it is in memory
abbrev pub part_in_memory : PairPlan → Bytes → Side → ℕ → ℕ → ℕ → ℕ → List ℕ
part_in_memory plan bytes side queue got len part =
    bytes side (own_slot plan side queue got + chunk_size * part) (min chunk_size (len - chunk_size * part))

-- Sending

-- the index word of the lane that a side sends
abbrev pub index_word_in : PairPlan → Bytes → Side → ℕ → ℕ
index_word_in plan bytes side queue = word_at bytes side (own_index_word plan side queue)

-- the free entries by head and index word; none where the index word names no slot
abbrev pub free_in_memory : ℕ → ℕ → ℕ → ℕ
free_in_memory entries head index_word = if nat_lt index_word entries then free_entries entries head index_word else 0
