-- What a write to memory does, address by address, and which ranges are promised with others.
use Rattle.std.specs.Prelude.{◌≡◌, ℕ, ◌+◌, ◌^◌, ◌<◌, ◌≤◌, ◌⊎◌, List, Contains, length, slice_index}
use Rattle.byteorder.specs.Endian.{little_bytes}
use Rattle.host_memory.specs.Memory.{ArePromised, written, bytes_at, memory_word_at}

-- the bytes that are written lie in the memory
abbrev pub LiesIn : ℕ → List ℕ → List ℕ → Type 0
LiesIn at bytes mem = at + length bytes ≤ length mem

-- a stretch of bytes lies before a second one, or after it
abbrev pub StandsApart : ℕ → ℕ → ℕ → ℕ → Type 0
StandsApart from len at size = (from + len ≤ at) ⊎ (at + size ≤ from)

-- inside the write each byte is the written one
abbrev pub WrittenInside : Type 0
WrittenInside = (at : ℕ) (bytes mem : List ℕ) → LiesIn at bytes mem → (k : ℕ) → k < length bytes → slice_index (written at bytes mem) (at + k) ≡ slice_index bytes k

-- outside it each byte is the old one
abbrev pub OldOutside : Type 0
OldOutside = (at : ℕ) (bytes mem : List ℕ) → LiesIn at bytes mem → (k : ℕ) → StandsApart k 1 at (length bytes) → slice_index (written at bytes mem) k ≡ slice_index mem k

-- the memory keeps its length
abbrev pub LengthStays : Type 0
LengthStays = (at : ℕ) (bytes mem : List ℕ) → LiesIn at bytes mem → length (written at bytes mem) ≡ length mem

-- a read at the place of a write gives what was written
abbrev pub ReadsBack : Type 0
ReadsBack = (at : ℕ) (bytes mem : List ℕ) → LiesIn at bytes mem → bytes_at at (length bytes) (written at bytes mem) ≡ bytes

-- a read elsewhere gives what it gave before
abbrev pub ReadsElsewhere : Type 0
ReadsElsewhere = (at : ℕ) (bytes mem : List ℕ) → LiesIn at bytes mem → (from len : ℕ) → StandsApart from len at (length bytes) → bytes_at from len (written at bytes mem) ≡ bytes_at from len mem

-- a word is read back as it was written
abbrev pub WordReadsBack : Type 0
WordReadsBack = (at value : ℕ) (mem : List ℕ) → at + 4 ≤ length mem → value < 2 ^ 32 → memory_word_at at (written at (little_bytes 4 value) mem) ≡ value

-- a word elsewhere is what it was before
abbrev pub WordElsewhere : Type 0
WordElsewhere = (at : ℕ) (bytes mem : List ℕ) → LiesIn at bytes mem → (from : ℕ) → StandsApart from 4 at (length bytes) → memory_word_at from (written at bytes mem) ≡ memory_word_at from mem

-- a part of a range is promised with the range
abbrev pub PartPromised : Type 0
PartPromised = (at len from size : ℕ) (promised : List ℕ) → ArePromised at len promised → at ≤ from → from + size ≤ at + len → ArePromised from size promised

-- two ranges that meet are promised together
abbrev pub BothPromised : Type 0
BothPromised = (at len more : ℕ) (promised : List ℕ) → ArePromised at len promised → ArePromised (at + len) more promised → ArePromised at (len + more) promised

-- what is promised stays so where further pages are
abbrev pub StaysPromised : Type 0
StaysPromised = (at len : ℕ) (promised more : List ℕ) → ArePromised at len promised → ((page : ℕ) → Contains promised page → Contains more page) → ArePromised at len more
