-- A host's memory: its bytes as a list, in which a byte's address is its place from 0, and the pages that were
-- promised.
use Rattle.std.specs.Prelude.{◌≡◌, ◌≢◌, ℕ, ◌+◌, ◌<◌, ◌≤◌, ◌/◌, List, ◌++◌, Contains, length, take, drop, slice_index, slice_index_or}
use Rattle.byteorder.specs.Endian.{little_number}

-- the bytes, and the numbers of the pages that were promised: these may be written
pub record Contents : Type 0 where
  pub bytes : List ℕ
  pub promised : List ℕ

-- the memory after these bytes are written from an address on
abbrev pub written : ℕ → List ℕ → List ℕ → List ℕ
written at bytes mem = take at mem ++ bytes ++ drop (at + length bytes) mem

-- this many bytes of the memory from an address on
abbrev pub bytes_at : ℕ → ℕ → List ℕ → List ℕ
bytes_at at len mem = take len (drop at mem)

-- the word of four bytes from an address on, the lowest byte first
abbrev pub memory_word_at : ℕ → List ℕ → ℕ
memory_word_at at mem = little_number 4 (drop at mem)

-- the number of the page that an address lies on
abbrev pub page_of : ℕ → ℕ
page_of address = address / 512

-- the range of this many bytes from an address on has a byte on the page
abbrev pub Touches : ℕ → ℕ → ℕ → Type 0
Touches at len page = (address : ℕ) × (at ≤ address) × (address < at + len) × (page_of address ≡ page)

-- each page that the range touches is promised
abbrev pub ArePromised : ℕ → ℕ → List ℕ → Type 0
ArePromised at len promised = (page : ℕ) → Touches at len page → Contains promised page

-- none of the pages from a first to a last one is promised
abbrev pub AreNotAmong : ℕ → ℕ → List ℕ → Type 0
AreNotAmong first last promised = (page : ℕ) → first ≤ page → page ≤ last → ¬ Contains promised page

-- no page that the range touches is promised
abbrev pub AreAbsent : ℕ → ℕ → List ℕ → Type 0
AreAbsent at len promised = (page : ℕ) → Touches at len page → ¬ Contains promised page

-- all bytes of the range are zero
abbrev pub AreZero : ℕ → ℕ → List ℕ → Type 0
AreZero at len mem = (i : ℕ) → i < len → slice_index_or mem (at + i) 0 ≡ 0

-- two memories have the same bytes at all addresses from one up to another
abbrev pub AreSameBetween : ℕ → ℕ → List ℕ → List ℕ → Type 0
AreSameBetween from to mem other = (address : ℕ) → from ≤ address → address < to → slice_index_or mem address 0 ≡ slice_index_or other address 0

-- and at those of them that lie on a page
abbrev pub AreSameOnPage : ℕ → ℕ → ℕ → List ℕ → List ℕ → Type 0
AreSameOnPage page from to mem other =
    (address : ℕ) → from ≤ address → address < to → page_of address ≡ page → slice_index_or mem address 0 ≡ slice_index_or other address 0

-- no page stands twice
abbrev pub NoRepeats : List ℕ → Type 0
NoRepeats pages = (i j : ℕ) → i < j → j < length pages → slice_index pages i ≢ slice_index pages j
