-- How pages hold a memory's bytes: a page that isn't there reads as zeros. And how they stand in a table, by their
-- numbers.
use Rattle.std.specs.Prelude.{◌≡◌, ℕ, ◌/◌, ◌%◌, Option, Some, None, List, map, option_map, slice_get, slice_index, slice_index_or}
use Rattle.std.specs.Box.{with_value}
use Rattle.std.specs.List.{range_with_len}
use Rattle.std.specs.Global.{Box, Vec}
use Rattle.host_memory.specs.Memory.{written}

-- the page at each number
abbrev pub PagesFound : Type 0
PagesFound = ℕ → Option (Box (List ℕ))

-- the byte at a place of a page
abbrev pub byte_on : Option (Box (List ℕ)) → ℕ → ℕ
byte_on None place = 0
byte_on (Some page) place = slice_index page.value place

-- the byte at an address
abbrev pub memory_byte_in : PagesFound → ℕ → ℕ
memory_byte_in found address = byte_on (found (address / 512)) (address % 512)

-- all bytes of a memory of this length
abbrev pub memory_bytes_in : PagesFound → ℕ → List ℕ
memory_bytes_in found len = map (memory_byte_in found) (range_with_len 0 len)

-- the pages of a group, by their places
abbrev pub Group : Type 0
Group = Vec (Option (Box (List ℕ)))

-- a group that isn't there has no page
abbrev pub place_in : Option Group → ℕ → Option (Box (List ℕ))
place_in None place = None
place_in (Some group) place = slice_index_or group.items place None

-- the page of this number
abbrev pub page_at : List Group → PagesFound
page_at groups number = place_in (slice_get groups (number / 512)) (number % 512)

-- the same pages
abbrev pub KeepsPages : List Group → List Group → Type 0
KeepsPages old new = (number : ℕ) → page_at new number ≡ page_at old number

abbrev pub KeepsPlaces : List (Option (Box (List ℕ))) → List (Option (Box (List ℕ))) → Type 0
KeepsPlaces old new = (place : ℕ) → slice_index_or new place None ≡ slice_index_or old place None

-- a page with these bytes from a place on
abbrev pub page_with_bytes : ℕ → List ℕ → Box (List ℕ) → Box (List ℕ)
page_with_bytes start bytes page = with_value page (written start bytes page.value)

-- the bytes of a page that is there
abbrev pub page_bytes : Option (Box (List ℕ)) → Option (List ℕ)
page_bytes page = option_map (λ (page : Box (List ℕ)). page.value) page

-- those of a group's pages, place by place
abbrev pub bytes_by_place : Group → List (Option (List ℕ))
bytes_by_place group = map page_bytes group.items

-- and those of each group
abbrev pub bytes_by_group : List Group → List (List (Option (List ℕ)))
bytes_by_group groups = map bytes_by_place groups
