-- Two tables whose groups have the same bytes hold the same bytes at each number.
use Rattle.std.proofs.Common.{◌≡◌, ℕ, ◌/◌, ◌%◌, ◌<◌, Option, Some, None, is_some, option_map, List, get_or, refl, sym, ap, subst, ◌∙◌}
use Rattle.std.proofs.Math.ListN.{get_or-map}
use Rattle.std.proofs.lemmas.List.{same_lists}
use Rattle.std.proofs.lemmas.Option.{slice_get-map}
use Rattle.std.specs.Global.{Box}
use Rattle.std.specs.List.{slice_get}
use Rattle.host_memory.specs.Pages.{PagesFound, Group, memory_byte_in, byte_on, bytes_by_group, bytes_by_place, memory_bytes_in, page_at, page_bytes, place_in}
use Rattle.host_memory.proofs.MemoryPages.{byte-bytes_in, length-bytes_in}

-- the bytes at a place of a group
abbrev bytes_at_place : Option (List (Option (List ℕ))) → ℕ → Option (List ℕ)
bytes_at_place None place = None
bytes_at_place (Some group) place = get_or group place None

of_place : (group : Option Group) (place : ℕ) → page_bytes (place_in group place) ≡ bytes_at_place (option_map bytes_by_place group) place
of_place None place = refl
of_place (Some group) place = sym (get_or-map page_bytes group.items place None)

of_page : (groups : List Group) (number : ℕ) → page_bytes (page_at groups number) ≡ bytes_at_place (slice_get (bytes_by_group groups) (number / 512)) (number % 512)
of_page groups number =
    of_place (slice_get groups (number / 512)) (number % 512)
    ∙ ap (λ group. bytes_at_place group (number % 512)) (sym (slice_get-map bytes_by_place groups (number / 512)))

-- two ways to find pages, which find the same bytes at each number
abbrev pub FindSame : PagesFound → PagesFound → Type 0
FindSame found other = (number : ℕ) → page_bytes (found number) ≡ page_bytes (other number)

-- Two tables whose groups hold the same bytes, page by page, find the same bytes at each page number.
pub find_same : (groups others : List Group) → bytes_by_group groups ≡ bytes_by_group others → FindSame (page_at groups) (page_at others)
find_same groups others same number =
    of_page groups number ∙ ap (λ bytes. bytes_at_place (slice_get bytes (number / 512)) (number % 512)) same ∙ sym (of_page others number)

there_by_bytes : (page : Option (Box (List ℕ))) → is_some (page_bytes page) ≡ is_some page
there_by_bytes None = refl
there_by_bytes (Some page) = refl

-- a page is there in both or in none
pub there_same : (found other : PagesFound) → FindSame found other → (number : ℕ) → is_some (found number) ≡ is_some (other number)
there_same found other same number = sym (there_by_bytes (found number)) ∙ ap is_some (same number) ∙ there_by_bytes (other number)

abbrev byte_of : Option (List ℕ) → ℕ → ℕ
byte_of None place = 0
byte_of (Some bytes) place = get_or bytes place 0

byte_by_bytes : (page : Option (Box (List ℕ))) (place : ℕ) → byte_on page place ≡ byte_of (page_bytes page) place
byte_by_bytes None place = refl
byte_by_bytes (Some page) place = refl

byte_same : (found other : PagesFound) → FindSame found other → (address : ℕ) → memory_byte_in found address ≡ memory_byte_in other address
byte_same found other same address =
    byte_by_bytes (found (address / 512)) (address % 512) ∙ ap (λ bytes. byte_of bytes (address % 512)) (same (address / 512))
    ∙ sym (byte_by_bytes (other (address / 512)) (address % 512))

-- the memory's bytes are the same
pub bytes_in-found : (found other : PagesFound) (len : ℕ) → FindSame found other → memory_bytes_in found len ≡ memory_bytes_in other len
bytes_in-found found other len same =
    same_lists _ _ (length-bytes_in found len ∙ sym (length-bytes_in other len))
    (λ k d h.
    let within : k < len = subst (λ n. k < n) (length-bytes_in found len) h in
    byte-bytes_in found len k d within ∙ byte_same found other same k ∙ sym (byte-bytes_in other len k d within))
