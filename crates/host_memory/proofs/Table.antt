-- Pages in a table of two levels.
use Rattle.std.proofs.Common.{◌≡◌, ℕ, zero, suc, ◌/◌, ◌%◌, ◌<◌, Option, Some, None, IsSome, is_some, List, [], ◌∷◌, length, get_or, set, refl, sym, ap, ◌∙◌, ⊎_elim, arith}
use Rattle.std.proofs.lemmas.Bool.{cases_lt, true≢false}
use Rattle.std.proofs.lemmas.List.{get_or_past, get_or_read}
use Rattle.std.proofs.lemmas.Option.{slice_get_read, slice_get_past}
use Rattle.std.specs.Global.{Box}
use Rattle.std.specs.List.{slice_get}
use Rattle.host_memory.specs.Pages.{Group, place_in, page_at}

slice_get-set_same : {X : Type 0} (xs : List X) (i : ℕ) (x : X) → i < length xs → slice_get (set xs i x) i ≡ Some x
slice_get-set_same [] i x within = absurd (omega (arith, within))
slice_get-set_same (y ∷ ys) zero x within = refl
slice_get-set_same (y ∷ ys) (suc i) x within = slice_get-set_same ys i x (omega (arith, within))

-- the page of a number, if its group is known
pub page_in_group : (groups : List Group) (group : Group) (number : ℕ) → number / 512 < length groups → group ≡ get_or groups (number / 512) group
    → page_at groups number ≡ get_or group.items (number % 512) None
page_in_group groups group number within read =
    ap (λ (found : Option Group). place_in found (number % 512)) (slice_get_read groups (length groups) (number / 512) group refl within read)

-- and where it is another now
pub page_in_set_group : (groups : List Group) (group : Group) (number : ℕ) → number / 512 < length groups
    → page_at (set groups (number / 512) group) number ≡ get_or group.items (number % 512) None
page_in_set_group groups group number within =
    ap (λ (found : Option Group). place_in found (number % 512)) (slice_get-set_same groups (number / 512) group within)

-- a page that is there has a group, and stands within it
pub group_within : (groups : List Group) (number : ℕ) → IsSome (page_at groups number) → number / 512 < length groups
group_within groups number there =
    ⊎_elim (λ inside. inside)
    (λ past. absurd (true≢false (sym there ∙ ap (λ (found : Option Group). is_some (place_in found (number % 512))) (slice_get_past groups (number / 512) past))))
    (cases_lt (number / 512) (length groups))

-- A page that is there has its place within its group, below the group's length.
pub page_within : (groups : List Group) (group : Group) (number : ℕ) → number / 512 < length groups → group ≡ get_or groups (number / 512) group
    → IsSome (page_at groups number) → number % 512 < length group.items
page_within groups group number within read there =
    ⊎_elim (λ inside. inside)
    (λ past. absurd (true≢false (sym there ∙ ap is_some (page_in_group groups group number within read ∙ get_or_past group.items (number % 512) None past))))
    (cases_lt (number % 512) (length group.items))

-- what is read at its place
pub page_read : (groups : List Group) (group : Group) (number : ℕ) (place page : Option (Box (List ℕ))) → group ≡ get_or groups (number / 512) group
    → IsSome (page_at groups number) → place ≡ get_or group.items (number % 512) place → place ≡ page → page_at groups number ≡ page
page_read groups group number place page row there at is =
    let within = page_within groups group number (group_within groups number there) row there in
    page_in_group groups group number (group_within groups number there) row ∙ sym (get_or_read group.items _ _ within at None) ∙ is
