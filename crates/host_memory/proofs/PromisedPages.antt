-- The numbers of the pages that were promised, with one more.
use Rattle.std.proofs.Common.{◌≡◌, ℕ, ◌<◌, ◌^◌, IsSome, is_some, List, [], ◌∷◌, ◌++◌, length, get_or, sym, ap, subst, ◌∙◌, ⊎_elim, arith, Contains}
use Rattle.std.proofs.lemmas.Bool.{cases_eq, cases_lt}
use Rattle.std.proofs.lemmas.Grind.{common_steps}
use Rattle.std.proofs.lemmas.List.Elements.{Contains-get_or, Contains-append_left, Contains-push, Contains-push_cases}
use Rattle.host_memory.specs.Inside.{IsMemory}
use Rattle.host_memory.specs.Memory.{NoRepeats}
use Rattle.host_memory.specs.Pages.{PagesFound, KeepsPages}
use Rattle.host_memory.specs.declared.memory.Memory.TheInside.{Inside}
use Rattle.host_memory.proofs.MemoryPages.{IsElsewhereTheSame}

-- a number that is not among them
pub no_repeats_more : (pages : List ℕ) (page : ℕ) → NoRepeats pages → ¬ Contains pages page → NoRepeats (pages ++ page ∷ [])
no_repeats_more pages page distinct new i j i<j within same =
    ⊎_elim (λ inside. distinct i j i<j inside (grind (arith, common_steps)))
    (λ last. let P : ℕ → Type 0 = λ p. Contains pages p in
    let e : get_or pages i 0 ≡ page = grind (arith, common_steps) in
    new (subst P e (Contains-get_or pages i 0 (grind (arith, common_steps)))))
    (cases_lt j (length pages))

-- each page that was promised is there
pub there_more : (found new : PagesFound) (pages : List ℕ) (page : ℕ) → ((number : ℕ) → Contains pages number → IsSome (found number))
    → IsElsewhereTheSame found new page → IsSome (new page) → (number : ℕ) → Contains (pages ++ page ∷ []) number → IsSome (new number)
there_more found new pages page there others put number among =
    ⊎_elim (λ same. let P : ℕ → Type 0 = λ n. IsSome (new n) in subst P (sym same) put)
    (λ differs. ap is_some (others number differs) ∙ there number (⊎_elim (λ was. was) (λ same. absurd (differs (sym same))) (Contains-push_cases pages page number among)))
    (cases_eq number page)

-- and each page that is there was promised
pub among_more : (found new : PagesFound) (pages : List ℕ) (page : ℕ) → ((number : ℕ) → IsSome (found number) → Contains pages number)
    → IsElsewhereTheSame found new page → (number : ℕ) → IsSome (new number) → Contains (pages ++ page ∷ []) number
among_more found new pages page among others number there =
    ⊎_elim (λ same. let P : ℕ → Type 0 = λ n. Contains (pages ++ page ∷ []) n in subst P (sym same) (Contains-push pages page))
    (λ differs. Contains-append_left pages (page ∷ []) number (among number (ap is_some (sym (others number differs)) ∙ there)))
    (cases_eq number page)

-- a memory stays one where its pages and what was promised are the same
pub still_memory : (old new : Inside) → new.len ≡ old.len → new.promised.items ≡ old.promised.items → KeepsPages old.pages.groups.items new.pages.groups.items → IsMemory old → IsMemory new
still_memory old new long same kept memory = record {
  len = subst (λ len. len < 2 ^ 63) (sym long) memory.len;
  distinct = subst NoRepeats (sym same) memory.distinct;
  there = λ page among. ap is_some (kept page) ∙ memory.there page (subst (λ promised. Contains promised page) same among);
  among = λ page there. subst (λ promised. Contains promised page) (sym same) (memory.among page (ap is_some (sym (kept page)) ∙ there));
}
