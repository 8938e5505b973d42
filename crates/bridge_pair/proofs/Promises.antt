-- Pages that are promised in turn.
use Rattle.std.proofs.Common.{ℕ, inl, inr, List, ⊎_elim}
use Rattle.host_memory.specs.Memory.{ArePromised}
use Rattle.bridge_pair.specs.Pages.{PagesGrow}

-- Promised pages that grow within a set of pages, and then within a part of that set, grow within the set.
pub grows_further : (touched more : ℕ → Type 0) (old now new : List ℕ) → PagesGrow touched old now → PagesGrow more now new → ((page : ℕ) → more page → touched page) → PagesGrow touched old new
grows_further touched more old now new so_far next within =
    record {
      stay = λ page there. next.stay page (so_far.stay page there);
      only = λ page there. ⊎_elim (so_far.only page) (λ touch. inr (within page touch)) (next.only page there);
    }

-- Promised pages that stay as they are grow within any set of pages.
pub grows_nothing : (touched : ℕ → Type 0) (pages : List ℕ) → PagesGrow touched pages pages
grows_nothing touched pages = record { stay = λ page there. there; only = λ page there. inl there }

-- A range of memory that is promised stays promised as the promised pages grow.
pub promised_still : (touched : ℕ → Type 0) (old new : List ℕ) (at len : ℕ) → PagesGrow touched old new → ArePromised at len old → ArePromised at len new
promised_still touched old new at len grow promised = λ page touch. grow.stay page (promised page touch)
