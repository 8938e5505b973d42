-- Fresh pairs.
use Rattle.std.proofs.Common.{◌≡◌, ℕ, ◌<◌, ◌^◌, Bool, true, false, List, [], Contains, replicate, refl, sym, ap, ◌∙◌, subst, arith, ⊎_elim, if◌then◌else◌}
use Rattle.std.proofs.lemmas.Nat.{pow_pos}
use Rattle.pair_model.specs.Stores.{Store}
use Rattle.host_memory.specs.Memory.{Contents}
use Rattle.pair_model.specs.FreshRings.{fresh_index_words}
use Rattle.pair_model.specs.Plans.{side_plan}
use Rattle.step_kinds.specs.declared.names.Side.{Side}
use Rattle.step_kinds.specs.declared.names.Side.TheVariants.{A, B}
use Rattle.step_kinds.specs.declared.plan.PairPlan.{PairPlan}
use Rattle.plan_numbers.specs.Memories.{memory_size}
use Rattle.bridge_pair.specs.Bridge.{Bridge, IsBook, bridge_bytes_of, pages_of, with_memory, with_pages, with_bytes}
use Rattle.bridge_pair.specs.Ends.{bytes_after}
use Rattle.bridge_pair.specs.Fresh.{fresh_book, fresh_stores, fresh_bridge, fresh_bridge_with, started_memory, whole_book, zero_memory}
use Rattle.bridge_pair.specs.Links.{no_book}
use Rattle.bridge_pair.specs.Pages.{PagesGrow}
use Rattle.bridge_pair.proofs.Sides.{pages_of-with_bytes}
use Rattle.bridge_pair.specs.Words.{AreFreshPages, AreIndexWordsPromised, TouchesIndexWord}

-- a fresh book fits its plan
pub fresh_is_book : (plan : PairPlan) (side : Side) → IsBook plan side (fresh_book plan side)
fresh_is_book plan side = by_up plan.up where
  some : 0 < 2 ^ (side_plan plan side).queues
  some = pow_pos (side_plan plan side).queues

  by_up : (up : Bool) → IsBook plan side (if up then whole_book plan side else no_book)
  by_up true = record { ready = omega (arith, some); joined = omega (arith, some); offered = omega arith }
  by_up false = record { ready = some; joined = some; offered = omega arith }

-- index words are set
abbrev with_words : Bridge → Side → Bridge
with_words bridge side = with_bytes bridge side (bytes_after (fresh_index_words bridge.plan side) (bridge_bytes_of bridge side))

promised_first : (old : Bridge) (side : Side) (pages : List ℕ) → with_words (with_pages old side pages) side ≡ with_memory old side (started_memory old side pages)
promised_first old A pages = refl
promised_first old B pages = refl

-- promised and then stored
pub then_started : (old now new : Bridge) (side : Side) → now ≡ with_pages old side (pages_of now side) → new ≡ with_words now side
    → (new ≡ with_memory old side (started_memory old side (pages_of new side))) × (pages_of new side ≡ pages_of now side)
then_started old now new side promised stored =
    let pages : pages_of new side ≡ pages_of now side = ap (λ (bridge : Bridge). pages_of bridge side) stored ∙ pages_of-with_bytes now side _ in (
      stored
          ∙ ap (λ (bridge : Bridge). with_words bridge side) promised
          ∙ promised_first old side (pages_of now side)
          ∙ ap (λ promised. with_memory old side (started_memory old side promised)) (sym pages),
      pages,
    )

stores_up : (plan : PairPlan) (side : Side) → plan.up ≡ true → fresh_stores plan side ≡ fresh_index_words plan side
stores_up plan side up = ap (λ b. if b then fresh_index_words plan side else []) up

stores_down : (plan : PairPlan) (side : Side) → plan.up ≡ false → fresh_stores plan side ≡ []
stores_down plan side up = ap (λ b. if b then fresh_index_words plan side else []) up

abbrev zeros : PairPlan → Bridge
zeros plan = fresh_bridge_with plan (record { a = zero_memory plan A; b = zero_memory plan B })

abbrev stored_in : PairPlan → Side → List Store → List ℕ → Contents
stored_in plan side stores pages = record { bytes = bytes_after stores (replicate (memory_size plan side) 0); promised = pages }

-- a pair that starts down is fresh
pub fresh_down : (plan : PairPlan) (pair : Bridge) → plan.up ≡ false → pair ≡ zeros plan → pair ≡ fresh_bridge plan (record { a = pages_of pair A; b = pages_of pair B })
fresh_down plan pair down is =
    is
    ∙ ap (λ stores. fresh_bridge_with plan (record { a = stored_in plan A stores []; b = zero_memory plan B })) (sym (stores_down plan A down))
    ∙ ap (λ stores. fresh_bridge_with plan (record { a = stored_in plan A (fresh_stores plan A) []; b = stored_in plan B stores [] })) (sym (stores_down plan B down))
    ∙ ap (λ (pair : Bridge). fresh_bridge plan (record { a = pages_of pair A; b = pages_of pair B })) (sym is)

-- and so is one that starts up, once its index words are set
pub fresh_up : (plan : PairPlan) (zero one two : Bridge) → plan.up ≡ true → zero ≡ zeros plan
    → one ≡ with_memory zero A (started_memory zero A (pages_of one A)) → two ≡ with_memory one B (started_memory one B (pages_of two B))
    → two ≡ fresh_bridge plan (record { a = pages_of two A; b = pages_of two B })
fresh_up plan zero one two up is first second =
    second
    ∙ ap (λ (one : Bridge). with_memory one B (started_memory one B (pages_of two B)))
    (first ∙ ap (λ (zero : Bridge). with_memory zero A (started_memory zero A (pages_of one A))) is)
    ∙ ap (λ stores. fresh_bridge_with plan (record { a = stored_in plan A stores (pages_of one A); b = stored_in plan B (fresh_index_words plan B) (pages_of two B) })) (sym (stores_up plan A up))
    ∙ ap (λ stores. fresh_bridge_with plan (record { a = stored_in plan A (fresh_stores plan A) (pages_of one A); b = stored_in plan B stores (pages_of two B) })) (sym (stores_up plan B up))
    ∙ ap (λ pages. fresh_bridge plan (record { a = pages; b = pages_of two B })) (sym (ap (λ (bridge : Bridge). pages_of bridge A) second))

nothing : (page : ℕ) → Contains {X = ℕ} [] page → ⊥
nothing page there = omega (arith, there.1)

-- the pages of a pair that starts down, and of one that starts up
pub no_pages : (plan : PairPlan) (side : Side) (pages : List ℕ) → plan.up ≡ false → pages ≡ [] → AreFreshPages plan side pages
no_pages plan side pages down none =
    record {
      promised = λ up. absurd (cc (up, down));
      only = λ page there. absurd (nothing page (subst (λ (pages : List ℕ). Contains pages page) none there));
    }

-- If just the pages of a side's index words are promised, they are the pages of a fresh pair that starts up.
pub word_pages : (plan same : PairPlan) (side : Side) (old pages : List ℕ) → plan.up ≡ true → same ≡ plan → old ≡ [] → PagesGrow (TouchesIndexWord same side) old pages → AreIndexWordsPromised same side pages
    → AreFreshPages plan side pages
word_pages plan same side old pages up plans none grow promised =
    record {
      promised = λ _. subst (λ (plan : PairPlan). AreIndexWordsPromised plan side pages) plans promised;
      only = λ page there.
          (up, ⊎_elim (λ was. absurd (nothing page (subst (λ (pages : List ℕ). Contains pages page) none was))) (λ touch. subst (λ (plan : PairPlan). TouchesIndexWord plan side page) plans touch) (grow.only page there));
    }
