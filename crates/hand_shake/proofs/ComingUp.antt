-- A side that comes up.
use Rattle.std.proofs.Common.{◌≡◌, ℕ, inl, inr, true, List, ap, ◌∙◌, refl, sym, subst}
use Rattle.pair_model.specs.FreshRings.{fresh_index_words, zeroed_headers}
use Rattle.step_kinds.specs.declared.names.Side.{Side}
use Rattle.step_kinds.specs.declared.names.Side.TheVariants.{A, B}
use Rattle.bridge_pair.specs.Bridge.{Bridge, book_of, bridge_bytes_of, pages_of, with_book, with_bytes, with_pages}
use Rattle.bridge_pair.specs.Ends.{bytes_after}
use Rattle.bridge_pair.specs.Pages.{PagesGrow}
use Rattle.bridge_pair.specs.Words.{AreIndexWordsPromised, TouchesIndexWord}
use Rattle.bridge_pair.proofs.Facade.{grows_further, grows_nothing}
use Rattle.step_kinds.specs.declared.plan.PairPlan.{PairPlan}
use Rattle.hand_shake.specs.Checks.{TouchesAnyRing, TouchesRings, came_up, check_answer}
use Rattle.hand_shake.specs.Headers.{AreHeadersReady, AreRingsReady, TouchesHeader}
use Rattle.hand_shake.specs.declared.CheckAnswer.TheVariants.{Up}
use Rattle.hand_shake.proofs.HeaderPages.{bytes_after-append, ready_still}

-- what each step makes of a bridge: headers are zeroed, index words are set, and the book says that the side is up
abbrev with_zeroed : Bridge → Side → Bridge
with_zeroed bridge side = with_bytes bridge side (bytes_after (zeroed_headers bridge.plan side) (bridge_bytes_of bridge side))

abbrev with_words : Bridge → Side → Bridge
with_words bridge side = with_bytes bridge side (bytes_after (fresh_index_words bridge.plan side) (bridge_bytes_of bridge side))

abbrev with_up : Bridge → Side → Bridge
with_up bridge side = with_book bridge side (record (book_of bridge side) { up = true })

-- pages that are promised in two goes, zeroed headers, index words, and the book
pub record ComesUp (old headers words zeroed set new : Bridge) (side : Side) : Type 0 where
  pub first : headers ≡ with_pages old side (pages_of headers side)
  pub second : words ≡ with_pages headers side (pages_of words side)
  pub zeroes : zeroed ≡ with_zeroed words side
  pub sets : set ≡ with_words zeroed side
  pub keeps : new ≡ with_up set side

-- all steps, by the pages that were promised
abbrev fresh_with : Bridge → Side → List ℕ → List ℕ → Bridge
fresh_with old side headers words = with_up (with_words (with_zeroed (with_pages (with_pages old side headers) side words) side) side) side

-- bytes and book at once, and then the pages
fresh_at_once : (old : Bridge) (side : Side) (headers words : List ℕ)
    → fresh_with old side headers words ≡ with_pages (with_up (with_bytes old side (bytes_after (fresh_index_words old.plan side) (bytes_after (zeroed_headers old.plan side) (bridge_bytes_of old side)))) side) side words
fresh_at_once old A headers words = refl
fresh_at_once old B headers words = refl

fresh_pages : (old : Bridge) (side : Side) (headers words : List ℕ) → pages_of (fresh_with old side headers words) side ≡ words
fresh_pages old A headers words = refl
fresh_pages old B headers words = refl

-- The steps of a side that comes up leave the bridge that has come up, with the pages promised on the way.
pub came_up_is : (old headers words zeroed set new : Bridge) (side : Side) → ComesUp old headers words zeroed set new side
    → (new ≡ with_pages (came_up old side) side (pages_of new side)) × (pages_of new side ≡ pages_of words side)
came_up_is old headers words zeroed set new side comes = (together, same)
  where
    chain : new ≡ fresh_with old side (pages_of headers side) (pages_of words side)
    chain =
        comes.keeps
        ∙ ap (λ (b : Bridge). with_up b side)
        (comes.sets ∙ ap (λ (b : Bridge). with_words b side)
        (comes.zeroes ∙ ap (λ (b : Bridge). with_zeroed b side)
        (comes.second ∙ ap (λ (b : Bridge). with_pages b side (pages_of words side)) comes.first)))

    same : pages_of new side ≡ pages_of words side
    same = ap (λ (b : Bridge). pages_of b side) chain ∙ fresh_pages old side (pages_of headers side) (pages_of words side)

    together : new ≡ with_pages (came_up old side) side (pages_of new side)
    together =
        chain
        ∙ fresh_at_once old side (pages_of headers side) (pages_of words side)
        ∙ ap (λ bytes. with_pages (with_up (with_bytes old side bytes) side) side (pages_of words side)) (sym (bytes_after-append (fresh_index_words old.plan side) (zeroed_headers old.plan side) (bridge_bytes_of old side)))
        ∙ ap (λ pages. with_pages (came_up old side) side pages) (sym same)

-- the pages of the headers, and then of the index words
pub rings_grow : (plan same : PairPlan) (side : Side) (bytes old headers words : List ℕ) → same ≡ plan → PagesGrow (TouchesHeader plan side bytes) old headers → PagesGrow (TouchesIndexWord same side) headers words
    → PagesGrow (TouchesAnyRing plan side bytes) old words
rings_grow plan same side bytes old headers words plans first second =
    grows_further (TouchesAnyRing plan side bytes) (TouchesIndexWord same side) old headers words
    (grows_further (TouchesAnyRing plan side bytes) (TouchesHeader plan side bytes) old old headers (grows_nothing (TouchesAnyRing plan side bytes) old) first (λ page touch. inl touch)) second
    (λ page touch. inr (subst (λ (plan : PairPlan). TouchesIndexWord plan side page) plans touch))

-- headers that are ready stay so
pub headers_still : (plan same : PairPlan) (side : Side) (bytes old new : List ℕ) → PagesGrow (TouchesIndexWord same side) old new → AreHeadersReady plan side bytes old → AreHeadersReady plan side bytes new
headers_still plan same side bytes old new grow ready = λ queue among n within. ready_still (TouchesIndexWord same side) plan side queue n bytes old new grow (ready queue among n within)

-- and the index words are promised in the end
pub rings_ready : (plan same : PairPlan) (side : Side) (bytes headers words new : List ℕ) → same ≡ plan → PagesGrow (TouchesIndexWord same side) headers words → new ≡ words
    → AreHeadersReady plan side bytes headers → AreIndexWordsPromised same side words → AreRingsReady plan side bytes new
rings_ready plan same side bytes headers words new plans grow pages first second =
    subst (λ (pages : List ℕ). AreRingsReady plan side bytes pages) (sym pages)
    (headers_still plan same side bytes headers words grow first, subst (λ (plan : PairPlan). AreIndexWordsPromised plan side words) plans second)

-- the pages that a check promises are those of a side that comes up
pub where_up : (bridge : Bridge) (side : Side) (old new : List ℕ) → check_answer bridge side ≡ Up → PagesGrow (TouchesAnyRing bridge.plan side (bridge_bytes_of bridge side)) old new → PagesGrow (TouchesRings bridge side) old new
where_up bridge side old new up grow =
    grows_further (TouchesRings bridge side) (TouchesAnyRing bridge.plan side (bridge_bytes_of bridge side)) old old new (grows_nothing (TouchesRings bridge side) old) grow (λ page touch. (up, touch))
