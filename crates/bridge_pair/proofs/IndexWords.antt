-- Index words: their pages are promised one after the other, and they are stored from the last one on.
use Rattle.std.proofs.Common.{◌≡◌, ℕ, ◌+◌, ◌-◌, ◌<◌, suc, List, map, ap, ◌∙◌, subst}
use Rattle.pair_model.specs.Addresses.{own_index_word}
use Rattle.pair_model.specs.Headers.{word_bytes}
use Rattle.host_memory.specs.Memory.{ArePromised, Touches, written}
use Rattle.lane_model.specs.Lane.{count_from}
use Rattle.pair_model.specs.FreshRings.{fresh_index_word}
use Rattle.pair_model.specs.Plans.{side_plan}
use Rattle.pair_model.specs.Sizes.{layout_of}
use Rattle.ring_geometry.specs.Geometry.{entries_of}
use Rattle.step_kinds.specs.declared.names.Side.{Side}
use Rattle.step_kinds.specs.declared.plan.PairPlan.{PairPlan}
use Rattle.bridge_pair.specs.Ends.{bytes_after}
use Rattle.bridge_pair.specs.Pages.{PagesGrow}
use Rattle.bridge_pair.specs.Words.{TouchesIndexWord}
use Rattle.bridge_pair.proofs.Promises.{grows_further, promised_still}
use borrow.Author.Count.{below_more}

-- an address by a plan that is the same
pub at_word : (plan same : PairPlan) (side : Side) (queue at : ℕ) → same ≡ plan → at ≡ own_index_word same side queue → at ≡ own_index_word plan side queue
at_word plan same side queue at plans is_at = is_at ∙ ap (λ (plan : PairPlan). own_index_word plan side queue) plans

-- Pages promised for a side's index words, and then for one queue's word, are all promised for index words.
pub word_grows : (plan : PairPlan) (side : Side) (queue at : ℕ) (old now new : List ℕ) → at ≡ own_index_word plan side queue → queue < (side_plan plan side).queues
    → PagesGrow (TouchesIndexWord plan side) old now → PagesGrow (Touches at 4) now new → PagesGrow (TouchesIndexWord plan side) old new
word_grows plan side queue at old now new is_at among so_far next =
    grows_further (TouchesIndexWord plan side) (Touches at 4) old now new so_far next (λ page touch. (queue, among, subst (λ at. Touches at 4 page) is_at touch))

-- If the index words of all queues before one are promised, and then its own too, those of all up to it are.
pub word_promised : (plan : PairPlan) (side : Side) (queue at : ℕ) (now new : List ℕ) → at ≡ own_index_word plan side queue
    → ((k : ℕ) → k < queue → ArePromised (own_index_word plan side k) 4 now) → PagesGrow (Touches at 4) now new → ArePromised at 4 new
    → (k : ℕ) → k < queue + 1 → ArePromised (own_index_word plan side k) 4 new
word_promised plan side queue at now new is_at so_far next promised =
    below_more (λ k. ArePromised (own_index_word plan side k) 4 new) queue
    (λ k below. promised_still (Touches at 4) now new (own_index_word plan side k) 4 next (so_far k below))
    (subst (λ at. ArePromised at 4 new) is_at promised)

-- the word of the queue before those that are stored
pub one_before : (plan : PairPlan) (side : Side) (queue later left more at value : ℕ) (bytes : List ℕ)
    → at ≡ own_index_word plan side queue → value ≡ entries_of (layout_of plan side queue) → later ≡ suc queue → more ≡ suc left
    → written at (word_bytes (value - 1)) (bytes_after (map (fresh_index_word plan side) (count_from later left)) bytes)
    ≡ bytes_after (map (fresh_index_word plan side) (count_from queue more)) bytes
one_before plan side queue later left more at value bytes is_at is_value next one_more = rw (is_at, is_value, next, one_more)
