-- The pages of a side's index words.
use Rattle.std.specs.Prelude.{◌≡◌, ℕ, ◌<◌, true, List, Contains}
use Rattle.pair_model.specs.Addresses.{own_index_word}
use Rattle.host_memory.specs.Memory.{ArePromised, Touches}
use Rattle.pair_model.specs.Plans.{side_plan}
use Rattle.step_kinds.specs.declared.names.Side.{Side}
use Rattle.step_kinds.specs.declared.plan.PairPlan.{PairPlan}

-- the page has a byte of one of the side's index words
abbrev pub TouchesIndexWord : PairPlan → Side → ℕ → Type 0
TouchesIndexWord plan side page = (queue : ℕ) × (queue < (side_plan plan side).queues) × Touches (own_index_word plan side queue) 4 page

-- the pages of all of them are promised
abbrev pub AreIndexWordsPromised : PairPlan → Side → List ℕ → Type 0
AreIndexWordsPromised plan side pages = (queue : ℕ) → queue < (side_plan plan side).queues → ArePromised (own_index_word plan side queue) 4 pages

-- the pages that a fresh pair has promised: where it starts up, those of its index words
pub record AreFreshPages (plan : PairPlan) (side : Side) (pages : List ℕ) : Type 0 where
  pub promised : plan.up ≡ true → AreIndexWordsPromised plan side pages
  pub only : (page : ℕ) → Contains pages page → (plan.up ≡ true) × TouchesIndexWord plan side page
