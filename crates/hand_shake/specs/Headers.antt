-- The headers of the rings that a side receives in.
use Rattle.std.specs.Prelude.{◌≡◌, ℕ, ◌+◌, ◌<◌, ◌≤◌, ◌⊎◌, List, map, slice_index_or}
use Rattle.pair_model.specs.Stores.{Store}
use Rattle.lane_model.specs.Lane.{count_from}
use Rattle.pair_model.specs.FreshRings.{zeroed_header}
use Rattle.pair_model.specs.Addresses.{own_header}
use Rattle.host_memory.specs.Memory.{ArePromised, Touches}
use Rattle.pair_model.specs.Plans.{side_plan}
use Rattle.pair_model.specs.Sizes.{header_bytes, layout_to}
use Rattle.ring_geometry.specs.Geometry.{Layout, entries_of}
use Rattle.step_kinds.specs.declared.names.Side.{Side}
use Rattle.step_kinds.specs.declared.plan.PairPlan.{PairPlan}
use Rattle.bridge_pair.specs.Words.{AreIndexWordsPromised}

-- the ring is the one that the side receives in on one of its queues
abbrev pub IsReceivingRing : PairPlan → Side → Layout → Type 0
IsReceivingRing plan side ring = (ring ≡ layout_to plan side ring.queue) × (ring.queue < (side_plan plan side).queues)

-- each byte of a header is zero
abbrev pub IsZeroed : PairPlan → Side → ℕ → ℕ → List ℕ → Type 0
IsZeroed plan side queue n bytes = (i : ℕ) → i < header_bytes plan → slice_index_or bytes (own_header plan side queue n + i) 0 ≡ 0

-- the page has a byte of a header that isn't zero, of one queue's ring, and of one of all rings
abbrev pub TouchesHeaderOf : PairPlan → Side → ℕ → List ℕ → ℕ → Type 0
TouchesHeaderOf plan side queue bytes page =
    (n : ℕ) × (n < entries_of (layout_to plan side queue)) × (¬ IsZeroed plan side queue n bytes) × Touches (own_header plan side queue n) (header_bytes plan) page

abbrev pub TouchesHeader : PairPlan → Side → List ℕ → ℕ → Type 0
TouchesHeader plan side bytes page = (queue : ℕ) × (queue < (side_plan plan side).queues) × TouchesHeaderOf plan side queue bytes page

-- a header is zero, or its pages are promised: so it can be zeroed
abbrev pub IsHeaderReady : PairPlan → Side → ℕ → ℕ → List ℕ → List ℕ → Type 0
IsHeaderReady plan side queue n bytes pages = IsZeroed plan side queue n bytes ⊎ ArePromised (own_header plan side queue n) (header_bytes plan) pages

-- the headers from one on up to another are zero
abbrev pub AreSomeZeroed : PairPlan → Side → ℕ → ℕ → ℕ → List ℕ → Type 0
AreSomeZeroed plan side queue from to bytes = (n : ℕ) → from ≤ n → n < to → IsZeroed plan side queue n bytes

-- all headers of one queue's ring can be zeroed, and those of all rings
abbrev pub AreHeadersOfReady : PairPlan → Side → ℕ → List ℕ → List ℕ → Type 0
AreHeadersOfReady plan side queue bytes pages = (n : ℕ) → n < entries_of (layout_to plan side queue) → IsHeaderReady plan side queue n bytes pages

abbrev pub AreHeadersReady : PairPlan → Side → List ℕ → List ℕ → Type 0
AreHeadersReady plan side bytes pages = (queue : ℕ) → queue < (side_plan plan side).queues → AreHeadersOfReady plan side queue bytes pages

-- and the pages of the side's index words are promised
abbrev pub AreRingsReady : PairPlan → Side → List ℕ → List ℕ → Type 0
AreRingsReady plan side bytes pages = AreHeadersReady plan side bytes pages × AreIndexWordsPromised plan side pages

-- zeros for this many headers of one queue's ring from one on, and for all of them
abbrev pub some_stores : PairPlan → Side → ℕ → ℕ → ℕ → List Store
some_stores plan side queue from count = map (zeroed_header plan side queue) (count_from from count)

abbrev pub ring_stores : PairPlan → Side → ℕ → List Store
ring_stores plan side queue = some_stores plan side queue 0 (entries_of (layout_to plan side queue))
