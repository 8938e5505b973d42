-- What a side stores in its own memory by itself: index words and headers of a ring in which nothing stands, and flags
-- that are cleared.
use Rattle.std.specs.Prelude.{ℕ, ◌+◌, ◌-◌, List, map, replicate}
use Rattle.std.specs.List.{flat_map}
use Rattle.step_kinds.specs.declared.names.Side.{Side}
use Rattle.step_kinds.specs.declared.plan.PairPlan.{PairPlan}
use Rattle.lane_model.specs.Lane.{count_from}
use Rattle.ring_geometry.specs.Geometry.{entries_of}
use Rattle.pair_model.specs.Plans.{side_plan}
use Rattle.pair_model.specs.Sizes.{header_bytes, layout_of, layout_to}
use Rattle.pair_model.specs.Addresses.{own_header, own_index_word}
use Rattle.pair_model.specs.Headers.{word_bytes, flags_offset}
use Rattle.pair_model.specs.Stores.{Store, store_at}

-- the index word of the lane that a side sends on a queue says that no entry is taken
abbrev pub fresh_index_word : PairPlan → Side → ℕ → Store
fresh_index_word plan side queue = store_at (own_index_word plan side queue) (word_bytes (entries_of (layout_of plan side queue) - 1))

abbrev pub fresh_index_words : PairPlan → Side → List Store
fresh_index_words plan side = map (fresh_index_word plan side) (count_from 0 (side_plan plan side).queues)

-- the headers of the rings that a side receives in are zero
abbrev pub zeroed_header : PairPlan → Side → ℕ → ℕ → Store
zeroed_header plan side queue n = store_at (own_header plan side queue n) (replicate (header_bytes plan) 0)

abbrev pub zeroed_headers : PairPlan → Side → List Store
zeroed_headers plan side =
    flat_map (λ queue. map (zeroed_header plan side queue) (count_from 0 (entries_of (layout_to plan side queue)))) (count_from 0 (side_plan plan side).queues)

-- the flags of the slot in which a side received entry n are zero
abbrev pub zeroed_flags : PairPlan → Side → ℕ → ℕ → Store
zeroed_flags plan side queue n = store_at (own_header plan side queue n + flags_offset plan) (replicate 4 0)
