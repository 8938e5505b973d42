-- What the writes of a pair store at the peer as they land.
use Rattle.std.specs.Prelude.{ℕ, Option, Some, List, option_map}
use Rattle.step_kinds.specs.declared.names.Side.{Side}
use Rattle.step_kinds.specs.declared.plan.PairPlan.{PairPlan}
use Rattle.step_kinds.specs.declared.steps.Label.{Label}
use Rattle.step_kinds.specs.declared.steps.Label.TheVariants.{Chunk, Len, Ver, Flag, Down, Index, Raw}
use Rattle.lane_model.specs.Lane.{Entry, GoesDown}
use Rattle.pair_model.specs.Addresses.{peer_address}
use Rattle.pair_model.specs.RingWrites.{entry_write, index_write, store_of_write}
use Rattle.pair_model.specs.Stores.{Store, store_at}
use Rattle.ledger_model.specs.Ledger.{PairPart, lane_of, entry_in}

-- the sent entry that a labelled write belongs to
abbrev pub entry_labelled : PairPart → Side → Label → Entry
entry_labelled pair side (Chunk queue n part) = entry_in (lane_of pair side queue) n
entry_labelled pair side (Len queue n) = entry_in (lane_of pair side queue) n
entry_labelled pair side (Ver queue n) = entry_in (lane_of pair side queue) n
entry_labelled pair side (Flag queue n) = entry_in (lane_of pair side queue) n
entry_labelled pair side (Down queue n) = entry_in (lane_of pair side queue) n
entry_labelled pair side label = GoesDown

-- What a side's write stores at its peer as it lands, `raw` being the bytes of a raw write. A doorbell and a scratchpad
-- store nothing. An index write goes where the writer's own windows put the index word.
abbrev pub store_of : PairPlan → PairPart → Side → List ℕ → Label → Option Store
store_of plan pair side raw (Index queue n) = Some (store_of_write plan side (index_write plan side queue n))
store_of plan pair side raw (Raw window offset len) = Some (store_at (peer_address plan side window offset) raw)
store_of plan pair side raw label = option_map (store_of_write plan side) (entry_write plan side (entry_labelled pair side label) label)
