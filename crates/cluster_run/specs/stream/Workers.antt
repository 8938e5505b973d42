-- What contracts see of a stream's workers and of a session of a stream.
use Rattle.std.specs.Prelude.{ℕ, ◌+◌, ◌*◌, Bool, List}
use Rattle.atomic_table.specs.Seated.{TableId}
use Rattle.io_edges.specs.Gates.{LetsWorker, LetsWorkers}
use Rattle.cluster_run.specs.Lanes.{most_lanes}
use Rattle.cluster_run.specs.declared.stream.numbers.LaneNumbers.{LaneNumbers}

-- the numbers of a worker: on the lane of items, and on that of acknowledgements
pub record PairWorkers : Type 0 where
  pub items : ℕ
  pub acks : ℕ

-- of a worker that stands at these places after the first workers of both lanes
abbrev pub after_first : PairWorkers → ℕ → ℕ → PairWorkers
after_first first i j = record { items = first.items + i; acks = first.acks + j }

-- four workers for each lane
abbrev pub first_workers : LaneNumbers → PairWorkers
first_workers numbers = record { items = 4 * numbers.items; acks = 4 * numbers.acks }

-- the workers of a run of streams, which are numbered from 0, four for each of both lanes of a stream: it has fewer
abbrev pub most_stream_workers : ℕ
most_stream_workers = 8 * most_lanes

-- the gate that lets these pass lets both workers pass before each of their turns
abbrev pub LetsBoth : (ℕ → ℕ → Type 0) → PairWorkers → Type 0
LetsBoth lets workers = LetsWorker lets workers.items × LetsWorker lets workers.acks

-- the gate that lets these pass lets all workers pass up to the four of each lane, which begin with these
abbrev pub LetsSession : (ℕ → ℕ → Type 0) → PairWorkers → Type 0
LetsSession lets first = LetsWorkers lets (first.items + 4) × LetsWorkers lets (first.acks + 4)

-- what no pass of the giving worker changes: its numbers, the tables of both lanes, the entries of the ring, all items,
-- and the number at which the session starts
pub record SourceKey : Type 0 where
  pub workers : PairWorkers
  pub lane : TableId
  pub ack_lane : TableId
  pub entries : ℕ
  pub items : List (List ℕ)
  pub start : ℕ

-- the giving worker, and how many items it ever gave
pub record SourceShown : Type 0 where
  pub key : SourceKey
  pub ever : ℕ

-- what no pass of the keeping worker changes: its numbers, the tables of both lanes, the entries of the ring, and the
-- items that were kept as the session began
pub record SinkKey : Type 0 where
  pub workers : PairWorkers
  pub lane : TableId
  pub ack_lane : TableId
  pub entries : ℕ
  pub before : List (List ℕ)

-- the keeping worker, and how many items it keeps
pub record SinkShown : Type 0 where
  pub key : SinkKey
  pub kept : ℕ

-- what no pass of two workers changes that do the same on both lanes: their numbers and their tables
pub record PairKey : Type 0 where
  pub workers : PairWorkers
  pub lane : TableId
  pub ack_lane : TableId

-- the moving workers of both lanes, and on the lane of items the tries to move and the loads of index out on the way
-- back
pub record StreamMovingShown : Type 0 where
  pub key : PairKey
  pub tries : ℕ
  pub loads : ℕ

-- the cutting workers of both lanes, and whether the link was cut
pub record StreamCuttingShown : Type 0 where
  pub key : PairKey
  pub cut : Bool

-- what no pass of a session changes: the entries of its rings, all items, the number at which it starts, and the items
-- that were kept as it began
pub record SessionKey : Type 0 where
  pub entries : ℕ
  pub items : List (List ℕ)
  pub start : ℕ
  pub before : List (List ℕ)

-- a session of a stream, the first workers of its lanes, how many items were ever given, how many are kept, and whether
-- its link was cut
pub record StreamSessionState : Type 0 where
  pub first : PairWorkers
  pub key : SessionKey
  pub ever : ℕ
  pub kept : ℕ
  pub cut : Bool
