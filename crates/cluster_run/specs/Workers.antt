-- What contracts see of a lane's workers and of a session of a lane.
use Rattle.std.specs.Prelude.{ℕ, ◌-◌, ◌^◌, min, Bool, List}
use Rattle.atomic_table.specs.Seated.{TableId}
use Rattle.lane_workers.specs.Passes.{LetsTurns}

-- The number of a pass's first turn, by the number of the worker's next turn and by how many turns the pass may make.
-- It is the next turn's number. If turns from it on would pass 2^64 - 2, it is the largest number from which none does.
abbrev pub first_turn : ℕ → ℕ → ℕ
first_turn turn turns = min turn (2 ^ 64 - 1 - turns)

-- the gate that lets these pass lets this worker pass before each turn of such a pass
abbrev pub LetsPass : (ℕ → ℕ → Type 0) → ℕ → ℕ → ℕ → Type 0
LetsPass lets worker turn turns = LetsTurns lets worker (first_turn turn turns) turns

-- what no pass of a worker changes: its number, by which it passes the gate, and the table of its lane
pub record WorkerKey : Type 0 where
  pub worker : ℕ
  pub lane : TableId

-- of the sending worker also the entries of the ring, and the frames of the session, those that were sent before those
-- that are to be sent
pub record SendingKey : Type 0 where
  pub worker : ℕ
  pub lane : TableId
  pub entries : ℕ
  pub frames : List (List ℕ)

-- the sending worker, the number of its next turn, that of the frames that are left to send, and its loads of the link
-- word
pub record SendingShown : Type 0 where
  pub key : SendingKey
  pub turn : ℕ
  pub left : ℕ
  pub loads : ℕ

-- the moving worker, the number of its next turn, its tries to move, and the loads of index out on the way back
pub record MovingShown : Type 0 where
  pub key : WorkerKey
  pub turn : ℕ
  pub tries : ℕ
  pub loads : ℕ

-- the receiving worker, the number of its next turn, the frames that were received, for how many more there is room,
-- and its loads of flags
pub record ReceivingShown : Type 0 where
  pub key : WorkerKey
  pub turn : ℕ
  pub got : List (List ℕ)
  pub spare : ℕ
  pub loads : ℕ

-- the cutting worker, the number of its next turn, and whether the link was cut
pub record CuttingShown : Type 0 where
  pub key : WorkerKey
  pub turn : ℕ
  pub cut : Bool

-- a session of a lane: its first worker's number, its ring's entries, the frames that it may accept, those that were
-- received, and whether its link was cut
pub record SessionState : Type 0 where
  pub worker : ℕ
  pub entries : ℕ
  pub frames : List (List ℕ)
  pub got : List (List ℕ)
  pub cut : Bool
