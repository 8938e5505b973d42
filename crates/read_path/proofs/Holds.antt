-- What holds between a log, what it tells, and the path after it.
use Rattle.std.proofs.Common.{◌≡◌, ℕ, List, [], ◌∷◌, ◌++◌, map, Contains}
use Rattle.host_memory.specs.Memory.{bytes_at}
use Rattle.step_kinds.specs.Sides.{other_side}
use Rattle.step_kinds.specs.declared.names.Side.{Side}
use Rattle.pair_model.specs.Both.{at_side}
use Rattle.pair_model.specs.Link.{is_up}
use Rattle.read_path.specs.InFlight.{PathFlying, Write, Request, Part, Last}
use Rattle.read_path.specs.Path.{PathState, SideState}
use Rattle.read_path.specs.PathLog.{PathEntry}
use Rattle.read_path.specs.Pushed.{Sent, SideTold, Told, told_of, path_posted_in, landed_in, memory_in, read_entry, request_entry}
use Rattle.read_path.proofs.Ahead.{AllAhead, Waits}

-- A request in flight from a side. Its read is in the log, in this session. Each write that the side posted before the
-- read in the session has landed or is in flight ahead of the request.
pub record RequestFact (log : List PathEntry) (dropped : ℕ) (landed : List ℕ) (side : Side) (ahead : List Sent) (number at len : ℕ) : Type 0 where
  pub asking : List PathEntry
  pub between : List PathEntry
  pub log_is : log ≡ asking ++ read_entry side at len number ∷ between
  pub session : (told_of asking).dropped ≡ dropped
  pub pushes : (w : ℕ) → Contains (path_posted_in asking side) w → Waits landed ahead w

-- The last completion of a read, in flight from the peer of the read's side. The request has landed after each write
-- that this side posted before the read in the session, and the bytes are what stood in the peer's memory then. Each
-- write that the peer had posted then in the session has landed or is in flight ahead.
pub record LastFact (log : List PathEntry) (dropped : ℕ) (landed : List ℕ) (reader peer : Side) (ahead : List Sent) (number : ℕ) (bytes : List ℕ) : Type 0 where
  pub asking : List PathEntry
  pub at : ℕ
  pub len : ℕ
  pub landing : List PathEntry
  pub place : ℕ
  pub between : List PathEntry
  pub since : List PathEntry
  pub landing_is : landing ≡ asking ++ read_entry reader at len number ∷ between
  pub log_is : log ≡ landing ++ request_entry reader place number ∷ since
  pub session : (told_of asking).dropped ≡ dropped
  pub own_writes : (w : ℕ) → Contains (path_posted_in asking reader) w → Contains (landed_in landing) w
  pub held : bytes ≡ bytes_at at len (memory_in landing peer)
  pub pushes : (w : ℕ) → Contains (path_posted_in landing peer) w → Waits landed ahead w

-- what holds of something in flight from a side
abbrev pub Fact : List PathEntry → ℕ → List ℕ → Side → List Sent → PathFlying → Type 0
Fact log dropped landed side ahead (Write at bytes relaxed) = Unit {0}
Fact log dropped landed side ahead (Request number at len) = RequestFact log dropped landed side ahead number at len
Fact log dropped landed side ahead (Part number part) = Unit {0}
Fact log dropped landed side ahead (Last number bytes) = LastFact log dropped landed (other_side side) side ahead number bytes

abbrev pub SentFact : List PathEntry → ℕ → List ℕ → Side → List Sent → Sent → Type 0
SentFact log dropped landed side ahead sent = Fact log dropped landed side ahead sent.what

abbrev pub whats : List Sent → List PathFlying
whats flight = map (λ sent. sent.what) flight

-- one side, as the log tells of it and as the path has it
pub record SideHolds (log : List PathEntry) (dropped : ℕ) (landed : List ℕ) (side : Side) (told : SideTold) (state : SideState) : Type 0 where
  pub memory : told.memory ≡ state.memory
  pub flight : whats told.flight ≡ state.flight
  pub facts : AllAhead (SentFact log dropped landed side) [] told.flight
  -- each write of the session has landed or is in flight
  pub writes : (w : ℕ) → Contains told.posted w → Waits landed told.flight w

pub record Holds (log : List PathEntry) (told : Told) (path : PathState) : Type 0 where
  pub up : told.up ≡ is_up path.link
  pub sides : (side : Side) → SideHolds log told.dropped told.landed side (at_side told.sides side) (at_side path.sides side)
