-- What a stream's work comes to: the key of its lane (LaneKeys of cluster_run), which no round changes.
use Rattle.std.specs.Prelude.{◌≡◌, ℕ, ◌+◌, List, [], ◌∷◌, length, map}
use Rattle.std.specs.List.{All}
use Rattle.stream_model.specs.Resumed.{Exchange, IsStreamInOrder, IsResumed}
use Rattle.table_lane.specs.EndOfLane.{Shown}
use Rattle.cluster_run.specs.LaneKeys.{LaneKey, LaneState}
use Rattle.cluster_run.specs.stream.Streams.{StreamShown, stream_proofs}

-- The numbers of a stream's table lanes, by how many lanes have traffic and by the stream's place among these. They are
-- that of its items, and that of its acknowledgements, after all lanes of items.
abbrev pub stream_numbers : ℕ → ℕ → List ℕ
stream_numbers lanes number = number ∷ (lanes + number) ∷ []

-- each of these streams at work has the numbers of its place, if this many lanes have traffic
abbrev pub AreNumbered : ℕ → List LaneState → Type 0
AreNumbered lanes works = map (λ (work : LaneState). work.numbers) works ≡ map (λ (work : LaneState). stream_numbers lanes work.key.number) works

-- the record of a stream comes to its key, and these are the proofs of its sessions
pub record StreamComesTo (key : LaneKey) (lane : StreamShown) (proofs : List Shown) : Type 0 where
  pub name : lane.name ≡ key.name
  pub sessions : List Exchange
  pub counted : length sessions ≡ lane.sessions
  pub losses : lane.sessions ≡ 1 + key.losses
  pub shown : proofs ≡ stream_proofs key.entries sessions
  pub in_order : All IsStreamInOrder sessions
  pub resumed : IsResumed key.traffic sessions lane.items
