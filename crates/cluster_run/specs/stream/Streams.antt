-- The record of a run of streams: that each lane's stream brought its traffic, and that proofs of lanes show it.
use Rattle.std.specs.Prelude.{◌≡◌, ℕ, ◌+◌, Bool, true, false, List, [], ◌∷◌, ◌++◌, length, map}
use Rattle.std.specs.List.{All}
use Rattle.step_kinds.specs.declared.names.LaneName.{LaneName}
use Rattle.step_kinds.specs.declared.plan.Plan.{Plan}
use Rattle.stream_model.specs.Resumed.{Exchange, IsStreamInOrder, IsResumed}
use Rattle.table_lane.specs.EndOfLane.{Shown}
use Rattle.traffic_plan.specs.Lanes.{frames_on}
use Rattle.cluster_run.specs.Lanes.{traffic_lanes, entries_on, losses_on}
use Rattle.cluster_run.specs.declared.stream.record.StreamRun.{StreamRun}
use Rattle.cluster_run.specs.declared.stream.record.StreamRecord.{StreamRecord}

-- a lane, the items that its stream brought, and how many sessions that took
pub record StreamShown : Type 0 where
  pub name : LaneName
  pub items : List (List ℕ)
  pub sessions : ℕ

-- what a lane's record says, promised room left out
abbrev pub stream_shown : StreamRun → StreamShown
stream_shown lane = record { name = lane.name; items = lane.items.frames; sessions = lane.sessions }

-- what a record says: two records are the same where this is the same
abbrev pub streams_shown : StreamRecord → List StreamShown
streams_shown streams = map stream_shown streams.lanes

-- What the two proofs of a session show, of the lane of items and of the lane of acknowledgements. Each shows the
-- frames that were sent and received, the entries of the ring, and whether the link was cut.
abbrev pub exchange_proofs : ℕ → Bool → Exchange → List Shown
exchange_proofs entries cut session =
    record { sent = session.sent; got = session.got; entries = entries; cut = cut }
    ∷ record { sent = session.acks_sent; got = session.acks_got; entries = entries; cut = cut } ∷ []

-- the proofs of a stream's sessions in order: all but the last were cut
abbrev pub stream_proofs : ℕ → List Exchange → List Shown
stream_proofs entries [] = []
stream_proofs entries (session ∷ []) = exchange_proofs entries false session
stream_proofs entries (session ∷ sessions) = exchange_proofs entries true session ++ stream_proofs entries sessions

-- A lane's stream took one session more than its pair's link has losses. Its proofs show these sessions, two for each.
-- The sessions are those of a stream of the lane's traffic, which brought all of it. What came out of each of a
-- session's two lanes is a front of what that lane was given.
pub record IsStream (plan : Plan) (lane : StreamShown) (proofs : List Shown) : Type 0 where
  pub sessions : List Exchange
  pub counted : length sessions ≡ lane.sessions
  pub losses : lane.sessions ≡ 1 + losses_on plan lane.name
  pub shown : proofs ≡ stream_proofs (entries_on plan lane.name) sessions
  pub in_order : All IsStreamInOrder sessions
  pub resumed : IsResumed (frames_on lane.name plan.traffic) sessions lane.items

-- the proofs are those of the lanes' streams, lane by lane
abbrev pub AreStreams : Plan → List StreamShown → List Shown → Type 0
AreStreams plan [] proofs = proofs ≡ []
AreStreams plan (lane ∷ lanes) proofs =
    (first : List Shown) × (rest : List Shown) × (proofs ≡ first ++ rest) × IsStream plan lane first × AreStreams plan lanes rest

-- These proofs make the record resumed: its lanes are those with traffic, in order, and each lane's stream brought its
-- traffic.
pub record AreResumed (plan : Plan) (streams : List StreamShown) (proofs : List Shown) : Type 0 where
  pub lanes : map (λ (lane : StreamShown). lane.name) streams ≡ traffic_lanes plan
  pub each : AreStreams plan streams proofs
