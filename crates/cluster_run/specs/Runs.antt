-- The record of a run: that it fits the plan, and that proofs of lanes show it.
use Rattle.std.specs.Prelude.{◌≡◌, ℕ, ◌+◌, Bool, true, false, List, [], ◌∷◌, length, map}
use Rattle.std.specs.List.{All, flat_map}
use Rattle.step_kinds.specs.declared.plan.Plan.{Plan}
use Rattle.step_kinds.specs.Runs.{SessionShown, LaneShown, accepted_in}
use Rattle.table_lane.specs.EndOfLane.{Shown}
use Rattle.traffic_plan.specs.Lanes.{frames_on}
use Rattle.cluster_run.specs.Lanes.{traffic_lanes, entries_on, losses_on}

-- the frames that all sessions accepted, in order
abbrev pub accepted_over : List SessionShown → List (List ℕ)
accepted_over sessions = flat_map accepted_in sessions

-- the frames that were accepted and not delivered in the last session
abbrev pub left_at_last : List SessionShown → List (List ℕ)
left_at_last [] = []
left_at_last (session ∷ []) = session.left
left_at_last (session ∷ sessions) = left_at_last sessions

-- a lane's sessions, one more than the losses of its pair's link: they accepted its traffic, and the last one delivered
-- all that it accepted
pub record FitsLane (plan : Plan) (lane : LaneShown) : Type 0 where
  pub sessions : length lane.sessions ≡ 1 + losses_on plan lane.name
  pub traffic : accepted_over lane.sessions ≡ frames_on lane.name plan.traffic
  pub nothing_left : left_at_last lane.sessions ≡ []

-- the record fits the plan: its lanes are those with traffic, in order, and the sessions of each fit
pub record IsFit (plan : Plan) (run : List LaneShown) : Type 0 where
  pub lanes : map (λ (lane : LaneShown). lane.name) run ≡ traffic_lanes plan
  pub each : All (FitsLane plan) run

-- what the proof of a session's lane shows: the frames that were sent and received, the entries of the ring, and
-- whether the link was cut
abbrev pub session_proof : ℕ → Bool → SessionShown → Shown
session_proof entries cut session = record { sent = accepted_in session; got = session.delivered; entries = entries; cut = cut }

-- the proofs of a lane's sessions in order: all but the last were cut
abbrev pub lane_proofs : ℕ → List SessionShown → List Shown
lane_proofs entries [] = []
lane_proofs entries (session ∷ []) = session_proof entries false session ∷ []
lane_proofs entries (session ∷ sessions) = session_proof entries true session ∷ lane_proofs entries sessions

-- these proofs show the record: there is one for each session of each lane, in order
abbrev pub IsRunShown : Plan → List LaneShown → List Shown → Type 0
IsRunShown plan run proofs = proofs ≡ flat_map (λ (lane : LaneShown). lane_proofs (entries_on plan lane.name) lane.sessions) run
