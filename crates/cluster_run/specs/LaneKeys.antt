-- What a lane's work comes to, whatever its workers do: it is the same from the first round to the last.
use Rattle.std.specs.Prelude.{◌≡◌, ℕ, ◌+◌, Bool, true, List, [], ◌∷◌, ◌++◌, length, map}
use Rattle.std.specs.Fork.{AcceptsAt, ChangesAt}
use denote.Param.Members.{Shared}
use denote.Ref.{MutBor}
use Rattle.step_kinds.specs.declared.names.LaneName.{LaneName}
use Rattle.step_kinds.specs.declared.plan.Plan.{Plan}
use Rattle.step_kinds.specs.Runs.{SessionShown, LaneShown}
use Rattle.table_lane.specs.EndOfLane.{Shown}
use Rattle.traffic_plan.specs.Lanes.{frames_on}
use Rattle.cluster_run.specs.Lanes.{entries_on, losses_on}
use Rattle.cluster_run.specs.Runs.{accepted_over, left_at_last, session_proof, lane_proofs}

-- a lane, its number among those with traffic, the entries of its ring, the losses of its pair's link, and the frames
-- that it is to accept over its sessions
pub record LaneKey : Type 0 where
  pub name : LaneName
  pub number : ℕ
  pub entries : ℕ
  pub losses : ℕ
  pub traffic : List (List ℕ)

-- of a lane of a plan, by its number
abbrev pub key_of : Plan → ℕ → LaneName → LaneKey
key_of plan number lane = record { name = lane; number = number; entries = entries_on plan lane; losses = losses_on plan lane; traffic = frames_on lane plan.traffic }

-- of lanes of a plan that are numbered in a row, from a number on
abbrev pub keys_from : Plan → ℕ → List LaneName → List LaneKey
keys_from plan number [] = []
keys_from plan number (lane ∷ lanes) = key_of plan number lane ∷ keys_from plan (number + 1) lanes

-- A lane at work, or a stream of a lane: what it comes to, the numbers of its table lanes, and whether its last session
-- is whole. A stream has two table lanes.
pub record LaneState : Type 0 where
  pub key : LaneKey
  pub numbers : List ℕ
  pub over : Bool

-- the proofs of sessions that were all cut
abbrev pub cut_proofs : ℕ → List SessionShown → List Shown
cut_proofs entries sessions = map (session_proof entries true) sessions

-- the keys of lanes, or of streams, at work
abbrev pub keys_of : List LaneState → List LaneKey
keys_of lanes = map (λ (lane : LaneState). lane.key) lanes

-- passes may be made of any work's workers, whichever place it has among the works, and keep what it comes to
pub record KeepsKey {F W : Type 0} (key : W → LaneKey) (g : Shared F (ℕ × (MutBor W × Unit {0})) (Unit {0} × (MutBor W × Unit {0}))) (passes : F) : Type 0 where
  pub may : (i : ℕ) (work : W) → AcceptsAt g passes i work
  pub keeps : (i : ℕ) (before after : W) → ChangesAt g passes i before after → key after ≡ key before

-- the record of a lane comes to its key, and these are the proofs of its sessions
pub record ComesTo (key : LaneKey) (lane : LaneShown) (proofs : List Shown) : Type 0 where
  pub name : lane.name ≡ key.name
  pub sessions : length lane.sessions ≡ 1 + key.losses
  pub traffic : accepted_over lane.sessions ≡ key.traffic
  pub nothing_left : left_at_last lane.sessions ≡ []
  pub shown : proofs ≡ lane_proofs key.entries lane.sessions

-- Records of lanes, or of their streams, come to their keys, one by one, and these are the proofs of their sessions,
-- lane by lane. When one does, a relation says of its key, its record and its proofs.
abbrev pub ComeTo : {L : Type 0} → (LaneKey → L → List Shown → Type 0) → List LaneKey → List L → List Shown → Type 0
ComeTo Comes [] [] proofs = proofs ≡ []
ComeTo Comes (key ∷ keys) (lane ∷ lanes) proofs =
    (first : List Shown) × (rest : List Shown) × (proofs ≡ first ++ rest) × Comes key lane first × ComeTo Comes keys lanes rest
ComeTo Comes [] (lane ∷ lanes) proofs = ⊥
ComeTo Comes (key ∷ keys) [] proofs = ⊥
