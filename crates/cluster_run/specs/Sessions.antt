-- A session of a lane, as it begins and as it ends.
use Rattle.std.specs.Prelude.{◌≡◌, ℕ, false, List, [], ◌++◌}
use Rattle.step_kinds.specs.Runs.{session_shown, accepted_in}
use Rattle.step_kinds.specs.declared.runs.SessionRun.{SessionRun}
use Rattle.step_kinds.specs.FrameLists.{Frames}
use Rattle.lane_workers.specs.Passes.{HaveBytes}
use Rattle.table_lane.specs.EndOfLane.{Shown}
use Rattle.cluster_run.specs.Runs.{session_proof}
use Rattle.cluster_run.specs.Workers.{SessionState}

-- a session that begins, by the number of its first worker: nothing was received, and the link isn't cut
abbrev pub new_session : ℕ → ℕ → List (List ℕ) → SessionState
new_session worker entries frames = record { worker = worker; entries = entries; frames = frames; got = []; cut = false }

-- A session ends with this record and this proof, and these frames weren't accepted.
pub record EndsWith (session : SessionState) (run : SessionRun) (proof : Shown) (rest : Frames) : Type 0 where
  pub frames : session.frames ≡ accepted_in (session_shown run) ++ rest.frames
  pub delivered : run.delivered.frames ≡ session.got
  pub shown : proof ≡ session_proof session.entries session.cut (session_shown run)
  pub bytes : HaveBytes rest.frames
