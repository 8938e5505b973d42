-- Laws of generated loads.
use Rattle.std.specs.Prelude.{ℕ, ◌≤◌, length}
use Rattle.pair_model.specs.TrafficPlans.{IsWhole}
use Rattle.traffic_plan.specs.Load.{load_frame_steps, load_of, most_load_frames}

-- a frame has 30 steps at most
abbrev pub FrameHasFewSteps : Type 0
FrameHasFewSteps = (word landings : ℕ) → length (load_frame_steps word landings) ≤ 30

-- a load's plan is one that a script can declare, each step permitted, with no more steps than a script may have
abbrev pub LoadIsWhole : Type 0
LoadIsWhole = (seed frames : ℕ) → frames ≤ most_load_frames → IsWhole (load_of seed frames)
