-- The counters that the code keeps of the traffic so far.
use Rattle.std.specs.Prelude.{◌≡◌, ℕ, ◌<◌, ◌≤◌, List, map, sum, count_by, slice_index}
use Rattle.step_kinds.specs.Limits.{most_traffic_frames, most_traffic_bytes, most_breaks}
use Rattle.step_kinds.specs.declared.plan.Traffic.{Traffic}
use Rattle.pair_model.specs.TrafficPlans.{frames_in, traffic_bytes_in, is_break_of}

-- how many frames, how many bytes of them, and how many link losses of each pair
pub record TrafficCounted (traffic : List Traffic) (frames bytes : ℕ) (breaks : List ℕ) : Type 0 where
  pub frames_so_far : frames ≡ sum (map frames_in traffic)
  pub bytes_so_far : bytes ≡ sum (map traffic_bytes_in traffic)
  pub breaks_so_far : (pair : ℕ) → pair < 16 → slice_index breaks pair ≡ count_by (is_break_of pair) traffic
  pub few_frames : frames ≤ most_traffic_frames
  pub few_bytes : bytes ≤ most_traffic_bytes
  pub few_breaks : (pair : ℕ) → slice_index breaks pair ≤ most_breaks
