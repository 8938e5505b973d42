-- What holds of the lines so far, and what a line gives beside them.
use Rattle.std.specs.Prelude.{◌≡◌, ℕ, ◌+◌, ◌*◌, ◌<◌, ◌≤◌, false, length, map, sum, count_by}
use Rattle.std.specs.List.{All}
use Rattle.step_kinds.specs.Limits.{most_hosts, most_pairs, most_devices, most_switches, most_steps, most_frame_bytes, most_traffic_frames, most_traffic_bytes, most_breaks, IsClass}
use Rattle.pair_model.specs.DeclaredPlans.{IsPair, IsDevice, IsQueueOf}
use Rattle.pair_model.specs.Switches.{IsSwitch}
use Rattle.pair_model.specs.TrafficPlans.{frames_in, traffic_bytes_in, is_break_of}
use Rattle.script_words.specs.Before.{Before, has_name, pair_names, dev_names, switch_names}
use Rattle.script_words.specs.declared.line_gives.Given.{Given}
use Rattle.script_words.specs.declared.line_gives.Given.TheVariants.{Nothing, Host, Pair, Device, Class, Switch, StepsBegin, TrafficBegins, Frame, Flood, Break}

-- the pairs, devices and switches are as a script can declare them, pairs and steps are few, and each pair has its
-- hosts
pub record IsSound (before : Before) : Type 0 where
  pub pairs : All IsPair before.plan.pairs
  pub few_pairs : length before.plan.pairs ≤ most_pairs
  pub devices : All (IsDevice before.plan) before.plan.devs
  pub switches : All (IsSwitch before.plan) before.plan.switches
  pub hosts : length before.pair_hosts ≡ length before.plan.pairs
  pub few_steps : length before.plan.steps ≤ most_steps

-- the lines so far are sound, and their steps are counted
pub record IsScriptKept (step_count : ℕ) (before : Before) : Type 0 where
  pub sound : IsSound before
  pub counted : step_count ≡ length before.plan.steps

-- what a line gives is new where it has a name, and passes no limit; a pair, device, class or switch is as a script can
-- declare it
abbrev pub Suits : Before → Given → Type 0
Suits before Nothing = Unit {0}
Suits before (Host name) = (has_name before.hosts name ≡ false) × (length before.hosts < most_hosts)
Suits before (Pair pair hosts) = (has_name (pair_names before) pair.value.name ≡ false) × (length before.plan.pairs < most_pairs) × IsPair pair.value
Suits before (Device dev) = (has_name (dev_names before) dev.name ≡ false) × (length before.plan.devs < most_devices) × IsDevice before.plan dev
Suits before (Class name class) = IsQueueOf before.plan name.pair name.side name.queue × IsClass class
Suits before (Switch switch) = (has_name (switch_names before) switch.name ≡ false) × (length before.plan.switches < most_switches) × IsSwitch before.plan switch
Suits before StepsBegin = Unit {0}
Suits before TrafficBegins = Unit {0}
Suits before (Frame lane frame) =
    (sum (map frames_in before.plan.traffic) + 1 ≤ most_traffic_frames) × (sum (map traffic_bytes_in before.plan.traffic) + length frame ≤ most_traffic_bytes)
Suits before (Flood lane count len) =
    (0 < count → len ≤ most_frame_bytes)
    × (sum (map frames_in before.plan.traffic) + count ≤ most_traffic_frames)
    × (sum (map traffic_bytes_in before.plan.traffic) + count * len ≤ most_traffic_bytes)
Suits before (Break pair) = (pair < 16) × (count_by (is_break_of pair) before.plan.traffic < most_breaks)
