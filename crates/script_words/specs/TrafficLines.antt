-- Lines of traffic: frames that a threaded run sends, and losses of a link beside them.
use Rattle.std.specs.Prelude.{ℕ, ◌+◌, ◌%◌, Bool, not, ◌&&◌, ◌||◌, Result, Ok, Err, List, [], ◌∷◌, length, codes, count_by, map, sum, nat_le, nat_lt, if◌then◌else◌}
use Rattle.std.specs.Str.{bytes_eq}
use Rattle.step_kinds.specs.Limits.{most_frame_bytes, most_traffic_frames, most_traffic_bytes, most_breaks, most_traffic_entries}
use Rattle.step_kinds.specs.declared.names.LaneName.{LaneName}
use Rattle.step_kinds.specs.declared.plan.PairPlan.{PairPlan}
use Rattle.step_kinds.specs.declared.plan.Traffic.{Traffic}
use Rattle.step_kinds.specs.declared.plan.Traffic.TheVariants.{Send, Break}
use Rattle.lane_model.specs.Lane.{count_from}
use Rattle.pair_model.specs.Plans.{pair_plan}
use Rattle.pair_model.specs.Sizes.{sizes_of}
use Rattle.pair_model.specs.TrafficPlans.{frames_in, traffic_bytes_in, is_break_of}
use Rattle.script_words.specs.Before.{Before, Given, MoreTraffic, pair_word, named_queue}
use Rattle.pair_settings.specs.Settings.{agrees}
use Rattle.script_words.specs.Tests.{◌>>=◌, fault_if, unknown_line, whole, at}
use Rattle.script_words.specs.Words.{word_number_in, hex_word}
use Rattle.script_words.specs.declared.parts.QueueName.{QueueName}
use Rattle.script_words.specs.declared.fault.Cause.TheVariants.{BadGeometry, BadPair, TooMany}
use Rattle.script_words.specs.declared.fault.LineFault.{LineFault}

-- whether a pair may have traffic: its sides can be brought up and nothing is written past the transport
abbrev pub may_have_traffic : PairPlan → Bool
may_have_traffic pair = not pair.raw && agrees pair

-- whether the traffic with some more stays within the limits of frames and bytes
abbrev pub is_little : List Traffic → List Traffic → Bool
is_little before more =
    nat_le (sum (map frames_in before) + sum (map frames_in more)) most_traffic_frames
    && nat_le (sum (map traffic_bytes_in before) + sum (map traffic_bytes_in more)) most_traffic_bytes

-- frames of this many bytes each on a lane: they have to fit an entry of its ring, and the ring must not be too long.
-- Then the pair has to be one that may have traffic, and no limit may be passed.
abbrev pub traffic_within : Before → LaneName → ℕ → List Traffic → Result Given LineFault
traffic_within before lane len more = do
  _ ← fault_if (nat_lt (sizes_of (pair_plan before.plan lane.pair) lane.from lane.queue).largest len
      || nat_lt most_traffic_entries (sizes_of (pair_plan before.plan lane.pair) lane.from lane.queue).entries) (whole BadGeometry)
  _ ← fault_if (not (may_have_traffic (pair_plan before.plan lane.pair))) (whole BadPair)
  _ ← fault_if (not (is_little before.plan.traffic more)) (whole TooMany)
  Ok (MoreTraffic more)

-- the lane that begins at a queue of a side
abbrev pub script_lane_of : QueueName → LaneName
script_lane_of name = record { pair = name.pair; from = name.side; queue = name.queue }

-- `frame PAIR SIDE QUEUE HEX`
abbrev pub traffic_frame_line : Before → List ℕ → List ℕ → List ℕ → List ℕ → Result Given LineFault
traffic_frame_line before pair_text side_text queue_text frame_text = do
  name ← named_queue before 2 pair_text side_text queue_text
  frame ← at 5 (hex_word frame_text)
  traffic_within before (script_lane_of name) (length frame) (Send (script_lane_of name) frame ∷ [])

-- frame i of a flood: byte j is the sum of both, in a byte
abbrev pub flood_frame : ℕ → ℕ → List ℕ
flood_frame len i = map (λ j. (i + j) % 256) (count_from 0 len)

-- `flood PAIR SIDE QUEUE COUNT LEN`
abbrev pub flood_line : Before → List ℕ → List ℕ → List ℕ → List ℕ → List ℕ → Result Given LineFault
flood_line before pair_text side_text queue_text count_text len_text = do
  name ← named_queue before 2 pair_text side_text queue_text
  count ← word_number_in 5 1 most_traffic_frames count_text
  len ← word_number_in 6 1 most_frame_bytes len_text
  traffic_within before (script_lane_of name) len
      (map (λ i. Send (script_lane_of name) (flood_frame len i)) (count_from 0 count))

-- `break PAIR`
abbrev pub break_line : Before → List ℕ → Result Given LineFault
break_line before pair_text = do
  pair ← at 2 (pair_word before pair_text)
  _ ← fault_if (not (may_have_traffic (pair_plan before.plan pair))) (whole BadPair)
  _ ← fault_if (not (nat_lt (count_by (is_break_of pair) before.plan.traffic) most_breaks)) (whole TooMany)
  Ok (MoreTraffic (Break pair ∷ []))

abbrev pub traffic_line : Before → List ℕ → List (List ℕ) → Result Given LineFault
traffic_line before word (a ∷ []) = if bytes_eq word (codes "break") then break_line before a else Err unknown_line
traffic_line before word (a ∷ b ∷ c ∷ d ∷ []) = if bytes_eq word (codes "frame") then traffic_frame_line before a b c d else Err unknown_line
traffic_line before word (a ∷ b ∷ c ∷ d ∷ e ∷ []) = if bytes_eq word (codes "flood") then flood_line before a b c d e else Err unknown_line
traffic_line before word words = Err unknown_line
