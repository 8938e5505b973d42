-- The text of a report and of a threaded run, from their data. Each line ends with a line feed.
use Rattle.std.specs.Prelude.{ℕ, ◌+◌, ◌==◌, ◌&&◌, List, [], ◌∷◌, ◌++◌, codes, length, slice_index_or, if◌then◌else◌}
use Rattle.std.specs.List.{flat_map, zip}
use Rattle.std.specs.Fmt.{decimal}
use Rattle.step_kinds.specs.Runs.{SessionShown, LaneShown}
use Rattle.step_kinds.specs.declared.names.LaneName.{LaneName}
use Rattle.step_kinds.specs.declared.names.Side.{Side}
use Rattle.step_kinds.specs.declared.names.Side.TheVariants.{A, B}
use Rattle.step_kinds.specs.declared.plan.Counters.{Counters}
use Rattle.step_kinds.specs.declared.plan.DevPlan.{DevPlan}
use Rattle.step_kinds.specs.declared.plan.LineAnswer.{LineAnswer}
use Rattle.step_kinds.specs.declared.plan.PairPlan.{PairPlan}
use Rattle.step_kinds.specs.declared.plan.Plan.{Plan}
use Rattle.pair_model.specs.Plans.{no_pair}
use Rattle.report_text.specs.Texts.{answer_text, frame_text, numbers_text}
use Rattle.step_kinds.specs.declared.plan.LaneCount.{LaneCount}

-- a line of text
abbrev pub line_of : List ℕ → List ℕ
line_of text = text ++ 10 ∷ []

-- the line of an answer to a step of a script's line
abbrev pub answer_line : LineAnswer → List ℕ
answer_line made = line_of (decimal made.line ++ 32 ∷ answer_text made.answer)

abbrev pub side_text : Side → List ℕ
side_text A = codes "A"
side_text B = codes "B"

-- the name of a pair
abbrev pub pair_name : List PairPlan → ℕ → List ℕ
pair_name pairs k = (slice_index_or pairs k no_pair).name

-- a lane in a session
abbrev pub lane_text : List PairPlan → LaneName → ℕ → List ℕ
lane_text pairs lane session = codes "lane " ++ pair_name pairs lane.pair ++ 32 ∷ side_text lane.from ++ numbers_text (lane.queue ∷ session ∷ [])

-- what a lane accepted and delivered in a session
abbrev pub count_line : List PairPlan → LaneCount → List ℕ
count_line pairs count =
    line_of (lane_text pairs count.name count.session ++ codes " accepted" ++ numbers_text (count.accepted ∷ []) ++ codes " delivered" ++ numbers_text (count.delivered ∷ []))

-- that line where either isn't 0
abbrev pub count_lines : List PairPlan → LaneCount → List ℕ
count_lines pairs count = if (count.accepted == 0) && (count.delivered == 0) then [] else count_line pairs count

-- what a device sent, refused and received
abbrev pub device_line : DevPlan → Counters → List ℕ
device_line dev counters =
    line_of
    (codes "dev " ++ dev.name ++ codes " tx" ++ numbers_text (counters.tx ∷ counters.tx_bytes ∷ counters.refused ∷ [])
    ++ codes " rx" ++ numbers_text (counters.rx ∷ counters.rx_bytes ∷ counters.short ∷ []))

-- the lines of all devices, each with its counters
abbrev pub device_lines : List DevPlan → List Counters → List ℕ
device_lines devs counters = flat_map (λ both. device_line both.0 both.1) (zip devs counters)

abbrev pub end_line : List ℕ
end_line = line_of (codes "end")

-- what each lane accepted and delivered in each session, the devices, the end
abbrev pub ending : Plan → List LaneCount → List Counters → List ℕ
ending plan lanes devs = flat_map (count_lines plan.pairs) lanes ++ device_lines plan.devs devs ++ end_line

-- The report of a replay: the answers in order, and its ending.
abbrev pub report_of : Plan → List LineAnswer → List LaneCount → List Counters → List ℕ
report_of plan lines lanes devs = flat_map answer_line lines ++ ending plan lanes devs

-- The text of a threaded run

-- a frame after a word and its number
abbrev pub frame_line : List ℕ → ℕ → List ℕ → List ℕ
frame_line word n frame = line_of (word ++ numbers_text (n ∷ []) ++ 32 ∷ frame_text frame)

-- frames after a word, numbered from n on
abbrev pub frame_lines : List ℕ → ℕ → List (List ℕ) → List ℕ
frame_lines word n [] = []
frame_lines word n (frame ∷ frames) = frame_line word n frame ++ frame_lines word (n + 1) frames

-- how many frames were accepted, delivered and left, and the line's end
abbrev pub counts_text : ℕ → ℕ → ℕ → List ℕ
counts_text accepted delivered left =
    line_of
    (codes " accepted" ++ numbers_text (accepted ∷ []) ++ codes " delivered" ++ numbers_text (delivered ∷ [])
    ++ codes " left" ++ numbers_text (left ∷ []))

-- a session of a lane: its counts, then its frames; those that were left are numbered on from those that were delivered
abbrev pub session_lines : List PairPlan → LaneName → ℕ → SessionShown → List ℕ
session_lines pairs lane session run =
    lane_text pairs lane session ++ counts_text (length run.delivered + length run.left) (length run.delivered) (length run.left)
    ++ frame_lines (codes "frame") 0 run.delivered ++ frame_lines (codes "left") (length run.delivered) run.left

-- the sessions of a lane, from this number on
abbrev pub sessions_lines : List PairPlan → LaneName → ℕ → List SessionShown → List ℕ
sessions_lines pairs lane session [] = []
sessions_lines pairs lane session (run ∷ runs) = session_lines pairs lane session run ++ sessions_lines pairs lane (session + 1) runs

abbrev pub run_lines : List PairPlan → LaneShown → List ℕ
run_lines pairs lane = sessions_lines pairs lane.name 1 lane.sessions

abbrev pub record_of : Plan → List LaneShown → List ℕ
record_of plan lanes = flat_map (run_lines plan.pairs) lanes ++ end_line

-- The text of a run of streams

-- a lane's stream: how many items it brought over how many sessions, then the items, numbered from 0
abbrev pub stream_line : List PairPlan → LaneName → ℕ → ℕ → List ℕ
stream_line pairs lane items sessions =
    line_of
    (codes "stream " ++ pair_name pairs lane.pair ++ 32 ∷ side_text lane.from ++ numbers_text (lane.queue ∷ []) ++ codes " items" ++ numbers_text (items ∷ [])
    ++ codes " sessions" ++ numbers_text (sessions ∷ []))

abbrev pub stream_lines : List PairPlan → LaneName → List (List ℕ) → ℕ → List ℕ
stream_lines pairs lane items sessions = stream_line pairs lane (length items) sessions ++ frame_lines (codes "item") 0 items
