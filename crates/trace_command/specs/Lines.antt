-- The lines of a trace. Each is one JSON object, and ends with a line feed.
use Rattle.std.specs.Prelude.{ℕ, ◌==◌, ◌&&◌, List, [], ◌∷◌, ◌++◌, codes, if◌then◌else◌}
use Rattle.std.specs.Fmt.{decimal}
use Rattle.std.specs.List.{flat_map, zip}
use Rattle.step_kinds.specs.Answers.{is_made}
use Rattle.step_kinds.specs.Subject.{subject_of}
use Rattle.step_kinds.specs.declared.plan.Counters.{Counters}
use Rattle.step_kinds.specs.declared.plan.DevPlan.{DevPlan}
use Rattle.step_kinds.specs.declared.plan.LineAnswer.{LineAnswer}
use Rattle.step_kinds.specs.declared.plan.PairPlan.{PairPlan}
use Rattle.step_kinds.specs.declared.plan.Plan.{Plan}
use Rattle.step_kinds.specs.declared.names.LaneName.{LaneName}
use Rattle.step_kinds.specs.declared.steps.Answer.{Answer}
use Rattle.step_kinds.specs.declared.steps.Step.{Step}
use Rattle.pair_model.specs.Both.{at_side}
use Rattle.report_text.specs.Report.{line_of, pair_name, side_text}
use Rattle.step_kinds.specs.AnsweredSteps.{AnsweredStep}
use Rattle.step_kinds.specs.declared.plan.LaneCount.{LaneCount}
use Rattle.trace_command.specs.Steps.{answer_object, step_object}
use Rattle.trace_command.specs.Words.{number_member, numbers_list, text_member, truth_text}
use Rattle.trace_command.specs.Writes.{PairWrites, change_in, trace_number_at, numbers_in, pair_in, stopped_by, writes_after}
use Rattle.trace_command.specs.declared.changes.Change.{Change}
use Rattle.trace_command.specs.declared.changes.Change.TheVariants.{Trains, Breaks, Drops, Posts, Loses, Lands, Waits, Nothing}

-- the first line, with the version of this form
abbrev pub first_line : List ℕ
first_line = line_of (codes "{\"trace\":1}")

-- the link after a step that changes it, and the session that the pair is in or was in last
abbrev pub link_members : List ℕ → ℕ → List ℕ
link_members state session = text_member (codes ",\"link\":") state ++ number_member (codes ",\"session\":") session

-- the numbers of the writes of both sides that are lost by a drop
abbrev pub dropped_members : PairWrites → List ℕ
dropped_members now =
    codes ",\"dropped\":{\"A\":" ++ numbers_list (numbers_in now.sides.a.flight) ++ codes ",\"B\":" ++ numbers_list (numbers_in now.sides.b.flight) ++ codes "}"

-- whether the step was made
abbrev pub made_member : Answer → List ℕ
made_member answer = codes ",\"made\":" ++ truth_text (is_made answer)

-- What a step changes, said with the numbers of the writes. A post has the number of the write, or null where it is
-- lost. A landing has the number of the write that landed, and how many earlier ones it passed. One that is blocked has
-- the number of the write and of that which it waits for. A drop has the numbers of all that are lost.
abbrev pub change_members : PairWrites → Change → List ℕ
change_members now (Trains session) = link_members (codes "up") session
change_members now Breaks = link_members (codes "closing") now.session
change_members now Drops = dropped_members now ++ link_members (codes "down") now.session
change_members now (Posts side class) = if now.up then number_member (codes ",\"write\":") (at_side now.sides side).posted else codes ",\"write\":null"
change_members now Loses = codes ",\"write\":null"
change_members now (Lands side place) =
    number_member (codes ",\"write\":") (trace_number_at (at_side now.sides side).flight place) ++ number_member (codes ",\"passed\":") place
change_members now (Waits side place) =
    number_member (codes ",\"write\":") (trace_number_at (at_side now.sides side).flight place)
    ++ number_member (codes ",\"waits_for\":") (stopped_by (at_side now.sides side).flight place)
change_members now Nothing = []

-- the line of a step, its line in the script, its answer, whether it was made, and what it changes
abbrev pub trace_step_line : Plan → List PairWrites → Step → LineAnswer → List ℕ
trace_step_line plan writes step made =
    line_of
    (codes "{\"line\":" ++ decimal made.line ++ codes ",\"step\":" ++ step_object plan step ++ codes ",\"answer\":" ++ answer_object made.answer ++ made_member made.answer
    ++ change_members (pair_in writes (subject_of step)) (change_in plan.pairs step made.answer) ++ codes "}")

-- the lines of steps, from these numbers of writes on
abbrev pub step_lines : Plan → List PairWrites → List AnsweredStep → List ℕ
step_lines plan writes [] = []
step_lines plan writes (answered ∷ rest) =
    trace_step_line plan writes answered.step answered.made ++ step_lines plan (writes_after plan.pairs writes answered.step answered.made.answer) rest

-- a lane
unfoldable pub lane_object : List PairPlan → LaneName → List ℕ
lane_object pairs lane =
    codes "{\"pair\":\"" ++ pair_name pairs lane.pair ++ codes "\"" ++ text_member (codes ",\"side\":") (side_text lane.from)
    ++ number_member (codes ",\"queue\":") lane.queue ++ codes "}"

-- what a lane accepted and delivered in a session
unfoldable pub count_members : LaneCount → List ℕ
count_members count =
    number_member (codes ",\"session\":") count.session ++ number_member (codes ",\"accepted\":") count.accepted
    ++ number_member (codes ",\"delivered\":") count.delivered

abbrev pub lane_line : List PairPlan → LaneCount → List ℕ
lane_line pairs count = line_of (codes "{\"lane\":" ++ lane_object pairs count.name ++ count_members count ++ codes "}")

-- that line where either isn't 0
abbrev pub trace_count_lines : List PairPlan → LaneCount → List ℕ
trace_count_lines pairs count = if (count.accepted == 0) && (count.delivered == 0) then [] else lane_line pairs count

abbrev pub trace_lane_lines : List PairPlan → List LaneCount → List ℕ
trace_lane_lines pairs counts = flat_map (trace_count_lines pairs) counts

-- what a device sent, refused and received
unfoldable pub counter_members : Counters → List ℕ
counter_members counters =
    number_member (codes ",\"tx\":") counters.tx ++ number_member (codes ",\"tx_bytes\":") counters.tx_bytes
    ++ number_member (codes ",\"refused\":") counters.refused ++ number_member (codes ",\"rx\":") counters.rx
    ++ number_member (codes ",\"rx_bytes\":") counters.rx_bytes ++ number_member (codes ",\"short\":") counters.short

abbrev pub trace_device_line : DevPlan → Counters → List ℕ
trace_device_line dev counters = line_of (codes "{\"device\":\"" ++ dev.name ++ codes "\"" ++ counter_members counters ++ codes "}")

abbrev pub trace_device_lines : List DevPlan → List Counters → List ℕ
trace_device_lines devs counters = flat_map (λ both. trace_device_line both.0 both.1) (zip devs counters)

abbrev pub trace_end_line : List ℕ
trace_end_line = line_of (codes "{\"end\":true}")

-- what follows the steps: lanes, devices, the end
abbrev pub trace_ending : Plan → List LaneCount → List Counters → List ℕ
trace_ending plan lanes devs = trace_lane_lines plan.pairs lanes ++ trace_device_lines plan.devs devs ++ trace_end_line
