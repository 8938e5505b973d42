-- What the calls of a lane answer, and the lane after them.
use Rattle.std.specs.Prelude.{ℕ, ◌==◌, Bool, true, false, Option, Some, None, List, [], ◌∷◌, length, map, remove, slice_get, if◌then◌else◌, nat_lt}
use Rattle.step_kinds.specs.declared.steps.Label.{Label}
use Rattle.step_kinds.specs.declared.steps.Label.TheVariants.{Index}
use Rattle.lane_model.specs.Lane.{Entry, Carries, GoesDown, Lane, bytes_of, entry_of, free_in}
use Rattle.order_rules.specs.Order.{Order, relaxed, strict, may_land}
use Rattle.lane_model.specs.Ring.{head_of}
pub use Rattle.lane_model.specs.Tests.{is_idle, is_copying, is_copied, is_cleared, is_empty_list}
use Rattle.lane_model.specs.Steps.{after_begin, after_post, after_landing, after_look, more_to_copy, after_copy, after_clear, after_ack, after_index}
use Rattle.lane_model.specs.declared.Write.{Write}
use Rattle.lane_model.specs.declared.Write.TheVariants.{Data, Flag, Bell}
use Rattle.pair_model.specs.Labels.{label_of}
use Rattle.step_kinds.specs.declared.lanes.Begun.{Begun}
use Rattle.step_kinds.specs.declared.lanes.Begun.TheVariants.{Ok as Began, TooLong, Busy, NoRoom}
use Rattle.lane_core.specs.declared.answers.LaneLand.{LaneLand}
use Rattle.lane_core.specs.declared.answers.LaneLand.TheVariants.{Landed, Blocked, Nothing}
use Rattle.lane_core.specs.declared.answers.LaneLook.{LaneLook}
use Rattle.lane_core.specs.declared.answers.LaneLook.TheVariants.{Ready, Empty, PeerDown, OutOfTurn as LookOutOfTurn}
use Rattle.step_kinds.specs.declared.lanes.LaneCopy.{LaneCopy}
use Rattle.step_kinds.specs.declared.lanes.LaneCopy.TheVariants.{Part, Whole, OutOfTurn as CopyOutOfTurn}

-- the model's lane, with its queue and whether its writes are strict
pub record LaneValue : Type 0 where
  pub queue : ℕ
  pub is_strict : Bool
  pub lane : Lane

-- the same with another lane
abbrev pub core_with_lane : LaneValue → Lane → LaneValue
core_with_lane value lane = record { queue = value.queue; is_strict = value.is_strict; lane = lane }

-- Beginning

-- the last test of a beginning: whether the ring has room
abbrev pub has_room : Lane → Begun
has_room lane = if free_in lane == 0 then NoRoom (head_of lane.entries (length lane.sent)) lane.index_word else Began (length lane.sent)

-- of a link-down entry, which fits every ring, and of a frame, whose length is tested first
abbrev pub core_down_answer : Lane → Begun
core_down_answer lane = if is_empty_list lane.todo then has_room lane else Busy

abbrev pub core_begin_answer : Lane → ℕ → Begun
core_begin_answer lane len = if nat_lt lane.largest len then TooLong len lane.largest else core_down_answer lane

-- an entry is in the lane where the answer says that it was begun
abbrev pub after_beginning : Lane → Entry → Begun → Lane
after_beginning lane entry (Began n) = after_begin lane entry
after_beginning lane entry answer = lane

-- Posting

-- the number of the entry that a write belongs to, if it has one
abbrev pub core_number_of : Write → ℕ
core_number_of (Data n field) = n
core_number_of (Flag n) = n
core_number_of Bell = 0

-- the label of a write of the lane
abbrev pub label_in : ℕ → Lane → Write → Label
label_in queue lane mark = label_of queue (entry_of lane (core_number_of mark)) mark

-- the label of the first of the writes that are left to post
abbrev pub core_first_label : ℕ → Lane → List Write → Option Label
core_first_label queue lane [] = None
core_first_label queue lane (mark ∷ rest) = Some (label_in queue lane mark)

abbrev pub core_post_answer : LaneValue → Option Label
core_post_answer value = core_first_label value.queue value.lane value.lane.todo

abbrev pub after_first_post : Lane → List Write → Lane
after_first_post lane [] = lane
after_first_post lane (mark ∷ rest) = after_post lane mark rest

abbrev pub core_after_posting : Lane → Lane
core_after_posting lane = after_first_post lane lane.todo

-- Landing

-- how a write is ordered: on a strict lane all are strict, elsewhere the fields of an entry are relaxed
abbrev pub kind_of_mark : Bool → Write → ℕ
kind_of_mark true mark = strict
kind_of_mark false (Data n field) = relaxed
kind_of_mark false mark = strict

-- the order of a write: all writes of a lane have traffic class 0
abbrev pub order_of_mark : Bool → Write → Order
order_of_mark is_strict mark = record { kind = kind_of_mark is_strict mark; class = 0 }

abbrev pub may_land_in : LaneValue → ℕ → Bool
may_land_in value place = may_land (map (order_of_mark value.is_strict) value.lane.flight) place

abbrev pub core_land_found : LaneValue → ℕ → Option Write → LaneLand
core_land_found value place None = Nothing
core_land_found value place (Some mark) = if may_land_in value place then Landed (label_in value.queue value.lane mark) else Blocked

abbrev pub core_land_answer : LaneValue → ℕ → LaneLand
core_land_answer value place = core_land_found value place (slice_get value.lane.flight place)

abbrev pub after_found : LaneValue → ℕ → Option Write → Lane
after_found value place None = value.lane
after_found value place (Some mark) = if may_land_in value place then after_landing value.lane mark (remove value.lane.flight place) else value.lane

abbrev pub core_after_land : LaneValue → ℕ → Lane
core_after_land value place = after_found value place (slice_get value.lane.flight place)

-- index writes are strict on every lane
abbrev pub index_order : Order
index_order = record { kind = strict; class = 0 }

abbrev pub may_land_index : Lane → ℕ → Bool
may_land_index lane place = may_land (map (λ n. index_order) lane.returning) place

abbrev pub index_found : LaneValue → ℕ → Option ℕ → LaneLand
index_found value place None = Nothing
index_found value place (Some n) = if may_land_index value.lane place then Landed (Index value.queue n) else Blocked

abbrev pub land_index_answer : LaneValue → ℕ → LaneLand
land_index_answer value place = index_found value place (slice_get value.lane.returning place)

abbrev pub after_index_found : Lane → ℕ → Option ℕ → Lane
after_index_found lane place None = lane
after_index_found lane place (Some n) = if may_land_index lane place then after_index lane n (remove lane.returning place) else lane

abbrev pub after_land_index : Lane → ℕ → Lane
after_land_index lane place = after_index_found lane place (slice_get lane.returning place)

-- Receiving

-- what a look says of an entry that has landed
abbrev pub core_look_at : ℕ → Entry → LaneLook
core_look_at n (Carries bytes left) = Ready n (length bytes)
core_look_at n GoesDown = PeerDown

abbrev pub core_look_answer : Lane → LaneLook
core_look_answer lane =
    if is_idle lane.phase
    then (if lane.flagged == lane.got then Empty else core_look_at lane.got (entry_of lane lane.got))
    else LookOutOfTurn

abbrev pub after_looking : Lane → LaneLook → Lane
after_looking lane (Ready n len) = after_look lane
after_looking lane answer = lane

abbrev pub core_copy_answer : Lane → LaneCopy
core_copy_answer lane =
    if is_copying lane.phase
    then (if more_to_copy lane then Part lane.got lane.part else Whole lane.got (bytes_of (entry_of lane lane.got)))
    else CopyOutOfTurn

abbrev pub after_copying : Lane → Lane
after_copying lane = if is_copying lane.phase then after_copy lane else lane

abbrev pub core_clear_answer : Lane → Option ℕ
core_clear_answer lane = if is_copied lane.phase then Some lane.cleared else None

abbrev pub after_clearing : Lane → Lane
after_clearing lane = if is_copied lane.phase then after_clear lane else lane

abbrev pub core_ack_answer : Lane → Option ℕ
core_ack_answer lane = if is_cleared lane.phase then Some lane.acked else None

abbrev pub after_acking : Lane → Lane
after_acking lane = if is_cleared lane.phase then after_ack lane else lane
