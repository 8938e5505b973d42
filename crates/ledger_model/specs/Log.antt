-- The log of a run: each step with its answer. What follows reads a log alone, and no ledger.
use Rattle.std.specs.Prelude.{ℕ, ◌+◌, ◌-◌, ◌==◌, Bool, true, false, ◌&&◌, Option, Some, None, List, [], ◌∷◌, ◌++◌, count_by, length, map, nat_lt, not, sum, sum_by, if◌then◌else◌}
use Rattle.std.specs.List.{flat_map}
use Rattle.step_kinds.specs.Bits.{has_bit}
use Rattle.step_kinds.specs.Sides.{other_side, same_side}
use Rattle.step_kinds.specs.declared.names.LaneName.{LaneName}
use Rattle.step_kinds.specs.declared.names.Side.{Side}
use Rattle.step_kinds.specs.declared.plan.Counters.{Counters}
use Rattle.step_kinds.specs.declared.plan.DevPlan.{DevPlan}
use Rattle.step_kinds.specs.declared.plan.Plan.{Plan}
use Rattle.step_kinds.specs.declared.steps.Label.{Label}
use Rattle.step_kinds.specs.declared.steps.Label.TheVariants.{Index, Pad}
use Rattle.step_kinds.specs.declared.steps.Answer.{Answer}
use Rattle.step_kinds.specs.declared.steps.Answer.TheVariants.{Ok as Done, OkSession, OkNumber, Posted, Landed, Empty, ReadyFrame, Copied as CopiedPart, Delivered, Irq as IrqBits}
use Rattle.step_kinds.specs.declared.steps.Step.{Step}
use Rattle.step_kinds.specs.declared.steps.Step.TheVariants.{Train, Break, Begin, QpDown, Xbegin, Post, Land, Look, Copy, Irq}
use Rattle.pair_model.specs.Headers.{Bytes}
use Rattle.ledger_model.specs.Next.{Ledger, start, outcome_in, ledger_after}
use Rattle.pair_model.specs.Ethernet.{ethernet_frame, ethernet_header}
use Rattle.pair_model.specs.Plans.{pair_plan, dev_plan}
use Rattle.pair_model.specs.Sizes.{sizes_of, pieces_in}

pub record Answered : Type 0 where
  pub step : Step
  pub answer : Answer

-- the bytes of the memories, as the log so far leaves them
abbrev pub Memories : Type 0
Memories = List Answered → ℕ → Bytes

-- a step with its answer in a ledger
abbrev pub answered : Plan → (ℕ → Bytes) → Ledger → Step → Answered
answered plan bytes ledger step = record { step = step; answer = (outcome_in plan bytes ledger step).answer }

-- the log of steps from a ledger on, and the ledger after them, if `before` is the log so far
abbrev pub log_from : Plan → Memories → List Answered → Ledger → List Step → List Answered
log_from plan memories before ledger [] = []
log_from plan memories before ledger (step ∷ steps) =
    let made = answered plan (memories before) ledger step in
    made ∷ log_from plan memories (before ++ made ∷ []) (ledger_after plan (memories before) ledger step) steps

abbrev pub ledger_from : Plan → Memories → List Answered → Ledger → List Step → Ledger
ledger_from plan memories before ledger [] = ledger
ledger_from plan memories before ledger (step ∷ steps) =
    ledger_from plan memories (before ++ answered plan (memories before) ledger step ∷ []) (ledger_after plan (memories before) ledger step) steps

-- the log of a list of steps, and the ledger after it
abbrev pub log_of : Plan → Memories → List Step → List Answered
log_of plan memories steps = log_from plan memories [] (start plan) steps

abbrev pub ledger_of : Plan → Memories → List Step → Ledger
ledger_of plan memories steps = ledger_from plan memories [] (start plan) steps

-- Sessions

-- whether this begins a session of the pair
abbrev pub trains : ℕ → Answered → Bool
trains pair made = began made.step made.answer where
  began : Step → Answer → Bool
  began (Train p) (OkSession session) = p == pair
  began step answer = false

-- whether this ends one
abbrev pub breaks : ℕ → Answered → Bool
breaks pair made = ended made.step made.answer where
  ended : Step → Answer → Bool
  ended (Break p) Done = p == pair
  ended step answer = false

-- the session in which a pair starts
abbrev pub first_session : Plan → ℕ → ℕ
first_session plan pair = if (pair_plan plan pair).up then 1 else 0

-- what was made while the pair was in a session, if it is now in session `now`
abbrev pub made_in : ℕ → ℕ → ℕ → List Answered → List Answered
made_in pair session now [] = []
made_in pair session now (made ∷ log) =
    let rest = made_in pair session (if trains pair made then now + 1 else now) log in
    if now == session then made ∷ rest else rest

-- what was made since the pair's session began, `kept` being what was made in it so far
abbrev pub made_since : ℕ → List Answered → List Answered → List Answered
made_since pair kept [] = kept
made_since pair kept (made ∷ log) = made_since pair (if trains pair made then [] else kept ++ made ∷ []) log

abbrev pub in_this_session : ℕ → List Answered → List Answered
in_this_session pair log = made_since pair [] log

-- whether the last link step of the pair that wasn't refused left it up, if it was so before
abbrev pub up_after : ℕ → Bool → List Answered → Bool
up_after pair now [] = now
up_after pair now (made ∷ log) = up_after pair (if trains pair made then true else if breaks pair made then false else now) log

abbrev pub up_at : Plan → ℕ → List Answered → Bool
up_at plan pair log = up_after pair (pair_plan plan pair).up log

-- Frames

-- a frame and the number that it was answered with
pub record Numbered : Type 0 where
  pub number : ℕ
  pub bytes : List ℕ

-- whether a step on this pair, side and queue is one on the lane
abbrev pub is_on : LaneName → ℕ → Side → ℕ → Bool
is_on lane pair from queue = (pair == lane.pair) && (same_side from lane.from && (queue == lane.queue))

-- the frame that this accepts on a lane
abbrev pub accepts : Plan → LaneName → Answered → List Numbered
accepts plan lane made = frame_of made.step made.answer where
  frame_of : Step → Answer → List Numbered
  frame_of (Begin pair side queue frame) (OkNumber n) = if is_on lane pair side queue then record { number = n; bytes = frame } ∷ [] else []
  frame_of (Xbegin pair side queue dev dst kind payload) (OkNumber n) =
      if is_on lane pair side queue then record { number = n; bytes = ethernet_frame dst (dev_plan plan.devs dev).address kind payload } ∷ [] else []
  frame_of step answer = []

-- the frame that this delivers on a lane
abbrev pub delivers : LaneName → Answered → List Numbered
delivers lane made = frame_in made.step made.answer where
  frame_in : Step → Answer → List Numbered
  frame_in (Copy pair side queue) (Delivered n frame) = if is_on lane pair (other_side side) queue then record { number = n; bytes = frame } ∷ [] else []
  frame_in step answer = []

-- what was accepted, and what was delivered, on a lane in a session
abbrev pub accepted : Plan → List Answered → LaneName → ℕ → List Numbered
accepted plan log lane session = flat_map (accepts plan lane) (made_in lane.pair session (first_session plan lane.pair) log)

abbrev pub delivered : Plan → List Answered → LaneName → ℕ → List Numbered
delivered plan log lane session = flat_map (delivers lane) (made_in lane.pair session (first_session plan lane.pair) log)

-- Devices. A device stands on a side and a queue of a pair, and is named as the lane on which it sends.

abbrev pub lane_of_device : DevPlan → LaneName
lane_of_device dev = record { pair = dev.pair; from = dev.side; queue = dev.queue }

-- the frame of a device that this accepts
abbrev pub device_accepts : Plan → LaneName → Answered → List (List ℕ)
device_accepts plan own made = frame_of made.step made.answer where
  frame_of : Step → Answer → List (List ℕ)
  frame_of (Xbegin pair side queue dev dst kind payload) (OkNumber n) =
      if is_on own pair side queue then ethernet_frame dst (dev_plan plan.devs dev).address kind payload ∷ [] else []
  frame_of step answer = []

-- whether this refuses a frame of the device
abbrev pub device_refuses : LaneName → Answered → Bool
device_refuses own made = refused made.step made.answer where
  refused : Step → Answer → Bool
  refused (Xbegin pair side queue dev dst kind payload) (OkNumber n) = false
  refused (Xbegin pair side queue dev dst kind payload) answer = is_on own pair side queue
  refused step answer = false

-- the frame that this delivers on the device's side and queue, whoever sent it
abbrev pub device_delivers : LaneName → Answered → List (List ℕ)
device_delivers own made = frame_in made.step made.answer where
  frame_in : Step → Answer → List (List ℕ)
  frame_in (Copy pair side queue) (Delivered n frame) = if is_on own pair side queue then frame ∷ [] else []
  frame_in step answer = []

-- a frame that is shorter than an Ethernet header
abbrev pub is_short : List ℕ → Bool
is_short frame = nat_lt (length frame) ethernet_header

-- the counters of a device after a log, over all sessions
abbrev pub counters_in : Plan → List Answered → LaneName → Counters
counters_in plan log own =
    let sent = flat_map (device_accepts plan own) log in
    let found = flat_map (device_delivers own) log in
    record {
      tx = length sent;
      tx_bytes = sum_by length sent;
      refused = count_by (device_refuses own) log;
      rx = count_by (λ frame. not (is_short frame)) found;
      rx_bytes = sum_by (λ frame. if is_short frame then 0 else length frame) found;
      short = count_by is_short found;
    }

-- Writes

-- the label of a lane's write that this posts
abbrev pub posts_write : LaneName → Answered → List Label
posts_write lane made = label_in made.step made.answer where
  label_in : Step → Answer → List Label
  label_in (Post pair side queue) (Posted label) = if is_on lane pair side queue then label ∷ [] else []
  label_in step answer = []

-- the labels of a lane's writes that were posted since the pair's session began, in order
abbrev pub posted_in : List Answered → LaneName → List Label
posted_in log lane = flat_map (posts_write lane) (in_this_session lane.pair log)

-- Room

-- the entries that this begins or keeps waiting on a lane: one for each piece of a frame, and a link-down entry
abbrev pub takes_room : Plan → LaneName → Answered → ℕ
takes_room plan lane made = entries_of_step made.step made.answer where
  entries_of_frame : ℕ → ℕ
  entries_of_frame len = pieces_in (sizes_of (pair_plan plan lane.pair) lane.from lane.queue).largest len

  entries_of_step : Step → Answer → ℕ
  entries_of_step (Begin pair side queue frame) (OkNumber n) = if is_on lane pair side queue then entries_of_frame (length frame) else 0
  entries_of_step (Xbegin pair side queue dev dst kind payload) (OkNumber n) =
      if is_on lane pair side queue then entries_of_frame (length (ethernet_frame dst (dev_plan plan.devs dev).address kind payload)) else 0
  entries_of_step (QpDown pair side queue) (OkNumber n) = if is_on lane pair side queue then 1 else 0
  entries_of_step step answer = 0

-- whether this lands an index write of the lane, which its receiver posted
abbrev pub gives_room : LaneName → Answered → Bool
gives_room lane made = frame_in made.step made.answer where
  frame_in : Step → Answer → Bool
  frame_in (Land pair side place) (Landed (Index queue n)) = is_on lane pair (other_side side) queue
  frame_in step answer = false

-- the entries of a lane that are free after a log
abbrev pub room_in : Plan → List Answered → LaneName → ℕ
room_in plan log lane =
    let made = in_this_session lane.pair log in
    (sizes_of (pair_plan plan lane.pair) lane.from lane.queue).entries - 1 + count_by (gives_room lane) made - sum (map (takes_room plan lane) made)

-- Scratchpads

-- the value that landed last in a scratchpad of a side, if it was `now`
abbrev pub pad_after : ℕ → Side → ℕ → Option ℕ → List Answered → Option ℕ
pad_after pair side i now [] = now
pad_after pair side i now (made ∷ log) = pad_after pair side i (written made.step made.answer) log where
  written : Step → Answer → Option ℕ
  written (Land p from place) (Landed (Pad j value)) =
      if (p == pair) && (same_side (other_side from) side && (j == i)) then Some value else now
  written step answer = now

-- the value that landed last in a scratchpad of a side since the pair's session began
abbrev pub landed_pad : List Answered → ℕ → Side → ℕ → Option ℕ
landed_pad log pair side i = pad_after pair side i None (in_this_session pair log)

-- Looking

-- whether the side's last look on the queue was empty and no doorbell of the queue was taken since, if it was so before
abbrev pub saw_empty : ℕ → Side → ℕ → Bool → List Answered → Bool
saw_empty pair side queue now [] = now
saw_empty pair side queue now (made ∷ log) = saw_empty pair side queue (seen made.step made.answer) log where
  seen : Step → Answer → Bool
  seen (Look p s q) Empty = if (p == pair) && (same_side s side && (q == queue)) then true else now
  seen (Look p s q) answer = if (p == pair) && (same_side s side && (q == queue)) then false else now
  seen (Irq p s) (IrqBits bits) = if (p == pair) && (same_side s side && has_bit bits queue) then false else now
  seen step answer = now

abbrev pub last_look_empty : List Answered → ℕ → Side → ℕ → Bool
last_look_empty log pair side queue = saw_empty pair side queue false (in_this_session pair log)

-- Copying

-- the entry that a side found last on a queue: its number and length as the side was answered, and how many copies it
-- made since
pub record Looked : Type 0 where
  pub number : ℕ
  pub len : ℕ
  pub copies : ℕ

abbrev pub one_copied : Option Looked → Option Looked
one_copied None = None
one_copied (Some found) = Some (record { number = found.number; len = found.len; copies = found.copies + 1 })

-- the same after a log, if it was `now` before
abbrev pub looked_after : ℕ → Side → ℕ → Option Looked → List Answered → Option Looked
looked_after pair side queue now [] = now
looked_after pair side queue now (made ∷ log) = looked_after pair side queue (seen made.step made.answer) log where
  seen : Step → Answer → Option Looked
  seen (Look p s q) (ReadyFrame number len) =
      if is_on (record { pair = pair; from = side; queue = queue }) p s q then Some (record { number = number; len = len; copies = 0 }) else now
  seen (Copy p s q) (CopiedPart number part) = if is_on (record { pair = pair; from = side; queue = queue }) p s q then one_copied now else now
  seen (Copy p s q) (Delivered number frame) = if is_on (record { pair = pair; from = side; queue = queue }) p s q then one_copied now else now
  seen step answer = now

abbrev pub looked_in : List Answered → ℕ → Side → ℕ → Option Looked
looked_in log pair side queue = looked_after pair side queue None log
