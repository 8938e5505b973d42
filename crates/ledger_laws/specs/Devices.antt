-- When a device on a queue is stopped, as a log says it, and where a ring has no room. A device stands on a side and a
-- queue of a pair, and is named as the lane on which it sends.
use Rattle.std.specs.Prelude.{◌==◌, Bool, true, false, ◌&&◌, not, List, [], ◌∷◌, ◌++◌, nat_lt, if◌then◌else◌}
use Rattle.step_kinds.specs.Sides.{same_side}
use Rattle.step_kinds.specs.declared.names.LaneName.{LaneName}
use Rattle.step_kinds.specs.declared.plan.Plan.{Plan}
use Rattle.step_kinds.specs.declared.steps.Answer.{Answer}
use Rattle.step_kinds.specs.declared.steps.Answer.TheVariants.{Ok as Done, OkNumber, Stopped, Awake}
use Rattle.step_kinds.specs.declared.steps.Step.{Step}
use Rattle.step_kinds.specs.declared.steps.Step.TheVariants.{Clean, Begin, QpDown, Xbegin, Wake}
use Rattle.ledger_model.specs.Log.{Answered, is_on, room_in}
use Rattle.pair_model.specs.Ethernet.{ethernet_frame}
use Rattle.pair_model.specs.Plans.{dev_plan}
use Rattle.ledger_laws.specs.Drivers.{FoundAs, fits_queue, has_left, may_begin, queue_named}
use Rattle.ledger_laws.specs.Laws.{entries_needed, is_again}

-- whether it is stopped after an entry of the log, `now` being whether it was before, and `log` the log with that
-- entry. A frame of it that is begun stops it where fewer entries are free then than its `stop`. A wake, and a clean of
-- its side, end that where they are made.
abbrev pub stop_next : Plan → LaneName → List Answered → Bool → Answered → Bool
stop_next plan own log now made = told made.step made.answer where
  told : Step → Answer → Bool
  told (Xbegin p side queue dev dst kind payload) (OkNumber n) = if is_on own p side queue then nat_lt (room_in plan log own) (dev_plan plan.devs dev).stop else now
  told (Wake p side queue dev) Awake = if is_on own p side queue then false else now
  told (Clean p side) Done = if (p == own.pair) && same_side side own.from then false else now
  told step answer = now

-- whether it is stopped after a log, if it was so (`now`) after what stands before that
abbrev pub stopped_from : Plan → LaneName → List Answered → Bool → List Answered → Bool
stopped_from plan own before now [] = now
stopped_from plan own before now (made ∷ log) = let seen = before ++ made ∷ [] in stopped_from plan own seen (stop_next plan own seen now made) log

abbrev pub is_stopped_in : Plan → List Answered → LaneName → Bool
is_stopped_in plan log own = stopped_from plan own [] false log

abbrev pub is_stopped_answer : Answer → Bool
is_stopped_answer Stopped = true
is_stopped_answer answer = false

-- a frame of a stopped device, which no test before stops; and a wake of one, while fewer entries are free than its
-- `start`
abbrev pub finds_stopped : Plan → List Answered → Step → Bool
finds_stopped plan log (Xbegin pair side queue dev dst kind payload) =
    let own = queue_named pair side queue in
    may_begin plan log own && (fits_queue plan own (ethernet_frame dst (dev_plan plan.devs dev).address kind payload) && (not (has_left plan log own) && is_stopped_in plan log own))
finds_stopped plan log (Wake pair side queue dev) =
    let own = queue_named pair side queue in
    is_stopped_in plan log own && nat_lt (room_in plan log own) (dev_plan plan.devs dev).start
finds_stopped plan log step = false

-- fewer entries of the lane are free than the step needs
abbrev pub lacks_room : Plan → List Answered → LaneName → Step → Bool
lacks_room plan log own step = nat_lt (room_in plan log own) (entries_needed plan own step)

-- a step that begins entries, which no test before stops, and for which the ring has no room
abbrev pub finds_full : Plan → List Answered → Step → Bool
finds_full plan log (Begin pair side queue frame) =
    let own = queue_named pair side queue in
    may_begin plan log own && (fits_queue plan own frame && (not (has_left plan log own) && lacks_room plan log own (Begin pair side queue frame)))
finds_full plan log (QpDown pair side queue) =
    let own = queue_named pair side queue in
    may_begin plan log own && (not (has_left plan log own) && lacks_room plan log own (QpDown pair side queue))
finds_full plan log (Xbegin pair side queue dev dst kind payload) =
    let own = queue_named pair side queue in
    let frame = ethernet_frame dst (dev_plan plan.devs dev).address kind payload in
    may_begin plan log own
    && (fits_queue plan own frame && (not (has_left plan log own) && (not (is_stopped_in plan log own) && lacks_room plan log own (Xbegin pair side queue dev dst kind payload))))
finds_full plan log step = false

-- `stopped` and `again` come exactly there
abbrev pub StoppedWhereRingWasLow : Type 0
StoppedWhereRingWasLow = FoundAs is_stopped_answer finds_stopped

abbrev pub AgainWhereRingIsFull : Type 0
AgainWhereRingIsFull = FoundAs is_again finds_full
