-- Each kind of step on the table: where it may be made, which steps of the lane it is, and that the table then shows
-- the lane after them. A load changes no word. A slot may go to the seat that loads, and the receiver's loads of a flag
-- that is up and of a header are steps of the lane.
use Rattle.std.specs.Prelude.{◌≡◌, ◌≢◌, ℕ, ◌+◌, ◌-◌, ◌%◌, ◌<◌, ◌≤◌, Bool, true, false, List, [], ◌∷◌, ◌++◌, length, slice_index, slice_index_or, slice_set, replicate, Some}
use mathlib.Core.Option.{some}
use lib.ListN.{get_elem?}
use Rattle.step_kinds.specs.Limits.{most_frame_bytes}
use Rattle.table_lane.specs.LaneNames.{Lane, entry_of, done, free_entries, head_of, tail_of, Idle, Copying, Copied, Cleared}
use Rattle.table_lane.specs.Words.{AreSized, table_header_of, cut_word}
use Rattle.table_lane.specs.Views.{TableBytes}
use Rattle.table_lane.specs.Borders.{Slots, empty, out, full}
use Rattle.table_lane.specs.ShownLane.{number_at, most_lane_frames}
use Rattle.table_lane.specs.Moment.{Moment, ShowsLane}
use Rattle.table_lane.specs.LaneNames.{Look, Copy, Clear, Acknowledge, LaneRuns}
use Rattle.table_lane.specs.LaneSteps.{send_steps, header_steps, flag_steps, index_steps}

-- a sender that has no slot takes that of the next entry, if the index word shows room
abbrev pub Claims : Type 0
Claims = (N : ℕ) (m : Moment) (slots : Slots) → m.send.claims ≡ false → 0 < free_entries N (head_of N (length m.send.sent)) m.words.index → ShowsLane N m slots
    → (get_elem? slots (length m.send.sent % N) ≡ some empty) × ShowsLane N (record m { send = record m.send { claims = true } }) (slice_set slots (length m.send.sent % N) out)

-- a sender that has the slot stores the posted header, and the slot is home with the frame
abbrev pub Sends : Type 0
Sends = (N : ℕ) (m : Moment) (slots : Slots) (frame : TableBytes) → m.send.claims ≡ true → length frame ≤ most_frame_bytes → length m.send.sent < most_lane_frames → AreSized N m.words → ShowsLane N m slots
    → (lane : Lane) × LaneRuns (send_steps (length m.lane.sent) frame) m.lane lane
    × ShowsLane N
    (record m { words = record m.words { posted = slice_set m.words.posted (length m.send.sent % N) (table_header_of (length m.send.sent)) }; lane = lane; send = record m.send { sent = m.send.sent ++ frame ∷ []; claims = false } })
    (slice_set slots (length m.send.sent % N) (some (Some frame)))

-- the mover takes the slot of the next entry, if its posted header is new
abbrev pub Takes : Type 0
Takes = (N : ℕ) (m : Moment) (slots : Slots) (n : ℕ) → n ≡ m.mover.flagged + length m.mover.held → slice_index m.words.posted (n % N) ≡ table_header_of n → ShowsLane N m slots
    → (n < length m.send.sent) × (get_elem? slots (n % N) ≡ some (full m.send.sent n))
    × ShowsLane N (record m { mover = record m.mover { held = m.mover.held ++ slice_index_or m.send.sent n [] ∷ []; stored = m.mover.stored ++ false ∷ [] } }) (slice_set slots (n % N) out)

-- it stores the header of a held entry, which isn't stored yet
abbrev pub StoresHeader : Type 0
StoresHeader = (N : ℕ) (m : Moment) (slots : Slots) (j n : ℕ) → n ≡ m.mover.flagged + j → j < length m.mover.held → slice_index_or m.mover.stored j false ≡ false → ShowsLane N m slots
    → (lane : Lane) × LaneRuns (header_steps n (entry_of m.lane n)) m.lane lane
    × ShowsLane N (record m { words = record m.words { headers = slice_set m.words.headers (n % N) (table_header_of n) }; lane = lane; mover = record m.mover { stored = slice_set m.mover.stored j true } }) slots

-- it stores the flag of the first held entry, whose header is stored, and the slot is home with the frame
abbrev pub StoresFlag : Type 0
StoresFlag = (N : ℕ) (m : Moment) (slots : Slots) (frame : TableBytes) (held : List TableBytes) (stored : List Bool) → m.mover.held ≡ frame ∷ held → m.mover.stored ≡ true ∷ stored → ShowsLane N m slots
    → (lane : Lane) × LaneRuns (flag_steps m.mover.flagged) m.lane lane
    × ShowsLane N
    (record m { words = record m.words { flags = slice_set m.words.flags (m.mover.flagged % N) done }; lane = lane; mover = record m.mover { flagged = m.mover.flagged + 1; held = held; stored = stored } })
    (slice_set slots (m.mover.flagged % N) (some (Some frame)))

-- an idle receiver takes the slot of the next entry, if its flag is up
abbrev pub Looks : Type 0
Looks = (N : ℕ) (m : Moment) (slots : Slots) (n : ℕ) → n ≡ length m.recv.got → m.recv.phase ≡ Idle → slice_index m.words.flags (n % N) ≡ done → ShowsLane N m slots
    → (get_elem? slots (n % N) ≡ some (full m.send.sent n)) × (n < length m.send.sent)
    × ((lane : Lane) × LaneRuns (Look ∷ []) m.lane lane
    × ShowsLane N (record m { lane = lane; recv = record m.recv { phase = Copying; hand = slice_index_or m.send.sent n [] ∷ [] } }) (slice_set slots (n % N) out))

-- it loads the header, and has the frame: all copies, one after another
abbrev pub Copies : Type 0
Copies = (N : ℕ) (m : Moment) (slots : Slots) → m.recv.phase ≡ Copying → ShowsLane N m slots
    → (more : ℕ) × (lane : Lane) × LaneRuns (Copy ∷ replicate more Copy) m.lane lane
    × ShowsLane N (record m { lane = lane; recv = record m.recv { phase = Copied; got = m.recv.got ++ m.recv.hand; hand = [] } }) slots

-- it clears the flag, and the slot is home and empty
abbrev pub Clears : Type 0
Clears = (N : ℕ) (m : Moment) (slots : Slots) (n : ℕ) → n + 1 ≡ length m.recv.got → m.recv.phase ≡ Copied → ShowsLane N m slots
    → (lane : Lane) × LaneRuns (Clear ∷ []) m.lane lane
    × ShowsLane N (record m { words = record m.words { flags = slice_set m.words.flags (n % N) 0 }; lane = lane; recv = record m.recv { phase = Cleared } }) (slice_set slots (n % N) empty)

-- it stores index out
abbrev pub Acknowledges : Type 0
Acknowledges = (N : ℕ) (m : Moment) (slots : Slots) (n : ℕ) → n + 1 ≡ length m.recv.got → m.recv.phase ≡ Cleared → ShowsLane N m slots
    → (lane : Lane) × LaneRuns (Acknowledge ∷ []) m.lane lane
    × ShowsLane N (record m { words = record m.words { index_out = n % N }; lane = lane; recv = record m.recv { phase = Idle } }) slots

-- the way back loads index out
abbrev pub LoadsIndex : Type 0
LoadsIndex = (N : ℕ) (m : Moment) (slots : Slots) → ShowsLane N m slots → ShowsLane N (record m { back = record m.back { index = m.words.index_out } }) slots

-- it stores the index that it loaded, if it is new
abbrev pub StoresIndex : Type 0
StoresIndex = (N : ℕ) (m : Moment) (slots : Slots) → m.back.index ≢ tail_of N m.back.freed → ShowsLane N m slots
    → (lane : Lane) × LaneRuns (index_steps m.lane.freed (number_at N m.back.freed m.back.index + 1 - m.lane.freed)) m.lane lane
    × ShowsLane N (record m { words = record m.words { index = m.back.index }; lane = lane; back = record m.back { freed = number_at N m.back.freed m.back.index + 1 } }) slots

-- the cut stores the link word
abbrev pub Cuts : Type 0
Cuts = (N : ℕ) (m : Moment) (slots : Slots) → ShowsLane N m slots → ShowsLane N (record m { words = record m.words { link = cut_word }; cut = record m.cut { cut = true } }) slots
