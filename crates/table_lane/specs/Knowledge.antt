-- How a step changes what a part knows.
use Rattle.std.specs.Prelude.{ℕ, ◌+◌, ◌-◌, true, false, [], ◌∷◌, ◌++◌, length, drop, slice_set}
use Rattle.table_lane.specs.LaneNames.{Idle, Copying, Copied, Cleared, free_entries, head_of}
use Rattle.table_lane.specs.Views.{TableBytes, SendPart, MovePart, RecvPart, BackPart, CutPart}
use Rattle.table_lane.specs.ShownLane.{number_at}

-- the sender loads the link word, or the index word
abbrev pub link_loaded : SendPart → ℕ → SendPart
link_loaded part found = record part { link_loads = part.link_loads + 1; link = found }

abbrev pub index_loaded : SendPart → ℕ → SendPart
index_loaded part found = record part { index_loads = part.index_loads + 1; index = found }

-- the position of the next entry, and the free entries by an index word
abbrev pub head : SendPart → ℕ
head part = head_of part.entries (length part.sent)

abbrev pub free_by : SendPart → ℕ → ℕ
free_by part index = free_entries part.entries (head part) index

-- it has the slot of the next entry, and sends a frame in it
abbrev pub slot_claimed : SendPart → SendPart
slot_claimed part = record part { claims = true }

abbrev pub frame_sent : SendPart → TableBytes → SendPart
frame_sent part frame = record part { sent = part.sent ++ frame ∷ []; claims = false }

-- the number of the entry that the mover takes next
abbrev pub table_taken : MovePart → ℕ
table_taken part = part.flagged + length part.held

-- the mover loads a posted header, takes a frame, stores the header of entry n, stores the flags of the first held
-- entry
abbrev pub posted_loaded : MovePart → ℕ → MovePart
posted_loaded part found = record part { loads = part.loads + 1; posted = found }

abbrev pub frame_taken : MovePart → TableBytes → MovePart
frame_taken part frame = record part { held = part.held ++ frame ∷ []; stored = part.stored ++ false ∷ [] }

abbrev pub header_stored : MovePart → ℕ → MovePart
header_stored part n = record part { stored = slice_set part.stored (n - part.flagged) true; headers = part.headers + 1 }

abbrev pub flag_stored : MovePart → MovePart
flag_stored part = record part { flagged = part.flagged + 1; held = drop 1 part.held; stored = drop 1 part.stored }

-- the receiver loads a flag, finds a frame, copies it, clears the flag and acknowledges the entry
abbrev pub flag_loaded : RecvPart → ℕ → RecvPart
flag_loaded part found = record part { loads = part.loads + 1; flag = found }

abbrev pub frame_found : RecvPart → TableBytes → RecvPart
frame_found part frame = record part { phase = Copying; hand = frame ∷ [] }

abbrev pub frame_copied : RecvPart → RecvPart
frame_copied part = record part { phase = Copied; got = part.got ++ part.hand; hand = [] }

abbrev pub flag_cleared : RecvPart → RecvPart
flag_cleared part = record part { phase = Cleared }

abbrev pub acknowledged : RecvPart → RecvPart
acknowledged part = record part { phase = Idle }

-- the way back loads index out, and stores what it loaded
abbrev pub index_out_loaded : BackPart → ℕ → BackPart
index_out_loaded part found = record part { loads = part.loads + 1; index = found }

abbrev pub index_named : BackPart → ℕ
index_named part = number_at part.entries part.freed part.index

abbrev pub index_stored : BackPart → BackPart
index_stored part = record part { freed = index_named part + 1 }

abbrev pub link_cut : CutPart → CutPart
link_cut part = record part { cut = true }
