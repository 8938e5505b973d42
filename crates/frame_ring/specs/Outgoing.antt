-- The sender's end, as the crate keeps it.
use Rattle.std.specs.Prelude.{◌≡◌, ℕ, ◌+◌, ◌-◌, ◌^◌, ◌<◌, ◌≤◌, ◌==◌, Bool, true, false, Option, Some, None, List, [], ◌∷◌, ◌++◌, length, nat_lt, drop, slice_index_or, if◌then◌else◌}
use Rattle.step_kinds.specs.declared.steps.Label.{Label}
use Rattle.step_kinds.specs.declared.steps.Label.TheVariants.{Chunk, Len, Ver, Flag, Down, Bell}
use Rattle.step_kinds.specs.Limits.{most_count, most_frame_bytes}
use Rattle.lane_model.specs.Lane.{Entry, Carries, GoesDown, bytes_of, chunks_in}
use Rattle.pair_model.specs.Labels.{labels_of}
use Rattle.pair_model.specs.Pieces.{pieces_of}
use Rattle.frame_ring.specs.Port.{Sending, left_of_entry, writes_from}
use Rattle.frame_ring.specs.declared.sending.Sender.TheInside.{Inside as SenderInside}

-- the entries of the frame under way; where none is, that of a queue that goes down
abbrev pub entries_under : ℕ → Option (List ℕ) → List Entry
entries_under largest None = GoesDown ∷ []
entries_under largest (Some bytes) = pieces_of largest bytes

abbrev pub entry_at : List Entry → ℕ → Entry
entry_at entries k = slice_index_or entries k GoesDown

-- how many writes an entry takes: its chunks, its length, its version, its flags and the doorbell
abbrev pub port_writes_in : Entry → ℕ
port_writes_in entry = chunks_in (length (bytes_of entry)) + 4

abbrev pub all_writes_in : List Entry → ℕ
all_writes_in [] = 0
all_writes_in (entry ∷ entries) = port_writes_in entry + all_writes_in entries

-- a sender with the number of its queue and the most bytes of an entry's payload
pub record Outgoing : Type 0 where
  pub queue : ℕ
  pub largest : ℕ
  pub sending : Sending

abbrev pub with_progress : Outgoing → Sending → Outgoing
with_progress outgoing sending = record outgoing { sending = sending }

abbrev pub count_left : Outgoing → ℕ
count_left outgoing = length (left_of_entry outgoing.sending.entry outgoing.sending.todo ++ writes_from outgoing.queue outgoing.sending.begun outgoing.sending.waiting)

-- the entry at hand is this piece of the frame under way, of which this write is next
abbrev pub progress_at : ℕ → List Entry → ℕ → ℕ → ℕ → ℕ → Sending
progress_at queue entries piece next begun told =
    record {
      begun = begun;
      told = told;
      entry = entry_at entries piece;
      todo = drop next (labels_of queue (begun - 1) (entry_at entries piece));
      waiting = drop (piece + 1) entries;
    }

abbrev pub sender_seen : SenderInside → Outgoing
sender_seen sender =
    record {
      queue = sender.queue;
      largest = sender.largest;
      sending = progress_at sender.queue (entries_under sender.largest sender.frame) sender.piece sender.next sender.begun sender.told;
    }

-- the most entries and frames of one session
abbrev pub most_numbers : ℕ
most_numbers = most_count

-- the most writes of a frame that are left to post
abbrev pub most_writes_left : ℕ
most_writes_left = 2 ^ 30

-- the most bytes of an entry's payload
pub record IsMostPayload (largest : ℕ) : Type 0 where
  pub some : 4 ≤ largest
  pub few : largest ≤ most_frame_bytes

pub record IsSender (sender : SenderInside) : Type 0 where
  pub payload : IsMostPayload sender.largest
  pub open payload use *
  pub pieces : sender.pieces ≡ length (entries_under sender.largest sender.frame)
  pub piece : sender.piece < sender.pieces
  pub few_pieces : sender.pieces ≤ most_frame_bytes
  pub next : sender.next ≤ port_writes_in (entry_at (entries_under sender.largest sender.frame) sender.piece)
  pub left : sender.left + sender.next ≡ all_writes_in (drop sender.piece (entries_under sender.largest sender.frame))
  pub begun : sender.begun + sender.pieces ≤ most_numbers + sender.piece + 1
  pub told : sender.told ≤ most_numbers
  pub few_left : sender.left ≤ most_writes_left
  -- what is posted whole is let go
  pub gone : sender.left ≡ 0 → sender.frame ≡ None

-- the label is of one of the entry's writes
abbrev pub IsLabelOf : ℕ → Entry → Label → Type 0
IsLabelOf queue entry (Chunk q n part) = (q ≡ queue) × (part < chunks_in (length (bytes_of entry)))
IsLabelOf queue entry (Len q n) = q ≡ queue
IsLabelOf queue entry (Ver q n) = q ≡ queue
IsLabelOf queue entry (Flag q n) = q ≡ queue
IsLabelOf queue entry (Down q n) = q ≡ queue
IsLabelOf queue entry (Bell q) = q ≡ queue
IsLabelOf queue entry label = ⊥

-- the entry carries a piece of a frame
abbrev pub carries_bytes : Entry → Bool
carries_bytes (Carries bytes left) = true
carries_bytes GoesDown = false

-- the label of write `next` of an entry of this many chunks
abbrev pub label_by : ℕ → ℕ → ℕ → Bool → ℕ → Option Label
label_by queue n chunks carries next =
    if nat_lt next chunks then Some (Chunk queue n next)
    else if next == chunks then Some (Len queue n)
    else if next == chunks + 1 then Some (Ver queue n)
    else if next == chunks + 2 then Some (if carries then Flag queue n else Down queue n)
    else if next == chunks + 3 then Some (Bell queue)
    else None
