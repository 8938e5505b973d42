-- The shapes of answers and labels: a word, numbers with names, and what stands at the end.
use Rattle.std.specs.Prelude.{ℕ, List, [], Option, Some, None, codes}
use Rattle.step_kinds.specs.declared.shapes.NamedNumber.{NamedNumber}
use Rattle.step_kinds.specs.declared.shapes.NumberName.{NumberName}
use Rattle.step_kinds.specs.declared.shapes.NumberName.TheVariants as name
use Rattle.step_kinds.specs.declared.shapes.Numbers.{Numbers}
use Rattle.step_kinds.specs.declared.shapes.Numbers.TheVariants as are
use Rattle.step_kinds.specs.declared.shapes.Shape.{Shape}
use Rattle.step_kinds.specs.declared.shapes.ShapeEnd.{ShapeEnd}
use Rattle.step_kinds.specs.declared.shapes.ShapeEnd.TheVariants as ends
use Rattle.step_kinds.specs.declared.steps.Answer.{Answer}
use Rattle.step_kinds.specs.declared.steps.Answer.TheVariants.{Ok as Done, OkSession, OkNumber, NotDown, Dirty, NotEnabled, Spent, NotUp, NotClosing, LinkDown, Already, Offered, NotYet, Version, Queues, Windows, Size, Up, NotChecked, NotReady, Joined, Closed, TooLong, Busy, Stopped, Again, Idle, Posted, Nothing, Blocked, Landed, OutOfTurn, Empty, PeerDown, VerDiffers, Long, ReadyFrame, Copied, Delivered, Cleared, Acked, Awake, Irq, Mem, PadValue, QueueShown, Short, Filtered, To, Flood}
use Rattle.step_kinds.specs.declared.steps.Label.{Label}
use Rattle.step_kinds.specs.declared.steps.Label.TheVariants.{Chunk, Len, Ver, Flag, Down, Bell, Index, Pad, Raw}

-- a shape, its word as bytes
pub record ShapeSeen : Type 0 where
  pub word : List ℕ
  pub numbers : Numbers
  pub end : ShapeEnd

abbrev pub seen_of : Shape → ShapeSeen
seen_of shape = record { word = shape.word.now; numbers = shape.numbers; end = shape.end }

abbrev pub named_number : NumberName → ℕ → NamedNumber
named_number name value = record { name = name; value = value }

-- a word with numbers, and nothing at its end
abbrev pub without_end : List ℕ → Numbers → ShapeSeen
without_end word numbers = record { word = word; numbers = numbers; end = ends.Nothing }

-- a shape with this end
abbrev pub ended : ShapeSeen → ShapeEnd → ShapeSeen
ended shape end = record shape { end = end }

abbrev pub word_alone : List ℕ → ShapeSeen
word_alone word = without_end word are.None

abbrev pub with_one : List ℕ → NamedNumber → ShapeSeen
with_one word first = without_end word (are.One first)

abbrev pub with_two : List ℕ → NamedNumber → NamedNumber → ShapeSeen
with_two word first second = without_end word (are.Two first second)

abbrev pub with_three : List ℕ → NamedNumber → NamedNumber → NamedNumber → ShapeSeen
with_three word first second third = without_end word (are.Three first second third)

-- what was read of the peer, and what the side itself has
abbrev pub with_seen_and_own : List ℕ → ℕ → ℕ → ShapeSeen
with_seen_and_own word seen own = with_two word (named_number name.Seen seen) (named_number name.Own own)

-- a length, and the most that there may be
abbrev pub with_len_and_max : List ℕ → ℕ → ℕ → ShapeSeen
with_len_and_max word len max = with_two word (named_number name.Len len) (named_number name.Max max)

-- a queue, and the number of an entry
abbrev pub with_entry : List ℕ → ℕ → ℕ → ShapeSeen
with_entry word queue number = with_two word (named_number name.Queue queue) (named_number name.Number number)

-- the write at a place in flight, if one is there
abbrev pub shown_end : Option Label → ShapeEnd
shown_end None = ends.NoLabel
shown_end (Some label) = ends.Label label

abbrev pub label_shape : Label → ShapeSeen
label_shape (Chunk queue number part) = with_three (codes "chunk") (named_number name.Queue queue) (named_number name.Number number) (named_number name.Part part)
label_shape (Len queue number) = with_entry (codes "len") queue number
label_shape (Ver queue number) = with_entry (codes "ver") queue number
label_shape (Flag queue number) = with_entry (codes "flag") queue number
label_shape (Down queue number) = with_entry (codes "down") queue number
label_shape (Bell queue) = with_one (codes "bell") (named_number name.Queue queue)
label_shape (Index queue number) = with_entry (codes "index") queue number
label_shape (Pad index value) = with_two (codes "pad") (named_number name.Index index) (named_number name.Value value)
label_shape (Raw window offset len) = with_three (codes "raw") (named_number name.Window window) (named_number name.Offset offset) (named_number name.Len len)

abbrev pub answer_shape : Answer → ShapeSeen
answer_shape Done = word_alone (codes "ok")
answer_shape (OkSession session) = with_one (codes "ok") (named_number name.Session session)
answer_shape (OkNumber number) = with_one (codes "ok") (named_number name.Number number)
answer_shape NotDown = word_alone (codes "notdown")
answer_shape Dirty = word_alone (codes "dirty")
answer_shape NotEnabled = word_alone (codes "notenabled")
answer_shape Spent = word_alone (codes "spent")
answer_shape NotUp = word_alone (codes "notup")
answer_shape NotClosing = word_alone (codes "notclosing")
answer_shape LinkDown = word_alone (codes "linkdown")
answer_shape Already = word_alone (codes "already")
answer_shape (Offered index) = with_one (codes "offered") (named_number name.Index index)
answer_shape NotYet = word_alone (codes "notyet")
answer_shape (Version seen own) = with_seen_and_own (codes "version") seen own
answer_shape (Queues seen own) = with_seen_and_own (codes "queues") seen own
answer_shape (Windows seen own) = with_seen_and_own (codes "windows") seen own
answer_shape (Size seen cap) = with_two (codes "size") (named_number name.SeenSize seen) (named_number name.Cap cap)
answer_shape Up = word_alone (codes "up")
answer_shape NotChecked = word_alone (codes "notchecked")
answer_shape NotReady = word_alone (codes "notready")
answer_shape Joined = word_alone (codes "joined")
answer_shape Closed = word_alone (codes "closed")
answer_shape (TooLong len max) = with_len_and_max (codes "toolong") len max
answer_shape Busy = word_alone (codes "busy")
answer_shape Stopped = word_alone (codes "stopped")
answer_shape (Again head tail) = with_two (codes "again") (named_number name.Head head) (named_number name.Tail tail)
answer_shape Idle = word_alone (codes "idle")
answer_shape (Posted label) = ended (word_alone (codes "posted")) (ends.Label label)
answer_shape Nothing = word_alone (codes "nothing")
answer_shape Blocked = word_alone (codes "blocked")
answer_shape (Landed label) = ended (word_alone (codes "landed")) (ends.Label label)
answer_shape OutOfTurn = word_alone (codes "outofturn")
answer_shape Empty = word_alone (codes "empty")
answer_shape PeerDown = word_alone (codes "peerdown")
answer_shape (VerDiffers seen own) = with_seen_and_own (codes "verdiffers") seen own
answer_shape (Long len max) = with_len_and_max (codes "long") len max
answer_shape (ReadyFrame number len) = with_two (codes "ready") (named_number name.Number number) (named_number name.Len len)
answer_shape (Copied number part) = with_two (codes "copied") (named_number name.Number number) (named_number name.Part part)
answer_shape (Delivered number frame) = ended (with_one (codes "frame") (named_number name.Number number)) ends.Frame
answer_shape (Cleared number) = with_one (codes "cleared") (named_number name.Number number)
answer_shape (Acked number) = with_one (codes "acked") (named_number name.Number number)
answer_shape Awake = word_alone (codes "awake")
answer_shape (Irq bits) = with_one (codes "irq") (named_number name.Bits bits)
answer_shape (Mem bytes) = ended (word_alone (codes "mem")) ends.Bytes
answer_shape (PadValue value) = with_one (codes "pad") (named_number name.Value value)
answer_shape (QueueShown count label) = ended (with_one (codes "queue") (named_number name.Count count)) (shown_end label)
answer_shape (Short len) = with_one (codes "short") (named_number name.Len len)
answer_shape Filtered = word_alone (codes "filtered")
answer_shape (To port) = with_one (codes "to") (named_number name.Port port)
answer_shape (Flood count) = with_one (codes "flood") (named_number name.Count count)

-- the bytes that an answer ends with
abbrev pub answer_bytes : Answer → List ℕ
answer_bytes (Delivered number frame) = frame
answer_bytes (Mem bytes) = bytes
answer_bytes answer = []
