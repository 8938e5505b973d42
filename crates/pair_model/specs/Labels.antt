-- The posted writes of a lane by their labels: those of an entry, and which labels are of a lane.
use Rattle.std.specs.Prelude.{ℕ, ◌==◌, Option, Some, None, List, map, if◌then◌else◌}
use Rattle.std.specs.List.{filter_map}
use Rattle.step_kinds.specs.declared.steps.Label.{Label}
use Rattle.step_kinds.specs.declared.steps.Label.TheVariants.{Chunk, Len, Ver, Flag, Down, Bell, Index}
use Rattle.lane_model.specs.Lane.{Entry, Carries, GoesDown, writes_of}
use Rattle.lane_model.specs.declared.Field.TheVariants.{Chunk as PayloadChunk, Length, Version}
use Rattle.lane_model.specs.declared.Write.{Write}
use Rattle.lane_model.specs.declared.Write.TheVariants.{Data, Flag as EntryFlag, Bell as QueueBell}

-- the label of a lane's write on a queue, the entry being given
abbrev pub label_of : ℕ → Entry → Write → Label
label_of q entry (Data n (PayloadChunk part)) = Chunk q n part
label_of q entry (Data n Length) = Len q n
label_of q entry (Data n Version) = Ver q n
label_of q (Carries bytes left) (EntryFlag n) = Flag q n
label_of q GoesDown (EntryFlag n) = Down q n
label_of q entry QueueBell = Bell q

-- the labels of an entry's writes, in the order in which they are posted
abbrev pub labels_of : ℕ → ℕ → Entry → List Label
labels_of q n entry = map (label_of q entry) (writes_of n entry)

-- the write of a queue's lane that a label means, if it means one
abbrev pub write_of : ℕ → Label → Option Write
write_of q (Chunk p n part) = if p == q then Some (Data n (PayloadChunk part)) else None
write_of q (Len p n) = if p == q then Some (Data n Length) else None
write_of q (Ver p n) = if p == q then Some (Data n Version) else None
write_of q (Flag p n) = if p == q then Some (EntryFlag n) else None
write_of q (Down p n) = if p == q then Some (EntryFlag n) else None
write_of q (Bell p) = if p == q then Some QueueBell else None
write_of q label = None

-- the number of the entry that an index write on a queue gives back, if a label means one
abbrev pub label_index_of : ℕ → Label → Option ℕ
label_index_of q (Index p n) = if p == q then Some n else None
label_index_of q label = None

-- the writes of a queue's lane among those in flight from its sender, and its index writes among those from its
-- receiver
abbrev pub writes_among : ℕ → List Label → List Write
writes_among q labels = filter_map (write_of q) labels

abbrev pub indexes_among : ℕ → List Label → List ℕ
indexes_among q labels = filter_map (label_index_of q) labels
