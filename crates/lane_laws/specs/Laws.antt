-- What holds of every lane: each step keeps the law of the ring, and what the two sides read from it.
use Rattle.std.specs.Prelude.{◌≡◌, ◌≢◌, ℕ, ◌%◌, ◌<◌, ◌≤◌, true, false, List, [], ◌∷◌, ◌++◌, length, Contains}
use Rattle.lane_model.specs.Ring.{tail_of, room_of}
use Rattle.lane_model.specs.Lane.{Entry, GoesDown, Lane, bytes_of, copies_of, data_of, entry_of, lane_slot_of, free_in}
use Rattle.lane_model.specs.declared.Field.{Field}
use Rattle.lane_model.specs.declared.Field.TheVariants.{Chunk}
use Rattle.lane_model.specs.declared.Write.{Write}
use Rattle.lane_model.specs.declared.Write.TheVariants.{Data, Flag, Bell}
use Rattle.lane_model.specs.Law.{HoldsRingLaw, Stands, StandsWhole, Sender, owner_of, owner_at}
use Rattle.lane_model.specs.Steps.{after_begin, after_post, after_landing, after_look, after_copy, after_clear, after_ack, after_index, after_cut, after_drop}
use Rattle.lane_model.specs.declared.Phase.TheVariants.{Idle, Copying, Copied, Cleared}

-- a lane at the start of its session, in a ring of at least two entries: whatever payloads stand there, no flag is up
pub record IsFresh (lane : Lane) : Type 0 where
  pub two_entries : 2 ≤ lane.entries
  pub slots : length lane.ring ≡ lane.entries
  pub rooms : (k : ℕ) → k < lane.entries → length (lane_slot_of lane k).payload ≡ lane.largest
  pub no_flags : (k : ℕ) → (lane_slot_of lane k).flags ≡ 0
  pub index_word : lane.index_word ≡ tail_of lane.entries 0
  pub sent : lane.sent ≡ []
  pub todo : lane.todo ≡ []
  pub flight : lane.flight ≡ []
  pub returning : lane.returning ≡ []
  pub flagged : lane.flagged ≡ 0
  pub got : lane.got ≡ 0
  pub cleared : lane.cleared ≡ 0
  pub acked : lane.acked ≡ 0
  pub freed : lane.freed ≡ 0
  pub phase : lane.phase ≡ Idle

abbrev pub FreshHolds : Type 0
FreshHolds = (lane : Lane) → IsFresh lane → HoldsRingLaw lane

-- no link-down entry was begun
abbrev pub IsOpen : Lane → Type 0
IsOpen lane = (n : ℕ) → n < length lane.sent → entry_of lane n ≢ GoesDown

abbrev pub BeginKeeps : Type 0
BeginKeeps = (lane : Lane) (entry : Entry) → lane.todo ≡ [] → 0 < free_in lane → length (bytes_of entry) ≤ lane.largest → IsOpen lane
    → HoldsRingLaw lane → HoldsRingLaw (after_begin lane entry)

abbrev pub PostKeeps : Type 0
PostKeeps = (lane : Lane) (write : Write) (rest : List Write) → lane.todo ≡ write ∷ rest → HoldsRingLaw lane → HoldsRingLaw (after_post lane write rest)

-- a field may pass any write before it
abbrev pub LandDataKeeps : Type 0
LandDataKeeps = (lane : Lane) (n : ℕ) (field : Field) (before behind : List Write) → lane.flight ≡ before ++ Data n field ∷ behind
    → HoldsRingLaw lane → HoldsRingLaw (after_landing lane (Data n field) (before ++ behind))

-- flags and doorbells pass none
abbrev pub LandFlagKeeps : Type 0
LandFlagKeeps = (lane : Lane) (n : ℕ) (rest : List Write) → lane.flight ≡ Flag n ∷ rest → HoldsRingLaw lane → HoldsRingLaw (after_landing lane (Flag n) rest)

abbrev pub LandBellKeeps : Type 0
LandBellKeeps = (lane : Lane) (rest : List Write) → lane.flight ≡ Bell ∷ rest → HoldsRingLaw lane → HoldsRingLaw (after_landing lane Bell rest)

abbrev pub LookKeeps : Type 0
LookKeeps = (lane : Lane) → lane.phase ≡ Idle → lane.got < lane.flagged → HoldsRingLaw lane → HoldsRingLaw (after_look lane)

abbrev pub CopyKeeps : Type 0
CopyKeeps = (lane : Lane) → lane.phase ≡ Copying → HoldsRingLaw lane → HoldsRingLaw (after_copy lane)

abbrev pub ClearKeeps : Type 0
ClearKeeps = (lane : Lane) → lane.phase ≡ Copied → HoldsRingLaw lane → HoldsRingLaw (after_clear lane)

abbrev pub AckKeeps : Type 0
AckKeeps = (lane : Lane) → lane.phase ≡ Cleared → HoldsRingLaw lane → HoldsRingLaw (after_ack lane)

abbrev pub IndexKeeps : Type 0
IndexKeeps = (lane : Lane) (n : ℕ) (rest : List ℕ) → lane.returning ≡ n ∷ rest → HoldsRingLaw lane → HoldsRingLaw (after_index lane n rest)

abbrev pub CutKeeps : Type 0
CutKeeps = (lane : Lane) → HoldsRingLaw lane → HoldsRingLaw (after_cut lane)

abbrev pub DropKeeps : Type 0
DropKeeps = (lane : Lane) → lane.up ≡ false → HoldsRingLaw lane → HoldsRingLaw (after_drop lane)

-- a sender forgets a session that is lost: what it had left to post is lost with the rest
abbrev pub ForgetKeeps : Type 0
ForgetKeeps = (lane : Lane) → lane.up ≡ false → HoldsRingLaw lane → HoldsRingLaw (record lane { todo = [] })

-- what the sender reads: head and index word show the entries that are free
abbrev pub LaneFreeIsRoom : Type 0
LaneFreeIsRoom = (lane : Lane) → HoldsRingLaw lane → free_in lane ≡ room_of lane.entries (length lane.sent) lane.freed

-- what an idle receiver reads: flags just where the next entry has landed, and then the entry whole
pub record SeesNext (lane : Lane) : Type 0 where
  pub nothing : lane.flagged ≡ lane.got → (lane_slot_of lane lane.got).flags ≡ 0
  pub an_entry : lane.got < lane.flagged → StandsWhole (lane_slot_of lane lane.got) lane.got (entry_of lane lane.got)
  pub one_of_both : lane.got ≤ lane.flagged

abbrev pub LookSees : Type 0
LookSees = (lane : Lane) → lane.phase ≡ Idle → HoldsRingLaw lane → SeesNext lane

-- what a copying receiver reads: the entry, whole, and of it the part that it copies next
abbrev pub CopySees : Type 0
CopySees = (lane : Lane) → lane.phase ≡ Copying → HoldsRingLaw lane → (lane.got < lane.flagged) × StandsWhole (lane_slot_of lane lane.got) lane.got (entry_of lane lane.got)
    × (lane.part < copies_of (entry_of lane lane.got)) × Stands (lane_slot_of lane lane.got) lane.got (entry_of lane lane.got) (Chunk lane.part)

-- what lands next: the flags of the first entry that has none, and the index write of the first entry not given back.
-- Fields in flight are of entries that have no flags yet.
abbrev pub FlagIsNext : Type 0
FlagIsNext = (lane : Lane) (n : ℕ) (rest : List Write) → lane.flight ≡ Flag n ∷ rest → HoldsRingLaw lane → (n ≡ lane.flagged) × (n < length lane.sent)

abbrev pub IndexIsNext : Type 0
IndexIsNext = (lane : Lane) (n : ℕ) (rest : List ℕ) → lane.returning ≡ n ∷ rest → HoldsRingLaw lane → (n ≡ lane.freed) × (n < lane.acked)

abbrev pub DataIsAhead : Type 0
DataIsAhead = (lane : Lane) (n : ℕ) (field : Field) → Contains lane.flight (Data n field) → HoldsRingLaw lane
    → (lane.flagged ≤ n) × (n < length lane.sent) × Contains (data_of n (entry_of lane n)) (Data n field)

-- where nothing is on its way and nothing is left to post, every entry has its flags
abbrev pub NothingLeft : Type 0
NothingLeft = (lane : Lane) → lane.up ≡ true → lane.flight ≡ [] → lane.todo ≡ [] → HoldsRingLaw lane → lane.flagged ≡ length lane.sent

-- each slot has one owner: that of the entry which it is for, or the sender where no entry has it
pub record HasOneOwner (lane : Lane) : Type 0 where
  pub of_entry : (n : ℕ) → lane.freed ≤ n → n < length lane.sent → owner_at lane (n % lane.entries) ≡ owner_of lane n
  pub of_none : (slot : ℕ) → slot < lane.entries → ((n : ℕ) → lane.freed ≤ n → n < length lane.sent → n % lane.entries ≢ slot) → owner_at lane slot ≡ Sender

abbrev pub EachHasOneOwner : Type 0
EachHasOneOwner = (lane : Lane) → HoldsRingLaw lane → HasOneOwner lane
