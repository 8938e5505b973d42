-- One lane in one session: what its sender began, what is on its way, the ring in the receiver's memory, and how far
-- each has come. `ntb_transport` moves frames in the same way. Payload and header go into a ring in the peer's memory,
-- then the header's DONE flag and a doorbell. An index is written back once the receiver is done.
use Rattle.std.specs.Prelude.{ℕ, zero, suc, ◌+◌, ◌-◌, ◌*◌, ◌/◌, ◌%◌, ◌^◌, max, Bool, true, List, [], ◌∷◌, ◌++◌, length, map, take, drop, replicate, slice_index_or, slice_set}
use Rattle.lane_model.specs.Ring.{head_of, free_entries}
pub use Rattle.lane_model.specs.declared.Field.{Field}
pub use Rattle.lane_model.specs.declared.Field.TheVariants.{Chunk, Length, Version}
pub use Rattle.lane_model.specs.declared.Write.{Write}
pub use Rattle.lane_model.specs.declared.Write.TheVariants.{Data, Flag, Bell}
use Rattle.lane_model.specs.declared.Phase.{Phase}
use Rattle.lane_model.specs.declared.Phase.TheVariants.{Idle}

-- What a sender puts into one slot of the ring: a piece of a frame, or the word that this end of the queue goes down. A
-- piece has the number of pieces that follow it. A frame that fits one slot is one piece, and none is left.
pub data Entry : Type 0 where
  Carries : (bytes : List ℕ) (left : ℕ) → Entry
  GoesDown : Entry

abbrev pub bytes_of : Entry → List ℕ
bytes_of (Carries bytes left) = bytes
bytes_of GoesDown = []

-- how many entries of its frame follow it
abbrev pub left_of : Entry → ℕ
left_of (Carries bytes left) = left
left_of GoesDown = 0

-- A slot of the ring: the payload at its beginning, and the four fields of the header at its end.
pub record Slot : Type 0 where
  pub payload : List ℕ
  pub left : ℕ
  pub ver : ℕ
  pub len : ℕ
  pub flags : ℕ

abbrev pub blank_slot : Slot
blank_slot = record { payload = []; left = 0; ver = 0; len = 0; flags = 0 }

-- a slot of which all bytes are zero
abbrev pub zeroed_slot : ℕ → Slot
zeroed_slot largest = record { payload = replicate largest 0; left = 0; ver = 0; len = 0; flags = 0 }

pub record Lane : Type 0 where
  -- how many slots the ring has, and the most bytes that a payload takes
  pub entries : ℕ
  pub largest : ℕ
  -- whether what is posted is on its way; once the link is lost it is not
  pub up : Bool
  -- the entries that the sender began in this session, numbered from 0, and the writes of the last one that are left to
  -- post
  pub sent : List Entry
  pub todo : List Write
  -- the writes in flight towards the receiver, and the numbers of the index writes in flight back to the sender
  pub flight : List Write
  pub returning : List ℕ
  -- the ring in the receiver's memory, and the index word in the sender's
  pub ring : List Slot
  pub index_word : ℕ
  -- how many entries have their flags landed, were copied whole, were cleared, had their index write posted and had it
  -- landed
  pub flagged : ℕ
  pub got : ℕ
  pub cleared : ℕ
  pub acked : ℕ
  pub freed : ℕ
  -- where the receiver stands with the entry that it looked at last; while it copies, that is entry `got`, and `part`
  -- parts of it were copied
  pub phase : Phase
  pub part : ℕ

-- a lane in which nothing was begun, with this ring and this index word
abbrev pub new_lane : ℕ → ℕ → List Slot → ℕ → Lane
new_lane entries largest ring index_word =
    record {
      entries = entries;
      largest = largest;
      up = true;
      sent = [];
      todo = [];
      flight = [];
      returning = [];
      ring = ring;
      index_word = index_word;
      flagged = 0;
      got = 0;
      cleared = 0;
      acked = 0;
      freed = 0;
      phase = Idle;
      part = 0;
    }

-- the bytes of a chunk; a payload is cut from its start, and the last chunk may be shorter
abbrev pub chunk_size : ℕ
chunk_size = 128

-- how many chunks this many bytes are
abbrev pub chunks_in : ℕ → ℕ
chunks_in len = (len + chunk_size - 1) / chunk_size

-- how many copies an entry takes: one for each chunk, and one where there is none
abbrev pub copies_of : Entry → ℕ
copies_of entry = max 1 (chunks_in (length (bytes_of entry)))

-- a chunk of a payload
abbrev pub chunk_of : List ℕ → ℕ → List ℕ
chunk_of bytes part = take chunk_size (drop (chunk_size * part) bytes)

-- this many numbers from this one on
abbrev pub count_from : ℕ → ℕ → List ℕ
count_from from zero = []
count_from from (suc more) = from ∷ count_from (suc from) more

-- the writes of an entry: its chunks, its length and its version, then its flags, then the doorbell
abbrev pub data_of : ℕ → Entry → List Write
data_of n entry = map (λ part. Data n (Chunk part)) (count_from 0 (chunks_in (length (bytes_of entry)))) ++ Data n Length ∷ Data n Version ∷ []

abbrev pub writes_of : ℕ → Entry → List Write
writes_of n entry = data_of n entry ++ Flag n ∷ Bell ∷ []

-- the flags of a header: DONE, and LINK_DOWN beside it
abbrev pub done : ℕ
done = 1

abbrev pub flags_of : Entry → ℕ
flags_of (Carries bytes left) = done
flags_of GoesDown = done + 2

-- the version of a header is the entry's number in 32 bits
abbrev pub version_of : ℕ → ℕ
version_of n = n % 2 ^ 32

-- entry n
abbrev pub entry_of : Lane → ℕ → Entry
entry_of lane n = slice_index_or lane.sent n GoesDown

-- the slot of entry n
abbrev pub lane_slot_of : Lane → ℕ → Slot
lane_slot_of lane n = slice_index_or lane.ring (n % lane.entries) blank_slot

-- the ring with another slot at the slot of entry n
abbrev pub ring_with : Lane → ℕ → Slot → List Slot
ring_with lane n slot = slice_set lane.ring (n % lane.entries) slot

-- bytes written over others from a place on
abbrev pub overwritten : ℕ → List ℕ → List ℕ → List ℕ
overwritten at bytes old = take at old ++ bytes ++ drop (at + length bytes) old

-- a slot with a field of entry n in it; the version is written with the number of entries that follow
abbrev pub with_field : Slot → ℕ → Entry → Field → Slot
with_field slot n entry (Chunk part) = record slot { payload = overwritten (chunk_size * part) (chunk_of (bytes_of entry) part) slot.payload }
with_field slot n entry Length = record slot { len = length (bytes_of entry) }
with_field slot n entry Version = record slot { left = left_of entry; ver = version_of n }

abbrev pub with_flags : Slot → ℕ → Slot
with_flags slot flags = record slot { flags = flags }

-- the free entries, as the sender counts them by its head and the index word in its memory
abbrev pub free_in : Lane → ℕ
free_in lane = free_entries lane.entries (head_of lane.entries (length lane.sent)) lane.index_word
