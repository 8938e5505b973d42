-- The law of a lane's ring: who owns each slot at each moment, and what stands there.
--
-- The law holds of a lane from the start of its session until the receiver forgets the session. It speaks of relaxed
-- and of strict lanes at once: only which landings may happen tells them apart.
use Rattle.std.specs.Prelude.{◌≡◌, ℕ, suc, ◌+◌, ◌-◌, ◌*◌, ◌%◌, ◌<◌, ◌≤◌, true, List, [], ◌∷◌, ◌++◌, length, drop, take, slice_index_or, if◌then◌else◌, nat_lt, ◌⊎◌, Contains}
use Rattle.lane_model.specs.Ring.{tail_of}
use Rattle.lane_model.specs.Lane.{Entry, GoesDown, Field, Chunk, Length, Version, Write, Data, Flag, Bell, Slot, blank_slot, Lane, bytes_of, left_of, chunk_of, chunk_size, count_from, copies_of, data_of, writes_of, flags_of, version_of}
use Rattle.lane_model.specs.declared.Phase.{Phase}
use Rattle.lane_model.specs.declared.Phase.TheVariants.{Idle, Copying, Copied, Cleared}

-- How far the receiver's counts are apart in each phase.
abbrev pub PhaseCounts : Phase → (acked cleared got flagged : ℕ) → Type 0
PhaseCounts Idle acked cleared got flagged = (acked ≡ cleared) × (cleared ≡ got)
PhaseCounts Copying acked cleared got flagged = (acked ≡ cleared) × (cleared ≡ got) × (got < flagged)
PhaseCounts Copied acked cleared got flagged = (acked ≡ cleared) × (cleared + 1 ≡ got)
PhaseCounts Cleared acked cleared got flagged = (acked + 1 ≡ cleared) × (cleared ≡ got)

-- these are some of those, in their order
pub data IsPickedFrom : List Write → List Write → Type 0 where
  Nothing : {ys : List Write} → IsPickedFrom [] ys
  Taken : {x : Write} {xs ys : List Write} → IsPickedFrom xs ys → IsPickedFrom (x ∷ xs) (x ∷ ys)
  Left : {y : Write} {xs ys : List Write} → IsPickedFrom xs ys → IsPickedFrom xs (y ∷ ys)

-- What is left to land of the entries from number n on: of each, some of its fields, then its flags and its doorbell.
abbrev pub AreLeft : ℕ → List Entry → List Write → Type 0
AreLeft n [] writes = writes ≡ []
AreLeft n (entry ∷ entries) writes = (fields : List Write) × (rest : List Write) × (writes ≡ fields ++ Flag n ∷ Bell ∷ rest) × IsPickedFrom fields (data_of n entry) × AreLeft (suc n) entries rest

-- The same with the doorbell of the entry before in front of it or not, this many entries having their flags.
abbrev pub AreLeftToLand : ℕ → List Entry → List Write → Type 0
AreLeftToLand flagged sent writes =
    AreLeft flagged (drop flagged sent) writes ⊎ ((rest : List Write) × (writes ≡ Bell ∷ rest) × (0 < flagged) × AreLeft flagged (drop flagged sent) rest)

-- entry n of those that were begun
abbrev pub entry_among : List Entry → ℕ → Entry
entry_among sent n = slice_index_or sent n GoesDown

-- the slot of entry n in a ring
abbrev pub slot_among : ℕ → List Slot → ℕ → Slot
slot_among entries ring n = slice_index_or ring (n % entries) blank_slot

-- the writes that are left to post end those of the entry that was begun last
abbrev pub EndTheLast : List Entry → List Write → Type 0
EndTheLast sent todo = (todo ≡ []) ⊎ ((n : ℕ) × (posted : List Write) × (n + 1 ≡ length sent) × (writes_of n (entry_among sent n) ≡ posted ++ todo))

-- a field of entry n stands in a slot
abbrev pub Stands : Slot → ℕ → Entry → Field → Type 0
Stands slot n entry (Chunk part) = take (length (chunk_of (bytes_of entry) part)) (drop (chunk_size * part) slot.payload) ≡ chunk_of (bytes_of entry) part
Stands slot n entry Length = slot.len ≡ length (bytes_of entry)
Stands slot n entry Version = (slot.left ≡ left_of entry) × (slot.ver ≡ version_of n)

-- an entry stands whole in a slot: payload, what follows, length, version and flags
pub record StandsWhole (slot : Slot) (n : ℕ) (entry : Entry) : Type 0 where
  pub payload : take (length (bytes_of entry)) slot.payload ≡ bytes_of entry
  pub left : slot.left ≡ left_of entry
  pub len : slot.len ≡ length (bytes_of entry)
  pub ver : slot.ver ≡ version_of n
  pub flags : slot.flags ≡ flags_of entry

-- The law falls into parts, each over the numbers and lists that it speaks of.

-- the ring has its slots, each with room for the largest payload
pub record HasSlots (entries largest : ℕ) (ring : List Slot) : Type 0 where
  pub two_entries : 2 ≤ entries
  pub slots : length ring ≡ entries
  pub rooms : (k : ℕ) → k < entries → length (slice_index_or ring k blank_slot).payload ≡ largest

-- each frame fits, and after a link-down entry comes no other
pub record EntriesFit (largest : ℕ) (sent : List Entry) : Type 0 where
  pub fits : (n : ℕ) → n < length sent → length (bytes_of (entry_among sent n)) ≤ largest
  pub down_is_last : (n : ℕ) → n < length sent → entry_among sent n ≡ GoesDown → n + 1 ≡ length sent

-- the counts follow one another, and one entry stays free
pub record CountsFollow (entries begun flagged got cleared acked freed : ℕ) : Type 0 where
  pub freed_first : freed ≤ acked
  pub acked_first : acked ≤ cleared
  pub cleared_first : cleared ≤ got
  pub got_first : got ≤ flagged
  pub flagged_first : flagged ≤ begun
  pub one_free : begun + 1 ≤ freed + entries

-- where the receiver stands; a copying one has a copy left to make
pub record ReceiverStands (phase : Phase) (part acked cleared got flagged : ℕ) (sent : List Entry) : Type 0 where
  pub phase_counts : PhaseCounts phase acked cleared got flagged
  pub part_first : phase ≡ Copying → part < copies_of (entry_among sent got)

-- what the sender began lands in this order, fields alone excepted, `coming` being what is in flight, lost and to post
pub record WritesCome (flagged : ℕ) (sent : List Entry) (coming todo : List Write) : Type 0 where
  pub left : AreLeftToLand flagged sent coming
  pub last : EndTheLast sent todo

-- the receiver finds DONE just where an entry stands whole; each field of an entry without its flags is to come or
-- stands
pub record SlotsStand (entries : ℕ) (ring : List Slot) (sent : List Entry) (cleared flagged : ℕ) (coming : List Write) : Type 0 where
  pub whole : (n : ℕ) → cleared ≤ n → n < flagged → StandsWhole (slot_among entries ring n) n (entry_among sent n)
  pub empty : (n : ℕ) → flagged ≤ n → n < cleared + entries → (slot_among entries ring n).flags ≡ 0
  pub landed : (n : ℕ) (field : Field) → flagged ≤ n → n < length sent → Contains (data_of n (entry_among sent n)) (Data n field)
      → Contains coming (Data n field) ⊎ Stands (slot_among entries ring n) n (entry_among sent n) field

-- the index writes on their way are those of the entries that were acknowledged and not yet given back
pub record IndexesCome (entries freed acked index_word : ℕ) (coming : List ℕ) : Type 0 where
  pub returning : coming ≡ count_from freed (acked - freed)
  pub index_word_is : index_word ≡ tail_of entries freed

-- The law, `lost` being writes that will not land any more: posted after the link was lost, dropped from flight, or
-- forgotten before they were posted. `lost_back` is the same of index writes.
pub record RingLaw (lost : List Write) (lost_back : List ℕ) (lane : Lane) : Type 0 where
  pub room : HasSlots lane.entries lane.largest lane.ring
  pub frames : EntriesFit lane.largest lane.sent
  pub counts : CountsFollow lane.entries (length lane.sent) lane.flagged lane.got lane.cleared lane.acked lane.freed
  pub receiver : ReceiverStands lane.phase lane.part lane.acked lane.cleared lane.got lane.flagged lane.sent
  pub coming : WritesCome lane.flagged lane.sent (lane.flight ++ lost ++ lane.todo) lane.todo
  pub none_lost : lane.up ≡ true → (lost ≡ []) × (lost_back ≡ [])
  pub standing : SlotsStand lane.entries lane.ring lane.sent lane.cleared lane.flagged (lane.flight ++ lost ++ lane.todo)
  pub back : IndexesCome lane.entries lane.freed lane.acked lane.index_word (lane.returning ++ lost_back)

-- the law holds, whatever was lost
abbrev pub HoldsRingLaw : Lane → Type 0
HoldsRingLaw lane = (lost : List Write) × (lost_back : List ℕ) × RingLaw lost lost_back lane

-- who owns a slot
pub data Owner : Type 0 where
  -- it is free for the sender's next entries
  Sender : Owner
  -- its entry was begun, and the entry's flags have not landed
  InFlight : Owner
  -- its flags say DONE and the receiver has not copied it whole
  Landed : Owner
  -- the receiver has copied it whole and has not posted its index write
  Receiver : Owner
  -- its index write was posted and has not landed
  Returning : Owner

-- the owner of the slot of entry n, if n was begun and not given back; of any other number it says the sender
abbrev pub owner_of : Lane → ℕ → Owner
owner_of lane n =
    if nat_lt n lane.freed then Sender
    else if nat_lt n lane.acked then Returning
    else if nat_lt n lane.got then Receiver
    else if nat_lt n lane.flagged then Landed
    else if nat_lt n (length lane.sent) then InFlight
    else Sender

-- the entry that a slot is for: the first of those not given back whose slot it is
abbrev pub lane_entry_at : Lane → ℕ → ℕ
lane_entry_at lane slot = lane.freed + (slot + lane.entries - lane.freed % lane.entries) % lane.entries

-- the owner of a slot
abbrev pub owner_at : Lane → ℕ → Owner
owner_at lane slot = owner_of lane (lane_entry_at lane slot)
