-- Worked examples: what one frame of a byte does to a lane with a ring of two slots, step by step. Beside it stand a
-- payload in parts, and a link-down entry.
use Rattle.std.specs.Prelude.{◌≡◌, ℕ, true, false, List, [], ◌∷◌, replicate}
use Rattle.lane_model.specs.Lane.{Entry, Carries, GoesDown, Lane, Slot, free_in, new_lane, writes_of}
use Rattle.lane_model.specs.Ring.{head_of, tail_of, room_of}
use Rattle.lane_model.specs.Steps.{after_begin, after_post, after_landing, after_look, after_copy, after_clear, after_ack, after_index, after_cut, after_drop, more_to_copy}
use Rattle.lane_model.specs.declared.Field.TheVariants.{Chunk, Length, Version}
use Rattle.lane_model.specs.declared.Phase.TheVariants.{Idle, Copying, Copied, Cleared}
use Rattle.lane_model.specs.declared.Write.{Write}
use Rattle.lane_model.specs.declared.Write.TheVariants.{Data, Flag, Bell}

-- a slot for payloads of up to two bytes
abbrev pub slot : ℕ → ℕ → ℕ → ℕ → Slot
slot byte len ver flags = record { payload = byte ∷ 0 ∷ []; left = 0; ver = ver; len = len; flags = flags }

abbrev pub fresh : Lane
fresh = new_lane 2 2 (slot 0 0 0 0 ∷ slot 0 0 0 0 ∷ []) 1

abbrev pub letter : Entry
letter = Carries (97 ∷ []) 0

-- the writes of one byte: its chunk, length and version, then the flags, then the doorbell
abbrev pub letter_writes : ℕ → List Write
letter_writes n = Data n (Chunk 0) ∷ Data n Length ∷ Data n Version ∷ Flag n ∷ Bell ∷ []

abbrev pub begun : Lane
begun = after_begin fresh letter

-- what was begun is in progress, and the ring of two slots has no room for a second entry
abbrev pub Begun : Type 0
Begun = (begun ≡ record fresh { sent = letter ∷ []; todo = letter_writes 0 }) × (free_in fresh ≡ 1) × (free_in begun ≡ 0) × (room_of 2 0 0 ≡ 1) × (room_of 2 1 0 ≡ 0)

-- posting moves the next write after those in flight, and loses it where the link is lost
abbrev pub posted : Lane
posted = after_post begun (Data 0 (Chunk 0)) (Data 0 Length ∷ Data 0 Version ∷ Flag 0 ∷ Bell ∷ [])

abbrev pub Posted : Type 0
Posted =
    (after_post posted (Data 0 Length) (Data 0 Version ∷ Flag 0 ∷ Bell ∷ [])
    ≡ record begun { todo = Data 0 Version ∷ Flag 0 ∷ Bell ∷ []; flight = Data 0 (Chunk 0) ∷ Data 0 Length ∷ [] })
    × (after_post (after_cut posted) (Data 0 Length) [] ≡ record begun { up = false; todo = []; flight = Data 0 (Chunk 0) ∷ [] })

-- all writes are posted, and none has landed
abbrev pub flying : Lane
flying = record begun { todo = []; flight = letter_writes 0 }

-- the fields land in any order, then the flags; the doorbell changes nothing of the lane
abbrev pub landed : Lane
landed =
    after_landing
    (after_landing
    (after_landing
    (after_landing (after_landing flying (Data 0 Version) []) (Data 0 (Chunk 0)) [])
    (Data 0 Length) [])
    (Flag 0) [])
    Bell []

abbrev pub Landed : Type 0
Landed = landed ≡ record flying { flight = []; ring = slot 97 1 0 1 ∷ slot 0 0 0 0 ∷ []; flagged = 1 }

-- the receiver looks, copies the one part there is, clears the flags and gives the entry back
abbrev pub looked : Lane
looked = after_look landed

abbrev pub copied : Lane
copied = after_copy looked

abbrev pub cleared : Lane
cleared = after_clear copied

abbrev pub acked : Lane
acked = after_ack cleared

abbrev pub Received : Type 0
Received =
    (looked ≡ record landed { phase = Copying; part = 0 })
    × (more_to_copy looked ≡ false)
    × (copied ≡ record landed { got = 1; phase = Copied })
    × (cleared ≡ record landed { ring = slot 97 1 0 0 ∷ slot 0 0 0 0 ∷ []; got = 1; cleared = 1; phase = Cleared })
    × (acked ≡ record cleared { acked = 1; phase = Idle; returning = 0 ∷ [] })

-- a payload of 300 bytes takes three copies
abbrev pub InParts : Type 0
InParts =
    (more_to_copy (record looked { sent = Carries (replicate 300 7) 0 ∷ []; part = 1 }) ≡ true)
    × (more_to_copy (record looked { sent = Carries (replicate 300 7) 0 ∷ []; part = 2 }) ≡ false)

-- the index write lands, and there is room again
abbrev pub freed : Lane
freed = after_index acked 0 []

abbrev pub GivenBack : Type 0
GivenBack = (freed ≡ record acked { returning = []; freed = 1; index_word = 0 }) × (free_in freed ≡ 1) × (tail_of 2 1 ≡ 0) × (head_of 2 3 ≡ 1)

-- a drop empties both lists in flight
abbrev pub Dropped : Type 0
Dropped = after_drop (after_cut (record flying { returning = 5 ∷ [] })) ≡ record flying { up = false; flight = []; returning = [] }

-- a link-down entry has no payload, and its flags say so
abbrev pub WentDown : Type 0
WentDown =
    (writes_of 4 GoesDown ≡ Data 4 Length ∷ Data 4 Version ∷ Flag 4 ∷ Bell ∷ [])
    × ((after_landing (after_begin fresh GoesDown) (Flag 0) []).ring ≡ slot 0 0 0 3 ∷ slot 0 0 0 0 ∷ [])

pub record ExamplesHold : Type 0 where
  pub begin : Begun
  pub post : Posted
  pub land : Landed
  pub receive : Received
  pub in_parts : InParts
  pub give_back : GivenBack
  pub drop : Dropped
  pub link_down : WentDown
