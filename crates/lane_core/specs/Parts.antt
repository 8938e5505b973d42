-- The parts of a lane as the model sees them, and what a landing writes into the ring.
use Rattle.std.specs.Prelude.{ℕ, ◌*◌, ◌%◌, ◌<◌, ◌≤◌, List, length, slice_index_or, slice_set}
use Rattle.lane_model.specs.Lane as model
use Rattle.lane_model.specs.Lane.{blank_slot, bytes_of, chunk_size, flags_of, with_field, with_flags}
use Rattle.lane_model.specs.declared.Field.{Field}
use Rattle.lane_model.specs.declared.Field.TheVariants.{Chunk, Length, Version}
use Rattle.lane_model.specs.declared.Write.{Write}
use Rattle.lane_model.specs.declared.Write.TheVariants.{Data, Flag, Bell}
use Rattle.lane_core.specs.declared.entry.Entry.{Entry}
use Rattle.lane_core.specs.declared.entry.Entry.TheVariants.{Carries, GoesDown}
use Rattle.lane_core.specs.declared.slot.Slot.{Slot}

abbrev pub entry_seen : Entry → model.Entry
entry_seen (Carries frame) = model.Carries frame 0
entry_seen GoesDown = model.GoesDown

abbrev pub place_seen : Slot → model.Slot
place_seen place = record { payload = place.payload.items; left = 0; ver = place.ver; len = place.len; flags = place.flags }

-- a field begins within the bytes of its entry
abbrev pub BeginsWithin : model.Entry → Field → Type 0
BeginsWithin entry (Chunk part) = chunk_size * part < length (bytes_of entry)
BeginsWithin entry Length = Unit {0}
BeginsWithin entry Version = Unit {0}

-- the entry of a number, and its slot in a ring
abbrev pub core_entry_in : List model.Entry → ℕ → model.Entry
core_entry_in sent n = slice_index_or sent n model.GoesDown

abbrev pub core_place_in : List model.Slot → ℕ → model.Slot
core_place_in ring n = slice_index_or ring (n % length ring) blank_slot

-- the ring with other flags in the slot of entry n
abbrev pub with_flags_at : List model.Slot → ℕ → ℕ → List model.Slot
with_flags_at ring n flags = slice_set ring (n % length ring) (with_flags (core_place_in ring n) flags)

-- a write finds its slot and its entry
abbrev pub CanStore : List model.Slot → List model.Entry → Write → Type 0
CanStore ring sent (Data n field) =
    (0 < length ring) × (n < length sent) × BeginsWithin (core_entry_in sent n) field × (length (bytes_of (core_entry_in sent n)) ≤ length (core_place_in ring n).payload)
CanStore ring sent (Flag n) = (0 < length ring) × (n < length sent)
CanStore ring sent Bell = Unit {0}

-- the ring after a write has landed in it
abbrev pub core_ring_after : List model.Slot → List model.Entry → Write → List model.Slot
core_ring_after ring sent (Data n field) = slice_set ring (n % length ring) (with_field (core_place_in ring n) n (core_entry_in sent n) field)
core_ring_after ring sent (Flag n) = with_flags_at ring n (flags_of (core_entry_in sent n))
core_ring_after ring sent Bell = ring

-- how many entries have their flags landed by a write
abbrev pub core_flags_landed : Write → ℕ
core_flags_landed (Flag n) = 1
core_flags_landed mark = 0

-- the entry whose flags a write is has to be known for its label
abbrev pub IsKnown : Write → ℕ → Type 0
IsKnown (Flag n) begun = n < begun
IsKnown mark begun = Unit {0}
