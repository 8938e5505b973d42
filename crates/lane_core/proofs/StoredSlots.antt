-- What is stored in a ring, as the model sees it.
use Rattle.std.proofs.Common.{◌≡◌, ℕ, ◌%◌, ◌<◌, List, length, map, get_or, set, sym, ap, ◌∙◌, arith}
use Rattle.std.proofs.lemmas.List.{get_or-map, length-map, map-set}
use Rattle.lane_model.specs.Lane as model
use Rattle.lane_model.specs.Lane.{blank_slot, ring_with, lane_slot_of, with_flags}
use Rattle.lane_core.specs.Parts.{core_entry_in, entry_seen, core_place_in, place_seen, with_flags_at}
use Rattle.lane_core.specs.declared.entry.Entry.{Entry}
use Rattle.lane_core.specs.declared.slot.Slot.{Slot}

-- the entry that was read
pub entry_read : (sent : List Entry) (n : ℕ) (entry : Entry) → n < length (map entry_seen sent) → entry ≡ get_or sent n entry → core_entry_in (map entry_seen sent) n ≡ entry_seen entry
entry_read sent n entry below read = let same = length-map sent entry_seen in get_or-map entry_seen sent n entry model.GoesDown (omega arith) ∙ ap entry_seen (sym read)

-- the slot of an entry
pub place_read : (ring : List Slot) (n position : ℕ) (default : Slot) → position ≡ n % length ring → position < length ring
    → core_place_in (map place_seen ring) n ≡ place_seen (get_or ring position default)
place_read ring n position default at within =
    ap (λ k. get_or (map place_seen ring) k blank_slot) (ap (λ count. n % count) (length-map ring place_seen) ∙ sym at)
    ∙ get_or-map place_seen ring position default blank_slot within

-- a slot that was changed there
pub place_stored : (ring : List Slot) (n position : ℕ) (new default : Slot) (change : model.Slot → model.Slot) → position ≡ n % length ring → position < length ring
    → place_seen new ≡ change (place_seen (get_or ring position default))
    → map place_seen (set ring position new) ≡ set (map place_seen ring) (n % length (map place_seen ring)) (change (core_place_in (map place_seen ring) n))
place_stored ring n position new default change at within changed =
    map-set place_seen ring position new
    ∙ ap (λ place. set (map place_seen ring) position place) (changed ∙ ap change (sym (place_read ring n position default at within)))
    ∙ ap (λ k. set (map place_seen ring) k (change (core_place_in (map place_seen ring) n))) (at ∙ ap (λ count. n % count) (sym (length-map ring place_seen)))

-- flags put into a slot of a lane's ring
pub with_flags_at-is : (lane : model.Lane) (n flags : ℕ) → length lane.ring ≡ lane.entries → with_flags_at lane.ring n flags ≡ ring_with lane n (with_flags (lane_slot_of lane n) flags)
with_flags_at-is lane n flags slots = ap (λ count. set lane.ring (n % count) (with_flags (get_or lane.ring (n % count) blank_slot) flags)) slots
