-- The law of a lane in which nothing was begun.
use Rattle.std.proofs.Common.{◌≡◌, ℕ, ◌%◌, ◌<◌, ◌≤◌, Bool, true, List, [], length, replicate, refl, ap, ◌∙◌, arith, mod-lt}
use Rattle.std.specs.Prelude.{slice_index_or}
use Rattle.std.proofs.lemmas.List.{length-replicate, get_or-replicate}
use Rattle.lane_model.specs.Lane.{Slot, blank_slot, new_lane, lane_slot_of}
use Rattle.lane_model.specs.Law.{HoldsRingLaw}
use Rattle.lane_model.specs.Ring.{tail_of}
use Rattle.lane_model.specs.declared.Write.{Write}
use Rattle.lane_laws.proofs.LaneLaws.{fresh_holds}

-- it holds where the ring has its slots, two or more, each with room for the largest payload and no flags. The index
-- word has to say that nothing was given back, and no write or index write of the lane may be in flight.
pub empty_holds : (entries largest index_word : ℕ) (up : Bool) (ring : List Slot) (writes : List Write) (indexes : List ℕ) → 2 ≤ entries → length ring ≡ entries
    → ((k : ℕ) → k < entries → length (slice_index_or ring (k % entries) blank_slot).payload ≡ largest) → ((k : ℕ) → (slice_index_or ring (k % entries) blank_slot).flags ≡ 0)
    → index_word ≡ tail_of entries 0 → writes ≡ [] → indexes ≡ []
    → HoldsRingLaw (record (new_lane entries largest ring index_word) { up = up; flight = writes; returning = indexes })
empty_holds entries largest index_word up ring writes indexes two slots rooms no_flags tail no_writes no_indexes =
    fresh_holds (record (new_lane entries largest ring index_word) { up = up; flight = writes; returning = indexes })
    (record {
      two_entries = two;
      slots = slots;
      rooms = rooms;
      no_flags = no_flags;
      index_word = tail;
      sent = refl;
      todo = refl;
      flight = no_writes;
      returning = no_indexes;
      flagged = refl;
      got = refl;
      cleared = refl;
      acked = refl;
      freed = refl;
      phase = refl;
    })

-- so where the slots are alike
pub new_holds : (entries largest index_word : ℕ) (slot : Slot) → 2 ≤ entries → length slot.payload ≡ largest → slot.flags ≡ 0 → index_word ≡ tail_of entries 0 → HoldsRingLaw (new_lane entries largest (replicate entries slot) index_word)
new_holds entries largest index_word slot two long down tail =
    empty_holds entries largest index_word true (replicate entries slot) [] [] two (length-replicate entries slot)
    (λ k below. ap (λ (place : Slot). length place.payload) (alike k) ∙ long) (λ k. ap (λ (place : Slot). place.flags) (alike k) ∙ down) tail refl refl
  where
    alike : (k : ℕ) → lane_slot_of (new_lane entries largest (replicate entries slot) index_word) k ≡ slot
    alike k = get_or-replicate entries (k % entries) slot blank_slot (mod-lt k (omega arith))
