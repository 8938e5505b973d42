-- What a receiver reads in the slot of its next entry.
use Rattle.std.proofs.Common.{◌≡◌, ℕ, ◌%◌, ◌<◌, length, map, get_or, sym, ap, ◌∙◌, inl, inr, arith}
use Rattle.std.proofs.lemmas.Bool.{cases_lt}
use Rattle.std.proofs.lemmas.List.{get_or-map}
use Rattle.lane_model.specs.Lane.{Lane, blank_slot, bytes_of, entry_of, lane_slot_of}
use Rattle.lane_model.specs.Law.{HoldsRingLaw}
use Rattle.lane_model.specs.declared.Phase.TheVariants.{Idle}
use Rattle.lane_laws.proofs.Facade.{look_sees}
use Rattle.lane_core.specs.Parts.{place_seen}
use Rattle.lane_core.specs.LaneView.{lane_seen}
use Rattle.lane_core.specs.declared.lane.Lane.TheInside.{Inside}
use Rattle.lane_core.specs.declared.slot.Slot.{Slot}

-- the slot that was read is the model's
pub read_place : (l : Inside) (n position : ℕ) (place : Slot) → position ≡ n % l.entries → position < length l.ring.items → place ≡ get_or l.ring.items position place
    → lane_slot_of (lane_seen l) n ≡ place_seen place
read_place l n position place at within read =
    ap (λ k. get_or (map place_seen l.ring.items) k blank_slot) (sym at) ∙ get_or-map place_seen l.ring.items position place blank_slot within ∙ ap place_seen (sym read)

-- an idle receiver that finds flags has an entry before it
entry_before : (lane : Lane) → lane.phase ≡ Idle → ((lane_slot_of lane lane.got).flags ≡ 0 → ⊥) → HoldsRingLaw lane → lane.got < lane.flagged
entry_before lane idle some law =
    let sees = look_sees lane idle law in
    elim (cases_lt lane.got lane.flagged) [
      | inl more ↦ more
      | inr none ↦
          let all : lane.flagged ≡ lane.got = omega (arith, sees.one_of_both) in
          absurd (some (sees.nothing all))
    ]

-- what an idle receiver knows where it finds flags
pub record FindsEntry (lane : Lane) : Type 0 where
  pub more : lane.got < lane.flagged
  pub size : length (bytes_of (entry_of lane lane.got)) ≡ (lane_slot_of lane lane.got).len

-- Under the law of the ring, an idle receiver that reads flags has a landed entry there, of the length in the slot.
pub finds_entry : (lane : Lane) → lane.phase ≡ Idle → ((lane_slot_of lane lane.got).flags ≡ 0 → ⊥) → HoldsRingLaw lane → FindsEntry lane
finds_entry lane idle some law =
    let more = entry_before lane idle some law in
    record { more = more; size = sym ((look_sees lane idle law).an_entry more).len }
