-- The receiver's steps keep the law of the ring, and so do the landing of an index write and the loss of the link.
use Rattle.std.proofs.Common.{◌≡◌, ℕ, suc, ◌+◌, ◌-◌, ◌%◌, ◌<◌, ◌≤◌, Bool, true, false, true≢false, List, [], ◌∷◌, ◌++◌, length, refl, sym, ap, ◌∙◌, subst, inl, inr, arith, append-nil, append_assoc, mod-lt, if◌then◌else◌}
use native.Mathlib.Nat.{add-mod_right}
use Rattle.std.proofs.lemmas.Bool.{cases_Bool, cases_eq, cond-true, cond-false, ltb-true}
use Rattle.lane_model.specs.Lane.{Slot, Lane, count_from, copies_of, entry_of, lane_slot_of, with_flags}
use Rattle.lane_model.specs.declared.Field.TheVariants.{Chunk}
use Rattle.lane_model.specs.declared.Write.{Write}
use Rattle.lane_model.specs.Law.{IndexesCome, PhaseCounts, RingLaw, SlotsStand, Stands, StandsWhole, WritesCome}
use Rattle.lane_laws.specs.Laws.{SeesNext}
use Rattle.lane_model.specs.Steps.{after_look, after_copy, after_clear, after_ack, after_index, after_cut, after_drop, more_to_copy}
use Rattle.lane_model.specs.declared.Phase.{Phase}
use Rattle.lane_model.specs.declared.Phase.TheVariants.{Idle, Copying, Copied, Cleared}
use Rattle.lane_laws.proofs.Numbers.{other_number, count_from-push, count_from-first, tail_after}
use Rattle.lane_laws.proofs.Chunks.{chunk_of_whole}
use Rattle.lane_laws.proofs.Ring.{place_same, place_other, each_place, length-ring_with}

-- what an idle receiver reads, and what a copying one does
pub look_sees : (lost : List Write) (lost_back : List ℕ) (lane : Lane) → lane.phase ≡ Idle → RingLaw lost lost_back lane → SeesNext lane
look_sees lost lost_back lane idle h =
    let counts : PhaseCounts Idle lane.acked lane.cleared lane.got lane.flagged = subst (λ p. PhaseCounts p lane.acked lane.cleared lane.got lane.flagged) idle h.receiver.phase_counts in record {
      nothing = λ none. h.standing.empty lane.got (omega arith) (omega arith);
      an_entry = λ more. h.standing.whole lane.got h.counts.cleared_first more;
      one_of_both = h.counts.got_first;
    }

-- If the law of the ring holds, a copying receiver's entry stands whole in its slot, with a part left to copy.
pub copy_sees : (lost : List Write) (lost_back : List ℕ) (lane : Lane) → lane.phase ≡ Copying → RingLaw lost lost_back lane
    → (lane.got < lane.flagged) × StandsWhole (lane_slot_of lane lane.got) lane.got (entry_of lane lane.got)
    × (lane.part < copies_of (entry_of lane lane.got)) × Stands (lane_slot_of lane lane.got) lane.got (entry_of lane lane.got) (Chunk lane.part)
copy_sees lost lost_back lane copying h =
    let counts : PhaseCounts Copying lane.acked lane.cleared lane.got lane.flagged = subst (λ p. PhaseCounts p lane.acked lane.cleared lane.got lane.flagged) copying h.receiver.phase_counts in
    let whole = h.standing.whole lane.got h.counts.cleared_first counts.2 in
    (counts.2, whole, h.receiver.part_first copying, chunk_of_whole (lane_slot_of lane lane.got) lane.got (entry_of lane lane.got) lane.part whole)

-- the counts of a phase where only more flags landed
pub more_flagged : (phase : Phase) (acked cleared got flagged more : ℕ) → flagged ≤ more → PhaseCounts phase acked cleared got flagged → PhaseCounts phase acked cleared got more
more_flagged Idle acked cleared got flagged more low h = h
more_flagged Copying acked cleared got flagged more low h = (h.0, h.1, omega (arith, h.2))
more_flagged Copied acked cleared got flagged more low h = h
more_flagged Cleared acked cleared got flagged more low h = h

-- The law of the ring, with the same writes lost, is kept when an idle receiver finds an entry with its flags landed.
pub look_keeps : (lost : List Write) (lost_back : List ℕ) (lane : Lane) → lane.phase ≡ Idle → lane.got < lane.flagged
    → RingLaw lost lost_back lane → RingLaw lost lost_back (after_look lane)
look_keeps lost lost_back lane idle more h =
    let counts : PhaseCounts Idle lane.acked lane.cleared lane.got lane.flagged = subst (λ p. PhaseCounts p lane.acked lane.cleared lane.got lane.flagged) idle h.receiver.phase_counts in
    record {
      room = h.room;
      frames = h.frames;
      counts = h.counts;
      receiver = record {
        phase_counts = (counts.0, counts.1, more);
        part_first = λ copying. omega arith;
      };
      coming = h.coming;
      none_lost = h.none_lost;
      standing = h.standing;
      back = h.back;
    }

-- The law of the ring, with the same writes lost, is kept when a part is copied, be it the last one or not.
pub copy_keeps : (lost : List Write) (lost_back : List ℕ) (lane : Lane) → lane.phase ≡ Copying → RingLaw lost lost_back lane → RingLaw lost lost_back (after_copy lane)
copy_keeps lost lost_back lane copying h =
    let counts : PhaseCounts Copying lane.acked lane.cleared lane.got lane.flagged = subst (λ p. PhaseCounts p lane.acked lane.cleared lane.got lane.flagged) copying h.receiver.phase_counts in
    let one_part : more_to_copy lane ≡ true → RingLaw lost lost_back (record lane { part = lane.part + 1 }) = λ more. record {
      room = h.room;
      frames = h.frames;
      counts = h.counts;
      receiver = record {
        phase_counts = h.receiver.phase_counts;
        part_first = λ again. omega (arith, ltb-true _ _ more);
      };
      coming = h.coming;
      none_lost = h.none_lost;
      standing = h.standing;
      back = h.back;
    } in
    let the_last : RingLaw lost lost_back (record lane { got = lane.got + 1; phase = Copied }) =
    record {
      room = h.room;
      frames = h.frames;
      counts = record {
        freed_first = h.counts.freed_first;
        acked_first = h.counts.acked_first;
        cleared_first = omega arith;
        got_first = omega arith;
        flagged_first = h.counts.flagged_first;
        one_free = h.counts.one_free;
      };
      receiver = record {
        phase_counts = (counts.0, omega arith);
        part_first = λ copying_still. absurd (cc copying_still);
      };
      coming = h.coming;
      none_lost = h.none_lost;
      standing = h.standing;
      back = h.back;
    } in
    elim (cases_Bool (more_to_copy lane)) [
      | inl more ↦ subst (RingLaw lost lost_back) (sym (cond-true (more_to_copy lane) _ _ more)) (one_part more)
      | inr last ↦ subst (RingLaw lost lost_back) (sym (cond-false (more_to_copy lane) _ _ last)) the_last
    ]

-- The law of the ring, with the same writes lost, is kept when the flags of a copied entry are cleared.
pub clear_keeps : (lost : List Write) (lost_back : List ℕ) (lane : Lane) → lane.phase ≡ Copied → RingLaw lost lost_back lane → RingLaw lost lost_back (after_clear lane)
clear_keeps lost lost_back lane copied h =
    let counts : PhaseCounts Copied lane.acked lane.cleared lane.got lane.flagged = subst (λ p. PhaseCounts p lane.acked lane.cleared lane.got lane.flagged) copied h.receiver.phase_counts in
    let cleared_place : Slot = with_flags (lane_slot_of lane lane.cleared) 0 in
    let in_ring : lane.cleared % lane.entries < lane.entries = mod-lt lane.cleared (omega arith) in
    let elsewhere : (n : ℕ) → lane.cleared < n → n < lane.cleared + lane.entries → lane_slot_of (after_clear lane) n ≡ lane_slot_of lane n =
    λ n low high. place_other lane lane.cleared n cleared_place (other_number lane.entries lane.cleared n low high) in
    record {
      room = record {
        two_entries = h.room.two_entries;
        slots = length-ring_with lane lane.cleared cleared_place h.room.slots;
        rooms = λ k below. each_place lane lane.cleared k cleared_place (λ p. length p.payload ≡ lane.largest) h.room.slots below (h.room.rooms (lane.cleared % lane.entries) in_ring) (h.room.rooms k below);
      };
      frames = h.frames;
      counts = record {
        freed_first = h.counts.freed_first;
        acked_first = omega arith;
        cleared_first = omega arith;
        got_first = h.counts.got_first;
        flagged_first = h.counts.flagged_first;
        one_free = h.counts.one_free;
      };
      receiver = record {
        phase_counts = (omega arith, omega arith);
        part_first = λ copying. absurd (cc copying);
      };
      coming = h.coming;
      none_lost = h.none_lost;
      standing = record {
        whole = λ n low high. subst (λ p. StandsWhole p n (entry_of lane n)) (sym (elsewhere n (omega arith) (omega arith))) (h.standing.whole n (omega arith) high);
        empty = λ n low high. elim (cases_eq n (lane.cleared + lane.entries)) [
          | inl round ↦ ap (λ p. p.flags) (place_same lane lane.cleared n cleared_place h.room.slots h.room.two_entries (ap (λ j. j % lane.entries) round ∙ add-mod_right lane.cleared lane.entries))
          | inr before ↦ ap (λ p. p.flags) (elsewhere n (omega arith) (omega arith)) ∙ h.standing.empty n low (omega arith)
        ];
        landed = λ n field low high among. elim (h.standing.landed n field low high among) [
          | inl coming ↦ inl coming
          | inr stands ↦ inr (subst (λ p. Stands p n (entry_of lane n) field) (sym (elsewhere n (omega arith) (omega arith))) stands)
        ];
      };
      back = h.back;
    }

-- the index write is posted, or lost after the others
acknowledged : (lost : List Write) (lost_back lost_now : List ℕ) (lane : Lane) → lane.phase ≡ Cleared → (after_ack lane).returning ++ lost_now ≡ (lane.returning ++ lost_back) ++ lane.acked ∷ []
    → (lane.up ≡ true → (lost ≡ []) × (lost_now ≡ [])) → RingLaw lost lost_back lane → RingLaw lost lost_now (after_ack lane)
acknowledged lost lost_back lost_now lane cleared same none h =
    let counts : PhaseCounts Cleared lane.acked lane.cleared lane.got lane.flagged = subst (λ p. PhaseCounts p lane.acked lane.cleared lane.got lane.flagged) cleared h.receiver.phase_counts in
    let one_more : suc (lane.acked - lane.freed) ≡ lane.acked + 1 - lane.freed = omega arith in
    record {
      room = h.room;
      frames = h.frames;
      counts = record {
        freed_first = omega arith;
        acked_first = omega arith;
        cleared_first = h.counts.cleared_first;
        got_first = h.counts.got_first;
        flagged_first = h.counts.flagged_first;
        one_free = h.counts.one_free;
      };
      receiver = record { phase_counts = (omega arith, omega arith); part_first = λ copying. absurd (cc copying) };
      coming = h.coming;
      none_lost = none;
      standing = h.standing;
      back = record {
        returning =
            same ∙ ap (λ b. b ++ lane.acked ∷ []) h.back.returning ∙ count_from-push lane.freed (lane.acked - lane.freed) lane.acked (omega arith) ∙ ap (count_from lane.freed) one_more;
        index_word_is = h.back.index_word_is;
      };
    }

-- The law of the ring, with the same writes lost, is kept when a cleared entry is acknowledged on a link that is up.
pub ack_keeps : (lost : List Write) (lost_back : List ℕ) (lane : Lane) → lane.phase ≡ Cleared → lane.up ≡ true → RingLaw lost lost_back lane → RingLaw lost lost_back (after_ack lane)
ack_keeps lost lost_back lane cleared up h =
    let none : lost_back ≡ [] = (h.none_lost up).1 in
    let now : (if lane.up then lane.returning ++ lane.acked ∷ [] else lane.returning) ≡ lane.returning ++ lane.acked ∷ [] = cond-true lane.up _ _ up in
    acknowledged lost lost_back lost_back lane cleared
    (ap (λ b. b ++ lost_back) now ∙ ap (λ b. (lane.returning ++ lane.acked ∷ []) ++ b) none ∙ append-nil _
    ∙ ap (λ b. b ++ lane.acked ∷ []) (sym (ap (λ b. lane.returning ++ b) none ∙ append-nil lane.returning)))
    h.none_lost h

-- The law of the ring is kept when a cleared entry is acknowledged on a lost link, its index write being lost too.
pub ack_keeps_lost : (lost : List Write) (lost_back : List ℕ) (lane : Lane) → lane.phase ≡ Cleared → lane.up ≡ false → RingLaw lost lost_back lane
    → RingLaw lost (lost_back ++ lane.acked ∷ []) (after_ack lane)
ack_keeps_lost lost lost_back lane cleared down h =
    let now : (if lane.up then lane.returning ++ lane.acked ∷ [] else lane.returning) ≡ lane.returning = cond-false lane.up _ _ down in
    acknowledged lost lost_back (lost_back ++ lane.acked ∷ []) lane cleared
    (ap (λ b. b ++ (lost_back ++ lane.acked ∷ [])) now ∙ sym (append_assoc lane.returning lost_back (lane.acked ∷ [])))
    (λ up. absurd (true≢false (sym up ∙ down))) h

-- what the index write on its way says
pub index_is_next : (lost : List Write) (lost_back : List ℕ) (lane : Lane) (n : ℕ) (rest : List ℕ) → lane.returning ≡ n ∷ rest
    → RingLaw lost lost_back lane → (n ≡ lane.freed) × (n < lane.acked) × (rest ++ lost_back ≡ count_from (suc lane.freed) (lane.acked - lane.freed - 1))
index_is_next lost lost_back lane n rest front h =
    let first = count_from-first lane.freed (lane.acked - lane.freed) n (rest ++ lost_back) (sym (ap (λ b. b ++ lost_back) front) ∙ h.back.returning) in
    (first.0, omega arith, first.2)

-- The law of the ring, with the same writes lost, is kept when the first index write in flight lands.
pub index_keeps : (lost : List Write) (lost_back : List ℕ) (lane : Lane) (n : ℕ) (rest : List ℕ) → lane.returning ≡ n ∷ rest
    → RingLaw lost lost_back lane → RingLaw lost lost_back (after_index lane n rest)
index_keeps lost lost_back lane n rest front h =
    let next = index_is_next lost lost_back lane n rest front h in
    let one_on : suc lane.freed ≡ n + 1 = omega arith in
    let one_less : lane.acked - lane.freed - 1 ≡ lane.acked - (n + 1) = omega arith in
    record {
      room = h.room;
      frames = h.frames;
      counts = record {
        freed_first = omega arith;
        acked_first = h.counts.acked_first;
        cleared_first = h.counts.cleared_first;
        got_first = h.counts.got_first;
        flagged_first = h.counts.flagged_first;
        one_free = omega arith;
      };
      receiver = h.receiver;
      coming = h.coming;
      none_lost = h.none_lost;
      standing = h.standing;
      back = record {
        returning = next.2 ∙ ap (λ f. count_from f (lane.acked - lane.freed - 1)) one_on ∙ ap (count_from (n + 1)) one_less;
        index_word_is = tail_after lane.entries n h.room.two_entries;
      };
    }

-- a lane that isn't up may lose what was in flight
lost_keeps : (lost lost_now : List Write) (lost_back back_now : List ℕ) (lane : Lane) (up : Bool) (flight : List Write) (returning : List ℕ) → up ≡ false
    → flight ++ lost_now ≡ lane.flight ++ lost → returning ++ back_now ≡ lane.returning ++ lost_back
    → RingLaw lost lost_back lane → RingLaw lost_now back_now (record lane { up = up; flight = flight; returning = returning })
lost_keeps lost lost_now lost_back back_now lane up flight returning down writes indexes h =
    record {
      room = h.room;
      frames = h.frames;
      counts = h.counts;
      receiver = h.receiver;
      coming = subst (λ (w : List Write). WritesCome lane.flagged lane.sent (w ++ lane.todo) lane.todo) (sym writes) h.coming;
      none_lost = λ is_up. absurd (true≢false (sym is_up ∙ down));
      standing = subst (λ (w : List Write). SlotsStand lane.entries lane.ring lane.sent lane.cleared lane.flagged (w ++ lane.todo)) (sym writes) h.standing;
      back = subst (IndexesCome lane.entries lane.freed lane.acked lane.index_word) (sym indexes) h.back;
    }

-- The law of the ring, with the same writes lost, is kept when the link is lost: what is in flight may still land.
pub cut_keeps : (lost : List Write) (lost_back : List ℕ) (lane : Lane) → RingLaw lost lost_back lane → RingLaw lost lost_back (after_cut lane)
cut_keeps lost lost_back lane h = lost_keeps lost lost lost_back lost_back lane false lane.flight lane.returning refl refl refl h

-- The law of the ring is kept when a lost link is dropped: all that was in flight goes in front of the lost writes.
pub drop_keeps : (lost : List Write) (lost_back : List ℕ) (lane : Lane) → lane.up ≡ false → RingLaw lost lost_back lane
    → RingLaw (lane.flight ++ lost) (lane.returning ++ lost_back) (after_drop lane)
drop_keeps lost lost_back lane down h = lost_keeps lost (lane.flight ++ lost) lost_back (lane.returning ++ lost_back) lane lane.up [] [] down refl refl h
