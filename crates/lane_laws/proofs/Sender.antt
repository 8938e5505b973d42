-- The sender's steps keep the law of the ring, which holds at the start of a session.
use Rattle.std.proofs.Common.{◌≡◌, ℕ, ◌-◌, ◌<◌, ◌≤◌, true, false, true≢false, List, [], ◌∷◌, ◌++◌, length, drop, get_or, refl, sym, ap, ◌∙◌, subst, inl, inr, arith, append-nil, append_assoc, mod-eq_of_lt, if◌then◌else◌, Contains}
use Rattle.std.proofs.lemmas.Bool.{cases_eq, cond-true, cond-false}
use Rattle.std.proofs.lemmas.List.{drop_all, length_push, get_or_push, get_or_append_left}
use Rattle.std.proofs.lemmas.List.Elements.{Contains-append_left, Contains-append_right}
use Rattle.lane_model.specs.Ring.{head_of, free_entries, tail_of, room_of}
use Rattle.lane_model.specs.Lane.{Entry, GoesDown, blank_slot, Lane, bytes_of, data_of, writes_of, count_from, copies_of, entry_of, lane_slot_of, free_in}
use Rattle.lane_model.specs.declared.Write.{Write}
use Rattle.lane_model.specs.declared.Write.TheVariants.{Data, Flag, Bell}
use Rattle.lane_model.specs.Law.{AreLeft, AreLeftToLand, PhaseCounts, EndTheLast, Stands, StandsWhole, RingLaw}
use Rattle.lane_model.specs.Steps.{after_begin, after_post}
use Rattle.lane_laws.specs.Laws.{IsFresh, IsOpen}
use Rattle.lane_model.specs.declared.Phase.TheVariants.{Copying}
use Rattle.lane_laws.proofs.Numbers as numbers
use Rattle.lane_laws.proofs.WritesToCome.{left_to_land_more, other_writes_keep}

-- The law of the ring holds of a lane at the start of its session, with no write lost.
pub fresh_holds : (lane : Lane) → IsFresh lane → RingLaw [] [] lane
fresh_holds lane fresh =
    let none_sent : length lane.sent ≡ 0 = ap length fresh.sent in
    let no_marks : (lane.flight ++ []) ++ lane.todo ≡ [] = append-nil-twice lane.flight lane.todo fresh.flight fresh.todo in
    let no_entries : drop lane.flagged lane.sent ≡ [] = drop_all lane.flagged lane.sent (omega arith) in
    let none_back : 0 ≡ lane.acked - lane.freed = omega (arith, fresh.acked, fresh.freed) in
    let acked = fresh.acked in
    let cleared = fresh.cleared in
    let got = fresh.got in
    let flagged = fresh.flagged in
    let freed = fresh.freed in
    let two = fresh.two_entries in
    record {
      room = record {
        two_entries = fresh.two_entries;
        slots = fresh.slots;
        rooms = λ k below. subst (λ j. length (get_or lane.ring j blank_slot).payload ≡ lane.largest) (mod-eq_of_lt below) (fresh.rooms k below);
      };
      frames = record {
        fits = λ n below. absurd (omega arith);
        down_is_last = λ n below down. absurd (omega arith);
      };
      counts = record {
        freed_first = omega arith;
        acked_first = omega arith;
        cleared_first = omega arith;
        got_first = omega arith;
        flagged_first = omega arith;
        one_free = omega arith;
      };
      receiver = record {
        phase_counts = subst (λ p. PhaseCounts p lane.acked lane.cleared lane.got lane.flagged) (sym fresh.phase) (acked ∙ sym cleared, cleared ∙ sym got);
        part_first = λ copying. absurd (cc (fresh.phase, copying));
      };
      coming = record {
        left = inl (subst (λ es. AreLeft lane.flagged es ((lane.flight ++ []) ++ lane.todo)) (sym no_entries) no_marks);
        last = inl fresh.todo;
      };
      none_lost = λ up. (refl, refl);
      standing = record {
        whole = λ n low high. absurd (omega arith);
        empty = λ n low high. fresh.no_flags n;
        landed = λ n field low high among. absurd (omega arith);
      };
      back = record {
        returning = append-nil lane.returning ∙ fresh.returning ∙ ap (count_from lane.freed) none_back;
        index_word_is = fresh.index_word ∙ ap (tail_of lane.entries) (sym freed);
      };
    }
  where
    append-nil-twice : (a b : List Write) → a ≡ [] → b ≡ [] → (a ++ []) ++ b ≡ []
    append-nil-twice a b p q = append-nil-both (a ++ []) b (append-nil a ∙ p) q
      where
        append-nil-both : (c d : List Write) → c ≡ [] → d ≡ [] → c ++ d ≡ []
        append-nil-both c d r s = ap (λ w. w ++ d) r ∙ s

entry_before : (lane : Lane) (entry : Entry) (n : ℕ) → n < length lane.sent → entry_of (after_begin lane entry) n ≡ entry_of lane n
entry_before lane entry n below = get_or_append_left lane.sent (entry ∷ []) GoesDown n below

entry_last : (lane : Lane) (entry : Entry) (n : ℕ) → n ≡ length lane.sent → entry_of (after_begin lane entry) n ≡ entry
entry_last lane entry n e = get_or_push lane.sent entry GoesDown n (sym e)

-- head and index word show the entries that are free
pub free_is_room : (lost : List Write) (lost_back : List ℕ) (lane : Lane) → RingLaw lost lost_back lane → free_in lane ≡ room_of lane.entries (length lane.sent) lane.freed
free_is_room lost lost_back lane h =
    let low : lane.freed ≤ length lane.sent = omega arith in
    ap (free_entries lane.entries (head_of lane.entries (length lane.sent))) h.back.index_word_is ∙ numbers.free_is_room lane.entries (length lane.sent) lane.freed h.room.two_entries low h.counts.one_free

-- The law of the ring, with the same writes lost, is kept when an entry that fits is begun in a ring with room.
pub begin_keeps : (lost : List Write) (lost_back : List ℕ) (lane : Lane) (entry : Entry) → lane.todo ≡ [] → 0 < free_in lane
    → length (bytes_of entry) ≤ lane.largest → IsOpen lane → RingLaw lost lost_back lane → RingLaw lost lost_back (after_begin lane entry)
begin_keeps lost lost_back lane entry no_todo free fits open_yet h =
    let room = free_is_room lost lost_back lane h in
    let one_more = length_push lane.sent entry in
    let next : Lane = after_begin lane entry in
    let coming : List Write = lane.flight ++ lost in
    let new_writes : List Write = writes_of (length lane.sent) entry in
    let no_more : coming ++ lane.todo ≡ coming = ap (λ w. coming ++ w) no_todo ∙ append-nil coming in
    record {
      room = h.room;
      frames = record {
        fits = λ n below. elim (cases_eq n (length lane.sent)) [
          | inl new ↦ subst (λ e. length (bytes_of e) ≤ lane.largest) (sym (entry_last lane entry n new)) fits
          | inr old ↦
              let before : n < length lane.sent = omega arith in
              subst (λ e. length (bytes_of e) ≤ lane.largest) (sym (entry_before lane entry n before)) (h.frames.fits n before)
        ];
        down_is_last = λ n below down. elim (cases_eq n (length lane.sent)) [
          | inl new ↦ omega arith
          | inr old ↦
              let before : n < length lane.sent = omega arith in
              absurd (open_yet n before (sym (entry_before lane entry n before) ∙ down))
        ];
      };
      counts = record {
        freed_first = h.counts.freed_first;
        acked_first = h.counts.acked_first;
        cleared_first = h.counts.cleared_first;
        got_first = h.counts.got_first;
        flagged_first = omega arith;
        one_free = omega arith;
      };
      receiver = record {
        phase_counts = h.receiver.phase_counts;
        part_first = λ copying.
            let counts : PhaseCounts Copying lane.acked lane.cleared lane.got lane.flagged = subst (λ p. PhaseCounts p lane.acked lane.cleared lane.got lane.flagged) copying h.receiver.phase_counts in
            let before : lane.got < length lane.sent = omega (arith, counts.2) in
            subst (λ e. lane.part < copies_of e) (sym (entry_before lane entry lane.got before)) (h.receiver.part_first copying);
      };
      coming = record {
        left = left_to_land_more lane coming entry h.counts.flagged_first (subst (AreLeftToLand lane.flagged lane.sent) no_more h.coming.left);
        last = inr (length lane.sent, [], sym one_more, ap (writes_of (length lane.sent)) (entry_last lane entry (length lane.sent) refl));
      };
      none_lost = h.none_lost;
      standing = record {
        whole = λ n low high.
            let before : n < length lane.sent = omega arith in
            subst (StandsWhole (lane_slot_of lane n) n) (sym (entry_before lane entry n before)) (h.standing.whole n low high);
        empty = h.standing.empty;
        landed = λ n field low high among. elim (cases_eq n (length lane.sent)) [
          | inl new ↦
              let of_entry : Contains (data_of n entry) (Data n field) = subst (λ e. Contains (data_of n e) (Data n field)) (entry_last lane entry n new) among in
              let of_last : Contains (data_of (length lane.sent) entry) (Data n field) = subst (λ m. Contains (data_of m entry) (Data n field)) new of_entry in
              inl (Contains-append_right coming new_writes (Data n field) (Contains-append_left (data_of (length lane.sent) entry) (Flag (length lane.sent) ∷ Bell ∷ []) (Data n field) of_last))
          | inr old ↦
              let before : n < length lane.sent = omega arith in
              let same = entry_before lane entry n before in
              elim (h.standing.landed n field low before (subst (λ e. Contains (data_of n e) (Data n field)) same among)) [
                | inl comes ↦ inl (Contains-append_left coming new_writes (Data n field) (subst (λ w. Contains w (Data n field)) no_more comes))
                | inr stands ↦ inr (subst (λ e. Stands (lane_slot_of lane n) n e field) (sym same) stands)
              ]
        ];
      };
      back = h.back;
    }

-- posting changes neither what is left to land nor its order
posted : (lost lost_now : List Write) (lost_back : List ℕ) (lane : Lane) (write : Write) (rest : List Write) → lane.todo ≡ write ∷ rest
    → ((after_post lane write rest).flight ++ lost_now) ++ rest ≡ (lane.flight ++ lost) ++ lane.todo → (lane.up ≡ true → (lost_now ≡ []) × (lost_back ≡ []))
    → RingLaw lost lost_back lane → RingLaw lost_now lost_back (after_post lane write rest)
posted lost lost_now lost_back lane write rest front same none h =
    let last_now : EndTheLast lane.sent rest =
    elim h.coming.last [
      | inl nothing ↦ absurd (cc (nothing, front))
      | inr ending ↦ inr (ending.0, ending.1 ++ write ∷ [], ending.2, ending.3 ∙ ap (λ w. ending.1 ++ w) front ∙ sym (append_assoc ending.1 (write ∷ []) rest))
    ] in
    other_writes_keep lost lost_now lost_back lane (after_post lane write rest).flight rest (record { left = subst (AreLeftToLand lane.flagged lane.sent) (sym same) h.coming.left; last = last_now }) none
    (λ n field comes. subst (λ w. Contains w (Data n field)) (sym same) comes) h

-- The law of the ring, with the same writes lost, is kept when the next write is posted on a link that is up.
pub post_keeps : (lost : List Write) (lost_back : List ℕ) (lane : Lane) (write : Write) (rest : List Write) → lane.todo ≡ write ∷ rest → lane.up ≡ true
    → RingLaw lost lost_back lane → RingLaw lost lost_back (after_post lane write rest)
post_keeps lost lost_back lane write rest front up h =
    let none : lost ≡ [] = (h.none_lost up).0 in
    let now : (if lane.up then lane.flight ++ write ∷ [] else lane.flight) ≡ lane.flight ++ write ∷ [] = cond-true lane.up _ _ up in
    posted lost lost lost_back lane write rest front
    (ap (λ w. (w ++ lost) ++ rest) now
    ∙ ap (λ w. w ++ rest) (ap (λ w. (lane.flight ++ write ∷ []) ++ w) none ∙ append-nil (lane.flight ++ write ∷ []))
    ∙ append_assoc lane.flight (write ∷ []) rest
    ∙ ap (λ w. lane.flight ++ w) (sym front)
    ∙ ap (λ w. w ++ lane.todo) (sym (ap (λ w. lane.flight ++ w) none ∙ append-nil lane.flight)))
    h.none_lost h

-- on a lost link the write is lost after the others
pub post_keeps_lost : (lost : List Write) (lost_back : List ℕ) (lane : Lane) (write : Write) (rest : List Write) → lane.todo ≡ write ∷ rest → lane.up ≡ false
    → RingLaw lost lost_back lane → RingLaw (lost ++ write ∷ []) lost_back (after_post lane write rest)
post_keeps_lost lost lost_back lane write rest front down h =
    let now : (if lane.up then lane.flight ++ write ∷ [] else lane.flight) ≡ lane.flight = cond-false lane.up _ _ down in
    posted lost (lost ++ write ∷ []) lost_back lane write rest front
    (ap (λ w. (w ++ (lost ++ write ∷ [])) ++ rest) now
    ∙ ap (λ w. w ++ rest) (sym (append_assoc lane.flight lost (write ∷ [])))
    ∙ append_assoc (lane.flight ++ lost) (write ∷ []) rest
    ∙ ap (λ w. (lane.flight ++ lost) ++ w) (sym front))
    (λ up. absurd (true≢false (sym up ∙ down))) h

-- a sender that forgets a lost session has lost what was left to post, after the others
pub forget_keeps : (lost : List Write) (lost_back : List ℕ) (lane : Lane) → lane.up ≡ false → RingLaw lost lost_back lane → RingLaw (lost ++ lane.todo) lost_back (record lane { todo = [] })
forget_keeps lost lost_back lane down h =
    let same : (lane.flight ++ lost) ++ lane.todo ≡ (lane.flight ++ (lost ++ lane.todo)) ++ [] =
    append_assoc lane.flight lost lane.todo ∙ sym (append-nil (lane.flight ++ (lost ++ lane.todo))) in
    other_writes_keep lost (lost ++ lane.todo) lost_back lane lane.flight [] (record { left = subst (AreLeftToLand lane.flagged lane.sent) same h.coming.left; last = inl refl })
    (λ up. absurd (true≢false (sym up ∙ down)))
    (λ n field comes. subst (λ w. Contains w (Data n field)) same comes) h
