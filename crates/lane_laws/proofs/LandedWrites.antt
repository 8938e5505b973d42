-- Landing a write keeps the law of the ring.
use Rattle.std.proofs.Common.{◌≡◌, ℕ, suc, ◌+◌, ◌%◌, ◌<◌, ◌≤◌, ◌⊎◌, true, List, [], ◌∷◌, ◌++◌, length, drop, refl, sym, ap, ◌∙◌, subst, inl, inr, arith, mod-lt, length-drop, drop-drop, Contains}
use Rattle.std.proofs.lemmas.Bool.{cases_eq, cases_order}
use Rattle.std.proofs.lemmas.List.Elements.{Contains-append_left, Contains-append_right, Contains-append_cases}
use Rattle.lane_model.specs.Lane.{Slot, Lane, bytes_of, data_of, flags_of, entry_of, lane_slot_of, with_field, with_flags}
use Rattle.lane_model.specs.declared.Field.{Field}
use Rattle.lane_model.specs.declared.Write.{Write}
use Rattle.lane_model.specs.declared.Write.TheVariants.{Data, Flag, Bell}
use Rattle.lane_model.specs.Law.{AreLeft, AreLeftToLand, Stands, StandsWhole, RingLaw}
use Rattle.lane_model.specs.Steps.{after_landing}
use Rattle.lane_laws.proofs.Numbers.{other_number}
use Rattle.lane_laws.proofs.Ring.{place_same, place_other, each_place, length-ring_with}
use Rattle.lane_laws.proofs.Chunks.{IsFieldOf, contains_cases, contains_first, field_among, cell_of_field, stands_written, stands_still, stands_under_flags, flags_stay, room_stays, fields_make_whole}
use Rattle.lane_laws.proofs.WritesToCome.{flag_in_front, bell_in_front, left_nothing, cell_left, left_to_land_without, cell_to_land, other_writes_keep}
use Rattle.lane_laws.proofs.Receiver.{more_flagged}

-- the writes to come, with the first in flight apart
front_apart : (flight : List Write) (write : Write) (rest lost todo : List Write) → flight ≡ write ∷ rest → (flight ++ lost) ++ todo ≡ write ∷ ((rest ++ lost) ++ todo)
front_apart flight write rest lost todo e = ap (λ w. (w ++ lost) ++ todo) e

-- The law of the ring, with the same writes lost, is kept when a doorbell that is first in flight lands.
pub land_bell_keeps : (lost : List Write) (lost_back : List ℕ) (lane : Lane) (rest : List Write) → lane.flight ≡ Bell ∷ rest
    → RingLaw lost lost_back lane → RingLaw lost lost_back (after_landing lane Bell rest)
land_bell_keeps lost lost_back lane rest front h =
    let coming : List Write = (rest ++ lost) ++ lane.todo in
    let apart : (lane.flight ++ lost) ++ lane.todo ≡ Bell ∷ coming = front_apart lane.flight Bell rest lost lane.todo front in
    let left_now : AreLeftToLand lane.flagged lane.sent coming =
    elim h.coming.left [
      | inl none ↦ absurd (bell_in_front (drop lane.flagged lane.sent) lane.flagged coming (subst (AreLeft lane.flagged (drop lane.flagged lane.sent)) apart none))
      | inr bell ↦
          let same : bell.0 ≡ coming = cc (bell.1, apart) in
          inl (subst (AreLeft lane.flagged (drop lane.flagged lane.sent)) same bell.3)
    ] in
    other_writes_keep lost lost lost_back lane rest lane.todo (record { left = left_now; last = h.coming.last }) h.none_lost
    (λ n field comes. elim (contains_cases Bell coming (Data n field) (subst (λ w. Contains w (Data n field)) apart comes)) [
      | inl e ↦ absurd (cc e)
      | inr later ↦ later
    ])
    h

-- flags in front are those of the first entry that has none
pub flag_is_next : (lost : List Write) (lost_back : List ℕ) (lane : Lane) (n : ℕ) (rest : List Write) → lane.flight ≡ Flag n ∷ rest → RingLaw lost lost_back lane
    → (n ≡ lane.flagged) × (n < length lane.sent) × (left : List Write) × ((rest ++ lost) ++ lane.todo ≡ Bell ∷ left) × AreLeft (lane.flagged + 1) (drop (lane.flagged + 1) lane.sent) left
flag_is_next lost lost_back lane n rest front h =
    elim h.coming.left [
      | inl left ↦
          let f = flag_in_front (drop lane.flagged lane.sent) lane.flagged n coming (subst (AreLeft lane.flagged (drop lane.flagged lane.sent)) apart left) in
          let d = length-drop lane.flagged lane.sent in
          let more : f.1 ≡ drop (lane.flagged + 1) lane.sent = sym f.4 ∙ drop-drop 1 lane.flagged lane.sent in
          let next : suc lane.flagged ≡ lane.flagged + 1 = omega arith in
          (f.0, omega (arith, f.0, f.3), f.2, f.5, subst (λ k. AreLeft k (drop (lane.flagged + 1) lane.sent) f.2) next (subst (λ es. AreLeft (suc lane.flagged) es f.2) more f.6))
      | inr bell ↦ absurd (cc (bell.1, apart))
    ]
  where
    coming : List Write
    coming = (rest ++ lost) ++ lane.todo

    apart : (lane.flight ++ lost) ++ lane.todo ≡ Flag n ∷ (rest ++ lost) ++ lane.todo
    apart = front_apart lane.flight (Flag n) rest lost lane.todo front

-- If the law of the ring holds, a field in flight is of an entry that was begun and whose flags haven't landed.
pub data_is_ahead : (lost : List Write) (lost_back : List ℕ) (lane : Lane) (n : ℕ) (field : Field) → Contains lane.flight (Data n field)
    → RingLaw lost lost_back lane → (lane.flagged ≤ n) × (n < length lane.sent) × Contains (data_of n (entry_of lane n)) (Data n field)
data_is_ahead lost lost_back lane n field among h =
    cell_to_land lane ((lane.flight ++ lost) ++ lane.todo) n field h.counts.flagged_first h.coming.left
    (Contains-append_left (lane.flight ++ lost) lane.todo (Data n field) (Contains-append_left lane.flight lost (Data n field) among))

-- where nothing is on its way, every entry has its flags
pub nothing_left : (lost : List Write) (lost_back : List ℕ) (lane : Lane) → lane.up ≡ true → lane.flight ≡ [] → lane.todo ≡ []
    → RingLaw lost lost_back lane → lane.flagged ≡ length lane.sent
nothing_left lost lost_back lane up no_flight no_todo h =
    let none : lost ≡ [] = (h.none_lost up).0 in
    let nothing : (lane.flight ++ lost) ++ lane.todo ≡ [] = ap (λ w. (w ++ lost) ++ lane.todo) no_flight ∙ ap (λ w. w ++ lane.todo) none ∙ no_todo in
    elim h.coming.left [
      | inl left ↦
          let e : length (drop lane.flagged lane.sent) ≡ 0 = left_nothing (drop lane.flagged lane.sent) lane.flagged (subst (AreLeft lane.flagged (drop lane.flagged lane.sent)) nothing left) in
          omega (arith, length-drop lane.flagged lane.sent)
      | inr bell ↦ absurd (cc (bell.1, nothing))
    ]

-- the entry in front stands whole once its flags are up
whole_under_flags : (lost : List Write) (lost_back : List ℕ) (lane : Lane) (n : ℕ) (rest : List Write) → lane.flight ≡ Flag n ∷ rest → RingLaw lost lost_back lane
    → StandsWhole (with_flags (lane_slot_of lane n) (flags_of (entry_of lane n))) n (entry_of lane n)
whole_under_flags lost lost_back lane n rest front h =
    let next = flag_is_next lost lost_back lane n rest front h in
    let apart : (lane.flight ++ lost) ++ lane.todo ≡ Flag n ∷ ((rest ++ lost) ++ lane.todo) = front_apart lane.flight (Flag n) rest lost lane.todo front in
    let begun : n < length lane.sent = next.1 in
    let low : lane.flagged ≤ n = omega (arith, next.0) in
    let room : length (lane_slot_of lane n).payload ≡ lane.largest = h.room.rooms (n % lane.entries) (mod-lt n (omega arith)) in
    let fits : length (bytes_of (entry_of lane n)) ≤ lane.largest = h.frames.fits n begun in
    fields_make_whole (with_flags (lane_slot_of lane n) (flags_of (entry_of lane n))) n (entry_of lane n) (omega arith)
    (λ field among. stands_under_flags (lane_slot_of lane n) n (entry_of lane n) field (flags_of (entry_of lane n)) (elim (h.standing.landed n field low begun (cell_of_field n (entry_of lane n) field among)) [
      | inl comes ↦ elim (contains_cases (Flag n) ((rest ++ lost) ++ lane.todo) (Data n field) (subst (λ w. Contains w (Data n field)) apart comes)) [
        | inl e ↦ absurd (cc e)
        | inr later ↦ elim (contains_cases Bell next.2 (Data n field) (subst (λ w. Contains w (Data n field)) next.3 later)) [
          | inl e ↦ absurd (cc e)
          | inr in_rest ↦
              let ahead = cell_left (drop (lane.flagged + 1) lane.sent) (lane.flagged + 1) next.2 n field next.4 in_rest in
              absurd (omega (arith, next.0, ahead.0))
        ]
      ]
      | inr stands ↦ stands
    ]))
    refl

-- The law of the ring, with the same writes lost, is kept when flags that are first in flight land.
pub land_flag_keeps : (lost : List Write) (lost_back : List ℕ) (lane : Lane) (n : ℕ) (rest : List Write) → lane.flight ≡ Flag n ∷ rest
    → RingLaw lost lost_back lane → RingLaw lost lost_back (after_landing lane (Flag n) rest)
land_flag_keeps lost lost_back lane n rest front h =
    let next = flag_is_next lost lost_back lane n rest front h in
    let begun : n < length lane.sent = next.1 in
    let is_next : n ≡ lane.flagged = next.0 in
    let apart : (lane.flight ++ lost) ++ lane.todo ≡ Flag n ∷ ((rest ++ lost) ++ lane.todo) = front_apart lane.flight (Flag n) rest lost lane.todo front in
    let after : Lane = after_landing lane (Flag n) rest in
    let slot : Slot = with_flags (lane_slot_of lane n) (flags_of (entry_of lane n)) in
    let in_ring : n % lane.entries < lane.entries = mod-lt n (omega arith) in
    let elsewhere_below : (m : ℕ) → m < n → n < m + lane.entries → lane_slot_of after m ≡ lane_slot_of lane m =
    λ m low high. place_other lane n m slot (λ e. other_number lane.entries m n low high (sym e)) in
    let elsewhere_above : (m : ℕ) → n < m → m < n + lane.entries → lane_slot_of after m ≡ lane_slot_of lane m =
    λ m low high. place_other lane n m slot (other_number lane.entries n m low high) in
    let whole_now : StandsWhole (lane_slot_of after n) n (entry_of lane n) =
    subst (λ p. StandsWhole p n (entry_of lane n)) (sym (place_same lane n n slot h.room.slots h.room.two_entries refl)) (whole_under_flags lost lost_back lane n rest front h) in
    record {
      room = record {
        two_entries = h.room.two_entries;
        slots = length-ring_with lane n slot h.room.slots;
        rooms = λ k below. each_place lane n k slot (λ p. length p.payload ≡ lane.largest) h.room.slots below (h.room.rooms (n % lane.entries) in_ring) (h.room.rooms k below);
      };
      frames = h.frames;
      counts = record {
        freed_first = h.counts.freed_first;
        acked_first = h.counts.acked_first;
        cleared_first = h.counts.cleared_first;
        got_first = omega arith;
        flagged_first = omega arith;
        one_free = h.counts.one_free;
      };
      receiver = record {
        phase_counts = more_flagged lane.phase lane.acked lane.cleared lane.got lane.flagged (lane.flagged + 1) (omega arith) h.receiver.phase_counts;
        part_first = h.receiver.part_first;
      };
      coming = record {
        left = inr (next.2, next.3, omega arith, next.4);
        last = h.coming.last;
      };
      none_lost = h.none_lost;
      standing = record {
        whole = λ m low high. elim (cases_eq n m) [
          | inl same ↦ subst (λ k. StandsWhole (lane_slot_of after k) k (entry_of lane k)) same whole_now
          | inr apart_from ↦ subst (λ p. StandsWhole p m (entry_of lane m)) (sym (elsewhere_below m (omega arith) (omega arith))) (h.standing.whole m low (omega arith))
        ];
        empty = λ m low high. ap (λ p. p.flags) (elsewhere_above m (omega arith) (omega arith)) ∙ h.standing.empty m (omega arith) high;
        landed = λ m field low high among. elim (h.standing.landed m field (omega arith) high among) [
          | inl comes ↦ elim (contains_cases (Flag n) ((rest ++ lost) ++ lane.todo) (Data m field) (subst (λ w. Contains w (Data m field)) apart comes)) [
            | inl e ↦ absurd (cc e)
            | inr later ↦ inl later
          ]
          | inr stands ↦ inr (subst (λ p. Stands p m (entry_of lane m) field) (sym (elsewhere_above m (omega arith) (omega arith))) stands)
        ];
      };
      back = h.back;
    }

-- the writes to come, with one of those in flight apart
middle_apart : (before behind lost todo : List Write) (write : Write) → ((before ++ write ∷ behind) ++ lost) ++ todo ≡ before ++ write ∷ ((behind ++ lost) ++ todo)
middle_apart [] behind lost todo write = refl
middle_apart (b ∷ before) behind lost todo write = ap (λ w. b ∷ w) (middle_apart before behind lost todo write)

without_middle : (before behind lost todo : List Write) → ((before ++ behind) ++ lost) ++ todo ≡ before ++ ((behind ++ lost) ++ todo)
without_middle [] behind lost todo = refl
without_middle (b ∷ before) behind lost todo = ap (λ w. b ∷ w) (without_middle before behind lost todo)

contains_without : (before behind : List Write) (write other : Write) → Contains (before ++ write ∷ behind) other → (write ≡ other) ⊎ Contains (before ++ behind) other
contains_without before behind write other h = elim (Contains-append_cases before (write ∷ behind) other h) [
  | inl first ↦ inr (Contains-append_left before behind other first)
  | inr later ↦ elim (contains_cases write behind other later) [
    | inl e ↦ inl e
    | inr last ↦ inr (Contains-append_right before behind other last)
  ]
]

-- The law of the ring, with the same writes lost, is kept when a field lands, from whatever place in flight.
pub land_data_keeps : (lost : List Write) (lost_back : List ℕ) (lane : Lane) (n : ℕ) (field : Field) (before behind : List Write) → lane.flight ≡ before ++ Data n field ∷ behind
    → RingLaw lost lost_back lane → RingLaw lost lost_back (after_landing lane (Data n field) (before ++ behind))
land_data_keeps lost lost_back lane n field before behind middle h =
    let tail : List Write = (behind ++ lost) ++ lane.todo in
    let apart : (lane.flight ++ lost) ++ lane.todo ≡ before ++ Data n field ∷ tail = ap (λ w. (w ++ lost) ++ lane.todo) middle ∙ middle_apart before behind lost lane.todo (Data n field) in
    let left_now : ((before ++ behind) ++ lost) ++ lane.todo ≡ before ++ tail = without_middle before behind lost lane.todo in
    let in_flight : Contains lane.flight (Data n field) = subst (λ w. Contains w (Data n field)) (sym middle) (Contains-append_right before (Data n field ∷ behind) (Data n field) (contains_first (Data n field) behind)) in
    let ahead = data_is_ahead lost lost_back lane n field in_flight h in
    let low_n : lane.flagged ≤ n = ahead.0 in
    let high_n : n < length lane.sent = ahead.1 in
    let of_entry : IsFieldOf (entry_of lane n) field = (field_among n n (entry_of lane n) field ahead.2).1 in
    let after : Lane = after_landing lane (Data n field) (before ++ behind) in
    let slot : Slot = with_field (lane_slot_of lane n) n (entry_of lane n) field in
    let in_ring : n % lane.entries < lane.entries = mod-lt n (omega arith) in
    let room : length (lane_slot_of lane n).payload ≡ lane.largest = h.room.rooms (n % lane.entries) in_ring in
    let fits : length (bytes_of (entry_of lane n)) ≤ length (lane_slot_of lane n).payload = omega (arith, h.frames.fits n high_n) in
    let stays = room_stays (lane_slot_of lane n) n (entry_of lane n) field of_entry fits in
    let same_place : lane_slot_of after n ≡ slot = place_same lane n n slot h.room.slots h.room.two_entries refl in
    let elsewhere_below : (m : ℕ) → m < n → n < m + lane.entries → lane_slot_of after m ≡ lane_slot_of lane m =
    λ m low high. place_other lane n m slot (λ e. other_number lane.entries m n low high (sym e)) in
    let elsewhere_above : (m : ℕ) → n < m → m < n + lane.entries → lane_slot_of after m ≡ lane_slot_of lane m =
    λ m low high. place_other lane n m slot (other_number lane.entries n m low high) in
    let written : (f : Field) → field ≡ f → Stands (lane_slot_of after n) n (entry_of lane n) f = λ f e.
    subst (Stands (lane_slot_of after n) n (entry_of lane n)) e
    (subst (λ p. Stands p n (entry_of lane n) field) (sym same_place) (stands_written (lane_slot_of lane n) n (entry_of lane n) field of_entry fits)) in
    let still : (f : Field) → Stands (lane_slot_of lane n) n (entry_of lane n) f → Stands (lane_slot_of after n) n (entry_of lane n) f = λ f stands.
    subst (λ p. Stands p n (entry_of lane n) f) (sym same_place) (stands_still (lane_slot_of lane n) n (entry_of lane n) field f of_entry fits stands) in
    record {
      room = record {
        two_entries = h.room.two_entries;
        slots = length-ring_with lane n slot h.room.slots;
        rooms = λ k below. each_place lane n k slot (λ p. length p.payload ≡ lane.largest) h.room.slots below (stays ∙ room) (h.room.rooms k below);
      };
      frames = h.frames;
      counts = h.counts;
      receiver = h.receiver;
      coming = record {
        left = subst (AreLeftToLand lane.flagged lane.sent) (sym left_now) (left_to_land_without lane before tail n field (subst (AreLeftToLand lane.flagged lane.sent) apart h.coming.left));
        last = h.coming.last;
      };
      none_lost = h.none_lost;
      standing = record {
        whole = λ m low high. subst (λ p. StandsWhole p m (entry_of lane m)) (sym (elsewhere_below m (omega arith) (omega arith))) (h.standing.whole m low high);
        empty = λ m low high. elim (cases_order m n) [
          | inl same ↦ ap (λ p. p.flags) (place_same lane n m slot h.room.slots h.room.two_entries (ap (λ k. k % lane.entries) same)) ∙ flags_stay (lane_slot_of lane n) n (entry_of lane n) field ∙ h.standing.empty n low_n (omega arith)
          | inr other ↦ elim other [
            | inl below ↦ ap (λ p. p.flags) (elsewhere_below m below (omega arith)) ∙ h.standing.empty m low high
            | inr above ↦ ap (λ p. p.flags) (elsewhere_above m above (omega arith)) ∙ h.standing.empty m low high
          ]
        ];
        landed = λ m f low high among. elim (h.standing.landed m f low high among) [
          | inl comes ↦ elim (contains_without before tail (Data n field) (Data m f) (subst (λ w. Contains w (Data m f)) apart comes)) [
            | inl e ↦
                let same_n : n ≡ m = cc in
                let same_field : field ≡ f = cc in
                inr (subst (λ k. Stands (lane_slot_of after k) k (entry_of lane k) f) same_n (written f same_field))
            | inr rest ↦ inl (subst (λ w. Contains w (Data m f)) (sym left_now) rest)
          ]
          | inr stands ↦ inr (elim (cases_order n m) [
            | inl same ↦ subst (λ k. Stands (lane_slot_of after k) k (entry_of lane k) f) same (still f (subst (λ k. Stands (lane_slot_of lane k) k (entry_of lane k) f) (sym same) stands))
            | inr other ↦ elim other [
              | inl above ↦ subst (λ p. Stands p m (entry_of lane m) f) (sym (elsewhere_above m above (omega arith))) stands
              | inr below ↦ subst (λ p. Stands p m (entry_of lane m) f) (sym (elsewhere_below m below (omega arith))) stands
            ]
          ])
        ];
      };
      back = h.back;
    }
