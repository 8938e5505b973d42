-- The sender's steps: the slot of the next entry goes to the sender, and comes back with a frame.
use Rattle.std.proofs.Common.{◌≡◌, ◌≢◌, ℕ, zero, suc, ◌+◌, ◌-◌, ◌%◌, ◌<◌, ◌≤◌, true, false, List, [], ◌∷◌, ◌++◌, length, map, drop, set, get_or, refl, sym, subst, ap, ◌∙◌, inl, inr, arith, mod-lt, mod-eq_of_lt, length-drop, get_or-set_same, get_or-set_other, Some, nat_lt}
use Rattle.std.proofs.lemmas.Bool.{lt-ltb, le-ltb, cases_eq, cases_lt}
use Rattle.std.proofs.lemmas.List.{map-append, length_push, get_or_push, get_or_append_left, take-append-le, length-map, drop-append-le}
use mathlib.Core.Option.{some}
use Rattle.table_lane.specs.LaneNames.{Entry, entry_of_frame, GoesDown, Lane, entry_of, free_entries, head_of, free_in, writes_of, tail_of, after_begin}
use Rattle.table_lane.specs.Words.{table_header_of}
use Rattle.table_lane.specs.Views.{TableBytes}
use Rattle.table_lane.specs.Borders.{Borders, Slots, out, full, slot_at}
use Rattle.table_lane.specs.ShownLane.{borders_of, claimed_by, table_in_flight, PostedStand}
use Rattle.table_lane.specs.LaneNames.{LaneRuns}
use Rattle.table_lane.specs.LaneSteps.{send_steps}
use Rattle.table_lane.specs.Kinds.{Claims, Sends}
use Rattle.table_lane.specs.Moment.{Moment, ShowsLane}
use Rattle.table_lane.proofs.LaneLaws.{free_is_room, other_number}
use Rattle.table_lane.proofs.LaneRuns.{runs_keep, post_all}
use Rattle.table_lane.proofs.Flights.{in_flight-send}
use Rattle.table_lane.proofs.ClaimsAndLoads.{shows_still}
use Rattle.table_lane.proofs.Slots.{slot_by, slot_is, moves_past, slot_changes}
use Rattle.table_lane.proofs.Order.{in_order}

abbrev pub borders_in : Moment → Borders
borders_in m = borders_of m.back.freed m.lane.cleared (length m.recv.got + length m.recv.hand) m.mover.flagged (m.mover.flagged + length m.mover.held) (length m.send.sent) m.send.claims

-- the entries of the lane are frames
pub entry_is_frame : (frames : List TableBytes) (n : ℕ) → n < length frames → get_or (map entry_of_frame frames) n GoesDown ≡ entry_of_frame (get_or frames n [])
entry_is_frame [] n below = absurd (omega arith)
entry_is_frame (f ∷ frames) zero below = refl
entry_is_frame (f ∷ frames) (suc n) below = entry_is_frame frames n (omega arith)

-- where index word and head show room, there is room
pub room_shown : (N : ℕ) (m : Moment) (slots : Slots) → 0 < free_entries N (head_of N (length m.send.sent)) m.words.index → ShowsLane N m slots → length m.send.sent + 1 < m.back.freed + N
room_shown N m slots free h =
    let o = in_order N m slots h in
    let length_sent : length m.lane.sent ≡ length m.send.sent = ap length h.parts.entries ∙ length-map m.send.sent entry_of_frame in
    let word : m.lane.index_word ≡ m.words.index = h.law.2.back.index_word_is ∙ (λ i. tail_of (h.of.entries i) (h.parts.given_back i)) ∙ sym h.index.homeward in
    let same : free_in m.lane ≡ free_entries N (head_of N (length m.send.sent)) m.words.index = λ i. free_entries (h.of.entries i) (head_of (h.of.entries i) (length_sent i)) (word i) in
    let shown = free_is_room m.lane h.law in
    let entries = h.of.entries in
    let freed = h.parts.given_back in
    omega arith

-- the slot of the next entry goes to the sender
pub claims : Claims
claims N m slots free_hand free h =
    let o = in_order N m slots h in
    let n : ℕ = length m.send.sent in
    let k = borders_in m in
    let room = room_shown N m slots free h in
    let none_claimed : claimed_by n m.send.claims ≡ n = ap (claimed_by n) free_hand ∙ omega arith in
    let low : m.back.freed ≤ n = omega arith in
    let l0 : nat_lt n k.cleared ≡ false = le-ltb n k.cleared (omega arith) in
    let l1 : nat_lt n k.looked ≡ false = le-ltb n k.looked (omega arith) in
    let l2 : nat_lt n k.flagged ≡ false = le-ltb n k.flagged (omega arith) in
    let l3 : nat_lt n k.taken ≡ false = le-ltb n k.taken (omega arith) in
    let l4 : nat_lt n k.sent ≡ false = le-ltb n k.sent (omega arith) in
    let next : Borders = record k { claimed = n + 1 } in (
      h.places.at n low (omega arith) ∙ ap some (slot_is k m.send.sent n l0 l1 l2 l3 l4 (le-ltb n k.claimed (omega arith))),
      shows_still N m slots _ true m.back.index m.words.link m.cut.cut h h.index h.link h.seen_cut (record { one_free = omega arith; counted = h.room.counted })
          (slot_changes N k next m.send.sent m.send.sent slots n out (omega (arith, o.two)) h.places refl low (omega arith)
          (λ j other. ap (λ b. slot_by (nat_lt j k.cleared) (nat_lt j k.looked) (nat_lt j k.flagged) (nat_lt j k.taken) (nat_lt j k.sent) b (full m.send.sent j))
          (moves_past j n other ∙ ap (nat_lt j) (sym none_claimed)))
          (slot_is next m.send.sent n l0 l1 l2 l3 l4 (lt-ltb n (n + 1) (omega arith)))),
    )

-- one more posted header
posts : (N : ℕ) (posted : List ℕ) (n more : ℕ) → 0 < N → more ≡ n + 1 → length posted ≡ N → PostedStand N posted n → PostedStand N (set posted (n % N) (table_header_of n)) more
posts N posted n more some_slot is long h =
    let within : n % N < N = mod-lt n some_slot in
    record {
      newest = λ j below near. elim (cases_eq j n) [
        | inl same ↦ ap (λ (k : ℕ). get_or (set posted (n % N) (table_header_of n)) (k % N) 0) same ∙ get_or-set_same posted (n % N) (table_header_of n) 0 (omega arith) ∙ ap table_header_of (sym same)
        | inr other ↦
            let before : j < n = omega arith in
            get_or-set_other posted (n % N) (j % N) (table_header_of n) 0 (λ e. other_number N j n before (omega arith) (sym e)) ∙ h.newest j before (omega arith)
      ];
      never = λ position past below.
          let small : n % N ≡ n = mod-eq_of_lt (omega arith) in
          get_or-set_other posted (n % N) position (table_header_of n) 0 (λ e. omega arith) ∙ h.never position (omega arith) below;
    }

-- the frame stands in its slot, which is at home, and its writes are on their way
pub sends : Sends
sends N m slots frame claimed fits counted sized h =
    let o = in_order N m slots h in
    let n : ℕ = length m.send.sent in
    let k = borders_in m in
    let lane : Lane = m.lane in
    let entry : Entry = entry_of_frame frame in
    let count : length lane.sent ≡ n = ap length h.parts.entries ∙ length-map m.send.sent entry_of_frame in
    let more : length (m.send.sent ++ frame ∷ []) ≡ n + 1 = length_push m.send.sent frame in
    let had : claimed_by n m.send.claims ≡ n + 1 = ap (claimed_by n) claimed in
    let one_free : claimed_by n m.send.claims + 1 ≤ m.back.freed + N = h.room.one_free in
    let shown = free_is_room lane h.law in
    let entries = h.of.entries in
    let freed = h.parts.given_back in
    let flagged = h.parts.whole in
    let free : 0 < free_in lane = omega arith in
    let open_yet : (j : ℕ) → j < length lane.sent → entry_of lane j ≢ GoesDown =
    λ j below down. let below_n : j < n = omega arith in let is : get_or lane.sent j GoesDown ≡ entry_of_frame (get_or m.send.sent j []) = ap (λ es. get_or es j GoesDown) h.parts.entries ∙ entry_is_frame m.send.sent j below_n in cc in
    let next : Lane = record lane { sent = lane.sent ++ entry ∷ []; todo = []; flight = lane.flight ++ writes_of (length lane.sent) entry } in
    let runs : LaneRuns (send_steps (length lane.sent) frame) lane next =
    (after_begin lane entry, (h.of.todo, free, subst (λ (most : ℕ). length frame ≤ most) (sym h.of.largest) fits, open_yet, refl), post_all (writes_of (length lane.sent) entry) (after_begin lane entry) refl h.of.up) in
    let dropped : drop m.mover.flagged (lane.sent ++ entry ∷ []) ≡ drop m.mover.flagged lane.sent ++ entry ∷ [] = drop-append-le m.mover.flagged lane.sent (entry ∷ []) (omega arith) in
    let left : length (drop m.mover.flagged lane.sent) ≡ length lane.sent - m.mover.flagged = length-drop m.mover.flagged lane.sent in
    let marks = h.holding.marks in
    let flight : lane.flight ++ writes_of (length lane.sent) entry ≡ table_in_flight m.mover.flagged m.mover.stored (drop m.mover.flagged (lane.sent ++ entry ∷ [])) =
    ap (λ w. w ++ writes_of (length lane.sent) entry) h.parts.flight
    ∙ sym (in_flight-send m.mover.flagged (length lane.sent) m.mover.stored (drop m.mover.flagged lane.sent) entry (omega arith) (omega arith))
    ∙ ap (table_in_flight m.mover.flagged m.mover.stored) (sym dropped) in
    let after : Borders = record k { sent = length (m.send.sent ++ frame ∷ []); claimed = claimed_by (length (m.send.sent ++ frame ∷ [])) false } in
    let low : m.back.freed ≤ n = omega arith in
    let same_claimed : after.claimed ≡ k.claimed = omega arith in
    let l0 : nat_lt n k.cleared ≡ false = le-ltb n k.cleared (omega arith) in
    let l1 : nat_lt n k.looked ≡ false = le-ltb n k.looked (omega arith) in
    let l2 : nat_lt n k.flagged ≡ false = le-ltb n k.flagged (omega arith) in
    let l3 : nat_lt n k.taken ≡ false = le-ltb n k.taken (omega arith) in
    let others : (j : ℕ) → j ≢ n → slot_at after (m.send.sent ++ frame ∷ []) j ≡ slot_at k m.send.sent j = λ j other. elim (cases_lt j n) [
      | inl below ↦
          let sent : nat_lt j after.sent ≡ nat_lt j k.sent = ap (nat_lt j) more ∙ moves_past j n other in
          let here : full (m.send.sent ++ frame ∷ []) j ≡ full m.send.sent j = ap (λ (f : TableBytes). some (Some f)) (get_or_append_left m.send.sent (frame ∷ []) [] j below) in
          λ i. slot_by (nat_lt j k.cleared) (nat_lt j k.looked) (nat_lt j k.flagged) (nat_lt j k.taken) (sent i) (nat_lt j (same_claimed i)) (here i)
      | inr above ↦
          let past_flagged : nat_lt j k.flagged ≡ false = le-ltb j k.flagged (omega arith) in
          slot_is after (m.send.sent ++ frame ∷ []) j refl refl past_flagged refl (le-ltb j after.sent (omega arith)) (ap (nat_lt j) same_claimed)
          ∙ sym (slot_is k m.send.sent j refl refl past_flagged refl (le-ltb j k.sent (omega arith)) refl)
    ] in (
      next,
      runs,
      record {
        law = runs_keep (send_steps (length lane.sent) frame) lane next runs h.law;
        of = record { entries = h.of.entries; largest = h.of.largest; up = h.of.up; todo = refl; small = h.of.small };
        parts = record {
          entries = ap (λ es. es ++ entry ∷ []) h.parts.entries ∙ sym (map-append entry_of_frame m.send.sent (frame ∷ []));
          whole = h.parts.whole;
          flight = flight;
          copied = h.parts.copied;
          stage = h.parts.stage;
          given_back = h.parts.given_back;
        };
        posted = posts N m.words.posted n (length (m.send.sent ++ frame ∷ [])) (omega arith) more sized.posted h.posted;
        headers = h.headers;
        ring = h.ring;
        index = h.index;
        link = h.link;
        seen_cut = h.seen_cut;
        holding = record {
          frames = λ j below. h.holding.frames j below ∙ sym (get_or_append_left m.send.sent (frame ∷ []) [] (m.mover.flagged + j) (let e : m.mover.flagged + j < n = omega arith in e));
          within = omega arith;
          marks = h.holding.marks;
        };
        receiving = record {
          prefix = h.receiving.prefix ∙ sym (take-append-le (length m.recv.got + length m.recv.hand) m.send.sent (frame ∷ []) (omega arith));
          in_hand = h.receiving.in_hand;
        };
        room = record { one_free = omega arith; counted = omega arith };
        places = slot_changes N k after m.send.sent (m.send.sent ++ frame ∷ []) slots n (some (Some frame)) (omega (arith, o.two)) h.places refl low (omega arith)
            others
            (slot_is after (m.send.sent ++ frame ∷ []) n l0 l1 l2 l3 (lt-ltb n after.sent (omega arith)) refl ∙ ap (λ (f : TableBytes). some (Some f)) (get_or_push m.send.sent frame [] n refl));
      },
    )
