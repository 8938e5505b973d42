-- The receiver's steps: look at the next entry, copy it whole, clear its flags, acknowledge it. What a step leaves as
-- it was is found by `assumption`, which lists only what is new.
use Rattle.std.proofs.Common.{◌≡◌, ℕ, suc, ◌+◌, ◌%◌, ◌<◌, ◌≤◌, false, List, [], ◌∷◌, ◌++◌, length, take, set, get_or, refl, sym, subst, ap, ◌∙◌, inl, inr, arith, length-append, append-nil, nat_lt, replicate}
use Rattle.std.proofs.lemmas.Bool.{lt-ltb, le-ltb, cases_lt}
use Rattle.std.proofs.Math.ListN.{get_or-map}
use Rattle.std.proofs.Math.Seq.{take-suc}
use mathlib.Core.Option.{some}
use Rattle.table_lane.specs.LaneNames.{Lane, Slot, blank_slot, lane_slot_of, with_flags, done, PhaseCounts, Idle, Copying, Copied, Cleared, bytes_of, entry_of, flags_of, entry_of_frame, GoesDown, after_look, after_clear, after_ack}
use Rattle.table_lane.specs.Words.{table_header_of}
use Rattle.table_lane.specs.Views.{TableBytes}
use Rattle.table_lane.specs.Borders.{Borders, Slots, TableSlotsStand, empty, out, full, slot_at}
use Rattle.table_lane.specs.ShownLane.{RingStands, IndexStands, hand_in}
use Rattle.table_lane.specs.LaneNames.{Look, Copy, Clear, Acknowledge, LaneRuns}
use Rattle.table_lane.specs.Kinds.{Looks, Copies, Clears, Acknowledges}
use Rattle.table_lane.specs.Moment.{Moment, ShowsLane}
use Rattle.table_lane.proofs.LaneLaws.{chunks_in, look_sees, tail_after}
use Rattle.table_lane.proofs.LaneRuns.{runs_keep, copy_all}
use Rattle.table_lane.proofs.Headers.{header_whole}
use Rattle.table_lane.proofs.Slots.{slot_by, slot_is, moves_past, slot_changes}
use Rattle.table_lane.proofs.Order.{in_order}
use Rattle.table_lane.proofs.SenderShows.{borders_in, entry_is_frame}
use Rattle.table_lane.proofs.MoverShows.{ring_stores_flag}

-- A list of length 0 is empty.
pub none_long : (xs : List TableBytes) → length xs ≡ 0 → xs ≡ []
none_long [] e = refl
none_long (x ∷ xs) e = absurd (omega arith)

-- a flag word is the flags of its position
flag_is : (N : ℕ) (m : Moment) (slots : Slots) (n : ℕ) → ShowsLane N m slots → get_or m.words.flags (n % N) 0 ≡ (lane_slot_of m.lane n).flags
flag_is N m slots n h =
    ap (λ (k : ℕ). get_or m.words.flags (n % k) 0) (sym h.of.entries)
    ∙ ap (λ (fs : List ℕ). get_or fs (n % m.lane.entries) 0) (sym h.ring.raised)
    ∙ get_or-map (λ (s : Slot). s.flags) m.lane.ring (n % m.lane.entries) blank_slot

-- a landed entry has its flag up
pub raised : (N : ℕ) (m : Moment) (slots : Slots) (n : ℕ) → n ≡ length m.recv.got → m.recv.phase ≡ Idle → n < m.mover.flagged → ShowsLane N m slots → get_or m.words.flags (n % N) 0 ≡ done
raised N m slots n is idle below h =
    let copied = h.parts.copied in
    let whole = h.parts.whole in
    let at : m.lane.got ≡ n = copied ∙ sym is in
    let sees = look_sees m.lane (h.parts.stage ∙ idle) h.law in
    let stands = sees.an_entry (omega arith) in
    let o = in_order N m slots h in
    let within : n < length m.send.sent = omega (arith, o.taken) in
    let is_frame : entry_of m.lane n ≡ entry_of_frame (get_or m.send.sent n []) = ap (λ es. get_or es n GoesDown) h.parts.entries ∙ entry_is_frame m.send.sent n within in
    flag_is N m slots n h ∙ ap (λ (j : ℕ). (lane_slot_of m.lane j).flags) (sym at) ∙ stands.flags ∙ ap (λ (j : ℕ). flags_of (entry_of m.lane j)) at ∙ ap flags_of is_frame

-- the next frame has landed: its slot goes to the receiver
pub looks : Looks
looks N m slots n is idle raised h =
    let o = in_order N m slots h in
    let k = borders_in m in
    let lane : Lane = m.lane in
    let frame : TableBytes = get_or m.send.sent n [] in
    let copied = h.parts.copied in
    let whole = h.parts.whole in
    let lane_idle : lane.phase ≡ Idle = h.parts.stage ∙ idle in
    let counts : PhaseCounts Idle lane.acked lane.cleared lane.got lane.flagged = subst (λ p. PhaseCounts p lane.acked lane.cleared lane.got lane.flagged) lane_idle h.law.2.receiver.phase_counts in
    let cleared = counts.1 in
    let no_hand : length m.recv.hand ≡ 0 = h.receiving.in_hand ∙ ap hand_in idle in
    let empty_hand : m.recv.hand ≡ [] = none_long m.recv.hand no_hand in
    let sees = look_sees lane lane_idle h.law in
    let up : (lane_slot_of lane lane.got).flags ≡ done = ap (λ (j : ℕ). (lane_slot_of lane j).flags) (copied ∙ sym is) ∙ sym (flag_is N m slots n h) ∙ raised in
    let more : lane.got < lane.flagged = elim (cases_lt lane.got lane.flagged) [
      | inl landed ↦ landed
      | inr nothing ↦
          let one = sees.one_of_both in
          let down = sees.nothing (omega arith) in
          absurd (omega arith)
    ] in
    let below : n < length m.send.sent = omega (arith, o.taken) in
    let after : Borders = record k { looked = length m.recv.got + 1 } in
    let one_more : after.looked ≡ k.looked + 1 = omega arith in
    let low : m.back.freed ≤ n = omega arith in
    let l0 : nat_lt n k.cleared ≡ false = le-ltb n k.cleared (omega arith) in
    let prefix : m.recv.got ++ frame ∷ [] ≡ take (length m.recv.got + 1) m.send.sent =
    ap (λ gs. gs ++ frame ∷ []) (sym (append-nil m.recv.got) ∙ ap (λ w. m.recv.got ++ w) (sym empty_hand) ∙ h.receiving.prefix ∙ ap (λ (j : ℕ). take j m.send.sent) (let e : length m.recv.got + length m.recv.hand ≡ n = omega arith in e))
    ∙ sym (take-suc m.send.sent n [] below) ∙ ap (λ (j : ℕ). take j m.send.sent) (let e : suc n ≡ length m.recv.got + 1 = omega arith in e) in
    let runs : LaneRuns (Look ∷ []) lane (after_look lane) = (after_look lane, (lane_idle, more, refl), refl) in (
      h.places.at n low (omega arith) ∙ ap some (slot_is k m.send.sent n l0 (le-ltb n k.looked (omega arith)) (lt-ltb n k.flagged (omega arith)) refl refl refl),
      below,
      (
        after_look lane,
        runs,
        assumption (
          runs_keep (Look ∷ []) lane (after_look lane) runs h.law,
          prefix,
          slot_changes N k after m.send.sent m.send.sent slots n out (omega (arith, o.two)) h.places refl low (omega arith)
              (λ j other. ap (λ b. slot_by (nat_lt j k.cleared) b (nat_lt j k.flagged) (nat_lt j k.taken) (nat_lt j k.sent) (nat_lt j k.claimed) (full m.send.sent j))
              (ap (nat_lt j) one_more ∙ moves_past j k.looked (λ e. other (omega arith))))
              (slot_is after m.send.sent n l0 (lt-ltb n after.looked (omega arith)) refl refl refl refl),
        ),
      ),
    )

-- the header word of the entry that is looked at is its header
pub header_is : (N : ℕ) (m : Moment) (slots : Slots) (n : ℕ) → n ≡ length m.recv.got → m.recv.phase ≡ Copying → ShowsLane N m slots → get_or m.words.headers (n % N) 0 ≡ table_header_of n
header_is N m slots n is copying h =
    let o = in_order N m slots h in
    let one : length m.recv.hand ≡ 1 = h.receiving.in_hand ∙ ap hand_in copying in
    let marks = h.holding.marks in
    header_whole N m.words.headers m.mover.flagged m.mover.stored n (omega (arith, o.looked)) (omega (arith, o.freed, o.acked, o.cleared, o.taken, o.sent, o.claimed)) h.headers

-- the frame in hand is received
pub copies : Copies
copies N m slots copying h =
    let lane : Lane = m.lane in
    let lane_copying : lane.phase ≡ Copying = h.parts.stage ∙ copying in
    let chunks : ℕ = chunks_in (length (bytes_of (entry_of lane lane.got))) in
    let all = copy_all chunks lane lane_copying (omega arith) in
    let next : Lane = record lane { part = all.1; got = lane.got + 1; phase = Copied } in
    let one : length m.recv.hand ≡ 1 = h.receiving.in_hand ∙ ap hand_in copying in
    let long : length (m.recv.got ++ m.recv.hand) ≡ length m.recv.got + length m.recv.hand = length-append m.recv.got m.recv.hand in
    let copied = h.parts.copied in
    let same : length (m.recv.got ++ m.recv.hand) + 0 ≡ length m.recv.got + length m.recv.hand = omega arith in
    let places : TableSlotsStand N (record (borders_in m) { looked = length (m.recv.got ++ m.recv.hand) + 0 }) m.send.sent slots =
    record { count = h.places.count; at = λ n low high. h.places.at n low high ∙ ap (λ (j : ℕ). some (slot_at (record (borders_in m) { looked = j }) m.send.sent n)) (sym same) } in (
      all.0,
      next,
      all.2,
      assumption (
        runs_keep (Copy ∷ replicate all.0 Copy) lane next all.2 h.law,
        (let count : next.got ≡ length (m.recv.got ++ m.recv.hand) = omega arith in count),
        append-nil (m.recv.got ++ m.recv.hand) ∙ h.receiving.prefix ∙ ap (λ (j : ℕ). take j m.send.sent) (sym same),
        places,
      ),
    )

-- the flags are cleared, and the slot is at home and empty
pub clears : Clears
clears N m slots n is copied_phase h =
    let o = in_order N m slots h in
    let k = borders_in m in
    let lane : Lane = m.lane in
    let lane_copied : lane.phase ≡ Copied = h.parts.stage ∙ copied_phase in
    let counts : PhaseCounts Copied lane.acked lane.cleared lane.got lane.flagged = subst (λ p. PhaseCounts p lane.acked lane.cleared lane.got lane.flagged) lane_copied h.law.2.receiver.phase_counts in
    let copied = h.parts.copied in
    let cleared_one : lane.cleared + 1 ≡ lane.got = counts.1 in
    let same : lane.cleared ≡ n = omega arith in
    let next : Lane = after_clear lane in
    let slot : Slot = with_flags (lane_slot_of lane lane.cleared) 0 in
    let after : Borders = record k { cleared = lane.cleared + 1 } in
    let ring : RingStands next.ring m.words.headers (set m.words.flags (lane.cleared % lane.entries) 0) =
    ring_stores_flag lane.ring m.words.headers m.words.flags (lane.cleared % lane.entries) slot 0 refl refl h.ring in
    let runs : LaneRuns (Clear ∷ []) lane next = (next, (lane_copied, refl), refl) in (
      next,
      runs,
      assumption (
        runs_keep (Clear ∷ []) lane next runs h.law,
        subst (λ (p : ℕ × ℕ). RingStands next.ring m.words.headers (set m.words.flags (p.0 % p.1) 0)) (λ i. (same i, h.of.entries i)) ring,
        h.receiving.in_hand ∙ ap hand_in copied_phase,
        slot_changes N k after m.send.sent m.send.sent slots n empty (omega (arith, o.two)) h.places refl (omega arith) (omega arith)
            (λ j other. ap (λ b. slot_by b (nat_lt j k.looked) (nat_lt j k.flagged) (nat_lt j k.taken) (nat_lt j k.sent) (nat_lt j k.claimed) (full m.send.sent j))
            (moves_past j lane.cleared (λ e. other (e ∙ same))))
            (slot_is after m.send.sent n (lt-ltb n after.cleared (omega arith)) refl refl refl refl refl),
      ),
    )

-- index out names the entry
pub acks : Acknowledges
acks N m slots n is cleared_phase h =
    let o = in_order N m slots h in
    let lane : Lane = m.lane in
    let lane_cleared : lane.phase ≡ Cleared = h.parts.stage ∙ cleared_phase in
    let counts : PhaseCounts Cleared lane.acked lane.cleared lane.got lane.flagged = subst (λ p. PhaseCounts p lane.acked lane.cleared lane.got lane.flagged) lane_cleared h.law.2.receiver.phase_counts in
    let copied = h.parts.copied in
    let acked_one : lane.acked + 1 ≡ lane.cleared = counts.0 in
    let cleared_all : lane.cleared ≡ lane.got = counts.1 in
    let same : n ≡ lane.acked = omega arith in
    let next : Lane = after_ack lane in
    let index : IndexStands N (n % N) m.words.index next.acked m.back.freed m.back.index = record {
      outward = ap (λ (j : ℕ). j % N) same ∙ tail_after N lane.acked o.two;
      homeward = h.index.homeward;
      position = h.index.position;
      last_load = elim h.index.last_load [ inl old ↦ inl old | inr new ↦ inr (omega arith) ];
    } in
    let runs : LaneRuns (Acknowledge ∷ []) lane next = (next, (lane_cleared, refl), refl) in (
      next,
      runs,
      assumption (runs_keep (Acknowledge ∷ []) lane next runs h.law, index, h.receiving.in_hand ∙ ap hand_in cleared_phase),
    )
