-- The sender's atomic steps keep the rule and tell what they are to tell.
use Rattle.std.proofs.Common.{◌≡◌, ℕ, ◌+◌, ◌-◌, ◌%◌, ◌^◌, ◌<◌, ◌≤◌, true, false, List, ◌∷◌, length, set, get_or, refl, sym, subst, ap, ◌∙◌, inl, inr, arith, mod-lt, Some, None, IfSome, nat_lt}
use Rattle.std.specs.Prelude.{if◌then◌else◌}
use Rattle.std.proofs.lemmas.Bool.{cases_Bool, ltb-true}
use mathlib.Core.Option.{none}
use lib.ListN.{get_elem?}
use Rattle.atomic_table.specs.Table.{Allows, takes}
use Rattle.table_lane.specs.LaneNames.{free_entries, head_of, tail_of}
use Rattle.table_lane.specs.Words.{posted_word, index_word, link_word, table_header_of, cut_word}
use Rattle.table_lane.specs.Views.{TableBytes, CutPart, SendPart, the_send, HasSend, with_send}
use Rattle.table_lane.specs.Moment.{Moment, ShowsLane}
use Rattle.table_lane.specs.Rule.{Content, Sitter, ShowsALane}
use Rattle.table_lane.specs.Knowledge.{link_loaded, index_loaded, head, free_by, slot_claimed, frame_sent}
use Rattle.table_lane.specs.Plays.{frame_in, sees_link, sees_index, stores_posted}
use Rattle.table_lane.proofs.Loads.{loads_are_no_steps}
use Rattle.table_lane.proofs.SeatChanges.{load_shows, load_keeps, store_shows, store_gives, sender_sits}
use Rattle.table_lane.proofs.Seats.{part_too}
use Rattle.table_lane.proofs.WordLists.{index_at, link_at, set_posted}
use Rattle.table_lane.proofs.Order.{in_order}
use Rattle.table_lane.proofs.SenderShows as sending

-- The rule of a table allows the sender to load the link word, and then to know what it found.
pub sees_link_allowed : (N slots id : ℕ) (me : Sitter) (i : ℕ) → i ≡ link_word N → HasSend me.0 → Allows (ShowsALane N) slots id me i (λ n. n) (sees_link me)
sees_link_allowed N slots id me i is has board h counted at fits =
    let part : SendPart = the_send me.0 in
    let m : Moment = record h.0 { send = part } in
    let seat = sender_sits N board h id me.0 at has in
    let found : ℕ = get_or board.words i 0 in
    let word : found ≡ m.words.link = (λ j. get_or (seat.now.words j) (is j) 0) ∙ link_at N m.words seat.now.sized seat.two in
    let surely : IfSome me.0.cut (λ (cut : CutPart). found ≡ (if cut.cut then cut_word else 0)) =
    part_too (λ v. v.cut) board.views id me.0 m.cut (λ (cut : CutPart). found ≡ (if cut.cut then cut_word else 0)) at seat.now.seats.cut (word ∙ seat.now.shows.link) in
    load_keeps (sees_link me found) me.1 (link_loaded part found) i seat seat.now.knows ((loads_are_no_steps N m board.homes found seat.now.shows).link word) (refl, surely)

-- The rule of a table allows a sender without a slot to load the index word, and to take one where that shows room.
pub sees_index_allowed : (N slots id : ℕ) (me : Sitter) (i : ℕ) → i ≡ index_word N → HasSend me.0 → (the_send me.0).claims ≡ false → Allows (ShowsALane N) slots id me i (λ n. n) (sees_index me)
sees_index_allowed N slots id me i is has no_claim board h counted at fits =
    let part : SendPart = the_send me.0 in
    let m : Moment = record h.0 { send = part } in
    let seat = sender_sits N board h id me.0 at has in
    let found : ℕ = get_or board.words i 0 in
    let word : found ≡ m.words.index = (λ j. get_or (seat.now.words j) (is j) 0) ∙ index_at N m.words seat.now.sized seat.two in
    let knows : part.entries ≡ N = seat.now.knows.send in
    let o = in_order N m board.homes seat.now.shows in
    let homeward = seat.now.shows.index.homeward in
    let below : tail_of N m.back.freed < N = mod-lt (m.back.freed + N - 1) (omega (arith, o.two)) in
    let small : found < part.entries = omega arith in
    let same : free_by part found ≡ free_entries N (head_of N (length part.sent)) m.words.index = λ j. free_entries (knows j) (head_of (knows j) (length part.sent)) (word j) in
    elim (cases_Bool (nat_lt 0 (free_by part found))) [
      | inl room ↦
          let new : SendPart = slot_claimed (index_loaded part found) in
          let free : 0 < free_by part found = ltb-true 0 (free_by part found) room in
          let claim = sending.claims N m board.homes no_claim (omega arith) seat.now.shows in
          let at_head : length part.sent % N ≡ head part = ap (λ (k : ℕ). length part.sent % k) (sym knows) in (
            with_send me.0 new,
            takes (head part) None,
            ap (get_elem? board.homes) (sym at_head) ∙ claim.0,
            load_shows new i seat seat.now.knows (subst (λ (k : ℕ). ShowsLane N (record m { send = slot_claimed part }) (set board.homes k none)) at_head claim.1),
            (small, rw room refl),
          )
      | inr none_free ↦
          let new : SendPart = index_loaded part found in
          load_keeps (sees_index me found) me.1 new i seat seat.now.knows seat.now.shows (small, rw none_free refl)
    ]

-- The rule of a table allows the sender to store a posted header, its slot then going home with the frame.
pub stores_posted_allowed : (N slots id : ℕ) (me : Sitter) (i new : ℕ) (frame : TableBytes) (k : ℕ) (others : List (ℕ × Content)) → i ≡ posted_word N (length (the_send me.0).sent) → new ≡ table_header_of (length (the_send me.0).sent)
    → me.1 ≡ (k, Some frame) ∷ others → k ≡ length (the_send me.0).sent % N → length frame ≤ 65536 → length (the_send me.0).sent < 2 ^ 62 → HasSend me.0 → (the_send me.0).claims ≡ true
    → Allows (ShowsALane N) slots id me i (λ _. new) (λ _. stores_posted me new)
stores_posted_allowed N slots id me i new frame k others is header hand slot fits counted has claim =
    store_gives N slots id me i new k (length (the_send me.0).sent % N) (Some frame) others (λ held. with_send me.0 (frame_sent (the_send me.0) (frame_in held))) hand slot
    (λ board h at.
    let m : Moment = record h.0 { send = the_send me.0 } in
    let seat = sender_sits N board h id me.0 at has in
    let n : ℕ = length m.send.sent in
    let sent = sending.sends N m board.homes frame claim fits counted seat.now.sized seat.now.shows in
    store_shows (frame_sent m.send frame) seat is header (set_posted N m.words seat.now.sized seat.two n (table_header_of n)) seat.now.knows sent.2)
