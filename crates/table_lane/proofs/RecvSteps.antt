-- The receiver's atomic steps keep the rule and tell what they are to tell.
use Rattle.std.proofs.Common.{◌≡◌, ℕ, ◌+◌, ◌%◌, ◌^◌, ◌<◌, true, false, List, [], ◌∷◌, ◌++◌, length, take, set, get_or, refl, sym, subst, ap, ◌∙◌, inl, inr, arith, eq-eqb, ne_eqb, append-nil, Some, None, eqb}
use Rattle.std.proofs.lemmas.Bool.{cases_eq}
use Rattle.std.specs.Prelude.{IfSome}
use mathlib.Core.Option.{none}
use lib.ListN.{get_elem?}
use Rattle.atomic_table.specs.Table.{Allows, takes}
use Rattle.table_lane.specs.LaneNames.{done, Idle, Copying, Copied, Cleared}
use Rattle.table_lane.specs.Words.{header_word, flag_word, index_out_word}
use Rattle.table_lane.specs.Views.{TableBytes, RecvPart, the_recv, HasRecv, with_recv}
use Rattle.table_lane.specs.ShownLane.{hand_in}
use Rattle.table_lane.specs.Moment.{Moment, ShowsLane}
use Rattle.table_lane.specs.Rule.{Content, Sitter, ShowsALane}
use Rattle.table_lane.specs.Knowledge.{flag_loaded, frame_found, frame_copied, flag_cleared, acknowledged}
use Rattle.table_lane.specs.Plays.{sees_flag, copies_frame, clears_flag, stores_index_out}
use Rattle.table_lane.proofs.SeatChanges.{load_shows, load_keeps, store_shows, store_keeps, store_gives, receiver_sits}
use Rattle.table_lane.proofs.Seats.{part_too}
use Rattle.table_lane.proofs.WordLists.{header_at, flag_at, set_flag, set_index_out}
use Rattle.table_lane.proofs.ReceiverShows.{none_long}
use Rattle.table_lane.proofs.ReceiverShows as receiving

-- The rule of a table allows an idle receiver to load the next entry's flag, and to take its slot if the flag is up.
pub sees_flag_allowed : (N slots id : ℕ) (me : Sitter) (i : ℕ) → i ≡ flag_word N (length (the_recv me.0).got) → HasRecv me.0 → (the_recv me.0).phase ≡ Idle → Allows (ShowsALane N) slots id me i (λ n. n) (sees_flag me)
sees_flag_allowed N slots id me i is has idle board h counted at fits =
    let part : RecvPart = the_recv me.0 in
    let m : Moment = record h.0 { recv = part } in
    let seat = receiver_sits N board h id me.0 at has in
    let found : ℕ = get_or board.words i 0 in
    let n : ℕ = length part.got in
    let word : found ≡ get_or m.words.flags (n % N) 0 = (λ j. get_or (seat.now.words j) (is j) 0) ∙ flag_at N m.words seat.now.sized seat.two n in
    let knows : part.entries ≡ N = seat.now.knows.recv in
    let counted_sent = seat.now.shows.room.counted in
    let surely : IfSome me.0.mover (λ mover. n < mover.flagged → found ≡ done) =
    part_too (λ v. v.mover) board.views id me.0 m.mover (λ mover. n < mover.flagged → found ≡ done) at seat.now.seats.mover (λ below. word ∙ receiving.raised N m board.homes n refl idle below seat.now.shows) in
    let no_hand : length part.hand ≡ 0 = seat.now.shows.receiving.in_hand ∙ ap hand_in idle in
    let prefix : part.got ≡ take (length part.got) m.send.sent =
    sym (append-nil part.got) ∙ ap (λ (w : List TableBytes). part.got ++ w) (sym (none_long part.hand no_hand)) ∙ seat.now.shows.receiving.prefix
    ∙ ap (λ (j : ℕ). take j m.send.sent) (let e : length part.got + length part.hand ≡ length part.got = omega arith in e) in
    let begins = part_too (λ v. v.send) board.views id me.0 m.send (λ send. part.got ≡ take (length part.got) send.sent) at seat.now.seats.send prefix in
    elim (cases_eq found done) [
      | inl up ↦
          let look = receiving.looks N m board.homes n refl idle (sym word ∙ up) seat.now.shows in
          let frame : TableBytes = get_or m.send.sent n [] in
          let after : RecvPart = frame_found (flag_loaded part found) frame in
          let at_place : n % N ≡ n % part.entries = ap (λ (k : ℕ). n % k) (sym knows) in
          let hit : eqb found done ≡ true = eq-eqb found done up in
          let below : n < 2 ^ 62 = omega (arith, look.1) in (
            with_recv me.0 after,
            takes (n % part.entries) (Some frame),
            ap (get_elem? board.homes) (sym at_place) ∙ look.0,
            load_shows after i seat seat.now.knows (subst (λ (k : ℕ). ShowsLane N (record m { lane = look.2.0; recv = frame_found part frame }) (set board.homes k none)) at_place look.2.2),
            (rw hit (frame, refl, below), surely, begins),
          )
      | inr down ↦
          let after : RecvPart = flag_loaded part found in
          let miss : eqb found done ≡ false = ne_eqb found done down in
          load_keeps (sees_flag me found) me.1 after i seat seat.now.knows seat.now.shows (rw miss refl, surely, begins)
    ]

-- The rule of a table allows a copying receiver to load the header of its entry, and then to have the frame.
pub copies_frame_allowed : (N slots id : ℕ) (me : Sitter) (i : ℕ) → i ≡ header_word N (length (the_recv me.0).got) → HasRecv me.0 → (the_recv me.0).phase ≡ Copying → Allows (ShowsALane N) slots id me i (λ n. n) (copies_frame me)
copies_frame_allowed N slots id me i is has copying board h counted at fits =
    let part : RecvPart = the_recv me.0 in
    let m : Moment = record h.0 { recv = part } in
    let seat = receiver_sits N board h id me.0 at has in
    let n : ℕ = length part.got in
    let word : get_or board.words i 0 ≡ get_or m.words.headers (n % N) 0 = (λ j. get_or (seat.now.words j) (is j) 0) ∙ header_at N m.words seat.now.sized seat.two n in
    let copy = receiving.copies N m board.homes copying seat.now.shows in
    let after : RecvPart = frame_copied part in
    let prefix : after.got ≡ take (length after.got) m.send.sent =
    sym (append-nil after.got) ∙ copy.3.receiving.prefix ∙ ap (λ (j : ℕ). take j m.send.sent) (let e : length after.got + 0 ≡ length after.got = omega arith in e) in
    load_keeps (copies_frame me (get_or board.words i 0)) me.1 after i seat seat.now.knows copy.3 (refl, word ∙ receiving.header_is N m board.homes n refl copying seat.now.shows, part_too (λ v. v.send) board.views id me.0 m.send (λ send. after.got ≡ take (length after.got) send.sent) at seat.now.seats.send prefix)

-- The rule of a table allows the receiver to clear the flag of a copied entry, whose slot then goes home empty.
pub clears_flag_allowed : (N slots id : ℕ) (me : Sitter) (i n : ℕ) (k : ℕ) (others : List (ℕ × Content)) → i ≡ flag_word N n → n + 1 ≡ length (the_recv me.0).got → me.1 ≡ (k, None) ∷ others → k ≡ n % N
    → HasRecv me.0 → (the_recv me.0).phase ≡ Copied → Allows (ShowsALane N) slots id me i (λ _. 0) (λ _. clears_flag me 0)
clears_flag_allowed N slots id me i n k others is last hand slot has copied =
    store_gives N slots id me i 0 k (n % N) None others (λ held. with_recv me.0 (flag_cleared (the_recv me.0))) hand slot
    (λ board h at.
    let m : Moment = record h.0 { recv = the_recv me.0 } in
    let seat = receiver_sits N board h id me.0 at has in
    let clear = receiving.clears N m board.homes n last copied seat.now.shows in
    store_shows (flag_cleared m.recv) seat is refl (set_flag N m.words seat.now.sized seat.two n 0) seat.now.knows clear.2)

-- The rule of a table allows the receiver to store index out once it has cleared its last entry's flag.
pub stores_index_out_allowed : (N slots id : ℕ) (me : Sitter) (i n new : ℕ) → i ≡ index_out_word N → n + 1 ≡ length (the_recv me.0).got → new ≡ n % N → HasRecv me.0 → (the_recv me.0).phase ≡ Cleared
    → Allows (ShowsALane N) slots id me i (λ _. new) (λ _. stores_index_out me new)
stores_index_out_allowed N slots id me i n new is last index has cleared =
    store_keeps N slots id me i new (with_recv me.0 (acknowledged (the_recv me.0))) (λ board h at.
    let m : Moment = record h.0 { recv = the_recv me.0 } in
    let seat = receiver_sits N board h id me.0 at has in
    let ack = receiving.acks N m board.homes n last cleared seat.now.shows in
    store_shows (acknowledged m.recv) seat is index (set_index_out N m.words seat.now.sized seat.two (n % N)) seat.now.knows ack.2)
