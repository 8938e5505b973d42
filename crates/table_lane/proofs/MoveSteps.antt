-- The mover's atomic steps keep the rule and tell what they are to tell.
use Rattle.std.proofs.Common.{◌≡◌, ℕ, ◌+◌, ◌-◌, ◌%◌, ◌<◌, ◌≤◌, true, false, List, [], ◌∷◌, length, drop, set, get_or, refl, sym, subst, ap, ◌∙◌, inl, inr, arith, eq-eqb, ne_eqb, Some, eqb}
use Rattle.std.proofs.lemmas.Bool.{cases_eq}
use Rattle.std.specs.Prelude.{IfSome}
use mathlib.Core.Option.{none}
use lib.ListN.{get_elem?}
use Rattle.atomic_table.specs.Table.{Allows, keeps, takes}
use Rattle.table_lane.specs.LaneNames.{done}
use Rattle.table_lane.specs.Words.{posted_word, header_word, flag_word, table_header_of, cut_word, spacing}
use Rattle.table_lane.specs.Views.{TableBytes, MovePart, the_move, HasMove, with_move}
use Rattle.table_lane.specs.ShownLane.{number_at}
use Rattle.table_lane.specs.Moment.{Moment, ShowsLane}
use Rattle.table_lane.specs.Rule.{Content, Sitter, ShowsALane}
use Rattle.table_lane.specs.Knowledge.{table_taken, posted_loaded, frame_taken, header_stored, flag_stored}
use Rattle.table_lane.specs.Plays.{KnowsSent, SeenCutIsMade, sees_posted, stores_header, stores_flag}
use Rattle.table_lane.proofs.LaneLaws.{number_is}
use Rattle.table_lane.proofs.SeatChanges.{load_shows, load_keeps, store_shows, store_gives, mover_sits}
use Rattle.table_lane.proofs.Seats.{part_too}
use Rattle.table_lane.proofs.WordLists.{posted_at, set_header, set_flag}
use Rattle.table_lane.proofs.Order.{in_order}
use Rattle.table_lane.proofs.MoverShows as moving

-- The rule of a table allows the mover to load the next posted header, and to take the entry's slot if it is new.
pub sees_posted_allowed : (N slots id : ℕ) (me : Sitter) (i : ℕ) → i ≡ posted_word N (table_taken (the_move me.0)) → HasMove me.0 → Allows (ShowsALane N) slots id me i (λ n. n) (sees_posted me)
sees_posted_allowed N slots id me i is has board h counted at fits =
    let part : MovePart = the_move me.0 in
    let m : Moment = record h.0 { mover = part } in
    let seat = mover_sits N board h id me.0 at has in
    let found : ℕ = get_or board.words i 0 in
    let n : ℕ = table_taken part in
    let o = in_order N m board.homes seat.now.shows in
    let word : found ≡ get_or m.words.posted (n % N) 0 = (λ j. get_or (seat.now.words j) (is j) 0) ∙ posted_at N m.words seat.now.sized seat.two n in
    let knows : part.entries ≡ N = seat.now.knows.mover in
    let within = seat.now.shows.holding.within in
    let counted_sent = seat.now.shows.room.counted in
    let room : length m.send.sent + 1 ≤ length m.recv.got + part.entries = omega (arith, o.freed, o.acked, o.cleared, o.sent, o.claimed) in
    let surely : IfSome me.0.send (KnowsSent part found me.0.recv) =
    part_too (λ v. v.send) board.views id me.0 m.send (KnowsSent part found me.0.recv) at seat.now.seats.send (
      (λ below. word ∙ seat.now.shows.posted.newest n below (omega (arith, o.claimed))),
      (λ new. (moving.takes N m board.homes n refl (sym word ∙ new) seat.now.shows).0),
      part_too (λ v. v.recv) board.views id me.0 m.recv (λ r. length m.send.sent + 1 ≤ length r.got + part.entries) at seat.now.seats.recv room,
    ) in
    let seen : IfSome me.0.send (SeenCutIsMade me.0.cut) =
    part_too (λ v. v.send) board.views id me.0 m.send (SeenCutIsMade me.0.cut) at seat.now.seats.send (
    part_too (λ v. v.cut) board.views id me.0 m.cut (λ c. m.send.link ≡ cut_word → c.cut ≡ true) at seat.now.seats.cut seat.now.shows.seen_cut)
    in
    elim (cases_eq found (table_header_of n)) [
      | inl new ↦
          let take = moving.takes N m board.homes n refl (sym word ∙ new) seat.now.shows in
          let below = take.0 in
          let frame : TableBytes = get_or m.send.sent n [] in
          let after : MovePart = frame_taken (posted_loaded part found) frame in
          let at_place : n % N ≡ n % part.entries = ap (λ (k : ℕ). n % k) (sym knows) in (
            with_move me.0 after,
            takes (n % part.entries) (Some frame),
            ap (get_elem? board.homes) (sym at_place) ∙ take.1,
            load_shows after i seat seat.now.knows (subst (λ (k : ℕ). ShowsLane N (record m { mover = frame_taken part frame }) (set board.homes k none)) at_place take.2),
            (let hit : eqb found (table_header_of n) ≡ true = eq-eqb found (table_header_of n) new in rw hit (frame, refl, omega arith, omega (arith, o.claimed, o.sent)), surely, seen),
          )
      | inr old ↦
          let after : MovePart = posted_loaded part found in
          load_keeps (sees_posted me found) me.1 after i seat seat.now.knows seat.now.shows (let miss : eqb found (table_header_of n) ≡ false = ne_eqb found (table_header_of n) old in rw miss refl, surely, seen)
    ]

-- The rule of a table allows the mover to store the header of an entry that it holds, if it hasn't done so yet.
pub stores_header_allowed : (N slots id : ℕ) (me : Sitter) (i new n : ℕ) → i ≡ header_word N n → new ≡ table_header_of n → HasMove me.0 → (the_move me.0).entries ≡ N
    → (the_move me.0).flagged ≤ n → n < table_taken (the_move me.0) → get_or (the_move me.0).stored (n - (the_move me.0).flagged) false ≡ false
    → Allows (ShowsALane N) slots id me i (λ _. new) (λ _. stores_header i me new)
stores_header_allowed N slots id me i new n is header has entries low high left board h counted at fits =
    let part : MovePart = the_move me.0 in
    let m : Moment = record h.0 { mover = part } in
    let seat = mover_sits N board h id me.0 at has in
    let o = in_order N m board.homes seat.now.shows in
    let j : ℕ = n - part.flagged in
    let landed = moving.stores_header N m board.homes j n (omega arith) (omega arith) left seat.now.shows in
    let after : MovePart = header_stored part n in
    let near : n < part.flagged + N = omega (arith, o.taken, o.sent, o.claimed) in
    let position : i - (part.entries + spacing) ≡ n % N = omega arith in
    let named : number_at part.entries part.flagged (i - (part.entries + spacing)) ≡ n = (λ q. number_at (entries q) part.flagged (position q)) ∙ number_is N part.flagged n low near in (
      with_move me.0 after,
      keeps,
      tt,
      store_shows after seat is header (set_header N m.words seat.now.sized seat.two n (table_header_of n)) seat.now.knows landed.2,
      ap (λ (k : ℕ). (with_move me.0 (header_stored part k), me.1)) (sym named),
    )

-- The rule of a table allows the mover to store the flag of its first held entry, whose slot then goes home.
pub stores_flag_allowed : (N slots id : ℕ) (me : Sitter) (i : ℕ) (k : ℕ) (frame : TableBytes) (others : List (ℕ × Content)) → i ≡ flag_word N (the_move me.0).flagged → me.1 ≡ (k, Some frame) ∷ others → k ≡ (the_move me.0).flagged % N → HasMove me.0
    → (the_move me.0).held ≡ frame ∷ drop 1 (the_move me.0).held → (the_move me.0).stored ≡ true ∷ drop 1 (the_move me.0).stored → Allows (ShowsALane N) slots id me i (λ _. done) (λ _. stores_flag me done)
stores_flag_allowed N slots id me i k frame others is hand slot has holds marked =
    store_gives N slots id me i done k ((the_move me.0).flagged % N) (Some frame) others (λ held. with_move me.0 (flag_stored (the_move me.0))) hand slot
    (λ board h at.
    let part : MovePart = the_move me.0 in
    let m : Moment = record h.0 { mover = part } in
    let seat = mover_sits N board h id me.0 at has in
    let landed = moving.stores_flag N m board.homes frame (drop 1 part.held) (drop 1 part.stored) holds marked seat.now.shows in
    store_shows (flag_stored part) seat is refl (set_flag N m.words seat.now.sized seat.two part.flagged done) seat.now.knows landed.2)
