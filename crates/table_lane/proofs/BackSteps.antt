-- The atomic steps of the way back and of the cut keep the rule and tell what they are to tell.
use Rattle.std.proofs.Common.{◌≡◌, ◌≢◌, ℕ, ◌+◌, ◌<◌, ◌≤◌, length, get_or, refl, sym, subst, ap, ◌∙◌, arith}
use Rattle.atomic_table.specs.Table.{Allows}
use Rattle.table_lane.specs.LaneNames.{tail_of}
use Rattle.table_lane.specs.Words.{index_out_word, index_word, link_word, cut_word}
use Rattle.table_lane.specs.Views.{BackPart, the_back, the_cut, HasBack, HasCut, with_back, with_cut}
use Rattle.table_lane.specs.ShownLane.{number_at}
use Rattle.table_lane.specs.Moment.{Moment, ShowsLane}
use Rattle.table_lane.specs.Rule.{Sitter, ShowsALane}
use Rattle.table_lane.specs.Knowledge.{index_out_loaded, index_stored, link_cut}
use Rattle.table_lane.specs.Plays.{sees_index_out, stores_index, cuts_link}
use Rattle.table_lane.proofs.SeatChanges.{load_keeps, store_shows, store_keeps, way_back_sits, cutter_sits}
use Rattle.table_lane.proofs.WordLists.{index_out_at, set_index, set_link}
use Rattle.table_lane.proofs.Order.{in_order}
use Rattle.table_lane.proofs.WayBackShows as returning

-- The rule of a table allows the way back to load index out, and then to know the index that it found.
pub sees_index_out_allowed : (N slots id : ℕ) (me : Sitter) (i : ℕ) → i ≡ index_out_word N → HasBack me.0 → Allows (ShowsALane N) slots id me i (λ n. n) (sees_index_out me)
sees_index_out_allowed N slots id me i is has board h counted at fits =
    let part : BackPart = the_back me.0 in
    let m : Moment = record h.0 { back = part } in
    let seat = way_back_sits N board h id me.0 at has in
    let found : ℕ = get_or board.words i 0 in
    let o = in_order N m board.homes seat.now.shows in
    let word : found ≡ m.words.index_out = (λ j. get_or (seat.now.words j) (is j) 0) ∙ index_out_at N m.words seat.now.sized seat.two in
    let loaded = returning.loads_index N m board.homes seat.now.shows in
    let after : BackPart = index_out_loaded part found in
    let knows : part.entries ≡ N = seat.now.knows.back in
    let below : m.words.index_out < N = loaded.index.position in
    let counted_sent = seat.now.shows.room.counted in
    let low : part.freed ≤ length m.send.sent = omega (arith, o.freed, o.acked, o.cleared, o.looked, o.taken) in
    load_keeps (sees_index_out me found) me.1 after i seat seat.now.knows (subst (λ (index : ℕ). ShowsLane N (record m { back = record part { index = index } }) board.homes) (sym word) loaded) (refl, omega arith, omega arith)

-- The rule of a table allows the way back to store the index that it loaded, if that one is new.
pub stores_index_allowed : (N slots id : ℕ) (me : Sitter) (i new : ℕ) → i ≡ index_word N → new ≡ (the_back me.0).index → HasBack me.0 → (the_back me.0).entries ≡ N → (the_back me.0).index ≢ tail_of N (the_back me.0).freed
    → Allows (ShowsALane N) slots id me i (λ _. new) (λ _. stores_index me new)
stores_index_allowed N slots id me i new is index has entries newer =
    store_keeps N slots id me i new (with_back me.0 (index_stored (the_back me.0))) (λ board h at.
    let part : BackPart = the_back me.0 in
    let m : Moment = record h.0 { back = part } in
    let seat = way_back_sits N board h id me.0 at has in
    let stored = returning.stores_index N m board.homes newer seat.now.shows in
    let freed : number_at N part.freed part.index + 1 ≡ (index_stored part).freed = ap (λ (k : ℕ). number_at k part.freed part.index + 1) (sym entries) in
    store_shows (index_stored part) seat is index (set_index N m.words seat.now.sized seat.two part.index) seat.now.knows
    (subst (λ (f : ℕ). ShowsLane N (record m { words = record m.words { index = part.index }; lane = stored.0; back = record part { freed = f } }) board.homes) freed stored.2))

-- The rule of a table allows the seat that has the cut to store the link word.
pub cuts_link_allowed : (N slots id : ℕ) (me : Sitter) (i : ℕ) → i ≡ link_word N → HasCut me.0 → Allows (ShowsALane N) slots id me i (λ _. cut_word) (λ _. cuts_link me cut_word)
cuts_link_allowed N slots id me i is has =
    store_keeps N slots id me i cut_word (with_cut me.0 (link_cut (the_cut me.0))) (λ board h at.
    let m : Moment = record h.0 { cut = the_cut me.0 } in
    let seat = cutter_sits N board h id me.0 at has in
    store_shows (link_cut m.cut) seat is refl (set_link N m.words seat.now.sized seat.two cut_word) seat.now.knows (returning.cuts N m board.homes seat.now.shows))
