-- Loads that move no slot leave the moment's lane, and a cut stays.
use Rattle.std.proofs.Common.{◌≡◌, ℕ, ◌+◌, ◌%◌, ◌^◌, ◌<◌, ◌≤◌, ◌∷◌, Bool, true, false, length, refl, sym, ap, ◌∙◌, arith, MatchBool, None, Some, nat_lt, ◌==◌, if◌then◌else◌}
use Rattle.table_lane.specs.Loads.{LoadsAreNoSteps, SeenCutsAreMade, CutStays}
use Rattle.table_lane.specs.Rule.{Sitter}
use Rattle.table_lane.specs.LaneNames.{done}
use Rattle.table_lane.specs.Words.{table_header_of, cut_word}
use Rattle.table_lane.specs.Knowledge.{head, free_by, index_loaded, slot_claimed, table_taken, posted_loaded, frame_taken, flag_loaded, frame_found}
use Rattle.table_lane.specs.Views.{TableBytes, LaneView, the_cut, the_move, the_recv, the_send, with_move, with_recv, with_send}

-- a link word that shows a cut is that of a cut
cut_by_word : (cut : Bool) → (if cut then cut_word else 0) ≡ cut_word → cut ≡ true
cut_by_word true is = refl
cut_by_word false is = absurd (omega arith)

-- A table shows the same lane after a load of link, index, posted header or flag that takes no slot.
pub loads_are_no_steps : LoadsAreNoSteps
loads_are_no_steps N m slots found h = record {
  link = λ is. let seen : found ≡ cut_word → m.cut.cut ≡ true = λ cut. cut_by_word m.cut.cut (sym h.link ∙ sym is ∙ cut) in assumption seen;
  index = h;
  posted = h;
  flag = h;
}

-- A sender whose last load of the link word showed a cut is at a table whose link was cut.
pub seen_cuts_are_made : SeenCutsAreMade
seen_cuts_are_made N m slots h seen = let made = h.seen_cut seen in (made, h.link ∙ ap (λ (cut : Bool). if cut then cut_word else 0) made)

-- a seat whose view keeps its part of the cut
keeps : (before after : LaneView) → after.cut ≡ before.cut → (the_cut before).cut ≡ true → (the_cut after).cut ≡ true
keeps before after same cut = cc (same, cut)

-- the part of the cut in the view of a seat after a step, which is known whole
view_keeps : (before after next : Sitter) → next.0.cut ≡ before.0.cut → after ≡ next → (the_cut before.0).cut ≡ true → (the_cut after.0).cut ≡ true
view_keeps before after next same is cut = keeps before.0 after.0 (ap (λ (s : Sitter). s.0.cut) is ∙ same) cut

-- the same of a step after which the seat is one of two
one_keeps : (before after one other : Sitter) (b : Bool) → one.0.cut ≡ before.0.cut → other.0.cut ≡ before.0.cut → MatchBool b (after ≡ one) (after ≡ other) → (the_cut before.0).cut ≡ true → (the_cut after.0).cut ≡ true
one_keeps before after one other true same others is cut = view_keeps before after one same is cut
one_keeps before after one other false same others is cut = view_keeps before after other others is cut

-- and of one that may tell more where a slot goes to the seat
took_keeps : (before after other : Sitter) (b : Bool) (Took : Type 0) → (Took → (the_cut after.0).cut ≡ true) → other.0.cut ≡ before.0.cut → MatchBool b Took (after ≡ other) → (the_cut before.0).cut ≡ true → (the_cut after.0).cut ≡ true
took_keeps before after other true Took took others is cut = took is
took_keeps before after other false Took took others is cut = view_keeps before after other others is cut

-- what is told where a slot goes to the mover, and where one goes to the receiver
abbrev MoverTook : Sitter → ℕ → Sitter → Type 0
MoverTook before found after =
    let part = the_move before.0 in
    (frame : TableBytes)
    × (after ≡ (with_move before.0 (frame_taken (posted_loaded part found) frame), (table_taken part % part.entries, Some frame) ∷ before.1))
    × (table_taken part < 2 ^ 62) × (length part.held + 2 ≤ part.entries)

abbrev ReceiverTook : Sitter → ℕ → Sitter → Type 0
ReceiverTook before found after =
    let part = the_recv before.0 in
    (frame : TableBytes)
    × (after ≡ (with_recv before.0 (frame_found (flag_loaded part found) frame), (length part.got % part.entries, Some frame) ∷ before.1))
    × (length part.got < 2 ^ 62)

-- A seat that knows of the cut still knows of it after each atomic step of sender, mover, receiver, way back or cut.
pub cut_stays : CutStays
cut_stays = record {
  sees_link = λ before found after tells cut. view_keeps before after _ refl tells.0 cut;
  sees_index = λ before found after tells cut.
      let part = the_send before.0 in
      one_keeps before after (with_send before.0 (slot_claimed (index_loaded part found)), (head part, None) ∷ before.1) (with_send before.0 (index_loaded part found), before.1) (nat_lt 0 (free_by part found)) refl refl tells.1 cut;
  stores_posted = λ before found after tells cut. view_keeps before after _ refl tells cut;
  sees_posted = λ before found after tells cut.
      let part = the_move before.0 in
      took_keeps before after (with_move before.0 (posted_loaded part found), before.1) (found == table_header_of (table_taken part)) (MoverTook before found after) (λ took. view_keeps before after _ refl took.1 cut) refl tells.0 cut;
  stores_header = λ word before found after tells cut. view_keeps before after _ refl tells cut;
  stores_flag = λ before found after tells cut. view_keeps before after _ refl tells cut;
  sees_flag = λ before found after tells cut.
      let part = the_recv before.0 in
      took_keeps before after (with_recv before.0 (flag_loaded part found), before.1) (found == done) (ReceiverTook before found after) (λ took. view_keeps before after _ refl took.1 cut) refl tells.0 cut;
  copies_frame = λ before found after tells cut. view_keeps before after _ refl tells.0 cut;
  clears_flag = λ before found after tells cut. view_keeps before after _ refl tells cut;
  stores_index_out = λ before found after tells cut. view_keeps before after _ refl tells cut;
  sees_index_out = λ before found after tells cut. view_keeps before after _ refl tells.0 cut;
  stores_index = λ before found after tells cut. view_keeps before after _ refl tells cut;
  cuts_link = λ before found after tells cut. ap (λ (s : Sitter). (the_cut s.0).cut) tells;
}
