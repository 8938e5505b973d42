use Rattle.std.proofs.Common.{◌≡◌, ℕ, ◌+◌, ◌%◌, ◌≤◌, List, [], ◌∷◌, ◌++◌, length, arith, sym, ap, ◌∙◌, subst, eqb, eq-eqb, true, Some}
use Rattle.atomic_table.specs.Table.{turned}
use Rattle.table_lane.specs.declared.parts.MovePart.{MovePart}
use Rattle.table_lane.specs.declared.parts.LaneView.{LaneView}
use Rattle.table_lane.specs.Words.{table_header_of}
use Rattle.table_lane.specs.Rule.{Sitter}
use Rattle.table_lane.specs.Views.{the_move, with_move}
use Rattle.table_lane.specs.Knowledge.{table_taken, posted_loaded, frame_taken}
use Rattle.table_lane.specs.EndFields.{MovesWith}
use Rattle.table_lane.proofs.WaitingEntries.{waits_few, with_frame}
use Rattle.table_lane.proofs.mover.MoveEnd.take_posted.Goals as goal

pub push_back_reserved-requires : goal.push_back_reserved-requires
push_back_reserved-requires c =
    let inv = c.self.invariant in
    let queue = c.self.inside.waiting in
    omega (arith, waits_few _ _ _ _ _ inv.me, queue.ok.0, inv.room)

pub invariant_of-self-2 : goal.invariant_of-self-2
invariant_of-self-2 c =
    let inv = c.self.invariant in
    let old : Sitter = c.self.inside.at.seat.me in
    let part : MovePart = the_move old.0 in
    let found : ℕ = c.load_posted.result in
    let next : table_taken part ≡ c.self.inside.taken = ap (λ (n : ℕ). n + length part.held) inv.me.flagged ∙ inv.me.taken in
    let hit : eqb found (table_header_of (table_taken part)) ≡ true = eq-eqb found (table_header_of (table_taken part)) (c.if-load_posted-header_of.false ∙ c.header_of.ensures ∙ ap table_header_of (sym next)) in
    let told = rw hit at c.load_posted.ensures.tells.0 in
    let view : LaneView = with_move old.0 (frame_taken (posted_loaded part found) told.0) in
    let me : c.turn.new.self.me ≡ (view, old.1 ++ (c.self.inside.taken % c.self.inside.at.entries, Some told.0) ∷ []) =
    c.turn.ensures.2 ∙ ap (λ (m : Sitter). (let n : Sitter = (m.0, turned m.1) in n)) told.1
    ∙ (λ i. (view, old.1 ++ (next i % inv.me.entries i, Some told.0) ∷ [])) in
    let room : length part.held + 2 ≤ c.self.inside.at.entries = subst (λ (n : ℕ). length part.held + 2 ≤ n) inv.me.entries told.3 in
    let after = with_frame _ _ _ _ _ inv.me found told.0 room in
    let P : List ℕ → Sitter → Type 0 = MovesWith c.self.inside.at.entries c.self.inside.flagged (c.self.inside.taken + 1) in
    record {
      stands = c.turn.ensures.0 ∙ c.load_posted.ensures.table ∙ inv.stands;
      table = inv.table;
      me = subst (λ (ws : List ℕ). P ws c.turn.new.self.me) (sym c.push_back_reserved.ensures.items) (subst (λ (m : Sitter). P (c.self.inside.waiting.items ++ c.self.inside.taken ∷ []) m) (sym me) after);
      room = subst (λ (n : ℕ). c.self.inside.at.entries ≤ n) (sym c.push_back_reserved.ensures.capacity) inv.room;
      counted = omega (arith, told.2);
      first = inv.first;
      next = c.position_after-self-inside.ensures c.self.inside.taken inv.next;
    }
