use Rattle.std.proofs.Common.{◌≡◌, ℕ, ◌+◌, ◌-◌, ◌%◌, ◌<◌, ◌≤◌, List, length, arith, sym, ap, ◌∙◌, subst}
use Rattle.std.specs.Prelude.{remove}
use Rattle.table_lane.specs.declared.parts.LaneView.{LaneView}
use Rattle.table_lane.specs.Rule.{Sitter}
use Rattle.table_lane.specs.Ends.{Mover}
use Rattle.table_lane.specs.EndFields.{MovesWith}
use Rattle.table_lane.specs.MoveChoice.{waiting}
use Rattle.table_lane.proofs.WaitingEntries.{waits_at, waits_near, with_header}
use Rattle.table_lane.proofs.Positions.{position_below}
use Rattle.table_lane.proofs.mover.MoveEnd.store_waiting.Goals as goal

pub overflow_sub-number : goal.overflow_sub-number
overflow_sub-number c =
    let inv = c.self.invariant in
    let below = subst (λ (m : Mover). c.args.k < length (waiting m.part.flagged m.part.stored)) (sym c.self.view_is) c.requires in
    let number = rw c.unwrap-number.ensures at c.remove.ensures.value in
    let near = waits_near _ _ _ _ _ inv.me c.args.k c.unwrap-number.result below number in
    near.0

pub position_after-position-requires : goal.position_after-position-requires
position_after-position-requires c =
    let inv = c.self.invariant in
    let below = subst (λ (m : Mover). c.args.k < length (waiting m.part.flagged m.part.stored)) (sym c.self.view_is) c.requires in
    let number = rw c.unwrap-number.ensures at c.remove.ensures.value in
    let near = waits_near _ _ _ _ _ inv.me c.args.k c.unwrap-number.result below number in
    let N : ℕ = c.self.inside.at.entries in
    (position_below N c.self.inside.flagged c.self.inside.first_position inv.table.two inv.first, near.1, inv.table.small)

pub store_header-requires-clause-part : goal.store_header-requires-clause-part
store_header-requires-clause-part c =
    let inv = c.self.invariant in
    let below = subst (λ (m : Mover). c.args.k < length (waiting m.part.flagged m.part.stored)) (sym c.self.view_is) c.requires in
    let number = rw c.unwrap-number.ensures at c.remove.ensures.value in
    let near = waits_near _ _ _ _ _ inv.me c.args.k c.unwrap-number.result below number in
    let N : ℕ = c.self.inside.at.entries in
    let same : c.self.inside.flagged + (c.unwrap-number.result - c.self.inside.flagged) ≡ c.unwrap-number.result = omega (arith, near.0) in
    let view = inv.me.view in
    (ap (λ (v : LaneView). v.mover) view, inv.me.entries, c.position_after-position.ensures c.self.inside.flagged inv.first ∙ ap (λ (n : ℕ). n % N) same)

pub store_header-requires-clause-held : goal.store_header-requires-clause-held
store_header-requires-clause-held c =
    let inv = c.self.invariant in
    let below = subst (λ (m : Mover). c.args.k < length (waiting m.part.flagged m.part.stored)) (sym c.self.view_is) c.requires in
    let number = rw c.unwrap-number.ensures at c.remove.ensures.value in
    let at = waits_at _ _ _ _ _ inv.me c.args.k c.unwrap-number.result below number in
    (at.0, at.1, omega (arith, inv.me.few), at.2)

pub invariant_of-self : goal.invariant_of-self
invariant_of-self c =
    let inv = c.self.invariant in
    let below = subst (λ (m : Mover). c.args.k < length (waiting m.part.flagged m.part.stored)) (sym c.self.view_is) c.requires in
    let number = rw c.unwrap-number.ensures at c.remove.ensures.value in
    let items = rw c.unwrap-number.ensures at c.remove.ensures.items in
    let after = with_header _ _ _ _ _ inv.me c.args.k c.unwrap-number.result below number in
    record {
      stands = c.store_header.ensures.table ∙ inv.stands;
      table = inv.table;
      me = let P : List ℕ → Sitter → Type 0 = MovesWith c.self.inside.at.entries c.self.inside.flagged c.self.inside.taken in
          subst (λ (ws : List ℕ). P ws c.store_header.new.seat.me) (sym items) (subst (λ (m : Sitter). P (remove c.self.inside.waiting.items c.args.k) m) (sym c.store_header.ensures.knows) after);
      room = subst (λ (n : ℕ). c.self.inside.at.entries ≤ n) (sym c.remove.ensures.capacity) inv.room;
      counted = inv.counted;
      first = inv.first;
      next = inv.next;
    }
