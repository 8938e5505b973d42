use Rattle.std.proofs.Common.{ℕ, List, ◌∷◌, get_or, false, sym, ap, ◌∙◌, Some}
use Rattle.atomic_table.specs.Table.{rest}
use Rattle.table_lane.specs.Rule.{Content}
use Rattle.table_lane.specs.Ends.{Mover}
use Rattle.table_lane.proofs.WaitingEntries.{first_slot}
use Rattle.table_lane.proofs.mover.MoveEnd.store_first.Goals as goal

pub store_flag-requires-clause-held : goal.store_flag-requires-clause-held
store_flag-requires-clause-held c =
    let inv = c.self.invariant in
    let slot = first_slot _ _ _ _ _ inv.me (ap (λ (m : Mover). get_or m.part.stored 0 false) c.self.view_is ∙ c.requires) in
    let others : List (ℕ × Content) = rest c.self.inside.at.seat.me.1 in
    (slot.0, slot.1 ∙ ap (λ (position : ℕ). (let slots : List (ℕ × Content) = (position, Some slot.0) ∷ others in slots)) (sym inv.first), slot.2, slot.3)
