use Rattle.std.proofs.Common.{◌≡◌, ℕ, ◌<◌, List, length, get_or, false, refl, ap, ◌∙◌, subst}
use Rattle.table_lane.specs.declared.parts.MovePart.{MovePart}
use Rattle.table_lane.specs.Views.{the_move}
use Rattle.table_lane.specs.Ends.{Mover}
use Rattle.table_lane.specs.MoveChoice.{waiting}
use Rattle.table_lane.proofs.WaitingEntries.{stored_by_first}
use Rattle.table_lane.proofs.mover.MoveEnd.is_flag_open.Goals as goal

pub returns-in-Some : goal.returns-in-Some
returns-in-Some c =
    let part : MovePart = the_move c.self.inside.at.seat.me.0 in
    let inv = c.self.invariant in
    let queue = c.self.inside.waiting in
    let same : queue.items ≡ waiting c.self.inside.flagged part.stored = inv.me.waiting_are in
    let some : 0 < length queue.items = subst (λ (n : ℕ). 0 < n) queue.ok.0 (c.in-Some.ensures.variant.0 refl) in
    stored_by_first c.self.inside.flagged c.in-Some.first.now part.stored (subst (λ (ws : List ℕ). 0 < length ws) same some) (c.in-Some.ensures.lookup ∙ ap (λ (ws : List ℕ). get_or ws 0 c.in-Some.first.now) same)
    ∙ ap (λ (m : Mover). get_or m.part.stored 0 false) c.self.view_is
