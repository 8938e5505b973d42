use Rattle.std.proofs.Common.{◌≡◌, false, take, ap, subst, sym, ◌∙◌}
use Rattle.posted_queue.specs.Rows.{IsRowSpot, is_held_back, row_writes_in}
use Rattle.posted_queue.proofs.LevelLemmas.{spot-is_held_back}
use Rattle.posted_queue.proofs.level.LevelPart.is_blocked.Goals as goal

pub returns-in-Some : goal.returns-in-Some
returns-in-Some g c =
    let is_spot = subst (λ row. IsRowSpot row c.args.place c.in-Some.spot) c.deref.ensures.value c.in-Some.ensures.spot in
    let free = subst (λ row. is_held_back g.W.Ordered.order c.args.waits_for (row_writes_in (take c.in-Some.spot.part row)) ≡ false) c.deref.ensures.value c.in-Some.ensures.free in
    c.is_blocked.ensures
    ∙ sym (spot-is_held_back g.W.Ordered.order c.args.waits_for c.self.inside.row.items c.args.place c.in-Some.spot c.index.result.now is_spot c.index.ensures free)
    ∙ ap (λ state. is_held_back g.W.Ordered.order c.args.waits_for (take c.args.place state.writes)) c.self.view_is
