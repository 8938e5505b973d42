use Rattle.std.proofs.Common.{◌≡◌, false, take, is_none, ap, subst, sym, ◌∙◌}
use Rattle.posted_queue.specs.Rows.{IsRowSpot, is_held_back, row_writes_in}
use Rattle.posted_queue.proofs.LevelLemmas.{spot-is_held_back, spot-slice_get, spot-takes_out}
use Rattle.posted_queue.proofs.row.take_from.Goals as goal

pub returns-in_err-write-clause-held_back : goal.returns-in_err-write-clause-held_back
returns-in_err-write-clause-held_back g c =
    let is_spot = subst (λ row. IsRowSpot row c.args.place c.in_ok-spot.spot) c.deref.ensures.value c.in_ok-spot.ensures.spot in
    let free = subst (λ row. is_held_back g.W.Ordered.order c.args.waits_for (row_writes_in (take c.in_ok-spot.spot.part row)) ≡ false) c.deref.ensures.value c.in_ok-spot.ensures.free in
    ap is_none c.from_residual-in_err-write.ensures
    ∙ c.in_err-write.ensures.held_back
    ∙ sym (spot-is_held_back g.W.Ordered.order c.args.waits_for c.args.row.now.items c.args.place c.in_ok-spot.spot c.index_mut-part.result.now is_spot c.index_mut-part.ensures.value free)

pub returns-clause-held_back : goal.returns-clause-held_back
returns-clause-held_back g c =
    let is_spot = subst (λ row. IsRowSpot row c.args.place c.in_ok-spot.spot) c.deref.ensures.value c.in_ok-spot.ensures.spot in
    let free = subst (λ row. is_held_back g.W.Ordered.order c.args.waits_for (row_writes_in (take c.in_ok-spot.spot.part row)) ≡ false) c.deref.ensures.value c.in_ok-spot.ensures.free in
    c.in_ok-write.ensures.held_back
    ∙ sym (spot-is_held_back g.W.Ordered.order c.args.waits_for c.args.row.now.items c.args.place c.in_ok-spot.spot c.index_mut-part.result.now is_spot c.index_mut-part.ensures.value free)

pub returns-clause-write : goal.returns-clause-write
returns-clause-write g c =
    let is_spot = subst (λ row. IsRowSpot row c.args.place c.in_ok-spot.spot) c.deref.ensures.value c.in_ok-spot.ensures.spot in
    spot-slice_get c.args.row.now.items c.args.place c.in_ok-spot.spot c.index_mut-part.result.now is_spot c.index_mut-part.ensures.value
    ∙ c.in_ok-write.ensures.write

pub returns-clause-taken : goal.returns-clause-taken
returns-clause-taken g c =
    let is_spot = subst (λ row. IsRowSpot row c.args.place c.in_ok-spot.spot) c.deref.ensures.value c.in_ok-spot.ensures.spot in
    spot-takes_out c.args.row.now.items c.args.place c.in_ok-spot.spot c.index_mut-part.result.now c.take.new.self is_spot c.index_mut-part.ensures.value c.in_ok-write.ensures.writes c.in_ok-write.ensures.room
