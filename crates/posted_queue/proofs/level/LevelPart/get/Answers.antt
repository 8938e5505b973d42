use Rattle.std.proofs.Common.{slice_get, ap, subst, sym, ◌∙◌}
use Rattle.posted_queue.specs.Rows.{IsRowSpot}
use Rattle.posted_queue.proofs.LevelLemmas.{spot-slice_get}
use Rattle.posted_queue.proofs.level.LevelPart.get.Goals as goal

pub returns : goal.returns
returns g c =
    let is_spot = subst (λ row. IsRowSpot row c.args.place c.in_ok-spot.spot) c.deref.ensures.value c.in_ok-spot.ensures.spot in
    c.get.ensures
    ∙ sym (spot-slice_get c.self.inside.row.items c.args.place c.in_ok-spot.spot c.index.result.now is_spot c.index.ensures)
    ∙ ap (λ flight. slice_get flight.writes c.args.place) c.self.view_is
