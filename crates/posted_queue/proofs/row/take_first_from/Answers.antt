use Rattle.std.proofs.Common.{subst, ◌∙◌}
use Rattle.posted_queue.specs.Rows.{IsRowSpot}
use Rattle.posted_queue.proofs.LevelLemmas.{spot-slice_get, spot-takes_out, first-slice_get, first-remove}
use Rattle.posted_queue.proofs.row.take_first_from.Goals as goal

pub returns-clause-write : goal.returns-clause-write
returns-clause-write g c =
    let is_spot = subst (λ row. IsRowSpot row 0 (record { part = c.first_with_write-number.result; place = 0 })) c.deref.ensures.value c.first_with_write-number.ensures in
    spot-slice_get c.args.row.now.items 0 (record { part = c.first_with_write-number.result; place = 0 }) c.index_mut-part.result.now is_spot c.index_mut-part.ensures.value
    ∙ first-slice_get c.index_mut-part.result.now.writes c.take_first-write.new.self.writes c.take_first-write.result c.take_first-write.ensures.writes

pub returns-clause-taken : goal.returns-clause-taken
returns-clause-taken g c =
    let is_spot = subst (λ row. IsRowSpot row 0 (record { part = c.first_with_write-number.result; place = 0 })) c.deref.ensures.value c.first_with_write-number.ensures in
    spot-takes_out c.args.row.now.items 0 (record { part = c.first_with_write-number.result; place = 0 }) c.index_mut-part.result.now c.take_first-write.new.self is_spot c.index_mut-part.ensures.value
    (first-remove c.index_mut-part.result.now.writes c.take_first-write.new.self.writes c.take_first-write.result c.take_first-write.ensures.writes) c.take_first-write.ensures.room
