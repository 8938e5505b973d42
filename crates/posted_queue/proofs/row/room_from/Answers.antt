use Rattle.std.proofs.Common.{arith}
use Rattle.posted_queue.proofs.RowLemmas.{room_in-take_more}
use Rattle.posted_queue.proofs.row.room_from.Goals as goal

pub loop-index-preserved : goal.loop-index-preserved
loop-index-preserved g c =
    let more = room_in-take_more c.args.row.now c.args.from c.loop-index.index c.index-row-index.result (omega arith) (omega arith) c.index-row-index.is in omega (arith, c.saturating_add-room.ensures)
