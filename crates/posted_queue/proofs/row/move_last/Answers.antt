use Rattle.posted_queue.proofs.LevelLemmas.{moves_last}
use Rattle.posted_queue.proofs.row.move_last.Goals as goal

pub returns : goal.returns
returns g c =
    rw (c.push_reserved.ensures.items, c.remove-part.ensures.items, c.room-room.ensures)
    (moves_last c.args.row.now.items c.args.number c.remove-part.result c.requires.there c.remove-part.ensures.value c.requires.none)
