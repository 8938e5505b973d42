use Rattle.std.proofs.Common.{◌<◌, length, sym, ap, ◌∙◌, arith}
use Rattle.std.proofs.lemmas.List.{get_or_default}
use Rattle.posted_queue.specs.Rows.{no_part}
use Rattle.posted_queue.proofs.LevelLemmas.{within-room, room_in-drop_more}
use Rattle.posted_queue.proofs.row.first_with_room.Goals as goal

pub bounds-row-index : goal.bounds-row-index
bounds-row-index g c = within-room c.args.row.now c.loop-index.index (omega (arith, c.loop-index.invariant.room))

pub returns-clause-high : goal.returns-clause-high
returns-clause-high g c = within-room c.args.row.now c.loop-index.index (omega (arith, c.loop-index.invariant.room))

pub returns-clause-room : goal.returns-clause-room
returns-clause-room g c =
    let within : c.loop-index.index < length c.args.row.now = within-room c.args.row.now c.loop-index.index (omega (arith, c.loop-index.invariant.room)) in
    let same = ap (λ part. part.spare) (get_or_default c.args.row.now c.loop-index.index no_part c.index-row-index.result within ∙ sym c.index-row-index.is) in
    omega (arith, same)

pub loop-index-preserved : goal.loop-index-preserved
loop-index-preserved g c =
    let within : c.loop-index.index < length c.args.row.now = within-room c.args.row.now c.loop-index.index (omega (arith, c.loop-index.invariant.room)) in
    let more = room_in-drop_more c.args.row.now c.loop-index.index c.index-row-index.result within c.index-row-index.is in
    record { low = omega arith; room = omega (arith, more, c.loop-index.invariant.room) }

pub loop-index-smaller : goal.loop-index-smaller
loop-index-smaller g c =
    let within : c.loop-index.index < length c.args.row.now = within-room c.args.row.now c.loop-index.index (omega (arith, c.loop-index.invariant.room)) in
    omega arith
