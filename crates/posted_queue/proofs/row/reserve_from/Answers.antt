use Rattle.std.proofs.Common.{◌≡◌, ◌-◌, drop, arith, ap}
use Rattle.posted_queue.specs.Rows.{left_in}
use Rattle.posted_queue.proofs.RowLemmas.{kept-kept, kept-left, room_in-stretch, room_in-take_part}
use Rattle.posted_queue.proofs.row.reserve_from.Goals as goal

pub returns-then-room-more-clause-ok : goal.returns-then-room-more-clause-ok
returns-then-room-more-clause-ok g c =
    let within = room_in-stretch c.loop-number.row.items c.args.from c.loop-number.number in
    let there = c.loop-number.invariant.room in
    let enough = c.if-room-more.true in
    omega arith

pub loop-number-preserved : goal.loop-number-preserved
loop-number-preserved g c = record {
  kept = kept-kept g.P.Part.most c.args.row.now.items c.loop-number.row.items c.reserve_at.new.row.items c.loop-number.invariant.kept c.in_ok-reserve_at.ensures.kept;
  there = (let there = c.in_ok-reserve_at.ensures.there in omega arith);
  room = (let before = c.loop-number.invariant.room in
      let grown = c.in_ok-reserve_at.ensures.kept.room c.args.from c.loop-number.number in
      let more = room_in-take_part c.reserve_at.new.row.items c.args.from c.loop-number.number c.loop-number.auto.number c.in_ok-reserve_at.ensures.there in
      let part = c.in_ok-reserve_at.ensures.room in
      let sum = c.saturating_add-room.ensures in
      omega arith);
  enough = (let before = c.loop-number.invariant.enough in
      let left = kept-left g.P.Part.most c.loop-number.row.items c.reserve_at.new.row.items c.loop-number.number 64 c.in_ok-reserve_at.ensures.kept c.in_ok-reserve_at.ensures.there c.loop-number-test.true in
      let part = c.in_ok-reserve_at.ensures.enough in
      let sum = c.saturating_add-room.ensures in
      let short = c.if-room-more.false in
      let fits = c.ranges.more.fits in
      omega arith);
}

pub returns-clause-ok : goal.returns-clause-ok
returns-clause-ok g c =
    let last : 64 - c.loop-number.number ≡ 0 = (let past = c.loop-number-test.false in omega arith) in
    let none : left_in g.P.Part.most (64 - c.loop-number.number) (drop c.loop-number.number c.loop-number.row.items) ≡ 0 =
    ap (λ places. left_in g.P.Part.most places (drop c.loop-number.number c.loop-number.row.items)) last in
    let within = room_in-stretch c.loop-number.row.items c.args.from c.loop-number.number in
    let there = c.loop-number.invariant.room in
    let enough = c.loop-number.invariant.enough in
    omega arith
