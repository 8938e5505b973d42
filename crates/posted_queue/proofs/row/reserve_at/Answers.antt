use Rattle.std.proofs.Common.{arith}
use Rattle.posted_queue.proofs.RowLemmas.{kept-set, kept-kept}
use Rattle.posted_queue.proofs.row.reserve_at.Goals as goal

pub returns-in_err-reserve-clause-kept : goal.returns-in_err-reserve-clause-kept
returns-in_err-reserve-clause-kept g c =
    kept-kept g.P.Part.most c.args.row.now.items c.add_missing_part.new.row.items _ c.add_missing_part.ensures.kept
    (kept-set g.P.Part.most c.add_missing_part.new.row.items c.args.number c.index_mut-part.result.now c.reserve.new.self (omega (arith, c.in_ok-add_missing_part.ensures.there)) c.index_mut-part.ensures.value c.reserve.ensures.writes c.reserve.ensures.room c.reserve.ensures.left)

pub returns-clause-kept : goal.returns-clause-kept
returns-clause-kept g c =
    kept-kept g.P.Part.most c.args.row.now.items c.add_missing_part.new.row.items _ c.add_missing_part.ensures.kept
    (kept-set g.P.Part.most c.add_missing_part.new.row.items c.args.number c.index_mut-part.result.now c.reserve.new.self (omega (arith, c.in_ok-add_missing_part.ensures.there)) c.index_mut-part.ensures.value c.reserve.ensures.writes c.reserve.ensures.room c.reserve.ensures.left)
