use Rattle.std.proofs.Common.{◌<◌, length, rules, arith}
use Rattle.std.proofs.lemmas.Result.{err_from_is_err_and}
use Rattle.io_edges.proofs.WrittenBytes.{fewer_left, written_at_writes, written_more, written_part}
use Rattle.io_edges.proofs.whole.write_all.Goals as goal

pub returns-in_err-count-clause-part : goal.returns-in_err-count-clause-part
returns-in_err-count-clause-part g c =
    let p = err_from_is_err_and c.from_residual.result c.from_residual.ensures.1 in
    let some : 0 < length c.loop-rest.rest.now = grind arith in
    rw p.1 (written_part _ _ _ _ _ _ _ c.loop-rest.invariant.so_far c.in_err-count.ensures.bytes some)

pub returns-in_err-count-clause-last_write : goal.returns-in_err-count-clause-last_write
returns-in_err-count-clause-last_write g c =
    let p = err_from_is_err_and c.from_residual.result c.from_residual.ensures.1 in
    let some : 0 < length c.loop-rest.rest.now = grind arith in
    rw p.1 (written_at_writes _ _ _ _ _ _ _ _ _ c.loop-rest.invariant.so_far c.in_err-count.ensures.bytes some (omega (arith, c.write_piece.ensures.writes, c.loop-rest.invariant.writes)))

pub loop-rest-preserved : goal.loop-rest-preserved
loop-rest-preserved g c = record {
  so_far = written_more _ _ _ _ _ _ c.in_ok-count.count c.loop-rest.invariant.so_far c.in_ok-count.ensures.bytes;
  calm = search rules;
  writes = fewer_left c.loop-rest.rest.now c.in_ok-count.count _ _ _ c.in_ok-count.ensures.bound (grind arith) c.in_ok-count.ensures.some c.write_piece.ensures.writes c.loop-rest.invariant.writes;
}
