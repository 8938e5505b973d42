use Rattle.std.proofs.Common.{◌≡◌, ◌∙◌, ◌<◌, ◌≤◌, subst, length, ℕ, Err, arith, refl, ap, [], take, length-take, zero-le}
use Rattle.std.proofs.lemmas.Result.{err_from_is_err_and}
use Rattle.io_edges.specs.Causes.{Rose}
use Rattle.io_edges.specs.Whole.{HasGiven}
use Rattle.io_edges.specs.declared.whole.ReadError.TheVariants.{OutOfMemory}
use Rattle.io_edges.proofs.ReadBytes.{ReadsAll-at_end, ReadsAll-at_error, ReadsAll-at_too_long, given_none, given_more, left_none}
use Rattle.io_edges.proofs.whole.read_all.Goals as goal

pub returns-in_err-count : goal.returns-in_err-count
returns-in_err-count g c =
    let source = g.S.Source in
    let bytes = c.loop-buffer.bytes in
    let loop = c.loop-buffer.invariant in
    let failed = c.in_err-count.ensures in
    let residual = c.from_residual-in_err-count in
    let p = err_from_is_err_and residual.result residual.ensures.1 in
    let given : HasGiven (source.left c.args.source.now) (source.left c.read_piece.new.source) bytes.items = rw failed.none loop.given in
    let few : length bytes.items ≤ c.args.limit = omega (arith, bytes.ok.0, c.len.ensures, c.loop-buffer-test.true) in
    let read = ReadsAll-at_error c.args.limit residual.result c.in_err-count.field-0.0 _ _ bytes.items (source.faults c.args.source.now) (source.faults c.read_piece.new.source) (source.reads c.args.source.now) (source.reads c.read_piece.new.source)
    (p.1 ∙ ap Err p.2) given few (λ e. failed.not_long (ap Err e)) (λ e. subst (λ (n : ℕ). Rose n (source.faults c.read_piece.new.source)) loop.calm (failed.fault (ap Err e)))
    (omega (arith, failed.later, loop.calm)) (λ n. failed.calm (λ e. n (cc)) ∙ loop.calm) (omega (arith, failed.reads, loop.reads, bytes.ok.0)) in
    record {
      at_most = read.at_most;
      all = read.all;
      at_end = read.at_end;
      too_long = read.too_long;
      taken = read.taken;
      only = read.only;
      fault = read.fault;
      later = read.later;
      calm = read.calm;
      rest = read.rest;
      reads = read.reads;
      reads_ok = read.reads_ok;
      reads_long = read.reads_long;
    }

pub returns-in_err-buffer : goal.returns-in_err-buffer
returns-in_err-buffer g c =
    let source = g.S.Source in
    let p = err_from_is_err_and c.from_residual.result c.from_residual.ensures.1 in
    let calm : source.faults c.args.source.now ≡ source.faults c.args.source.now = refl in
    let read = ReadsAll-at_error c.args.limit c.from_residual.result OutOfMemory _ _ [] _ _ (source.reads c.args.source.now) _
    (p.1 ∙ ap Err p.2) (given_none (source.left c.args.source.now)) zero-le (λ e. absurd (cc)) (λ e. absurd (cc)) (omega (arith, calm)) (λ _. calm) (omega arith) in
    record {
      at_most = read.at_most;
      all = read.all;
      at_end = read.at_end;
      too_long = read.too_long;
      taken = read.taken;
      only = read.only;
      fault = read.fault;
      later = read.later;
      calm = read.calm;
      rest = read.rest;
      reads = read.reads;
      reads_ok = read.reads_ok;
      reads_long = read.reads_long;
    }

pub returns-then-count-eq0 : goal.returns-then-count-eq0
returns-then-count-eq0 g c =
    let source = g.S.Source in
    let loop = c.loop-buffer.invariant in
    let last = c.in_ok-count.ensures in
    let given = given_more (source.left c.args.source.now) (source.left c.loop-buffer.source) (source.left c.read_piece.new.source) c.loop-buffer.bytes.items c.read_piece.new.bytes.items loop.given last.given in
    let room : 0 < length (take c.min-room.result c.deref_mut.result.now) = omega (arith, length-take c.min-room.result c.deref_mut.result.now) in
    let none = left_none (source.left c.loop-buffer.source) (source.left c.read_piece.new.source) c.loop-buffer.bytes.items c.read_piece.new.bytes.items last.given (last.at_end c.if-count-eq0.true room) in
    let read = ReadsAll-at_end c.args.limit c.read_piece.new.bytes (source.left c.args.source.now) (source.left c.read_piece.new.source) (source.faults c.args.source.now) (source.faults c.read_piece.new.source) (source.reads c.args.source.now) (source.reads c.read_piece.new.source)
    given (omega (arith, last.len, c.if-count-eq0.true, c.len.ensures, c.loop-buffer-test.true)) none (last.calm (λ e. absurd (cc)) ∙ loop.calm) (omega (arith, last.reads, loop.reads, last.len)) in
    record {
      at_most = read.at_most;
      all = read.all;
      at_end = read.at_end;
      too_long = read.too_long;
      taken = read.taken;
      only = read.only;
      fault = read.fault;
      later = read.later;
      calm = read.calm;
      rest = read.rest;
      reads = read.reads;
      reads_ok = read.reads_ok;
      reads_long = read.reads_long;
    }

pub returns : goal.returns
returns g c =
    let source = g.S.Source in
    let loop = c.loop-buffer.invariant in
    let read = ReadsAll-at_too_long c.args.limit (source.left c.args.source.now) (source.left c.loop-buffer.source) c.loop-buffer.bytes (source.faults c.args.source.now) (source.faults c.loop-buffer.source) (source.reads c.args.source.now) (source.reads c.loop-buffer.source)
    loop.given (omega (arith, loop.short, c.len.ensures, c.loop-buffer-test.false)) loop.calm loop.reads in
    record {
      at_most = read.at_most;
      all = read.all;
      at_end = read.at_end;
      too_long = read.too_long;
      taken = read.taken;
      only = read.only;
      fault = read.fault;
      later = read.later;
      calm = read.calm;
      rest = read.rest;
      reads = read.reads;
      reads_ok = read.reads_ok;
      reads_long = read.reads_long;
    }
