use Rattle.std.proofs.Common.{◌≡◌, ◌∙◌, ◌+◌, [], ap, length, drop, refl, arith}
use Rattle.std.proofs.lemmas.List.{drop_all}
use Rattle.lane_model.specs.Lane.{chunks_in}
use Rattle.pair_model.specs.Pieces.{pieces_of}
use Rattle.pair_model.specs.Sizes.{pieces_in}
use Rattle.frame_ring.specs.Outgoing.{all_writes_in, entry_at, port_writes_in}
use Rattle.frame_ring.proofs.Entries.{entry_and_others, length-pieces_of}
use Rattle.frame_ring.proofs.EntryPages.{piece_length}
use Rattle.frame_ring.proofs.promises.count_writes.Goals as goal

pub loop-k-preserved : goal.loop-k-preserved
loop-k-preserved c =
    let frame = c.args.frame.now in
    let largest = c.args.largest in
    let pieces = pieces_of largest frame in
    let piece = piece_length largest largest c.loop-k.k c.pieces_in-k-end.result frame c.bytes.result.now c.piece_bytes.result.now refl c.bytes.ensures.value c.piece_bytes.ensures.value
    (c.pieces_in-k-end.ensures.value ∙ ap (pieces_in largest) c.len.ensures.value) c.loop-k-test.true in
    let writes : c.writes_in.result ≡ port_writes_in (entry_at pieces c.loop-k.k) = c.writes_in.ensures.value ∙ ap (λ len. chunks_in len + 4) piece.0 in
    let others = entry_and_others pieces c.loop-k.k piece.1 in
    record {
      rest = omega (arith, writes, others, c.loop-k.invariant.rest);
      small = omega (arith, c.writes_in.ensures.few, c.loop-k.invariant.small);
    }

pub returns-clause-value : goal.returns-clause-value
returns-clause-value c =
    let frame = c.args.frame.now in
    let largest = c.args.largest in
    let count : c.pieces_in-k-end.result ≡ pieces_in largest (length frame) = c.pieces_in-k-end.ensures.value ∙ ap (pieces_in largest) c.len.ensures.value in
    let none : drop c.loop-k.k (pieces_of largest frame) ≡ [] = drop_all c.loop-k.k (pieces_of largest frame) (omega (arith, count, length-pieces_of largest frame, c.loop-k-test.false)) in
    let left : all_writes_in (drop c.loop-k.k (pieces_of largest frame)) ≡ 0 = ap all_writes_in none in
    omega (arith, left, c.loop-k.invariant.rest)
