use Rattle.std.proofs.Common.{◌∙◌, ◌*◌, ap, sym, length, take, drop, arith}
use Rattle.lane_model.specs.Lane.{bytes_of}
use Rattle.pair_model.specs.Sizes.{pieces_in}
use Rattle.frame_ring.specs.Outgoing.{entries_under, entry_at}
use Rattle.frame_ring.proofs.Entries.{length-pieces_of, piece_at}
use Rattle.frame_ring.proofs.sending.payload_of.Goals as goal

pub piece_bytes-requires-clause-among : goal.piece_bytes-requires-clause-among
piece_bytes-requires-clause-among c =
    let count = ap (λ frame. length (entries_under c.args.largest frame)) c.in-Some.is ∙ length-pieces_of c.args.largest c.in-Some.frame ∙ ap (λ bytes. pieces_in c.args.largest (length bytes)) (sym c.bytes.ensures.value) in
    omega (arith, count, c.requires.among)

pub returns-in-Some-clause-value : goal.returns-in-Some-clause-value
returns-in-Some-clause-value c =
    let count = ap (λ frame. length (entries_under c.args.largest frame)) c.in-Some.is ∙ length-pieces_of c.args.largest c.in-Some.frame in
    c.piece_bytes.ensures.value ∙ ap (λ bytes. take c.args.largest (drop (c.args.largest * c.args.piece) bytes)) c.bytes.ensures.value
    ∙ sym (ap (λ frame. bytes_of (entry_at (entries_under c.args.largest frame) c.args.piece)) c.in-Some.is ∙ ap bytes_of (piece_at c.args.largest c.in-Some.frame c.args.piece (omega (arith, count, c.requires.among))))
