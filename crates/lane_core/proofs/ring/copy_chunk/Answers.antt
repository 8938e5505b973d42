use Rattle.std.proofs.Common.{◌*◌, ◌-◌, ◌++◌, take, drop, ap, ◌∙◌, arith}
use Rattle.lane_core.proofs.Bytes.{chunk_taken}
use Rattle.lane_core.proofs.ring.copy_chunk.Goals as goal

pub returns-clause-copied : goal.returns-clause-copied
returns-clause-copied c =
    let place = c.args.place.now in
    let at = c.args.part * 128 in
    c.append_reserved.ensures.items
    ∙ ap (λ payload. c.args.copied.now.items ++ take (c.min-end.result - at) (drop at payload)) c.deref.ensures.value
    ∙ ap (λ chunk. c.args.copied.now.items ++ chunk) (chunk_taken place.payload.items place.len c.args.part at c.min-end.result (omega arith) c.min-end.ensures (omega arith) c.requires.stands)
