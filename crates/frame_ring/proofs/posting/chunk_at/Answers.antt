use Rattle.std.proofs.Common.{◌≡◌, ◌∙◌, ◌-◌, ◌*◌, min, length, take, drop, ap, arith}
use Rattle.std.proofs.lemmas.List.{take_min, take_rest}
use Rattle.frame_ring.proofs.posting.chunk_at.Goals as goal

pub returns-clause-value : goal.returns-clause-value
returns-clause-value c =
    let payload = c.args.payload.now in
    let start = 128 * c.args.part in
    let rest = take (length payload - start) (drop start payload) in
    let end : c.min-end.result ≡ min 128 (length rest) = c.min-end.ensures ∙ omega arith in
    ap (λ end. take end rest) end ∙ take_min 128 rest ∙ ap (take 128) (take_rest payload start)
