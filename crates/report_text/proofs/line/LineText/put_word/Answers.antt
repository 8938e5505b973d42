use Rattle.std.proofs.Common.{◌≡◌, ◌∙◌, ◌+◌, ◌++◌, length, take, ap, sym, arith, slice_index_or, slice_set}
use Rattle.std.proofs.Math.Seq.{paste}
use Rattle.std.proofs.lemmas.List.{length-take-le, take_all}
use Rattle.std.proofs.lemmas.List.Edits.{paste_more, take-paste}
use Rattle.report_text.proofs.line.LineText.put_word.Goals as goal

pub loop-place-preserved : goal.loop-place-preserved
loop-place-preserved g c =
    let i = c.self.inside in
    let place = c.loop-place.place in
    let filled : length c.args.self.now ≡ i.len = ap length (sym c.self.view_is) ∙ length-take-le i.len i.bytes (omega arith) in
    ap (λ bytes. slice_set bytes (i.len + place) (slice_index_or c.args.word.now place 0)) c.loop-place.invariant ∙ paste_more i.bytes i.len c.args.word.now place 0 (omega arith) (omega arith)

pub returns-clause-text : goal.returns-clause-text
returns-clause-text g c =
    let i = c.self.inside in
    let word = c.args.word.now in
    let all : c.loop-place.place ≡ g.row.N = omega arith in
    ap (take (i.len + g.row.N)) (c.loop-place.invariant ∙ ap (paste i.bytes i.len word) all)
    ∙ take-paste i.bytes i.len word g.row.N (omega arith) (omega arith)
    ∙ (λ k. c.self.view_is k ++ take_all g.row.N word (omega arith) k)
