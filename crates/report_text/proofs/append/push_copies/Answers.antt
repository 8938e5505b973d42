use Rattle.std.proofs.Common.{◌++◌, ap, ◌∙◌, append_assoc}
use Rattle.std.specs.List.{repeat}
use Rattle.report_text.proofs.Repeats.{repeat_more}
use Rattle.report_text.proofs.append.push_copies.Goals as goal

pub loop-preserved : goal.loop-preserved
loop-preserved c =
    let old = c.args.text.now.items in
    let bytes = c.args.bytes.now in
    let n = c.loop.counter in
    c.in_ok-extend_from_slice.ensures.items ∙ ap (λ t. t ++ bytes) c.loop.invariant
    ∙ append_assoc old (repeat n bytes) bytes ∙ ap (λ more. old ++ more) (repeat_more n bytes)
