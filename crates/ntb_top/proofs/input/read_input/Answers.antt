use Rattle.std.proofs.Common.{◌≡◌, ◌∙◌, ◌+◌, ◌<◌, Option, Some, Err, ℕ, List, length, drop, ap}
use Rattle.step_kinds.specs.Limits.{most_script_bytes}
use Rattle.ntb_top.proofs.RunOutcomes.{err_known, input_too_long, not_failed}
use Rattle.ntb_top.proofs.input.read_input.Goals as goal

pub returns-in-Err-TooLong : goal.returns-in-Err-TooLong
returns-in-Err-TooLong g c =
    let left = g.S.Source.left c.args.source.now in
    let left' : Option (List ℕ) = g.S.Source.left c.read_all.new.source in
    let is = c.in-Err-TooLong.is ∙ ap Err c.in-Err-TooLong.field-0-is in
    input_too_long c.args.reads _ _ c.if-not-reads.false (err_known (λ (content : List ℕ). most_script_bytes < length content) left _ is c.read_all.ensures.too_long)
    (err_known (λ (content : List ℕ). left' ≡ Some (drop (most_script_bytes + 1) content)) left _ is c.read_all.ensures.taken) c.read_all.ensures.rest
    (c.read_all.ensures.reads_long is) (c.read_all.ensures.calm (λ failed. not_failed _ is failed))
