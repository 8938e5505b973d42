-- A number has at most twenty digits.
use Rattle.std.proofs.Common.{◌∙◌, ◌+◌, ◌-◌, take, drop, ap, arith}
use Rattle.std.proofs.lemmas.Fmt.{length-decimal-le}
use Rattle.std.proofs.lemmas.List.{take_at, take-take}
use Rattle.std.specs.Fmt.{decimal}
use Rattle.report_text.proofs.line.Digits.set.Goals as goal

pub write_digits-start-requires : goal.write_digits-start-requires
write_digits-start-requires c = (length-decimal-le 20 c.args.number (omega arith) (omega arith) (omega arith), omega arith)

pub invariant_of-self : goal.invariant_of-self
invariant_of-self c =
    let start = c.write_digits-start.result in
    let digits = c.write_digits-start.new.buf in (
      omega arith,
      ap (take (20 - start)) c.copy_from_slice.ensures.after
          ∙ take-take (20 - start) (start + 20 - start) (drop start digits) (omega arith)
          ∙ ap (take (20 - start)) c.write_digits-start.ensures.written
          ∙ take_at (decimal c.args.number) _ (20 - start) (omega (arith, c.write_digits-start.ensures.start)),
    )
