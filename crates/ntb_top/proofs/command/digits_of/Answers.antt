use Rattle.std.proofs.Common.{sym, ◌∙◌, arith}
use Rattle.ntb_top.proofs.Digits.{digit-within, digits-past, digits-done}
use Rattle.ntb_top.proofs.command.digits_of.Goals as goal

pub returns-in_err-checked_mul : goal.returns-in_err-checked_mul
returns-in_err-checked_mul c =
    let past = digits-past c.loop-digit.value c.args.digits.now c.loop-digit.digit-index (omega arith)
    (digit-within _ c.if-not-is_ascii_digit.ensures.cases) (omega (arith, c.in_err-checked_mul.ensures)) in
    c.from_residual.ensures ∙ sym past ∙ c.loop-digit.invariant.same

pub returns-in_err-value : goal.returns-in_err-value
returns-in_err-value c =
    let a = c.in_ok-checked_mul.ensures in
    let b = c.from.ensures in
    let past = digits-past c.loop-digit.value c.args.digits.now c.loop-digit.digit-index (omega arith)
    (digit-within _ c.if-not-is_ascii_digit.ensures.cases) (omega (arith, c.in_err-value.ensures, c.in_ok-checked_mul.ensures, c.from.ensures)) in
    c.from_residual-in_err-value.ensures ∙ sym past ∙ c.loop-digit.invariant.same

pub returns : goal.returns
returns c = sym (digits-done c.loop-digit.value c.args.digits.now c.loop-digit.digit-index (omega arith) (omega arith)) ∙ c.loop-digit.invariant.same
