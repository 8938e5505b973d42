use Rattle.std.proofs.Common.{◌≡◌, ◌<◌, ◌^◌, drop}
use Rattle.ntb_top.proofs.Digits.{digits_from}
use Rattle.ntb_top.proofs.command.digits_of.Given as goal

abbrev pub invariant-loop-digit : goal.invariant-loop-digit
invariant-loop-digit l = record {
  fits : l.value < 2 ^ 64;
  same : digits_from l.value (drop l.digit-index l.digits) ≡ digits_from 0 l.digits;
}
