use Rattle.std.proofs.Common.{◌≡◌, suc, ◌-◌, length, arith}
use Rattle.std.proofs.lemmas.Grind.{common_steps}
use Rattle.script_text.proofs.Returns.{return_dropped, return_missing}
use Rattle.script_text.proofs.lines.without_return.Goals as goal

pub returns-then-line-last-eq13 : goal.returns-then-line-last-eq13
returns-then-line-last-eq13 c =
    let some : length c.args.line.now ≡ suc (length c.args.line.now - 1) = grind (arith, common_steps) in
    return_dropped c.args.line.now (length c.args.line.now - 1) some c.if-line-last-eq13.true

pub returns-else-line-last-eq13 : goal.returns-else-line-last-eq13
returns-else-line-last-eq13 c =
    let some : length c.args.line.now ≡ suc (length c.args.line.now - 1) = grind (arith, common_steps) in
    return_missing c.args.line.now (length c.args.line.now - 1) some c.if-line-last-eq13.false
