use Rattle.std.proofs.Common.{◌==◌}
use Rattle.script_text.proofs.Splits.{split_start}
use Rattle.script_text.proofs.lines.cut.Goals as goal

pub loop-i-init : goal.loop-i-init
loop-i-init c = split_start (λ b. b == c.args.at) c.args.text.now
