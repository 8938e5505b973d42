use Rattle.std.proofs.Common.{arith}
use Rattle.script_words.proofs.Keys.{behind-cuts}
use Rattle.script_words.proofs.settings.behind_key.Goals as goal

pub returns : goal.returns
returns c = rw (behind-cuts c.args.key.now c.args.word.now) (grind arith)
