use Rattle.std.proofs.Common.{◌∙◌, ℕ, ap, Global, Vec}
use Rattle.replay_command.proofs.Texts.{summary_is}
use Rattle.replay_command.proofs.load.summary.Goals as goal

pub returns : goal.returns
returns c = ap (λ (bytes : Vec ℕ Global). bytes.items) c.into_bytes.ensures.value ∙ c.in_ok-text.ensures.ok ∙ summary_is c.args.seed c.args.frames c.args.accepted c.args.delivered c.args.blocked
