use Rattle.std.proofs.Common.{◌∙◌, ap}
use Rattle.fabric_rule.specs.Parts.{PairState}
use Rattle.fabric_core.proofs.LogCounts.{session_counted}
use Rattle.fabric_core.proofs.fabric.Fabric.sessions.Goals as goal

pub returns : goal.returns
returns c = λ plan steps made. c.session.ensures ∙ ap (λ (pair : PairState). pair.bridge.link.session) c.pair.ensures ∙ session_counted plan steps c.args.self.now made c.args.pair c.requires
