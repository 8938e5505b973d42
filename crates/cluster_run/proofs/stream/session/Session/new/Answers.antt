use Rattle.std.proofs.Common.{ap}
use Rattle.table_lane.specs.declared.parts.SendPart.{SendPart}
use Rattle.cluster_run.proofs.Streams.NextFrame.{offers_nothing}
use Rattle.cluster_run.proofs.stream.session.Session.new.Goals as goal

pub new-source-requires-clause-offered : goal.new-source-requires-clause-offered
new-source-requires-clause-offered c = offers_nothing c.args.sender c.args.receiver _ c.requires.ends (ap (λ (part : SendPart). part.sent) c.in_ok-got.ensures.items.new_sender)
