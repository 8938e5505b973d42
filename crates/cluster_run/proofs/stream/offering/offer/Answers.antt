use Rattle.std.proofs.Common.{sym, ◌∙◌}
use Rattle.cluster_run.proofs.Streams.NextFrame.{next_has_byte, offered_sent}
use Rattle.cluster_run.proofs.stream.offering.offer.Goals as goal

pub send-requires-clause-byte : goal.send-requires-clause-byte
send-requires-clause-byte c = next_has_byte c.args.sender.now c.args.end.now.part.sent c.in-Some.frame c.requires (sym c.in_ok-frame.ensures.frame ∙ c.in-Some.is)

pub returns-in-Sent-clause-offered : goal.returns-in-Sent-clause-offered
returns-in-Sent-clause-offered c =
    offered_sent c.next_follows.ensures c.args.sender.now c.next_frame.new.self c.args.end.now.part c.send.new.self.part c.in-Some.frame c.in-Sent.number c.requires (sym c.in_ok-frame.ensures.frame ∙ c.in-Some.is)
    c.in_ok-frame.ensures.after c.in-Sent.ensures.sends
