use Rattle.cluster_run.proofs.Streams.EndOfSession.{ends_with, shown_with}
use Rattle.cluster_run.proofs.stream.session.Session.into_end.Goals as goal

pub returns : goal.returns
returns c =
    ends_with c.self.inside _ c.ended-sender.result c.in-Ok.end _ _ _ _ c.self.invariant c.self.view_is c.ended-sender.ensures c.in-Ok.ensures
    (record { items_shown = shown_with c.finish-items.ensures.proof c.into_ends-item_cut.ensures.items.1; acks_shown = shown_with c.finish-acknowledged.ensures.proof c.into_ends-item_cut.ensures.acks.1; items_order = c.finish-items.ensures.left; acks_order = c.finish-acknowledged.ensures.left })
