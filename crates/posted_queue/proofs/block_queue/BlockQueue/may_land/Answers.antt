use Rattle.std.proofs.Common.{not, map, ap, ◌∙◌}
use Rattle.order_rules.specs.Order.{may_land}
use Rattle.posted_queue.proofs.block_queue.BlockQueue.may_land.Goals as goal

pub returns : goal.returns
returns g c =
    ap not c.is_blocked.ensures
    ∙ c.class_awaited_at-waits_for.ensures.lands
    ∙ ap (λ flight. may_land (map g.W.Ordered.order flight.writes) c.args.place) c.self.view_is
