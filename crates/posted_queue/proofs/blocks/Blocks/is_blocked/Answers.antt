use Rattle.std.proofs.Common.{◌≤◌, ◌-◌, length, take, arith, ap, sym, ◌∙◌}
use Rattle.posted_queue.specs.Rows.{is_held_back}
use Rattle.posted_queue.proofs.BlocksLemmas.{behind-held, behind-free}
use Rattle.posted_queue.proofs.blocks.Blocks.is_blocked.Goals as goal

pub returns-then-holds_back : goal.returns-then-holds_back
returns-then-holds_back g c =
    let far : length c.self.inside.front.writes ≤ c.args.place = omega (arith, c.len-front.ensures) in
    let held = behind-held g.W.Ordered.order c.args.waits_for c.self.inside.front.writes c.self.inside.rest.writes c.args.place far (sym c.holds_back.ensures ∙ c.if-holds_back.true) in
    sym held ∙ ap (λ state. is_held_back g.W.Ordered.order c.args.waits_for (take c.args.place state.writes)) c.self.view_is

pub returns : goal.returns
returns g c =
    let far : length c.self.inside.front.writes ≤ c.args.place = omega (arith, c.len-front.ensures) in
    let free = behind-free g.W.Ordered.order c.args.waits_for c.self.inside.front.writes c.self.inside.rest.writes c.args.place far (sym c.holds_back.ensures ∙ c.if-holds_back.false) in
    c.is_blocked-2.ensures
    ∙ ap (λ front. is_held_back g.W.Ordered.order c.args.waits_for (take (c.args.place - front) c.self.inside.rest.writes)) c.len-front.ensures
    ∙ sym free
    ∙ ap (λ state. is_held_back g.W.Ordered.order c.args.waits_for (take c.args.place state.writes)) c.self.view_is
