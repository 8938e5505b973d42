use Rattle.std.proofs.Common.{◌≡◌, ◌≤◌, ◌-◌, ◌++◌, length, take, IfSome, Some, slice_get, remove, arith, ap, subst, sym, ◌∙◌}
use Rattle.posted_queue.specs.Rows.{is_held_back}
use Rattle.posted_queue.proofs.BlocksLemmas.{behind-held, behind-free, behind-slice_get, behind-remove, on_some-then}
use Rattle.posted_queue.proofs.blocks.Blocks.take.Goals as goal

pub returns-then-holds_back-clause-held_back : goal.returns-then-holds_back-clause-held_back
returns-then-holds_back-clause-held_back g c =
    let far : length c.self.inside.front.writes ≤ c.args.place = omega (arith, c.len-front.ensures) in
    let held = behind-held g.W.Ordered.order c.args.waits_for c.self.inside.front.writes c.self.inside.rest.writes c.args.place far (sym c.holds_back.ensures ∙ c.if-holds_back.true) in
    sym held ∙ ap (λ state. is_held_back g.W.Ordered.order c.args.waits_for (take c.args.place state.writes)) c.self.view_is

pub returns-clause-held_back : goal.returns-clause-held_back
returns-clause-held_back g c =
    let far : length c.self.inside.front.writes ≤ c.args.place = omega (arith, c.len-front.ensures) in
    let free = behind-free g.W.Ordered.order c.args.waits_for c.self.inside.front.writes c.self.inside.rest.writes c.args.place far (sym c.holds_back.ensures ∙ c.if-holds_back.false) in
    c.take-2.ensures.held_back
    ∙ ap (λ front. is_held_back g.W.Ordered.order c.args.waits_for (take (c.args.place - front) c.self.inside.rest.writes)) c.len-front.ensures
    ∙ sym free
    ∙ ap (λ state. is_held_back g.W.Ordered.order c.args.waits_for (take c.args.place state.writes)) c.self.view_is

pub returns-clause-write : goal.returns-clause-write
returns-clause-write g c =
    let far : length c.self.inside.front.writes ≤ c.args.place = omega (arith, c.len-front.ensures) in
    subst (λ found. IfSome c.take-2.result (λ write. found ≡ Some write))
    (ap (λ front. slice_get c.self.inside.rest.writes (c.args.place - front)) c.len-front.ensures
    ∙ sym (behind-slice_get c.self.inside.front.writes c.self.inside.rest.writes c.args.place far)
    ∙ ap (λ state. slice_get state.writes c.args.place) c.self.view_is)
    c.take-2.ensures.write

pub returns-clause-writes : goal.returns-clause-writes
returns-clause-writes g c =
    let far : length c.self.inside.front.writes ≤ c.args.place = omega (arith, c.len-front.ensures) in
    on_some-then c.take-2.result c.take-2.ensures.writes (λ taken.
    ap (λ writes. c.self.inside.front.writes ++ writes) taken
    ∙ ap (λ front. c.self.inside.front.writes ++ remove c.self.inside.rest.writes (c.args.place - front)) c.len-front.ensures
    ∙ behind-remove c.self.inside.front.writes c.self.inside.rest.writes c.args.place far
    ∙ ap (λ state. remove state.writes c.args.place) c.self.view_is)
