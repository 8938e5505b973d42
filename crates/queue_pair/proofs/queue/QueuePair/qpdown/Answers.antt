use Rattle.std.proofs.Common.{◌≡◌, Ok, ap, subst, sym, rules, arith}
use Rattle.std.proofs.lemmas.Grind.{common_steps}
use Rattle.std.specs.declared.alloc.AllocError.{AllocError}
use Rattle.step_kinds.specs.Sides.{other_side}
use Rattle.bridge_pair.specs.Bridge.{pages_of}
use Rattle.bridge_pair.specs.Pages.{PagesGrow}
use Rattle.frame_ring.specs.Calls.{TouchedByDown}
use Rattle.frame_ring.specs.Port.{PortState}
use Rattle.frame_ring.specs.PortCalls.{HasPromised, IsGrown}
use Rattle.queue_pair.specs.Queue.{QueueState}
use Rattle.queue_pair.proofs.queue.QueuePair.qpdown.Goals as goal
use Rattle.queue_pair.proofs.queue.QueuePair.qpdown.Goals.{in-Ok, in_default-begun}

port_left : (c : goal.After-answer_of_begun) → c.match-begun.self.port ≡ c.down.new.self
port_left c = elim c.match-begun.branch [
  | in-Ok w ↦ ap (λ (queue : QueueState). queue.port) w.self-is
  | in_default-begun w ↦ ap (λ (queue : QueueState). queue.port) w.self-is
]

pub returns : goal.returns
returns c = record {
  answer = first_of (search rules, grind (arith, common_steps));
  after = first_of (search rules, grind (arith, common_steps));
  err = tt;
  wants = tt;
  promises =
      let pair = c.args.pair.now in
      let by_port =
      subst (λ (left : PortState). HasPromised {E = AllocError} (TouchedByDown c.self.inside.port pair) c.self.inside.port left pair c.down.new.pair (Ok c.in_ok-begun.begun))
      (sym (port_left c)) c.in_ok-begun.ensures.promises in
      let promised =
      subst (λ (queue : QueueState). HasPromised {E = AllocError} (TouchedByDown queue.port pair) queue.port c.match-begun.self.port pair c.down.new.pair (Ok c.in_ok-begun.begun)) c.self.view_is by_port in
      record { rest = promised.rest; pages = promised.pages; ready = promised.ready };
}

pub returns-in_err-begun : goal.returns-in_err-begun
returns-in_err-begun c = record {
  answer = first_of (search rules, grind (arith, common_steps));
  after = first_of (search rules, grind (arith, common_steps));
  err = first_of (search rules, grind (arith, common_steps));
  wants = first_of (search rules, grind (arith, common_steps));
  promises = record {
    rest = subst (λ (queue : QueueState). IsGrown queue.port c.down.new.self c.args.pair.now c.down.new.pair) c.self.view_is c.down.ensures.rest;
    pages = subst (λ (queue : QueueState). PagesGrow (TouchedByDown queue.port c.args.pair.now) (pages_of c.args.pair.now (other_side queue.port.side)) (pages_of c.down.new.pair (other_side queue.port.side))) c.self.view_is c.down.ensures.pages;
    ready = first_of (search rules, grind (arith, common_steps));
  };
}
