-- What a look leaves of the queue.
use Rattle.std.proofs.Common.{◌≡◌, ◌∙◌, Ok, sym, ap, subst, true, rules, arith}
use Rattle.std.proofs.lemmas.Grind.{common_steps}
use Rattle.std.specs.declared.alloc.AllocError.{AllocError}
use Rattle.step_kinds.specs.Sides.{other_side}
use Rattle.bridge_pair.specs.Bridge.{pages_of}
use Rattle.bridge_pair.specs.Pages.{PagesGrow}
use Rattle.frame_ring.specs.Calls.{TouchedByFlags, TouchedByLook}
use Rattle.frame_ring.specs.Port.{PortState}
use Rattle.frame_ring.specs.PortCalls.{HasPromisedBoth, IsGrownBoth}
use Rattle.frame_ring.specs.declared.RingLook.{RingLook}
use Rattle.queue_pair.proofs.LookAnswers.{answers_closed, answers_unjoined, looked, looked_else, looked_is, unchanged_closed, unchanged_unjoined}
use Rattle.queue_pair.specs.Gates.{queue_after_look, is_joined}
use Rattle.queue_pair.specs.Queue.{QueueState}
use Rattle.queue_pair.proofs.queue.QueuePair.look.Goals as goal
use Rattle.queue_pair.proofs.queue.QueuePair.look.Goals.{in-PeerDown, in_default}

queue_left : (c : goal.After-answer_of_look) → c.match-look.self ≡ queue_after_look c.args.self.now c.args.pair.now
queue_left c =
    let queue : QueueState = record { port = c.self.inside.port; closed = c.self.inside.closed } in
    let joined : is_joined queue c.args.pair.now ≡ true = ap (λ (queue : QueueState). is_joined queue c.args.pair.now) c.self.view_is ∙ sym c.is_joined.ensures ∙ c.if-not-is_joined.false in
    let left = looked_is queue c.args.pair.now c.in_ok-look.look c.look.new.self joined c.if-self.false c.in_ok-look.ensures.answer c.in_ok-look.ensures.after in
    let whole = sym left ∙ ap (λ (queue : QueueState). queue_after_look queue c.args.pair.now) c.self.view_is in
    elim c.match-look.branch [
      | in-PeerDown w ↦ w.self-is ∙ sym (ap (λ (look : RingLook). looked look queue c.look.new.self) w.in-PeerDown.is) ∙ whole
      | in_default w ↦ w.self-is ∙ sym (looked_else queue c.in_ok-look.look c.look.new.self w.in_default.not-PeerDown) ∙ whole
    ]

port_left : (c : goal.After-answer_of_look) → c.match-look.self.port ≡ c.look.new.self
port_left c = elim c.match-look.branch [
  | in-PeerDown w ↦ ap (λ (queue : QueueState). queue.port) w.self-is
  | in_default w ↦ ap (λ (queue : QueueState). queue.port) w.self-is
]

pub returns : goal.returns
returns c = record {
  answer = first_of (search rules, grind (arith, common_steps));
  after = queue_left c;
  err = tt;
  wants = tt;
  promises =
      let pair = c.args.pair.now in
      let by_port =
      subst (λ (left : PortState). HasPromisedBoth {E = AllocError} (TouchedByLook c.self.inside.port pair) (TouchedByFlags c.self.inside.port pair) c.self.inside.port left pair c.look.new.pair (Ok c.in_ok-look.look))
      (sym (port_left c)) c.in_ok-look.ensures.promises in
      let promised =
      subst (λ (queue : QueueState). HasPromisedBoth {E = AllocError} (TouchedByLook queue.port pair) (TouchedByFlags queue.port pair) queue.port c.match-look.self.port pair c.look.new.pair (Ok c.in_ok-look.look)) c.self.view_is by_port in
      record { rest = promised.rest; pages = promised.pages; flags = promised.flags; ready = promised.ready };
}

pub returns-in_err-look : goal.returns-in_err-look
returns-in_err-look c = record {
  answer = first_of (search rules, grind (arith, common_steps));
  after = first_of (search rules, grind (arith, common_steps));
  err = first_of (search rules, grind (arith, common_steps));
  wants = first_of (search rules, grind (arith, common_steps));
  promises = record {
    rest = subst (λ (queue : QueueState). IsGrownBoth queue.port c.look.new.self c.args.pair.now c.look.new.pair) c.self.view_is c.look.ensures.rest;
    pages = subst (λ (queue : QueueState). PagesGrow (TouchedByLook queue.port c.args.pair.now) (pages_of c.args.pair.now (other_side queue.port.side)) (pages_of c.look.new.pair (other_side queue.port.side))) c.self.view_is c.look.ensures.pages;
    flags = subst (λ (queue : QueueState). PagesGrow (TouchedByFlags queue.port c.args.pair.now) (pages_of c.args.pair.now queue.port.side) (pages_of c.look.new.pair queue.port.side)) c.self.view_is c.look.ensures.flags;
    ready = first_of (search rules, grind (arith, common_steps));
  };
}

pub returns-then-not-is_joined : goal.returns-then-not-is_joined
returns-then-not-is_joined c =
    let unjoined = sym c.is_joined.ensures ∙ c.if-not-is_joined.true in
    record {
      answer = sym (answers_unjoined c.args.self.now c.args.pair.now unjoined);
      after = sym (unchanged_unjoined c.args.self.now c.args.pair.now unjoined);
      err = tt;
      wants = tt;
      promises = first_of (search rules, grind (arith, common_steps));
    }

pub returns-then-self : goal.returns-then-self
returns-then-self c =
    let joined = sym c.is_joined.ensures ∙ c.if-not-is_joined.false in
    let closed = sym (ap (λ (queue : QueueState). queue.closed) c.self.view_is) ∙ c.if-self.true in
    record {
      answer = sym (answers_closed c.args.self.now c.args.pair.now joined closed);
      after = sym (unchanged_closed c.args.self.now c.args.pair.now joined closed);
      err = tt;
      wants = tt;
      promises = first_of (search rules, grind (arith, common_steps));
    }
