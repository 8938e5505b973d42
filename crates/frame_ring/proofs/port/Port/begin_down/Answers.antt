use Rattle.std.proofs.Common.{◌≡◌, ◌∙◌, ◌-◌, [], ◌∷◌, false, not, refl, ap, sym, subst, arith, rules}
use Rattle.std.proofs.lemmas.Grind.{common_steps}
use Rattle.pair_model.specs.DeclaredPlans.{SizesFit}
use Rattle.step_kinds.specs.Sides.{other_side}
use Rattle.step_kinds.specs.declared.names.Side.{Side}
use Rattle.bridge_pair.specs.Bridge.{Bridge, flight_of, pages_of, with_flight, with_pages}
use Rattle.bridge_pair.specs.Pages.{PagesGrow}
use Rattle.bridge_pair.proofs.Facade.{grows_nothing}
use Rattle.posted_queue.specs.Flight.{promised}
use Rattle.frame_ring.specs.Calls.{down_begun}
use Rattle.frame_ring.specs.Outgoing.{Outgoing}
use Rattle.frame_ring.specs.Port.{PortState, Sending, is_port_busy, unused_of, with_sending, writes_left}
use Rattle.frame_ring.specs.PortCalls.{IsGrown}
use Rattle.frame_ring.specs.Ports.{port_seen}
use Rattle.frame_ring.specs.PortView.{HasPagesIn, TouchesLeft, with_room}
use Rattle.lane_model.specs.Lane.{GoesDown}
use Rattle.frame_ring.proofs.PromisesOfBegin.{Begins, begins_pages, begins_ready, begins_rest, down_begins, down_grows, down_sent, rest_kept}
use Rattle.frame_ring.proofs.FoundEntries.{pages_same}
use Rattle.frame_ring.proofs.port.Port.begin_down.Goals as goal
use Rattle.frame_ring.proofs.port.Port.begin_down.Goals.{After-down}

-- the link-down entry is begun

begins : (c : After-down)
    → Begins (port_seen c.self.inside) (down_begun (port_seen c.self.inside)).sending (GoesDown ∷ []) c.args.pair.now c.promise_entry.new.pair c.promise.new.self 4
begins c =
    let port = port_seen c.self.inside in
    let idle : is_port_busy port.sending ≡ false = ap (λ (port : PortState). is_port_busy port.sending) c.self.view_is ∙ c.requires.idle in
    let room : c.promise.new.self ≡ with_room c.promise_entry.new.pair port.side 4 = c.in_ok-promise.ensures.ok ∙ ap (λ (side : Side). with_flight c.promise_entry.new.pair side (promised (flight_of c.promise_entry.new.pair side) 4)) c.side.ensures.value in
    down_begins port c.args.pair.now c.promise_entry.new.pair c.promise.new.self c.begun-from.result idle c.begun-from.ensures.value c.promise_entry.ensures.rest c.promise_entry.ensures.pages c.in_ok-promise_entry.ensures.ok room

sent : (c : After-down) → c.down.new.self.sending ≡ (down_begun (port_seen c.self.inside)).sending
sent c = down_sent (port_seen c.self.inside) c.self.inside.sender c.down.new.self refl c.self.invariant.queue c.down.ensures

pub down-requires-clause-free : goal.down-requires-clause-free
down-requires-clause-free c =
    let idle : is_port_busy c.self.inside.sender.sending ≡ false = ap (λ (port : PortState). is_port_busy port.sending) c.self.view_is ∙ c.requires.idle in
    ap not idle

pub down-requires-clause-numbers : goal.down-requires-clause-numbers
down-requires-clause-numbers c =
    let left = c.has_numbers.ensures.0 c.if-not-has_numbers.false in
    omega (arith, left.0, c.begun-from.ensures.value)

pub invariant_of-self : goal.invariant_of-self
invariant_of-self c =
    record {
      queue = ap (λ (sender : Outgoing). sender.queue) c.down.ensures ∙ c.self.invariant.queue;
      largest = ap (λ (sender : Outgoing). sender.largest) c.down.ensures ∙ c.self.invariant.largest;
      sends = λ _. subst (λ (port : PortState). SizesFit port.plan) (sym c.self.view_is) c.requires.fit;
      receives = c.self.invariant.receives;
      fits = c.self.invariant.fits;
    }

pub returns-clause-after : goal.returns-clause-after
returns-clause-after c = ap (with_sending (port_seen c.self.inside)) (sent (goal.at.returns-clause-after c).After-down) ∙ ap down_begun c.self.view_is

pub returns-then-not-has_numbers-clause-promises : goal.returns-then-not-has_numbers-clause-promises
returns-then-not-has_numbers-clause-promises c =
    let port = c.args.self.now in
    let pair = c.args.pair.now in
    record {
      rest = rest_kept pair pair pair port.side (unused_of port - unused_of port) (pages_same pair (other_side port.side)) refl (omega arith);
      pages = grows_nothing (TouchesLeft port.plan port.side (writes_left (down_begun port))) (pages_of pair (other_side port.side));
      ready = tt;
    }

pub returns-in_err-promise_entry-clause-promises : goal.returns-in_err-promise_entry-clause-promises
returns-in_err-promise_entry-clause-promises c =
    let port = port_seen c.self.inside in
    let pair = c.args.pair.now in
    let new = c.promise_entry.new.pair in
    let idle : is_port_busy port.sending ≡ false = ap (λ (port : PortState). is_port_busy port.sending) c.self.view_is ∙ c.requires.idle in
    record {
      rest = subst (λ (seen : PortState). IsGrown seen seen pair new) c.self.view_is (rest_kept pair new new port.side (unused_of port - unused_of port) c.promise_entry.ensures.rest refl (omega arith));
      pages =
          subst (λ (seen : PortState). PagesGrow (TouchesLeft seen.plan seen.side (writes_left (down_begun seen))) (pages_of pair (other_side seen.side)) (pages_of new (other_side seen.side))) c.self.view_is
          (down_grows port _ _ c.begun-from.result idle c.begun-from.ensures.value c.promise_entry.ensures.pages);
      ready = first_of (search rules, grind (arith, common_steps));
    }

pub returns-in_err-promise-clause-promises : goal.returns-in_err-promise-clause-promises
returns-in_err-promise-clause-promises c =
    let port = port_seen c.self.inside in
    let pair = c.args.pair.now in
    let new = c.promise.new.self in
    let idle : is_port_busy port.sending ≡ false = ap (λ (port : PortState). is_port_busy port.sending) c.self.view_is ∙ c.requires.idle in
    let same : pages_of c.promise_entry.new.pair (other_side port.side) ≡ pages_of new (other_side port.side) = sym (ap (λ (bridge : Bridge). pages_of bridge (other_side port.side)) c.in_err-promise.ensures.err) in
    record {
      rest = subst (λ (seen : PortState). IsGrown seen seen pair new) c.self.view_is (rest_kept pair c.promise_entry.new.pair new port.side (unused_of port - unused_of port) c.promise_entry.ensures.rest c.in_err-promise.ensures.err (omega arith));
      pages =
          subst (λ (seen : PortState). PagesGrow (TouchesLeft seen.plan seen.side (writes_left (down_begun seen))) (pages_of pair (other_side seen.side)) (pages_of new (other_side seen.side))) c.self.view_is
          (subst (λ pages. PagesGrow (TouchesLeft port.plan port.side (writes_left (down_begun port))) (pages_of pair (other_side port.side)) pages) same
          (down_grows port _ _ c.begun-from.result idle c.begun-from.ensures.value c.promise_entry.ensures.pages));
      ready = first_of (search rules, grind (arith, common_steps));
    }

pub returns-clause-promises : goal.returns-clause-promises
returns-clause-promises c =
    let port = port_seen c.self.inside in
    let pair = c.args.pair.now in
    let new = c.promise.new.self in
    let here = (goal.at.returns-clause-promises c).After-down in
    record {
      rest =
          begins_rest port (down_begun port).sending (GoesDown ∷ []) pair c.promise_entry.new.pair new 4 (begins here)
          ∙ ap (λ (sending : Sending). with_room (with_pages pair (other_side port.side) (pages_of new (other_side port.side))) port.side (unused_of (with_sending port sending) - unused_of port)) (sym (sent here))
          ∙ ap (λ (seen : PortState). with_room (with_pages pair (other_side seen.side) (pages_of new (other_side seen.side))) seen.side (unused_of (with_sending port c.down.new.self.sending) - unused_of seen)) c.self.view_is;
      pages =
          subst (λ (seen : PortState). PagesGrow (TouchesLeft seen.plan seen.side (writes_left (down_begun seen))) (pages_of pair (other_side seen.side)) (pages_of new (other_side seen.side))) c.self.view_is
          (begins_pages port (down_begun port).sending (GoesDown ∷ []) pair c.promise_entry.new.pair new 4 (begins here));
      ready = λ ready.
          subst (λ (sending : Sending). HasPagesIn (with_sending port sending) new) (sym (sent here))
          (begins_ready port (down_begun port).sending (GoesDown ∷ []) pair c.promise_entry.new.pair new 4 (begins here) (subst (λ (port : PortState). HasPagesIn port pair) (sym c.self.view_is) ready));
    }
