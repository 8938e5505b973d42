use Rattle.std.proofs.Common.{◌≡◌, ◌∙◌, ℕ, ◌+◌, ◌-◌, ◌<◌, ◌≤◌, false, not, length, refl, ap, sym, subst, arith, rules}
use Rattle.std.proofs.lemmas.Grind.{common_steps}
use Rattle.pair_model.specs.DeclaredPlans.{SizesFit}
use Rattle.pair_model.specs.Pieces.{pieces_of}
use Rattle.pair_model.specs.Sizes.{pieces_in}
use Rattle.ring_geometry.specs.Geometry.{max_payload_of}
use Rattle.step_kinds.specs.Sides.{other_side}
use Rattle.step_kinds.specs.declared.names.Side.{Side}
use Rattle.bridge_pair.specs.Bridge.{Bridge, flight_of, pages_of, with_flight, with_pages}
use Rattle.bridge_pair.specs.Pages.{PagesGrow}
use Rattle.bridge_pair.proofs.Facade.{grows_nothing}
use Rattle.posted_queue.specs.Flight.{promised}
use Rattle.frame_ring.specs.Calls.{port_frame_begun, sizes_seen}
use Rattle.frame_ring.specs.Outgoing.{Outgoing, all_writes_in, most_numbers}
use Rattle.frame_ring.specs.Port.{PortState, Sending, is_port_busy, unused_of, with_sending, writes_left}
use Rattle.frame_ring.specs.PortCalls.{IsGrown}
use Rattle.frame_ring.specs.Ports.{port_seen}
use Rattle.frame_ring.specs.PortView.{HasPagesIn, TouchesLeft, with_room}
use Rattle.frame_ring.proofs.PromisesOfBegin.{Begins, begins_pages, begins_ready, begins_rest, frame_begins, frame_grows, frame_sent, pieces_seen, rest_kept}
use Rattle.frame_ring.proofs.FoundEntries.{pages_same}
use Rattle.frame_ring.proofs.port.Port.begin_frame.Goals as goal
use Rattle.frame_ring.proofs.port.Port.begin_frame.Goals.{After-begin}

-- the pieces of the frame are begun

begins : (c : After-begin)
    → Begins (port_seen c.self.inside) (port_frame_begun (port_seen c.self.inside) c.args.frame).sending (pieces_seen (port_seen c.self.inside) c.args.frame) c.args.pair.now c.promise_frame.new.pair c.promise.new.self c.count_writes-count.result
begins c =
    let port = port_seen c.self.inside in
    let idle : is_port_busy port.sending ≡ false = ap (λ (port : PortState). is_port_busy port.sending) c.self.view_is ∙ c.requires.idle in
    let seen : c.max_payload-largest.result ≡ (sizes_seen port).largest = c.max_payload-largest.ensures ∙ ap max_payload_of c.out.ensures.value in
    let room : c.promise.new.self ≡ with_room c.promise_frame.new.pair port.side c.count_writes-count.result = c.in_ok-promise.ensures.ok ∙ ap (λ (side : Side). with_flight c.promise_frame.new.pair side (promised (flight_of c.promise_frame.new.pair side) c.count_writes-count.result)) c.side.ensures.value in
    frame_begins port c.args.frame c.args.pair.now c.promise_frame.new.pair c.promise.new.self c.begun-from.result c.max_payload-largest.result c.count_writes-count.result idle c.begun-from.ensures.value seen
    c.count_writes-count.ensures.value c.promise_frame.ensures.rest c.promise_frame.ensures.pages c.in_ok-promise_frame.ensures.ok room

sent : (c : After-begin) → c.begin.new.self.sending ≡ (port_frame_begun (port_seen c.self.inside) c.args.frame).sending
sent c = frame_sent (port_seen c.self.inside) c.args.frame c.self.inside.sender c.begin.new.self refl c.self.invariant.queue c.self.invariant.largest c.begin.ensures

pub begin-requires-clause-free : goal.begin-requires-clause-free
begin-requires-clause-free c =
    let idle : is_port_busy c.self.inside.sender.sending ≡ false = ap (λ (port : PortState). is_port_busy port.sending) c.self.view_is ∙ c.requires.idle in
    ap not idle

pub begin-requires-clause-writes : goal.begin-requires-clause-writes
begin-requires-clause-writes c =
    let largest : c.max_payload-largest.result ≡ c.self.inside.sender.largest = c.max_payload-largest.ensures ∙ ap max_payload_of c.out.ensures.value ∙ sym c.self.invariant.largest in
    c.count_writes-count.ensures.value ∙ ap (λ (largest : ℕ). all_writes_in (pieces_of largest c.args.frame)) largest

pub begin-requires-clause-few : goal.begin-requires-clause-few
begin-requires-clause-few c = c.count_writes-count.ensures.small

pub begin-requires-clause-numbers : goal.begin-requires-clause-numbers
begin-requires-clause-numbers c =
    let largest : c.max_payload-largest.result ≡ c.self.inside.sender.largest = c.max_payload-largest.ensures ∙ ap max_payload_of c.out.ensures.value ∙ sym c.self.invariant.largest in
    let pieces : c.pieces_in-pieces.result ≡ pieces_in c.self.inside.sender.largest (length c.args.frame) =
    c.pieces_in-pieces.ensures.value ∙ ap (λ (largest : ℕ). pieces_in largest c.len.result) largest ∙ ap (pieces_in c.self.inside.sender.largest) c.len.ensures.value in
    let left = c.has_numbers.ensures.0 c.if-not-has_numbers.false in
    subst (λ (more : ℕ). c.self.inside.sender.sending.begun + more ≤ most_numbers) pieces (omega (arith, left.0, c.begun-from.ensures.value))

pub begin-requires-clause-frames : goal.begin-requires-clause-frames
begin-requires-clause-frames c =
    let left = c.has_numbers.ensures.0 c.if-not-has_numbers.false in
    subst (λ (told : ℕ). told < most_numbers) c.told.ensures.value left.1

pub promise_frame-requires-clause-fit : goal.promise_frame-requires-clause-fit
promise_frame-requires-clause-fit c = subst (λ (port : PortState). SizesFit port.plan) (sym c.self.view_is) c.requires.fit

pub invariant_of-self : goal.invariant_of-self
invariant_of-self c =
    record {
      queue = ap (λ (sender : Outgoing). sender.queue) c.begin.ensures ∙ c.self.invariant.queue;
      largest = ap (λ (sender : Outgoing). sender.largest) c.begin.ensures ∙ c.self.invariant.largest;
      sends = λ _. subst (λ (port : PortState). SizesFit port.plan) (sym c.self.view_is) c.requires.fit;
      receives = c.self.invariant.receives;
      fits = c.self.invariant.fits;
    }

pub returns-clause-after : goal.returns-clause-after
returns-clause-after c = ap (with_sending (port_seen c.self.inside)) (sent (goal.at.returns-clause-after c).After-begin) ∙ ap (λ (seen : PortState). port_frame_begun seen c.args.frame) c.self.view_is

pub returns-then-not-has_numbers-clause-promises : goal.returns-then-not-has_numbers-clause-promises
returns-then-not-has_numbers-clause-promises c =
    let port = c.args.self.now in
    let pair = c.args.pair.now in
    record {
      rest = rest_kept pair pair pair port.side (unused_of port - unused_of port) (pages_same pair (other_side port.side)) refl (omega arith);
      pages = grows_nothing (TouchesLeft port.plan port.side (writes_left (port_frame_begun port c.args.frame))) (pages_of pair (other_side port.side));
      ready = tt;
    }

pub returns-in_err-promise_frame-clause-promises : goal.returns-in_err-promise_frame-clause-promises
returns-in_err-promise_frame-clause-promises c =
    let port = port_seen c.self.inside in
    let pair = c.args.pair.now in
    let new = c.promise_frame.new.pair in
    let idle : is_port_busy port.sending ≡ false = ap (λ (port : PortState). is_port_busy port.sending) c.self.view_is ∙ c.requires.idle in
    record {
      rest = subst (λ (seen : PortState). IsGrown seen seen pair new) c.self.view_is (rest_kept pair new new port.side (unused_of port - unused_of port) c.promise_frame.ensures.rest refl (omega arith));
      pages =
          subst (λ (seen : PortState). PagesGrow (TouchesLeft seen.plan seen.side (writes_left (port_frame_begun seen c.args.frame))) (pages_of pair (other_side seen.side)) (pages_of new (other_side seen.side))) c.self.view_is
          (frame_grows port c.args.frame _ _ c.begun-from.result idle c.begun-from.ensures.value c.promise_frame.ensures.pages);
      ready = first_of (search rules, grind (arith, common_steps));
    }

pub returns-in_err-promise-clause-promises : goal.returns-in_err-promise-clause-promises
returns-in_err-promise-clause-promises c =
    let port = port_seen c.self.inside in
    let pair = c.args.pair.now in
    let new = c.promise.new.self in
    let idle : is_port_busy port.sending ≡ false = ap (λ (port : PortState). is_port_busy port.sending) c.self.view_is ∙ c.requires.idle in
    let same : pages_of c.promise_frame.new.pair (other_side port.side) ≡ pages_of new (other_side port.side) = sym (ap (λ (bridge : Bridge). pages_of bridge (other_side port.side)) c.in_err-promise.ensures.err) in
    record {
      rest = subst (λ (seen : PortState). IsGrown seen seen pair new) c.self.view_is (rest_kept pair c.promise_frame.new.pair new port.side (unused_of port - unused_of port) c.promise_frame.ensures.rest c.in_err-promise.ensures.err (omega arith));
      pages =
          subst (λ (seen : PortState). PagesGrow (TouchesLeft seen.plan seen.side (writes_left (port_frame_begun seen c.args.frame))) (pages_of pair (other_side seen.side)) (pages_of new (other_side seen.side))) c.self.view_is
          (subst (λ pages. PagesGrow (TouchesLeft port.plan port.side (writes_left (port_frame_begun port c.args.frame))) (pages_of pair (other_side port.side)) pages) same
          (frame_grows port c.args.frame _ _ c.begun-from.result idle c.begun-from.ensures.value c.promise_frame.ensures.pages));
      ready = first_of (search rules, grind (arith, common_steps));
    }

pub returns-clause-promises : goal.returns-clause-promises
returns-clause-promises c =
    let port = port_seen c.self.inside in
    let pair = c.args.pair.now in
    let new = c.promise.new.self in
    let here = (goal.at.returns-clause-promises c).After-begin in
    record {
      rest =
          begins_rest port (port_frame_begun port c.args.frame).sending (pieces_seen port c.args.frame) pair c.promise_frame.new.pair new c.count_writes-count.result (begins here)
          ∙ ap (λ (sending : Sending). with_room (with_pages pair (other_side port.side) (pages_of new (other_side port.side))) port.side (unused_of (with_sending port sending) - unused_of port)) (sym (sent here))
          ∙ ap (λ (seen : PortState). with_room (with_pages pair (other_side seen.side) (pages_of new (other_side seen.side))) seen.side (unused_of (with_sending port c.begin.new.self.sending) - unused_of seen)) c.self.view_is;
      pages =
          subst (λ (seen : PortState). PagesGrow (TouchesLeft seen.plan seen.side (writes_left (port_frame_begun seen c.args.frame))) (pages_of pair (other_side seen.side)) (pages_of new (other_side seen.side))) c.self.view_is
          (begins_pages port (port_frame_begun port c.args.frame).sending (pieces_seen port c.args.frame) pair c.promise_frame.new.pair new c.count_writes-count.result (begins here));
      ready = λ ready.
          subst (λ (sending : Sending). HasPagesIn (with_sending port sending) new) (sym (sent here))
          (begins_ready port (port_frame_begun port c.args.frame).sending (pieces_seen port c.args.frame) pair c.promise_frame.new.pair new c.count_writes-count.result (begins here) (subst (λ (port : PortState). HasPagesIn port pair) (sym c.self.view_is) ready));
    }
