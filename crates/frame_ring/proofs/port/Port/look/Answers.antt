use Rattle.std.proofs.Common.{◌≡◌, ◌∙◌, ℕ, ◌+◌, ◌-◌, ◌≤◌, true, false, Ok, length, refl, ap, sym, subst, arith, rules}
use Rattle.std.proofs.lemmas.Grind.{common_steps}
use Rattle.pair_model.specs.Headers.{Header, found_with, header_in}
use Rattle.lane_model.specs.Tests.{is_idle}
use Rattle.lane_model.specs.declared.Phase.TheVariants.{Copying}
use Rattle.pair_model.specs.Sizes.{layout_to, sizes_in}
use Rattle.ring_geometry.specs.Geometry.{max_payload_of}
use Rattle.step_kinds.specs.Limits.{most_frame_bytes}
use Rattle.step_kinds.specs.Sides.{other_side}
use Rattle.bridge_pair.specs.Bridge.{Bridge, pages_of}
use Rattle.bridge_pair.proofs.Facade.{grows_nothing}
use Rattle.frame_ring.specs.Calls.{PortFindsEntry, TouchedByFlags, TouchedByLook, port_after_look, found_seen, port_look_answer, look_found}
use Rattle.frame_ring.specs.Port.{PortState, unused_of, with_receiving}
use Rattle.frame_ring.specs.PortCalls.{HasPromisedBoth}
use Rattle.frame_ring.specs.Ports.{port_seen}
use Rattle.frame_ring.specs.Rings.{port_header_of}
use Rattle.frame_ring.specs.PortView.{bytes_seen}
use Rattle.frame_ring.specs.declared.RingLook.{RingLook}
use Rattle.frame_ring.specs.declared.RingLook.TheVariants.{Ready}
use Rattle.frame_ring.proofs.PromisesOfLook.{finds, flags_touch, look_touches, on_err}
use Rattle.frame_ring.proofs.LookAnswers.{entry_short, look_is, not_idle, nothing_more, out_of_turn, stands_at, stays_at}
use Rattle.frame_ring.proofs.port.Port.look.Goals as goal
use Rattle.frame_ring.proofs.port.Port.look.Goals.{After-sight}

pub stand_at-requires-clause-fits : goal.stand_at-requires-clause-fits
stand_at-requires-clause-fits c =
    let few = c.sight.ensures.few c.in-Ready.number c.in-Ready.len c.in-Ready.is in
    subst (λ (port : PortState). length port.receiving.gathered + c.in-Ready.len ≤ most_frame_bytes) c.self.view_is few

-- the receiver is idle, and the words that were read are those of the header
idle : (c : After-sight) → is_idle (port_seen c.self.inside).receiving.phase ≡ true
idle c = ap is_idle (sym c.phase.ensures ∙ c.in-Idle.is)

header : (c : After-sight)
    → port_header_of c.header-header.result
    ≡ header_in (port_seen c.self.inside).plan (bytes_seen c.args.pair.now) (port_seen c.self.inside).side (port_seen c.self.inside).queue (port_seen c.self.inside).receiving.got
header c =
    let port = port_seen c.self.inside in
    c.header-header.ensures ∙ ap (header_in port.plan (bytes_seen c.args.pair.now) port.side port.queue) c.got.ensures.value

-- so the answer is what that header says
told : (c : After-sight) → c.sight.result ≡ look_found (port_seen c.self.inside).receiving (found_seen (port_seen c.self.inside) c.args.pair.now)
told c =
    let port = port_seen c.self.inside in
    let by_header = ap (found_with (sizes_in port.plan (layout_to port.plan port.side port.queue)) port.receiving.got (length port.receiving.gathered)) (header c) in
    c.sight.ensures.value ∙ ap (look_found port.receiving) by_header

ready : (c : After-sight) (number len : ℕ) → c.sight.result ≡ Ready number len → Ready number len ≡ look_found (port_seen c.self.inside).receiving (found_seen (port_seen c.self.inside) c.args.pair.now)
ready c number len is = sym is ∙ told c

pub stand_at-requires-clause-short : goal.stand_at-requires-clause-short
stand_at-requires-clause-short c =
    let short = entry_short (port_seen c.self.inside) c.args.pair.now c.in-Ready.number c.in-Ready.len (ready (goal.at.stand_at-requires-clause-short c).After-sight c.in-Ready.number c.in-Ready.len c.in-Ready.is) in
    subst (λ (port : PortState). c.in-Ready.len ≤ max_payload_of (layout_to port.plan port.side port.queue)) c.self.view_is short

-- what the header says is an entry
found : (c : After-sight) (number len : ℕ) → c.sight.result ≡ Ready number len → PortFindsEntry c.args.self.now c.args.pair.now
found c number len is =
    let port = port_seen c.self.inside in
    let at : PortFindsEntry port c.args.pair.now = finds port c.args.pair.now (found_seen port c.args.pair.now) number len (idle c) refl (ready c number len is) in
    subst (λ (port : PortState). PortFindsEntry port c.args.pair.now) c.self.view_is at

-- a look that finds nothing promises nothing
no_promises : {E : Type 0} {look : RingLook} (port : PortState) (bridge : Bridge) → HasPromisedBoth {E = E} (TouchedByLook port bridge) (TouchedByFlags port bridge) port port bridge bridge (Ok look)
no_promises port bridge = record {
  rest = nothing_more bridge port.side (unused_of port - unused_of port) (omega arith);
  pages = grows_nothing (TouchedByLook port bridge) (pages_of bridge (other_side port.side));
  flags = grows_nothing (TouchedByFlags port bridge) (pages_of bridge port.side);
  ready = λ ready. ready;
}

pub returns-in_default : goal.returns-in_default
returns-in_default c =
    let port = c.args.self.now in
    let bridge = c.args.pair.now in
    let busy = not_idle (port_seen c.self.inside).receiving.phase (λ is. c.in_default.not-Idle (c.phase.ensures ∙ is)) in
    let turn = out_of_turn port bridge (subst (λ (port : PortState). is_idle port.receiving.phase ≡ false) c.self.view_is busy) in
    record {
      answer = turn.0;
      after = turn.1;
      err = tt;
      wants = tt;
      promises = no_promises port bridge;
    }

pub returns-in_default-sight : goal.returns-in_default-sight
returns-in_default-sight c =
    let port = c.args.self.now in
    let bridge = c.args.pair.now in
    let here = (goal.at.returns-in_default-sight c).After-sight in
    record {
      answer = subst (λ (port : PortState). c.sight.result ≡ port_look_answer port bridge) c.self.view_is (look_is (port_seen c.self.inside) bridge c.sight.result (idle here) (told here));
      after = subst (λ (port : PortState). port ≡ port_after_look port bridge) c.self.view_is (stays_at (port_seen c.self.inside) bridge c.sight.result (idle here) (told here) c.in_default-sight.not-Ready);
      err = tt;
      wants = tt;
      promises = no_promises port bridge;
    }

pub returns-in_ok-stand_at-in-Ready : goal.returns-in_ok-stand_at-in-Ready
returns-in_ok-stand_at-in-Ready c =
    let here = (goal.at.returns-in_ok-stand_at-in-Ready c).After-sight in
    let says = ready here c.in-Ready.number c.in-Ready.len c.in-Ready.is in
    let left = ap (λ (header : Header). header.left) (header here) in
    let at = found here c.in-Ready.number c.in-Ready.len c.in-Ready.is in
    record {
      answer =
          subst (λ (port : PortState). Ready c.in-Ready.number c.in-Ready.len ≡ port_look_answer port c.args.pair.now) c.self.view_is
          (look_is (port_seen c.self.inside) c.args.pair.now (Ready c.in-Ready.number c.in-Ready.len) (idle here) says);
      after =
          c.in_ok-stand_at-in-Ready.ensures.after
          ∙ subst (λ (port : PortState). with_receiving port (record port.receiving { phase = Copying; part = 0; len = c.in-Ready.len; left = c.header-header.result.left }) ≡ port_after_look port c.args.pair.now) c.self.view_is
          (stands_at (port_seen c.self.inside) c.args.pair.now c.in-Ready.number c.in-Ready.len c.header-header.result.left (idle here) says left);
      err = tt;
      wants = tt;
      promises = record {
        rest = c.stand_at.ensures.promises.rest;
        pages = look_touches c.args.self.now c.args.pair.now _ _ at c.stand_at.ensures.promises.pages;
        flags = flags_touch c.args.self.now c.args.pair.now _ _ at c.stand_at.ensures.promises.flags;
        ready = c.in_ok-stand_at-in-Ready.ensures.promises.ready;
      };
    }

pub returns-in_err-stand_at-in-Ready : goal.returns-in_err-stand_at-in-Ready
returns-in_err-stand_at-in-Ready c =
    let at = found (goal.at.returns-in_err-stand_at-in-Ready c).After-sight c.in-Ready.number c.in-Ready.len c.in-Ready.is in
    record {
      answer = first_of (search rules, grind (arith, common_steps));
      after = first_of (search rules, grind (arith, common_steps));
      err = on_err _ c.in_err-stand_at-in-Ready.ensures.err;
      wants = on_err _ at;
      promises = record {
        rest = c.stand_at.ensures.promises.rest;
        pages = look_touches c.args.self.now c.args.pair.now _ _ at c.stand_at.ensures.promises.pages;
        flags = flags_touch c.args.self.now c.args.pair.now _ _ at c.stand_at.ensures.promises.flags;
        ready = first_of (search rules, grind (arith, common_steps));
      };
    }
