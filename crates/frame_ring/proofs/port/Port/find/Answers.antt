use Rattle.std.proofs.Common.{◌≡◌, ◌≤◌, ◌+◌, length, rules, arith, sym, subst}
use Rattle.std.proofs.lemmas.Grind.{common_steps}
use Rattle.step_kinds.specs.Limits.{most_frame_bytes}
use Rattle.frame_ring.specs.Calls.{PortFindsEntry, port_look_answer}
use Rattle.frame_ring.specs.Port.{PortState}
use Rattle.frame_ring.specs.Ports.{port_seen}
use Rattle.frame_ring.specs.declared.RingLook.TheVariants.{Ready}
use Rattle.frame_ring.proofs.PromisesOfLook.{entry_fits, flags_touch, look_touches}
use Rattle.frame_ring.proofs.port.Port.find.Goals as goal

pub stand_at-requires-clause-fits : goal.stand_at-requires-clause-fits
stand_at-requires-clause-fits c =
    let found = subst (λ (port : PortState). port_look_answer port c.args.pair.now ≡ Ready port.receiving.got c.args.len) (sym c.self.view_is) c.requires.found in
    let fits = entry_fits (port_seen c.self.inside) c.args.pair.now c.args.len found in
    subst (λ (port : PortState). length port.receiving.gathered + c.args.len ≤ most_frame_bytes) c.self.view_is (omega (arith, fits, c.received_frames_are_short.ensures))

pub returns : goal.returns
returns c =
    let at : PortFindsEntry c.args.self.now c.args.pair.now = (c.args.len, c.requires.found) in
    record {
      after = first_of (search rules, grind (arith, common_steps));
      err = c.stand_at.ensures.err;
      promises = record {
        rest = c.stand_at.ensures.promises.rest;
        pages = look_touches c.args.self.now c.args.pair.now _ _ at c.stand_at.ensures.promises.pages;
        flags = flags_touch c.args.self.now c.args.pair.now _ _ at c.stand_at.ensures.promises.flags;
        ready = c.stand_at.ensures.promises.ready;
      };
    }
