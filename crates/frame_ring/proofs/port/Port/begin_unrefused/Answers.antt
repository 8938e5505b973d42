use Rattle.std.proofs.Common.{length, refl, sym, rules, arith}
use Rattle.std.proofs.lemmas.Grind.{common_steps}
use Rattle.frame_ring.proofs.NextNumber.{begin_touches}
use Rattle.frame_ring.proofs.PromisesOfLook.{on_err}
use Rattle.frame_ring.proofs.port.Port.begin_unrefused.Goals as goal

pub returns-in_err-begin_frame : goal.returns-in_err-begin_frame
returns-in_err-begin_frame c = record {
  number = first_of (search rules, grind (arith, common_steps));
  after = first_of (search rules, grind (arith, common_steps));
  err = on_err _ c.in_err-begin_frame.ensures.err;
  promises = record {
    rest = c.begin_frame.ensures.promises.rest;
    pages = begin_touches c.args.self.now c.args.pair.now c.args.frame (length c.args.frame) c.requires.begins.0 _ _ refl (sym c.requires.begins.1) c.begin_frame.ensures.promises.pages;
    ready = first_of (search rules, grind (arith, common_steps));
  };
}

pub returns : goal.returns
returns c = record {
  number = first_of (search rules, grind (arith, common_steps));
  after = first_of (search rules, grind (arith, common_steps));
  err = tt;
  promises = record {
    rest = c.begin_frame.ensures.promises.rest;
    pages = begin_touches c.args.self.now c.args.pair.now c.args.frame (length c.args.frame) c.requires.begins.0 _ _ refl (sym c.requires.begins.1) c.begin_frame.ensures.promises.pages;
    ready = c.in_ok-begin_frame.ensures.promises.ready;
  };
}
