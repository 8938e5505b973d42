use Rattle.std.proofs.Common.{rules, arith}
use Rattle.std.proofs.lemmas.Grind.{common_steps}
use Rattle.frame_ring.proofs.PromisesOfLook.{on_err}
use Rattle.frame_ring.proofs.NextNumber.{down_told, down_touches}
use Rattle.frame_ring.proofs.port.Port.down.Goals as goal

pub returns-in_err-begin_down-in-Ok : goal.returns-in_err-begin_down-in-Ok
returns-in_err-begin_down-in-Ok c = record {
  answer = first_of (search rules, grind (arith, common_steps));
  after = first_of (search rules, grind (arith, common_steps));
  err = on_err _ c.in_err-begin_down-in-Ok.ensures.err;
  wants = on_err _ (down_told c.args.self.now c.args.pair.now c.in-Ok.number c.in-Ok.ensures);
  promises = record {
    rest = c.begin_down.ensures.promises.rest;
    pages = down_touches c.args.self.now c.args.pair.now c.in-Ok.number _ _ c.in-Ok.ensures c.begin_down.ensures.promises.pages;
    ready = first_of (search rules, grind (arith, common_steps));
  };
}

pub returns-in_ok-begin_down-in-Ok : goal.returns-in_ok-begin_down-in-Ok
returns-in_ok-begin_down-in-Ok c = record {
  answer = first_of (search rules, grind (arith, common_steps));
  after = first_of (search rules, grind (arith, common_steps));
  err = tt;
  wants = tt;
  promises = record {
    rest = c.begin_down.ensures.promises.rest;
    pages = down_touches c.args.self.now c.args.pair.now c.in-Ok.number _ _ c.in-Ok.ensures c.begin_down.ensures.promises.pages;
    ready = c.in_ok-begin_down-in-Ok.ensures.promises.ready;
  };
}
