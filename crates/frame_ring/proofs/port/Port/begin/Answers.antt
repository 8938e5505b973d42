use Rattle.std.proofs.Common.{rules, arith}
use Rattle.std.proofs.lemmas.Grind.{common_steps}
use Rattle.frame_ring.proofs.PromisesOfLook.{on_err}
use Rattle.frame_ring.proofs.NextNumber.{begin_told}
use Rattle.frame_ring.proofs.port.Port.begin.Goals as goal

pub returns-in_err-number-in-Ok : goal.returns-in_err-number-in-Ok
returns-in_err-number-in-Ok c = record {
  answer = first_of (search rules, grind (arith, common_steps));
  after = first_of (search rules, grind (arith, common_steps));
  err = first_of (search rules, grind (arith, common_steps));
  wants = on_err _ (begin_told c.args.self.now c.args.pair.now c.args.frame c.len.result c.in-Ok.number c.len.ensures.value c.in-Ok.ensures);
  promises = record { rest = c.begin_unrefused.ensures.rest; pages = c.begin_unrefused.ensures.pages; ready = first_of (search rules, grind (arith, common_steps)) };
}
