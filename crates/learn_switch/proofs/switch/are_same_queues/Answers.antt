use Rattle.std.proofs.Common.{[], refl, arith}
use Rattle.std.proofs.lemmas.List.{ext_get_or}
use Rattle.learn_switch.proofs.switch.are_same_queues.Goals as goal

pub returns : goal.returns
returns c = (
  λ yes. ext_get_or [] c.args.queues.now c.args.others.now c.if-queues-others.false (λ k less. c.loop-place.invariant k (omega (arith, less, c.loop-place-test.false))),
  λ same. refl,
)
