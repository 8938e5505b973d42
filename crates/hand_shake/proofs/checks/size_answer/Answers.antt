use Rattle.std.proofs.Common.{nat_lt, ◌≤◌, ◌∙◌, arith}
use Rattle.std.proofs.lemmas.Bool.Decides.{nat_tests}
use Rattle.pair_model.specs.Pads.{size_in}
use Rattle.bridge_pair.specs.Bridge.{pads_of}
use Rattle.hand_shake.proofs.SizeSearch.{next_size}
use Rattle.hand_shake.proofs.checks.size_answer.Goals as goal

pub loop-m-preserved : goal.loop-m-preserved
loop-m-preserved c =
    c.loop-m.invariant
    ∙ next_size (λ m. nat_lt c.args.own.now.cap (size_in (pads_of c.args.pair.now c.args.side) m)) c.loop-m.m c.args.own.now.windows c.loop-m-test.true
    (let fits : size_in (pads_of c.args.pair.now c.args.side) c.loop-m.m ≤ c.args.own.now.cap = omega (arith, c.if-own-seen.false, c.offered_size-seen.ensures) in grind (arith, nat_tests))
