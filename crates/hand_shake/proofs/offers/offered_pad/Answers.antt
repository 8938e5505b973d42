use Rattle.std.proofs.Common.{◌+◌, ap, sym, ◌∙◌, arith}
use Rattle.step_kinds.specs.declared.steps.Label.TheVariants.{Pad}
use Rattle.hand_shake.proofs.OfferPlaces.{behind_offered, size_offered}
use Rattle.hand_shake.proofs.offers.offered_pad.Goals as goal

pub returns-then-place-sizes-clause-pad : goal.returns-then-place-sizes-clause-pad
returns-then-place-sizes-clause-pad c = ap (Pad (4 + c.args.place)) c.half.ensures ∙ sym (size_offered c.args.own.now c.args.place c.if-place-sizes.true)

pub returns-in-0-clause-pad : goal.returns-in-0-clause-pad
returns-in-0-clause-pad c = sym (behind_offered c.args.own.now c.args.place 0 (omega (arith, c.in-0.is, c.if-place-sizes.false)))

pub returns-in-1-clause-pad : goal.returns-in-1-clause-pad
returns-in-1-clause-pad c = sym (behind_offered c.args.own.now c.args.place 1 (omega (arith, c.in-1.is, c.if-place-sizes.false)))

pub returns-in_default-clause-pad : goal.returns-in_default-clause-pad
returns-in_default-clause-pad c = sym (behind_offered c.args.own.now c.args.place 2 (omega (arith, c.in_default, c.if-place-sizes.false, c.requires.within)))
