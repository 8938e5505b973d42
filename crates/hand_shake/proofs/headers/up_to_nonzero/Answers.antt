use Rattle.std.proofs.Common.{arith}
use Rattle.bridge_pair.specs.Bridge.{bridge_bytes_of}
use Rattle.hand_shake.proofs.SomeHeaders.{last_within, zeroed_both}
use Rattle.hand_shake.proofs.headers.up_to_nonzero.Goals as goal

pub loop-to-init : goal.loop-to-init
loop-to-init c =
    record {
      together = omega arith;
      few = omega arith;
      fewer = omega arith;
      zero = λ n least below. absurd (omega (arith, least, below));
      within = λ less. absurd (omega (arith, less));
    }

pub loop-to-preserved-then-are_zero : goal.loop-to-preserved-then-are_zero
loop-to-preserved-then-are_zero c =
    let pair = c.args.pair.now in
    let bytes = bridge_bytes_of pair c.args.side in
    record {
      together = omega arith;
      few = c.loop-to.invariant.few;
      fewer = omega arith;
      zero = zeroed_both pair.plan c.args.side c.args.ring.now.queue _ c.loop-to.to c.args.count bytes (c.are_zero.ensures.zero c.if-are_zero.true) c.loop-to.invariant.zero;
      within = λ _. last_within pair.plan c.args.side c.args.ring.now.queue c.loop-to.to c.args.count bytes c.loop-to.invariant.fewer c.loop-to.invariant.within c.are_zero.ensures.within;
    }

pub loop-to-preserved-then-together-few : goal.loop-to-preserved-then-together-few
loop-to-preserved-then-together-few c =
    record {
      together = omega arith;
      few = c.loop-to.invariant.few;
      fewer = c.loop-to.invariant.fewer;
      zero = c.loop-to.invariant.zero;
      within = c.loop-to.invariant.within;
    }

pub loop-to-preserved : goal.loop-to-preserved
loop-to-preserved c =
    let pair = c.args.pair.now in
    let bytes = bridge_bytes_of pair c.args.side in
    let from = c.saturating_sub-from.result in
    record {
      together = c.loop-to.invariant.together;
      few = c.loop-to.invariant.few;
      fewer = omega arith;
      zero =
          zeroed_both pair.plan c.args.side c.args.ring.now.queue from c.loop-to.to c.args.count bytes
          (λ n least below. c.up_to_nonzero_from-last.ensures.zero n (omega (arith, least)) below) c.loop-to.invariant.zero;
      within = λ _. last_within pair.plan c.args.side c.args.ring.now.queue c.loop-to.to c.args.count bytes c.loop-to.invariant.fewer c.loop-to.invariant.within c.are_zero.ensures.within;
    }

pub returns-then-last-from-clause-zero : goal.returns-then-last-from-clause-zero
returns-then-last-from-clause-zero c =
    let pair = c.args.pair.now in
    zeroed_both pair.plan c.args.side c.args.ring.now.queue _ c.loop-to.to c.args.count (bridge_bytes_of pair c.args.side) c.up_to_nonzero_from-last.ensures.zero c.loop-to.invariant.zero

pub returns-then-last-from-clause-nonzero : goal.returns-then-last-from-clause-nonzero
returns-then-last-from-clause-nonzero c = λ _. c.up_to_nonzero_from-last.ensures.nonzero c.if-last-from.true

pub returns-then-last-from-clause-within : goal.returns-then-last-from-clause-within
returns-then-last-from-clause-within c =
    let pair = c.args.pair.now in
    λ _. last_within pair.plan c.args.side c.args.ring.now.queue c.loop-to.to c.args.count (bridge_bytes_of pair c.args.side) c.loop-to.invariant.fewer c.loop-to.invariant.within c.are_zero.ensures.within

pub returns-clause-zero : goal.returns-clause-zero
returns-clause-zero c = λ n _ below. c.loop-to.invariant.zero n (omega arith) below

pub returns-clause-within : goal.returns-clause-within
returns-clause-within c = λ some. c.loop-to.invariant.within (omega (arith, some))
