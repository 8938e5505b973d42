use Rattle.std.proofs.Common.{◌∙◌, ◌<◌, below_more, get_or, ap, subst, sym}
use Rattle.fabric_rule.specs.Parts.{PairState}
use Rattle.fabric_core.specs.Fabric.{no_state}
use Rattle.fabric_core.specs.Same.{IsSamePair, plan_at}
use Rattle.fabric_core.proofs.SameParts.{plans_there, read_at, same_count}
use Rattle.fabric_core.proofs.fabric.are_same_but.Goals as goal
use Rattle.fabric_core.proofs.fabric.are_same_but.Goals.{else-k-but-via-then-k-but+else-not-is_same, else-k-but-via-else-k-but}

pub is_same-requires : goal.is_same-requires
is_same-requires c =
    let as_many = same_count c.args.pairs.now c.args.others.now c.requires in
    let one = read_at c.args.pairs.now c.loop-k.k c.index-pairs-k.result no_state c.loop-k-test.true c.index-pairs-k.is in
    let other = read_at c.args.others.now c.loop-k.k c.index-others-k.result no_state (subst (λ n. c.loop-k.k < n) as_many c.loop-k-test.true) c.index-others-k.is in
    ap plan_at one ∙ plans_there c.args.pairs.now c.args.others.now c.requires c.loop-k.k c.loop-k-test.true ∙ sym (ap plan_at other)

pub loop-k-preserved : goal.loop-k-preserved
loop-k-preserved c =
    let as_many = same_count c.args.pairs.now c.args.others.now c.requires in
    below_more _ _ c.loop-k.invariant
    (elim c.else-k-but.branch [
      | else-k-but-via-then-k-but+else-not-is_same w ↦ λ other.
          let one = read_at c.args.pairs.now c.loop-k.k w.index-pairs-k.result no_state c.loop-k-test.true w.index-pairs-k.is in
          let against = read_at c.args.others.now c.loop-k.k w.index-others-k.result no_state (subst (λ n. c.loop-k.k < n) as_many c.loop-k-test.true) w.index-others-k.is in
          subst (λ (pair : PairState). IsSamePair pair (get_or c.args.others.now c.loop-k.k no_state)) one (subst (λ (pair : PairState). IsSamePair w.index-pairs-k.result pair) against (w.is_same.ensures.0 w.if-not-is_same.false))
      | else-k-but-via-else-k-but w ↦ λ other. absurd (other w.if-k-but.false)
    ])
