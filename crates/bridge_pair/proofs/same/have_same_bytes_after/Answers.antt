use Rattle.std.proofs.Common.{arith}
use Rattle.bridge_pair.proofs.SameBytes.{same_after, same_beyond}
use Rattle.bridge_pair.proofs.same.have_same_bytes_after.Goals as goal

pub returns-then-has_same_between : goal.returns-then-has_same_between
returns-then-has_same_between c =
    let one = c.args.one.now.bytes in
    let other = c.args.other.now.bytes in (
      λ yes. same_after c.args.at c.args.bytes.now one other c.requires.within (omega (arith, c.len.ensures.value, c.len-2.ensures.value, c.if-len.false))
          (c.has_bytes.ensures.0 (cc c.if-not-has_bytes.false)) (c.has_same_between.ensures.0 c.if-has_same_between.true)
          (λ address above to. c.has_same_between-then-has_same_between.ensures.0 yes address above (omega (arith, to, c.len-then-has_same_between.ensures.value))),
      λ same. c.has_same_between-then-has_same_between.ensures.1
          (λ address above to. same_beyond c.args.at c.args.bytes.now one other c.requires.within same address above (omega (arith, to, c.len-then-has_same_between.ensures.value))),
    )
