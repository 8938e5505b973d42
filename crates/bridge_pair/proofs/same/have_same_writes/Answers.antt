use Rattle.std.proofs.Common.{◌≡◌, length, arith}
use Rattle.bridge_pair.proofs.SameWrites.{run_is_whole}
use Rattle.bridge_pair.proofs.same.have_same_writes.Goals as goal

pub returns-then-len : goal.returns-then-len
returns-then-len c =
    let one = c.args.one.now.writes in
    let other = c.args.other.now.writes in
    let count : length one ≡ length other = omega (arith, c.len.ensures, c.len-2.ensures, c.if-len.true) in (
      λ yes. run_is_whole one other count (λ k less. c.have_same_run.ensures.0 yes k (omega (arith, less, c.len-then-len.ensures))),
      λ same. c.have_same_run.ensures.1 (λ k less. cc same),
    )
