use Rattle.std.proofs.Common.{◌≡◌, ◌∙◌, ◌+◌, ap, slice_get, subst, arith}
use Rattle.bridge_pair.proofs.SameWrites.{after_removed, same_without}
use Rattle.bridge_pair.proofs.same.have_same_writes_without.Goals as goal

pub returns : goal.returns
returns c =
    let one = c.args.one.now.writes in
    let other = c.args.other.now.writes in
    let place = c.args.place in (
      λ yes. same_without one other place c.requires (omega (arith, c.requires, c.len.ensures, c.len-2.ensures, c.if-len.false))
          (λ k less. let at : 0 + k ≡ k = omega arith in subst (λ k. slice_get one k ≡ slice_get other k) at (c.have_same_run.ensures.0 (cc c.if-not-have_same_run.false) k less))
          (λ k less. c.have_same_run-2.ensures.0 yes k (omega (arith, less, c.len-3.ensures))),
      λ same. c.have_same_run-2.ensures.1 (λ k less. after_removed one place k c.requires ∙ ap (λ writes. slice_get writes (place + k)) same),
    )
