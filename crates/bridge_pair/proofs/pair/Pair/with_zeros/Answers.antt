use Rattle.std.proofs.Common.{length, ap, ◌∙◌}
use Rattle.std.proofs.lemmas.List.{length-replicate}
use Rattle.step_kinds.specs.declared.names.Side.TheVariants.{A, B}
use Rattle.plan_numbers.specs.Memories.{memory_size}
use Rattle.bridge_pair.specs.Ends.{End}
use Rattle.bridge_pair.proofs.FreshPairs.{fresh_is_book}
use Rattle.bridge_pair.proofs.pair.Pair.with_zeros.Goals as goal

pub invariant_of-result : goal.invariant_of-result
invariant_of-result c =
    let plan = c.in-Ok.ensures.ok ∙ c.copy_of.ensures in
    rw (plan, c.fresh_book.ensures, c.fresh_book-2.ensures)
    (record {
      plan = c.requires;
      book_a = fresh_is_book c.args.plan.now A;
      book_b = fresh_is_book c.args.plan.now B;
      memory_a = ap (λ (end : End). length end.memory.bytes) c.in_ok-a.ensures ∙ length-replicate (memory_size c.args.plan.now A) 0;
      memory_b = ap (λ (end : End). length end.memory.bytes) c.in_ok-b.ensures ∙ length-replicate (memory_size c.args.plan.now B) 0;
    })
