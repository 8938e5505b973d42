use borrow.Rule.Slice.PartMut.{mid_of}
use Rattle.std.proofs.Common.{◌+◌, ◌-◌, refl, ap, ℕ, List, Contains, length, arith, sym, subst, ◌∙◌}
use Rattle.host_memory.specs.Memory.{page_of, written}
use Rattle.host_memory.proofs.Pieces.{byte_promised, middle_size, write_more}
use Rattle.host_memory.proofs.Writes.{length-written}
use Rattle.host_memory.proofs.memory.Memory.write_over_pages.Goals as goal

pub write_on_page-requires-clause-promised : goal.write_on_page-requires-clause-promised
write_on_page-requires-clause-promised c =
    let P : List ℕ → Type 0 = λ promised. Contains promised (page_of (c.args.at + c.loop-done.done)) in
    subst P (sym c.loop-done.invariant.promised) (byte_promised c.args.at (length c.args.bytes.now) c.loop-done.done _ c.requires.promised c.loop-done-test.true)

pub loop-done-preserved : goal.loop-done-preserved
loop-done-preserved c =
    let done = c.loop-done.done in
    let end = c.loop-done.done + c.min-count.result in
    record {
      within = omega arith;
      so_far = c.write_on_page.ensures.bytes ∙ ap (λ (mem : List ℕ). written (c.args.at + done) (mid_of done (end - done) c.args.bytes.now) mem) c.loop-done.invariant.so_far
          ∙ write_more c.args.self.now.bytes c.args.bytes.now (mid_of done (end - done) c.args.bytes.now) c.args.at done end refl (omega arith) (omega arith) c.requires.within;
      size = ap length c.write_on_page.ensures.bytes ∙ length-written (c.args.at + done) (mid_of done (end - done) c.args.bytes.now) c.loop-done.self.bytes (omega (arith, c.loop-done.invariant.size, c.requires.within, middle_size c.args.bytes.now done end (omega arith) (omega arith))) ∙ c.loop-done.invariant.size;
      promised = c.write_on_page.ensures.promised ∙ c.loop-done.invariant.promised;
    }
