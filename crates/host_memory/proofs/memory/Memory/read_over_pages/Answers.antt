use Rattle.std.proofs.Common.{◌+◌, ◌≤◌, ℕ, length, ap, ◌∙◌, arith}
use Rattle.host_memory.specs.Memory.{bytes_at}
use Rattle.host_memory.proofs.Pieces.{middle_size, read_more}
use Rattle.host_memory.proofs.memory.Memory.read_over_pages.Goals as goal

pub loop-done-preserved : goal.loop-done-preserved
loop-done-preserved c =
    let done = c.loop-done.done in
    let end = c.loop-done.done + c.min-count.result in
    let mem = c.args.self.now.bytes in
    let fits : end ≤ length c.loop-done.out = omega arith in
    let read = c.read_on_page.ensures ∙ ap (λ (n : ℕ). bytes_at (c.args.at + done) n mem) (middle_size c.loop-done.out done end (omega arith) fits) in
    record {
      within = omega arith;
      so_far = read_more mem c.loop-done.out c.read_on_page.new.out c.args.at done end c.loop-done.invariant.so_far read (omega arith) fits (omega arith);
    }
