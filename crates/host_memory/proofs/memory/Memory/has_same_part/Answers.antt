use Rattle.std.proofs.Common.{arith}
use Rattle.host_memory.proofs.SameBetween.{told_part}
use Rattle.host_memory.proofs.memory.Memory.has_same_part.Goals as goal

pub returns : goal.returns
returns c =
    told_part c.args.page c.args.from c.args.to c.max-first.result c.min-end.result c.args.self.now.bytes c.args.other.now.bytes c.has_same_on_page.result
    (omega (arith, c.if-end-first.false)) (omega (arith, c.min-end.ensures, c.requires.here)) (omega (arith, c.min-end.ensures, c.requires.there))
    (λ address begun ends on. (
      omega (arith, begun, on, c.max-first.ensures, c.saturating_mul-start.ensures, c.ranges.page.fits),
      omega (arith, ends, on, c.min-end.ensures, c.saturating_add.ensures, c.saturating_mul-start.ensures, c.ranges.to.fits),
    ))
    (λ address begun ends. (
      omega (arith, begun, c.max-first.ensures),
      omega (arith, ends, c.min-end.ensures),
      omega (arith, begun, ends, c.max-first.ensures, c.min-end.ensures, c.saturating_add.ensures, c.saturating_mul-start.ensures, c.requires.here, c.ranges.to.fits),
    ))
    c.has_same_on_page.ensures
