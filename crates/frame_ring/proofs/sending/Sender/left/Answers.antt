use Rattle.std.proofs.Common.{◌<◌, ap, ◌∙◌, length, arith}
use Rattle.frame_ring.specs.Outgoing.{count_left, entries_under}
use Rattle.frame_ring.proofs.Entries.{count_is}
use Rattle.frame_ring.proofs.sending.Sender.left.Goals as goal

pub returns-clause-value : goal.returns-clause-value
returns-clause-value c =
    let kept = c.self.inside in
    let among : kept.piece < length (entries_under kept.largest kept.frame) = omega (arith, c.self.invariant.pieces, c.self.invariant.piece) in
    count_is (entries_under kept.largest kept.frame) kept.queue _ _ kept.piece kept.next kept.left among c.self.invariant.next c.self.invariant.left
    ∙ ap count_left c.self.view_is
