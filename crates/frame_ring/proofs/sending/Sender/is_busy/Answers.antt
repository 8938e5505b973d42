use Rattle.std.proofs.Common.{◌<◌, ap, ◌∙◌, length, arith}
use Rattle.frame_ring.specs.Outgoing.{Outgoing, entries_under}
use Rattle.frame_ring.specs.Port.{is_port_busy}
use Rattle.frame_ring.proofs.Entries.{busy_is}
use Rattle.frame_ring.proofs.sending.Sender.is_busy.Goals as goal

pub returns : goal.returns
returns c =
    let kept = c.self.inside in
    let among : kept.piece < length (entries_under kept.largest kept.frame) = omega (arith, c.self.invariant.pieces, c.self.invariant.piece) in
    busy_is (entries_under kept.largest kept.frame) kept.queue _ kept.piece kept.next kept.left among c.self.invariant.next c.self.invariant.left
    ∙ ap (λ (outgoing : Outgoing). is_port_busy outgoing.sending) c.self.view_is
