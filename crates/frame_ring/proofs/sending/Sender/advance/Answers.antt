use Rattle.std.proofs.Common.{◌∙◌, ◌+◌, ◌<◌, ◌≤◌, ap, sym, arith, length}
use Rattle.frame_ring.specs.Calls.{port_next_begun}
use Rattle.frame_ring.specs.Outgoing.{Outgoing, entries_under, entry_at, sender_seen, with_progress, port_writes_in}
use Rattle.frame_ring.proofs.Progress.{next_moves, next_stays}
use Rattle.frame_ring.proofs.sending.Sender.advance.Goals as goal
use Rattle.frame_ring.proofs.sending.Sender.advance.Goals.{else-self-all-via-then-self-all+else-self, else-self-all-via-else-self-all}

pub returns-then-self : goal.returns-then-self
returns-then-self c =
    let kept = c.self.inside in
    let entries = entries_under kept.largest kept.frame in
    let all : port_writes_in (entry_at entries kept.piece) ≤ kept.next = omega (arith, c.writes_of-all.ensures.value, c.if-self-all.true) in
    let more : kept.piece + 1 < length entries = omega (arith, c.self.invariant.pieces, c.if-self.true) in
    ap (with_progress (sender_seen kept)) (next_moves entries kept.queue kept.piece kept.next kept.begun kept.told more all)
    ∙ ap (λ (outgoing : Outgoing). with_progress outgoing (port_next_begun outgoing.queue outgoing.sending)) c.self.view_is

pub returns-else-self-all : goal.returns-else-self-all
returns-else-self-all c =
    let kept = c.self.inside in
    let entries = entries_under kept.largest kept.frame in
    let last : port_writes_in (entry_at entries kept.piece) ≤ kept.next → length entries ≤ kept.piece + 1 =
    λ all. elim c.else-self-all.branch [
      | else-self-all-via-then-self-all+else-self w ↦ omega (arith, c.self.invariant.pieces, w.if-self.false)
      | else-self-all-via-else-self-all w ↦ absurd (w.if-self-all.false (omega (arith, c.self.invariant.next, c.writes_of-all.ensures.value, all)))
    ] in
    sym c.self.view_is
    ∙ ap (with_progress (sender_seen kept)) (next_stays entries kept.queue kept.piece kept.next kept.begun kept.told last)
    ∙ ap (λ (outgoing : Outgoing). with_progress outgoing (port_next_begun outgoing.queue outgoing.sending)) c.self.view_is
