use Rattle.std.proofs.Common.{◌≡◌, ◌∙◌, ◌-◌, ◌<◌, ap, arith, length}
use Rattle.lane_model.specs.Lane.{bytes_of, chunks_in}
use Rattle.frame_ring.specs.Calls.{first_label}
use Rattle.frame_ring.specs.Outgoing.{Outgoing, entries_under, entry_at, label_by}
use Rattle.frame_ring.proofs.Entries.{carries_is}
use Rattle.frame_ring.proofs.NextLabel.{next_label}
use Rattle.frame_ring.proofs.sending.Sender.label.Goals as goal

pub returns-clause-value : goal.returns-clause-value
returns-clause-value c =
    let kept = c.self.inside in
    let entries = entries_under kept.largest kept.frame in
    let entry = entry_at entries kept.piece in
    let among : kept.piece < length entries = omega (arith, c.self.invariant.pieces, c.self.invariant.piece) in
    let chunks : c.writes_of-chunks.result - 4 ≡ chunks_in (length (bytes_of entry)) = omega (arith, c.writes_of-chunks.ensures.value) in
    c.label_at.ensures
    ∙ ap (λ n. label_by kept.queue n (c.writes_of-chunks.result - 4) c.is_some.result kept.next) c.saturating_sub-number.ensures
    ∙ ap (λ chunks. label_by kept.queue (kept.begun - 1) chunks c.is_some.result kept.next) chunks
    ∙ ap (λ carries. label_by kept.queue (kept.begun - 1) (chunks_in (length (bytes_of entry))) carries kept.next) (c.is_some.ensures ∙ carries_is kept.largest kept.frame kept.piece among)
    ∙ next_label kept.queue (kept.begun - 1) kept.next entry
    ∙ ap (λ (outgoing : Outgoing). first_label outgoing.sending.todo) c.self.view_is
