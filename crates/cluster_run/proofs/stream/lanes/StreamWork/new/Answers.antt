use Rattle.std.proofs.Common.{[], sym, ◌∙◌, ap, arith}
use Rattle.stream_model.specs.Receiver.{Receiver}
use Rattle.stream_model.specs.Sender.{Sender}
use Rattle.cluster_run.specs.stream.Workers.{StreamSessionState}
use Rattle.cluster_run.proofs.Streams.StreamEnds.{new_goes}
use Rattle.cluster_run.proofs.stream.lanes.StreamWork.new.Goals as goal

pub invariant_of-result : goal.invariant_of-result
invariant_of-result c =
    let parts = c.into_parts-number.ensures in
    let session = c.in_ok-new.ensures in
    let number = parts.number in
    let lanes = c.requires in
    let breaks = parts.breaks in
    record {
      sessions = [];
      numbers = (parts.number, omega arith);
      numbered = ap (λ (s : StreamSessionState). s.first) session;
      ring = (ap (λ (s : StreamSessionState). s.key.entries) (sym session), parts.ring.0, parts.ring.1);
      losses = omega arith;
      few = omega arith;
      shown = c.new-2.ensures.items;
      goes = new_goes c.in_ok-new.field-0.key c.in_ok-new.field-0.ever
          (ap (λ (s : StreamSessionState). s.key.start) session ∙ ap (λ (s : Sender). s.start) c.new-sender.ensures)
          (ap (λ (s : StreamSessionState). s.key.before) session ∙ ap (λ (r : Receiver). r.items) c.new-receiver.ensures);
    }
