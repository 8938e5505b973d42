use Rattle.std.proofs.Common.{Bool, ◌<◌, length, if◌then◌else◌, [], ◌∷◌, ◌++◌, refl, ◌∙◌, ap, arith}
use Rattle.std.proofs.lemmas.Bool.{true≢false}
use Rattle.std.proofs.lemmas.Bool.Decides.{nat_tests}
use Rattle.stream_model.specs.Receiver.{ack_frame}
use Rattle.table_lane.specs.Ends.{TableSender}
use Rattle.cluster_run.proofs.Streams.KeptItems.{told_more, told_same}
use Rattle.cluster_run.proofs.stream.sink.Sink.acknowledge.Goals as goal

pub acknowledge-requires : goal.acknowledge-requires
acknowledge-requires g c = omega (arith, c.self.invariant.told.0, c.self.invariant.told.1, c.self.invariant.few)

pub invariant_of-self-in-Ok-true : goal.invariant_of-self-in-Ok-true
invariant_of-self-in-Ok-true g c =
    let w = c.self.inside in
    let kept = c.len-kept.ensures ∙ ap length c.items.ensures in
    let newer = c.if-kept-self.false in
    let more : w.told < length w.receiver.items = first_of (omega (arith, kept, newer), grind (arith, nat_tests)) in
    told_more w _ c.self.invariant refl refl refl (λ calm. calm)
    (c.in-Ok-true.ensures.sent ∙ ap (λ (b : Bool). if b then w.acks.part.sent ++ ack_frame w.receiver ∷ [] else w.acks.part.sent) c.in-Ok-true.field-0-test) more kept

pub invariant_of-self-else-acknowledge : goal.invariant_of-self-else-acknowledge
invariant_of-self-else-acknowledge g c =
    let w = c.self.inside in
    told_same w _ c.self.invariant refl refl refl (λ calm. calm)
    (c.in-Ok-false.ensures.sent ∙ ap (λ (b : Bool). if b then w.acks.part.sent ++ ack_frame w.receiver ∷ [] else w.acks.part.sent) c.in-Ok-false.field-0-test) refl

pub invariant_of-self-in-Err : goal.invariant_of-self-in-Err
invariant_of-self-in-Err g c =
    told_same c.self.inside _ c.self.invariant refl refl refl (λ calm. absurd (true≢false calm)) (ap (λ (s : TableSender). s.part.sent) c.in-Err.ensures.err) refl
