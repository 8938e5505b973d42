use Rattle.cluster_run.proofs.FramesOfSession.{counted_after}
use Rattle.cluster_run.proofs.workers.Sending.pass.Goals as goal

pub invariant_of-self : goal.invariant_of-self
invariant_of-self g c =
    let sends = c.send_pass-made in
    record { bytes = sends.ensures.bytes; counted = counted_after _ _ _ _ sends.ensures.order c.self.invariant.counted }
