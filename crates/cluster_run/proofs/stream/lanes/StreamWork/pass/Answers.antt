use Rattle.cluster_run.proofs.Streams.StreamEnds.{work_on}
use Rattle.cluster_run.proofs.stream.lanes.StreamWork.pass.Goals as goal

pub invariant_of-self : goal.invariant_of-self
invariant_of-self g c = work_on c.self.inside _ c.self.invariant c.pass.ensures.first c.pass.ensures.key c.pass.ensures.ever
