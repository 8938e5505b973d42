use Rattle.std.proofs.Common.{length, map}
use Rattle.cluster_run.proofs.Facade.{HasCome}
use Rattle.cluster_run.specs.stream.Keys.{StreamComesTo}
use Rattle.cluster_run.specs.stream.Streams.{stream_shown}
use Rattle.cluster_run.proofs.stream.run.run_stream.Given as goal

abbrev pub invariant-loop-first : goal.invariant-loop-first
invariant-loop-first g l = HasCome StreamComesTo l.plan l.waiting.items (map stream_shown l.parts.lanes.items) l.parts.proofs.items

abbrev pub decreases-loop-first : goal.decreases-loop-first
decreases-loop-first g l = length l.waiting.items
