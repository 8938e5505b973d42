use Rattle.std.proofs.Common.{◌≡◌, ◌+◌, ◌≤◌, length}
use Rattle.io_edges.proofs.WrittenBytes.{WrittenSoFar}
use Rattle.io_edges.proofs.whole.write_all.Given as goal

abbrev pub invariant-loop-rest : goal.invariant-loop-rest
invariant-loop-rest g l = record {
  so_far : WrittenSoFar (g.K.Sink.held l.initial.sink) (g.K.Sink.held l.sink) l.bytes l.rest;
  calm : g.K.Sink.faults l.sink ≡ g.K.Sink.faults l.initial.sink;
  writes : g.K.Sink.writes l.sink + length l.rest ≤ g.K.Sink.writes l.initial.sink + length l.bytes;
}

abbrev pub decreases-loop-rest : goal.decreases-loop-rest
decreases-loop-rest g l = length l.rest
