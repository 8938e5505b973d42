use Rattle.std.proofs.Common.{◌≡◌, ◌+◌, ◌-◌, ◌≤◌, min, vec_len}
use Rattle.io_edges.specs.Whole.{HasGiven}
use Rattle.io_edges.proofs.whole.read_all.Given as goal

abbrev pub invariant-loop-buffer : goal.invariant-loop-buffer
invariant-loop-buffer g l = record {
  given : HasGiven (g.S.Source.left l.initial.source) (g.S.Source.left l.source) l.bytes.items;
  short : vec_len l.bytes ≤ l.limit + 1;
  room : vec_len l.buffer ≡ min 65536 (l.limit + 1);
  reads : g.S.Source.reads l.source ≤ g.S.Source.reads l.initial.source + vec_len l.bytes;
  calm : g.S.Source.faults l.source ≡ g.S.Source.faults l.initial.source;
}

abbrev pub decreases-loop-buffer : goal.decreases-loop-buffer
decreases-loop-buffer g l = l.limit + 1 - vec_len l.bytes
