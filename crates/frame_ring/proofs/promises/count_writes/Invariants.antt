use Rattle.std.proofs.Common.{◌≡◌, ◌+◌, ◌*◌, ◌≤◌, drop}
use Rattle.pair_model.specs.Pieces.{pieces_of}
use Rattle.frame_ring.specs.Outgoing.{all_writes_in}
use Rattle.frame_ring.proofs.promises.count_writes.Given as goal

abbrev pub invariant-loop-k : goal.invariant-loop-k
invariant-loop-k l =
    record {
      rest : l.count + all_writes_in (drop l.k (pieces_of l.largest l.frame)) ≡ all_writes_in (pieces_of l.largest l.frame);
      small : l.count ≤ 516 * l.k;
    }
