use Rattle.std.proofs.Common.{◌≡◌, ◌-◌}
use Rattle.cluster_run.specs.stream.Ends.{StreamGoesOn, HasOffered}
use Rattle.cluster_run.proofs.stream.offering.offer_pass.Given as goal

abbrev pub invariant-loop-pass : goal.invariant-loop-pass
invariant-loop-pass g l =
    HasOffered l.sender l.end.part.sent × StreamGoesOn l.fn.sender l.sender × (l.end.lane ≡ l.fn.end.lane) × (l.end.part.entries ≡ l.fn.end.part.entries)

abbrev pub decreases-loop-pass : goal.decreases-loop-pass
decreases-loop-pass g l = l.turns - l.pass.turns
