use Rattle.std.proofs.Common.{◌≡◌}
use Rattle.bridge_pair.proofs.OfferedPads.{pads_to}
use Rattle.bridge_pair.proofs.fresh.agreed_pads.Given as goal

abbrev pub invariant-loop-m : goal.invariant-loop-m
invariant-loop-m l = l.pads ≡ pads_to l.peer l.m
