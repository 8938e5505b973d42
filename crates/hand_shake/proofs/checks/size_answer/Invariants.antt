use Rattle.std.proofs.Common.{◌≡◌, ◌-◌, find, nat_lt}
use Rattle.lane_model.specs.Lane.{count_from}
use Rattle.pair_model.specs.Pads.{first_larger, size_in}
use Rattle.bridge_pair.specs.Bridge.{pads_of}
use Rattle.hand_shake.proofs.checks.size_answer.Given as goal

abbrev pub invariant-loop-m : goal.invariant-loop-m
invariant-loop-m l = first_larger l.own (pads_of l.pair l.side) ≡ find (λ m. nat_lt l.own.cap (size_in (pads_of l.pair l.side) m)) (count_from l.m (l.own.windows - l.m))
