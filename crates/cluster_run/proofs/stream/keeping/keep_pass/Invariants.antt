use Rattle.std.proofs.Common.{◌≡◌, ◌-◌, ◌≤◌, fold}
use Rattle.stream_model.specs.Receiver.{Receiver, taken}
use Rattle.cluster_run.specs.stream.Ends.{Grows}
use Rattle.cluster_run.proofs.stream.keeping.keep_pass.Given as goal

abbrev pub invariant-loop-made : goal.invariant-loop-made
invariant-loop-made g l =
    ((start : Receiver) → l.fn.receiver ≡ fold taken start l.fn.end.part.got → l.receiver ≡ fold taken start l.end.part.got)
    × Grows l.made l.fn.receiver.items l.receiver.items × (l.end.lane ≡ l.fn.end.lane) × (l.made ≤ l.turns)

abbrev pub decreases-loop-made : goal.decreases-loop-made
decreases-loop-made g l = l.turns - l.made
