use Rattle.std.proofs.Common.{◌≡◌, length, map, take}
use Rattle.pair_model.specs.Switch.{new_switch}
use Rattle.cluster_core.proofs.plans.new_switches.Given as goal

abbrev pub invariant-loop-plan : goal.invariant-loop-plan
invariant-loop-plan l = l.switches.items ≡ map (λ plan. new_switch (length plan.ports)) (take l.plan-index l.plans)
