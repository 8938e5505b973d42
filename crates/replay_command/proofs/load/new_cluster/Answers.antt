use Rattle.std.proofs.Common.{ap, sym, subst, arith}
use Rattle.pair_model.specs.PlanParts.{declared_part}
use Rattle.traffic_plan.proofs.Facade.{load_is_whole}
use Rattle.traffic_plan.specs.Load.{load_of}
use Rattle.pair_model.specs.DeclaredPlans.{IsDeclared}
use Rattle.pair_model.specs.Switches.{AreSwitches}
use Rattle.replay_command.proofs.Reports.{new_replayed}
use Rattle.replay_command.proofs.load.new_cluster.Goals as goal

pub new-requires-clause-declared : goal.new-requires-clause-declared
new-requires-clause-declared c = subst IsDeclared (sym c.in_ok-plan.ensures) (load_is_whole 0 0 (omega arith)).declared

pub new-requires-clause-switches : goal.new-requires-clause-switches
new-requires-clause-switches c = subst AreSwitches (sym c.in_ok-plan.ensures) (load_is_whole 0 0 (omega arith)).switches

pub returns : goal.returns
returns c = λ seed frames.
    new_replayed (load_of seed frames) c.in_ok-plan.plan c.new.result (sym (ap declared_part c.in_ok-plan.ensures)) c.new.ensures.made c.new.ensures.plan
