-- What contracts see of a fabric, and what it keeps.
use Rattle.std.specs.Prelude.{List}
use Rattle.std.specs.List.{AllByRecursion}
use Rattle.step_kinds.specs.declared.steps.Step.{Step}
use Rattle.pair_model.specs.DeclaredPlans.{IsDeclared, IsPermitted}
use Rattle.fabric_core.specs.Fabric.{FabricState, StandsFor, plan_kept}
use Rattle.fabric_core.specs.declared.fabric.Fabric.TheInside.{Inside}

abbrev pub fabric_seen : Inside → FabricState
fabric_seen kept = record { devs = kept.devs.items; pairs = kept.pairs.items }

-- it represents some steps of a plan that a script can declare
pub record IsFabric (kept : Inside) : Type 0 where
  pub declared : IsDeclared (plan_kept (fabric_seen kept))
  pub steps : List Step
  pub permitted : AllByRecursion (IsPermitted (plan_kept (fabric_seen kept))) steps
  pub stands : StandsFor (plan_kept (fabric_seen kept)) steps (fabric_seen kept)
