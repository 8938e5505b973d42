-- Landings of a plan's pairs.
use Rattle.std.specs.List.{All}
use Rattle.step_kinds.specs.declared.plan.Plan.{Plan}
use Rattle.pair_model.specs.DeclaredPlans.{IsPairOf}
use Rattle.explore_model.specs.declared.outcome.Outcome.{Outcome}

-- each further landing of an outcome is of a pair of the plan
abbrev pub LandsOnPairs : Plan → Outcome → Type 0
LandsOnPairs plan outcome = All (λ landing. IsPairOf plan landing.pair) outcome.landings
