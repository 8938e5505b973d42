use Rattle.std.proofs.Common.{List, sym, subst}
use Rattle.std.specs.List.{All}
use Rattle.explore_model.specs.declared.outcome.Outcome.{Outcome}
use Rattle.explore_search.specs.Paths.{search_script_of}
use Rattle.explore_search.specs.Results.{IsExploration}
use Rattle.explore_command.specs.Answers.{has_made}
use Rattle.explore_command.specs.Landings.{LandsOnPairs}
use Rattle.explore_command.proofs.LandOnPairs.{all_on_pairs}
use Rattle.explore_command.proofs.command.exploration.Goals as goal

pub explored_text-requires : goal.explored_text-requires
explored_text-requires c =
    let plan = c.args.plan.now in
    let told = subst (IsExploration has_made plan) c.in-Done.is c.in_ok-outcomes.ensures in
    subst (λ (outcomes : List Outcome). All (LandsOnPairs plan) outcomes) (sym c.deref.ensures.value) (all_on_pairs plan (search_script_of plan) c.in-Done.outcomes.items told.0.sound)
