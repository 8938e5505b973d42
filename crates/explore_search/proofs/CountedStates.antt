-- The number of a census is exact.
use Rattle.std.proofs.Common.{◌≡◌, ◌∙◌, ℕ, ◌≤◌, List, arith, get_or, length, sym}
use Rattle.step_kinds.specs.declared.plan.Plan.{Plan}
use Rattle.step_kinds.specs.declared.steps.Step.{Step}
use Rattle.explore_model.specs.States.{AreApart, HasMoreThan, IsCensus, LeadToOne, Passing}
use Rattle.explore_search.specs.Machines.{HaveSameSteps}
use Rattle.explore_search.proofs.Pigeonhole.{no_longer}
use Rattle.explore_search.proofs.SameStates.{made_alike}

module _ {M : Type 0} (has_made : M → Plan → List Step → Type 0) (same : HaveSameSteps has_made) (plan : Plan) (script : List Step) where
  -- two runs that lead to the state of a third lead to one state
  lead_alike : (run one other : Passing plan script) → LeadToOne has_made plan script run one → LeadToOne has_made plan script run other → LeadToOne has_made plan script one other
  lead_alike run one other first second =
      record {
        first = sym first.first ∙ second.first;
        answers = sym first.answers ∙ second.answers;
        made = made_alike has_made same plan one.made run.made other.made (first.made.0, first.made.2, first.made.1) second.made;
      }

  -- of runs that lead to different states there are no more than a census counts
  no_more_apart : (count : ℕ) (states : List (Passing plan script)) → IsCensus has_made plan script count → AreApart has_made plan script states → length states ≤ count
  no_more_apart count states census apart =
      let few =
      no_longer (LeadToOne has_made plan script) (LeadToOne has_made plan script) census.states states (λ k d below. census.all (get_or states k d)) lead_alike apart in
      omega (arith, few, census.counted)

  -- there are not more states than a census counts
  pub no_more_states : (count : ℕ) → IsCensus has_made plan script count → HasMoreThan has_made plan script count → ⊥
  no_more_states count census more =
      let few = no_more_apart count more.states census more.apart in
      omega (arith, few, more.counted)

  -- two counts are one
  pub one_census : (count other : ℕ) → IsCensus has_made plan script count → IsCensus has_made plan script other → count ≡ other
  one_census count other first second =
      let few = no_more_apart count second.states first second.apart in
      let many = no_more_apart other first.states second first.apart in
      omega (arith, few, many, first.counted, second.counted)
