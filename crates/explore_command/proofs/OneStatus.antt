-- The status of an exploration follows from the bytes of the script.
use Rattle.std.proofs.Common.{◌≡◌, ◌∙◌, ◌↔◌, ℕ, ◌≤◌, ◌⊎◌, inl, inr, Result, Ok, Err, List, ap, arith, refl, subst, sym}
use Rattle.cluster_core.proofs.Facade as clusters
use Rattle.command_reply.specs.Output.{Output}
use Rattle.command_reply.specs.Statuses.{number_of}
use Rattle.command_reply.specs.declared.status.Status.TheVariants.{TooManyStates}
use Rattle.explore_command.specs.Answers.{ExploresTo, has_made}
use Rattle.explore_model.specs.States.{HasMoreThan, IsCensus, most_states}
use Rattle.explore_search.proofs.Facade as searches
use Rattle.explore_search.specs.Paths.{search_script_of as steps_of}
use Rattle.script_words.specs.declared.fault.ScriptFault.{ScriptFault}
use Rattle.step_kinds.specs.declared.plan.Plan.{Plan}

-- schedules reach more states than an exploration may
abbrev HasTooMany : Plan → Type 0
HasTooMany plan = HasMoreThan has_made plan (steps_of plan) most_states

-- they don't where their number is small enough
few_or_many : (plan : Plan) (states : ℕ) → IsCensus has_made plan (steps_of plan) states → states ≤ most_states → HasTooMany plan → ⊥
few_or_many plan states census few many =
    searches.no_more_states has_made clusters.same_steps plan (steps_of plan) states census
    (record { states = many.states; counted = omega (arith, few, many.counted); apart = many.apart })

-- equal outputs have one status
status_of : {one other : Output} → one ≡ other → one.status ≡ other.status
status_of same = ap (λ (output : Output). output.status) same

-- two answers have one status
pub same_status : (read : Result Plan ScriptFault) (one other : Output) → ExploresTo read one → ExploresTo read other → one.status ≡ other.status
same_status (Ok plan) one other (inl tells) (inl again) = status_of tells.answer ∙ sym (status_of again.answer)
same_status (Ok plan) one other (inl tells) (inr more) = absurd (few_or_many plan tells.states tells.census tells.few more.many)
same_status (Ok plan) one other (inr more) (inl tells) = absurd (few_or_many plan tells.states tells.census tells.few more.many)
same_status (Ok plan) one other (inr more) (inr again) = status_of more.answer ∙ sym (status_of again.answer)
same_status (Err fault) one other first second = status_of first ∙ sym (status_of second)

-- the status is 8 where a plan was read that has too many, and nowhere else
pub too_many_exactly : (read : Result Plan ScriptFault) (output : Output) → ExploresTo read output →
    (output.status ≡ number_of TooManyStates) ↔ ((plan : Plan) × (read ≡ Ok plan) × HasTooMany plan)
too_many_exactly (Ok plan) output (inl tells) = (
  λ is. absurd (omega (arith, is, status_of tells.answer)),
  λ more.
      let same : plan ≡ more.0 = cc more.1 in
      absurd (few_or_many plan tells.states tells.census tells.few (subst HasTooMany (sym same) more.2)),
)
too_many_exactly (Ok plan) output (inr more) = (λ is. (plan, refl, more.many), λ _. status_of more.answer)
too_many_exactly (Err fault) output answer = (λ is. absurd (omega (arith, is, status_of answer)), λ more. absurd (cc more.1))
