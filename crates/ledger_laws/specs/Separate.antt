-- The memories of a pair are the pair's own: steps on other pairs neither change what they show nor what is answered.
use Rattle.std.specs.Prelude.{◌≡◌, ℕ, List}
use Rattle.step_kinds.specs.declared.plan.Plan.{Plan}
use Rattle.step_kinds.specs.declared.steps.Step.{Step}
use Rattle.ledger_model.specs.Log.{log_of}
use Rattle.ledger_laws.specs.Laws.{steps_on, made_on, KeepsPairsApart}
use Rattle.ledger_model.specs.Memory.{memory_of}

-- what the memories of a pair show is what the steps on that pair alone have stored
abbrev pub MemoriesKeepPairsApart : Type 0
MemoriesKeepPairsApart = (plan : Plan) → KeepsPairsApart (memory_of plan)

-- so, if memories show what was stored, the answers to the steps on a pair are those of the list without the other
-- pairs' steps
abbrev pub StoredPairsAreSeparate : Type 0
StoredPairsAreSeparate = (plan : Plan) (steps : List Step) (pair : ℕ) →
    made_on pair (log_of plan (memory_of plan) steps) ≡ log_of plan (memory_of plan) (steps_on pair steps)
