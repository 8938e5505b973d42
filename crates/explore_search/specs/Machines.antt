-- What a search knows of the machines that it drives.
use Rattle.std.specs.Prelude.{◌≡◌, ℕ, List, []}
use Rattle.step_kinds.specs.declared.plan.Plan.{Plan}
use Rattle.step_kinds.specs.declared.steps.Step.{Step}

-- machines that have made one list of steps have made the same lists
abbrev pub HaveSameSteps : {M : Type 0} → (M → Plan → List Step → Type 0) → Type 0
HaveSameSteps {M} has_made =
    (plan : Plan) (one other : List Step) (first second : M) → has_made first plan one → has_made second plan one → has_made first plan other → has_made second plan other

-- and the same key
abbrev pub HaveSameKeys : {M : Type 0} → (M → Plan → List Step → Type 0) → (M → List ℕ) → Type 0
HaveSameKeys {M} has_made key_of =
    (plan : Plan) (steps : List Step) (first second : M) → has_made first plan steps → has_made second plan steps → key_of first ≡ key_of second
