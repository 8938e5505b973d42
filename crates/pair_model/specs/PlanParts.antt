-- A plan without what is made in it, and the steps of its lines.
use Rattle.std.specs.Prelude.{List, [], map}
use Rattle.step_kinds.specs.declared.plan.Line.{Line}
use Rattle.step_kinds.specs.declared.plan.Plan.{Plan}
use Rattle.step_kinds.specs.declared.steps.Step.{Step}

-- what a plan declares: its pairs, devices and switches alone
abbrev pub declared_part : Plan → Plan
declared_part plan = record plan { steps = []; traffic = [] }

-- the steps of lines
abbrev pub steps_in : List Line → List Step
steps_in lines = map (λ line. line.step) lines
