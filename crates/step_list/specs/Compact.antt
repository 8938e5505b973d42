-- The steps of a line, as the code keeps them: a macro by the step that it repeats and how often.
use Rattle.std.specs.Prelude.{ℕ, List, [], ◌∷◌, ◌++◌, replicate, map}
use Rattle.step_kinds.specs.declared.plan.Line.{Line}
use Rattle.step_kinds.specs.declared.steps.Step.{Step}
use Rattle.step_kinds.specs.declared.steps.Step.TheVariants.{Look, Copy, Clear, Ack, Post, Land, Offer}
use Rattle.step_list.specs.declared.macros.Repeated.{Repeated}
use Rattle.step_list.specs.declared.macros.Repeated.TheVariants.{Post as Posts, Land as Lands, Look as Looks, Copy as Copies, Clear as Clears, Ack as Acks, Offer as Offers}
use Rattle.step_list.specs.declared.macros.Macro.{Macro}
use Rattle.step_list.specs.declared.macros.Macro.TheVariants.{One, Posted, Again, Received}

-- the step that is repeated
abbrev pub step_again : Repeated → Step
step_again (Posts pair side queue) = Post pair side queue
step_again (Lands pair side place) = Land pair side place
step_again (Looks pair side queue) = Look pair side queue
step_again (Copies pair side queue) = Copy pair side queue
step_again (Clears pair side queue) = Clear pair side queue
step_again (Acks pair side queue) = Ack pair side queue
step_again (Offers pair side) = Offer pair side

-- the steps of a line
abbrev pub line_steps_of : Macro → List Step
line_steps_of (One step) = step ∷ []
line_steps_of (Posted begin repeated count) = begin ∷ replicate count (step_again repeated)
line_steps_of (Again repeated count) = replicate count (step_again repeated)
line_steps_of (Received pair side queue copies) = Look pair side queue ∷ (replicate copies (Copy pair side queue) ++ Clear pair side queue ∷ Ack pair side queue ∷ [])

-- the steps of line n
abbrev pub lines_with : ℕ → List Step → List Line
lines_with n steps = map (λ step. record { line = n; step = step }) steps
