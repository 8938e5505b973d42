-- The steps of each first word.
use Rattle.std.specs.Prelude.{ℕ, List, [], ◌∷◌}
use Rattle.step_kinds.specs.Limits.{most_steps}
use Rattle.step_kinds.specs.declared.names.Side.{Side}
use Rattle.step_kinds.specs.declared.plan.PairPlan.{PairPlan}
use Rattle.step_kinds.specs.declared.steps.Step.{Step}
use Rattle.step_kinds.specs.declared.steps.Step.TheVariants as step
use Rattle.pair_model.specs.Macros.{send, land_all, receive, offer_all}
use Rattle.pair_model.specs.Plans.{side_plan}
use Rattle.script_words.specs.StepLines.{NumberedSteps, largest_number}
use Rattle.script_words.specs.declared.step_words.PairWord.{PairWord}
use Rattle.script_words.specs.declared.step_words.PairWord.TheVariants.{Train, Break, Drop}
use Rattle.script_words.specs.declared.step_words.SideWord.{SideWord}
use Rattle.script_words.specs.declared.step_words.SideWord.TheVariants.{Enable, Clean, Offer, Check, Irq, OfferAll}
use Rattle.script_words.specs.declared.step_words.QueueWord.{QueueWord}
use Rattle.script_words.specs.declared.step_words.QueueWord.TheVariants.{Ready, Join, QpDown, Post, Look, Copy, Clear, Ack, Recv}
use Rattle.script_words.specs.declared.step_words.FrameWord.{FrameWord}
use Rattle.script_words.specs.declared.step_words.FrameWord.TheVariants.{Begin, Send}
use Rattle.script_words.specs.declared.step_words.NumberWord.{NumberWord}
use Rattle.script_words.specs.declared.step_words.NumberWord.TheVariants.{Land, LandAll, Mask, Unmask, ShowQueue, ShowPad}

abbrev pub pair_step_of : PairWord → ℕ → Step
pair_step_of Train = λ pair. step.Train pair
pair_step_of Break = λ pair. step.Break pair
pair_step_of Drop = λ pair. step.DropDone pair

-- the steps of a side with this many windows
abbrev pub side_steps_with : SideWord → ℕ → ℕ → Side → List Step
side_steps_with Enable windows pair side = step.Enable pair side ∷ []
side_steps_with Clean windows pair side = step.Clean pair side ∷ []
side_steps_with Offer windows pair side = step.Offer pair side ∷ []
side_steps_with Check windows pair side = step.Check pair side ∷ []
side_steps_with Irq windows pair side = step.Irq pair side ∷ []
side_steps_with OfferAll windows pair side = offer_all pair side windows

abbrev pub side_steps_of : SideWord → PairPlan → ℕ → Side → List Step
side_steps_of Enable = λ plan pair side. step.Enable pair side ∷ []
side_steps_of Clean = λ plan pair side. step.Clean pair side ∷ []
side_steps_of Offer = λ plan pair side. step.Offer pair side ∷ []
side_steps_of Check = λ plan pair side. step.Check pair side ∷ []
side_steps_of Irq = λ plan pair side. step.Irq pair side ∷ []
side_steps_of OfferAll = λ plan pair side. offer_all pair side (side_plan plan side).windows

abbrev pub queue_steps_of : QueueWord → ℕ → Side → ℕ → List Step
queue_steps_of Ready = λ pair side queue. step.Ready pair side queue ∷ []
queue_steps_of Join = λ pair side queue. step.Join pair side queue ∷ []
queue_steps_of QpDown = λ pair side queue. step.QpDown pair side queue ∷ []
queue_steps_of Post = λ pair side queue. step.Post pair side queue ∷ []
queue_steps_of Look = λ pair side queue. step.Look pair side queue ∷ []
queue_steps_of Copy = λ pair side queue. step.Copy pair side queue ∷ []
queue_steps_of Clear = λ pair side queue. step.Clear pair side queue ∷ []
queue_steps_of Ack = λ pair side queue. step.Ack pair side queue ∷ []
queue_steps_of Recv = λ pair side queue. receive pair side queue 1

abbrev pub numbered_of : NumberWord → NumberedSteps
numbered_of Land = record { least = 0; most = largest_number; steps = λ pair side place. step.Land pair side place ∷ [] }
numbered_of LandAll = record { least = 1; most = most_steps; steps = land_all }
numbered_of Mask = record { least = 0; most = largest_number; steps = λ pair side bits. step.Mask pair side bits ∷ [] }
numbered_of Unmask = record { least = 0; most = largest_number; steps = λ pair side bits. step.Unmask pair side bits ∷ [] }
numbered_of ShowQueue = record { least = 0; most = largest_number; steps = λ pair side place. step.ShowQueue pair side place ∷ [] }
numbered_of ShowPad = record { least = 0; most = 15; steps = λ pair side i. step.ShowPad pair side i ∷ [] }

abbrev pub frame_steps_of : FrameWord → PairPlan → ℕ → Side → ℕ → List ℕ → List Step
frame_steps_of Begin = λ plan pair side queue frame. step.Begin pair side queue frame ∷ []
frame_steps_of Send = send
