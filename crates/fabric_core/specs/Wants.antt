-- Where a step may be out of memory: only if it is made, so that a step that is refused gets its refusal. But a
-- device's begin may be also where its refusals can't be counted any more.
use Rattle.std.specs.Prelude.{◌≡◌, true, List}
use Rattle.step_kinds.specs.Places.{step_place}
use Rattle.step_kinds.specs.Subject.{subject_of}
use Rattle.step_kinds.specs.declared.places.QueueStep.{QueueStep}
use Rattle.step_kinds.specs.declared.places.QueueStep.TheVariants.{Xbegin}
use Rattle.step_kinds.specs.declared.places.StepPlace.{StepPlace}
use Rattle.step_kinds.specs.declared.places.StepPlace.TheVariants.{OnQueue}
use Rattle.step_kinds.specs.declared.plan.Counters.{Counters}
use Rattle.step_kinds.specs.declared.plan.Plan.{Plan}
use Rattle.step_kinds.specs.declared.steps.Answer.{Answer}
use Rattle.step_kinds.specs.declared.steps.Step.{Step}
use Rattle.step_kinds.specs.Answers.{is_made}
use Rattle.fabric_rule.specs.Parts.{PairState, queue_of}
use Rattle.fabric_core.specs.Fabric.{FabricState, pair_of}
use Rattle.fabric_core.specs.LogClauses.{IsAnswered}
use Rattle.fabric_core.specs.QueueCalls.{IsBegunOrUncounted}

-- at an answer that is no refusal; a device counts the refusals of its frames, so also where it can't count one more
abbrev pub MayWantOnQueue : Counters → QueueStep → Answer → Type 0
MayWantOnQueue counters (Xbegin dev dst kind payload) answer = IsBegunOrUncounted counters answer
MayWantOnQueue counters step answer = is_made answer ≡ true

abbrev pub MayWantAt : PairState → StepPlace → Answer → Type 0
MayWantAt pair (OnQueue side queue step) answer = MayWantOnQueue (queue_of pair side queue).counters step answer
MayWantAt pair place answer = is_made answer ≡ true

abbrev pub MayWant : PairState → Step → Answer → Type 0
MayWant pair step answer = MayWantAt pair (step_place step) answer

-- the log of these steps answers the next one, and at that answer it may be out of memory
abbrev pub IsWantedAfter : Plan → List Step → FabricState → Step → Type 0
IsWantedAfter plan steps fabric step =
    (answer : Answer) × IsAnswered plan steps step answer × MayWant (pair_of fabric (subject_of step)) step answer
