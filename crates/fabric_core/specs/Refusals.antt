-- Steps that are refused: what they leave, and that they are refused again where they are made again at once.
use Rattle.std.specs.Prelude.{◌≡◌, ℕ, Bool, true, false, List, [], ◌∷◌, ◌++◌, slice_set}
use Rattle.step_kinds.specs.declared.names.Side.{Side}
use Rattle.step_kinds.specs.declared.plan.Plan.{Plan}
use Rattle.step_kinds.specs.declared.steps.Answer.{Answer}
use Rattle.step_kinds.specs.declared.steps.Step.{Step}
use Rattle.step_kinds.specs.declared.steps.Step.TheVariants.{Post, Xbegin}
use Rattle.pair_model.specs.Device.{count_refused}
use Rattle.step_kinds.specs.Answers.{is_made}
use Rattle.frame_ring.specs.Calls.{let_go}
use Rattle.frame_ring.specs.Port.{with_sending}
use Rattle.queue_pair.specs.Queue.{with_port}
use Rattle.fabric_rule.specs.Parts.{PairState, QueuePart, queue_of, with_queue}
use Rattle.fabric_core.specs.Fabric.{FabricState, pair_of}
use Rattle.fabric_core.specs.LogClauses.{HasMade, IsAnswered}

-- What a refusal leaves

-- a refusal of a device's frame is counted
abbrev pub refusal_counted : QueuePart → QueuePart
refusal_counted part = record part { counters = count_refused part.counters }

-- a port with nothing left to post keeps no entry
abbrev pub entry_let_go : QueuePart → QueuePart
entry_let_go part = record part { queue = with_port part.queue (with_sending part.queue.port (let_go part.queue.port.sending)) }

abbrev pub queue_changed : PairState → Side → ℕ → (QueuePart → QueuePart) → PairState
queue_changed pair side queue change = with_queue pair side queue (change (queue_of pair side queue))

abbrev pub pair_changed : FabricState → ℕ → (PairState → PairState) → FabricState
pair_changed fabric k change = record fabric { pairs = slice_set fabric.pairs k (change (pair_of fabric k)) }

-- the fabric after a step that was refused: the same, but that a device counts it, and that a post which finds nothing
-- to post lets the entry go
abbrev pub refused_in : FabricState → Step → FabricState
refused_in fabric (Xbegin k side queue dev dst kind payload) = pair_changed fabric k (λ pair. queue_changed pair side queue refusal_counted)
refused_in fabric (Post k side queue) = pair_changed fabric k (λ pair. queue_changed pair side queue entry_let_go)
refused_in fabric step = fabric

-- Again

-- a device counts the refusals of its frames, so these change something
abbrev pub counts_refusals : Step → Bool
counts_refusals (Xbegin pair side queue dev dst kind payload) = true
counts_refusals step = false

-- Any other step that was refused is answered the same where it is made again at once. A fabric that has made the
-- steps, it the last of them, has made it once more as it is.
abbrev pub RefusedAgain : Type 0
RefusedAgain = (plan : Plan) (steps : List Step) (step : Step) (answer : Answer) (fabric : FabricState) →
    IsAnswered plan steps step answer → is_made answer ≡ false → counts_refusals step ≡ false → HasMade plan (steps ++ step ∷ []) fabric →
    IsAnswered plan (steps ++ step ∷ []) step answer × HasMade plan ((steps ++ step ∷ []) ++ step ∷ []) fabric
