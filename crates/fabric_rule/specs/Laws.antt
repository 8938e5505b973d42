-- The laws of what a fabric keeps: it represents the steps made, whichever of those that the plan permits.
use Rattle.std.specs.Prelude.{◌≡◌, ℕ, false, ◌<◌, ◌∷◌, [], ◌++◌, List, length}
use Rattle.std.specs.List.{AllByRecursion}
use Rattle.step_kinds.specs.Subject.{subject_of}
use Rattle.step_kinds.specs.declared.names.Side.{Side}
use Rattle.step_kinds.specs.declared.plan.DevPlan.{DevPlan}
use Rattle.step_kinds.specs.declared.plan.PairPlan.{PairPlan}
use Rattle.step_kinds.specs.declared.plan.Plan.{Plan}
use Rattle.step_kinds.specs.declared.steps.Step.{Step}
use Rattle.pair_model.specs.Both.{Both}
use Rattle.pair_model.specs.DeclaredPlans.{IsDeclared, IsPair, IsPermitted, IsPairOf}
use Rattle.pair_model.specs.Plans.{dev_plan, pair_plan, side_plan}
use Rattle.ledger_model.specs.Next.{pair_next}
use Rattle.ledger_model.specs.Memory.{bytes_of_site, fresh_site, site_of}
use Rattle.bridge_pair.specs.Fresh.{fresh_bridge}
use Rattle.queue_pair.specs.Queue.{fresh_queue}
use Rattle.pair_model.specs.Device.{no_counts}
use Rattle.fabric_rule.specs.Parts.{PairState, QueuePart, queue_of, queues_of}
use Rattle.fabric_rule.specs.StandsFor.{IsOn, PairStands}
use Rattle.fabric_rule.specs.Moves.{move_of}

-- a queue before any step
pub record IsFreshQueue (devs : List DevPlan) (plan : PairPlan) (k : ℕ) (side : Side) (queue : ℕ) (part : QueuePart) : Type 0 where
  pub queue_is : part.queue ≡ fresh_queue plan side queue
  pub goes_on : part.flow.stopped ≡ false
  pub limits : (d : ℕ) → d < length devs → IsOn (dev_plan devs d) k side queue
      → (part.flow.stop ≡ (dev_plan devs d).stop) × (part.flow.start ≡ (dev_plan devs d).start)
  pub counters : part.counters ≡ no_counts
  pub accepted : part.accepted ≡ []
  pub delivered : part.delivered ≡ []

-- a pair before any step, if these pages are promised
pub record IsFreshPair (devs : List DevPlan) (plan : PairPlan) (k : ℕ) (pages : Both (List ℕ)) (state : PairState) : Type 0 where
  pub bridge : state.bridge ≡ fresh_bridge plan pages
  pub all_queues : (side : Side) → length (queues_of state side) ≡ (side_plan plan side).queues
  pub queues : (side : Side) (queue : ℕ) → queue < (side_plan plan side).queues → IsFreshQueue devs plan k side queue (queue_of state side queue)

-- it represents no steps
abbrev pub FreshPairStands : Type 0
FreshPairStands = (devs : List DevPlan) (plan : PairPlan) (k : ℕ) (pages : Both (List ℕ)) (state : PairState) → IsPair plan →
    IsFreshPair devs plan k pages state → PairStands devs plan k (fresh_site plan) state

-- and where it represents the steps made, a further one is answered as the ledger says, and then it represents one step
-- more
abbrev pub EachStepStands : Type 0
EachStepStands = (plan : Plan) (steps : List Step) (step : Step) (state : PairState) → IsDeclared plan → AllByRecursion (IsPermitted plan) steps →
    IsPermitted plan step → IsPairOf plan (subject_of step) →
    let k = subject_of step in
    let pair = pair_plan plan k in
    let site = site_of plan k steps in
    PairStands plan.devs pair k site state →
    ((move_of plan.devs state step).answer ≡ (pair_next plan.devs pair (bytes_of_site site) site.pair step).answer)
    × PairStands plan.devs pair k (site_of plan k (steps ++ step ∷ [])) (move_of plan.devs state step).after
