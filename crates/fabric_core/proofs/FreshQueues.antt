-- The queues of a side before any step, and the limits of the device on a queue.
use Rattle.std.proofs.Common.{◌≡◌, ◌∙◌, ℕ, ◌+◌, ◌<◌, ◌≤◌, List, [], ◌∷◌, ◌++◌, length, get_or, refl, sym, ap, subst, below_more, arith}
use Rattle.std.proofs.lemmas.List.{get_or_append_left, get_or_push, length-append}
use Rattle.step_kinds.specs.declared.names.Side.{Side}
use Rattle.step_kinds.specs.declared.plan.DevPlan.{DevPlan}
use Rattle.step_kinds.specs.declared.plan.PairPlan.{PairPlan}
use Rattle.pair_model.specs.Both.{Both}
use Rattle.pair_model.specs.Plans.{dev_plan, side_plan}
use Rattle.bridge_pair.specs.Bridge.{Bridge, flight_of}
use Rattle.bridge_pair.specs.Fresh.{fresh_bridge}
use Rattle.frame_ring.specs.Port.{fresh_port}
use Rattle.queue_pair.specs.Queue.{QueueState}
use Rattle.step_kinds.specs.declared.names.Side.TheVariants.{A, B}
use Rattle.fabric_rule.specs.Laws.{IsFreshPair, IsFreshQueue}
use Rattle.fabric_rule.specs.Parts.{QueuePart, no_queue, queue_of, queues_of}
use Rattle.fabric_rule.specs.StandsFor.{IsOn}
use Rattle.fabric_core.specs.Parts.{AreAlone, AreFreshQueues, AreLimitsOn, IsPairWhole, fresh_part}
use Rattle.fabric_core.proofs.Whole.{SideIsWhole, both_whole, side_fresh}

-- The queues made so far

pub record AreFreshBelow (devs : List DevPlan) (plan : PairPlan) (k : ℕ) (side : Side) (parts : List QueuePart) (queue : ℕ) : Type 0 where
  pub count : length parts ≡ queue
  pub fresh : (j : ℕ) → j < queue → IsFreshQueue devs plan k side j (get_or parts j no_queue)

-- The empty list is that of a side's first 0 queues, each as before any step.
pub fresh_none : (devs : List DevPlan) (plan : PairPlan) (k : ℕ) (side : Side) → AreFreshBelow devs plan k side [] 0
fresh_none devs plan k side = record { count = refl; fresh = λ j below. absurd (omega (arith, below)) }

is_fresh : (devs : List DevPlan) (plan : PairPlan) (k : ℕ) (side : Side) (queue stop start : ℕ) → AreLimitsOn devs k side queue stop start
    → IsFreshQueue devs plan k side queue (fresh_part plan side queue stop start)
is_fresh devs plan k side queue stop start limits = record { queue_is = refl; goes_on = refl; limits = limits; counters = refl; accepted = refl; delivered = refl }

-- A side's first fresh queues become one more where the next is added fresh, with the limits of the device on it.
pub fresh_more : (devs : List DevPlan) (plan : PairPlan) (k : ℕ) (side : Side) (parts : List QueuePart) (queue stop start : ℕ) → AreLimitsOn devs k side queue stop start
    → AreFreshBelow devs plan k side parts queue → AreFreshBelow devs plan k side (parts ++ fresh_part plan side queue stop start ∷ []) (queue + 1)
fresh_more devs plan k side parts queue stop start limits made =
    record {
      count = length-append parts (fresh_part plan side queue stop start ∷ []) ∙ ap (λ n. n + 1) made.count;
      fresh =
          below_more (λ j. IsFreshQueue devs plan k side j (get_or (parts ++ fresh_part plan side queue stop start ∷ []) j no_queue)) queue
          (λ j below.
          subst (λ (part : QueuePart). IsFreshQueue devs plan k side j part)
          (sym (get_or_append_left parts (fresh_part plan side queue stop start ∷ []) no_queue j (subst (λ n. j < n) (sym made.count) below))) (made.fresh j below))
          (subst (λ (part : QueuePart). IsFreshQueue devs plan k side queue part) (sym (get_or_push parts (fresh_part plan side queue stop start) no_queue queue made.count))
          (is_fresh devs plan k side queue stop start limits));
    }

-- As many fresh queues as the plan gives a side are all the queues of that side before any step.
pub fresh_all : (devs : List DevPlan) (plan : PairPlan) (k : ℕ) (side : Side) (parts : List QueuePart) (queue : ℕ) → queue ≡ (side_plan plan side).queues
    → AreFreshBelow devs plan k side parts queue → AreFreshQueues devs plan k side parts
fresh_all devs plan k side parts queue all made =
    record { all_queues = made.count ∙ all; queues = λ j below. made.fresh j (subst (λ n. j < n) (sym all) below) }

-- The limits of a device

-- none of the first devices is on the queue
abbrev pub NoneOn : List DevPlan → ℕ → Side → ℕ → ℕ → Type 0
NoneOn devs k side queue before = (d : ℕ) → d < before → IsOn (dev_plan devs d) k side queue → ⊥

-- If no queue of a pair has two devices, the stop and start of a device are the limits on its queue.
pub limits_of : (devs : List DevPlan) (k : ℕ) (side : Side) (queue i : ℕ) → AreAlone devs k → i < length devs → IsOn (dev_plan devs i) k side queue
    → AreLimitsOn devs k side queue (dev_plan devs i).stop (dev_plan devs i).start
limits_of devs k side queue i alone within on = λ d below other.
    let same : i ≡ d = alone i d within below on.its_pair (on.its_pair ∙ sym other.its_pair, on.its_side ∙ sym other.its_side, on.its_queue ∙ sym other.its_queue) in
    (ap (λ n. (dev_plan devs n).stop) same, ap (λ n. (dev_plan devs n).start) same)

-- If none of the devices is on a queue, any stop and start may stand as the limits on it.
pub limits_none : (devs : List DevPlan) (k : ℕ) (side : Side) (queue n stop start : ℕ) → length devs ≤ n → NoneOn devs k side queue n → AreLimitsOn devs k side queue stop start
limits_none devs k side queue n stop start all none = λ d below on. absurd (none d (omega (arith, all, below)) on)

-- A pair of such queues

nothing_promised : (plan : PairPlan) (pages : Both (List ℕ)) (side : Side) → (flight_of (fresh_bridge plan pages) side).spare ≡ 0
nothing_promised plan pages A = refl
nothing_promised plan pages B = refl

-- A fresh bridge with all fresh queues is whole: each in place, and room promised just for what they haven't used.
pub fresh_whole : (devs : List DevPlan) (plan : PairPlan) (k : ℕ) (bridge : Bridge) (pages : Both (List ℕ)) (a b : List QueuePart) → bridge ≡ fresh_bridge plan pages
    → AreFreshQueues devs plan k A a → AreFreshQueues devs plan k B b → IsPairWhole (record { bridge = bridge; queues = record { a = a; b = b } })
fresh_whole devs plan k bridge pages a b fresh fresh_a fresh_b =
    both_whole bridge a b (of_side A a fresh_a) (of_side B b fresh_b)
  where
    of_side : (side : Side) (parts : List QueuePart) → AreFreshQueues devs plan k side parts → SideIsWhole bridge side parts
    of_side side parts are =
        let plans : bridge.plan ≡ plan = ap (λ (bridge : Bridge). bridge.plan) fresh in
        side_fresh bridge side parts (ap (λ (bridge : Bridge). (flight_of bridge side).spare) fresh ∙ nothing_promised plan pages side) (are.all_queues ∙ ap (λ (plan : PairPlan). (side_plan plan side).queues) (sym plans))
        (λ j below. ap (λ (queue : QueueState). queue.port) (are.queues j (subst (λ n. j < n) are.all_queues below)).queue_is ∙ ap (λ (plan : PairPlan). fresh_port plan side j) (sym plans))

-- A fresh bridge with all fresh queues of both sides is the pair as before any step.
pub fresh_pair : (devs : List DevPlan) (plan : PairPlan) (k : ℕ) (bridge : Bridge) (pages : Both (List ℕ)) (a b : List QueuePart) → bridge ≡ fresh_bridge plan pages
    → AreFreshQueues devs plan k A a → AreFreshQueues devs plan k B b → IsFreshPair devs plan k pages (record { bridge = bridge; queues = record { a = a; b = b } })
fresh_pair devs plan k bridge pages a b fresh fresh_a fresh_b = record { bridge = fresh; all_queues = all; queues = each } where
  all : (side : Side) → length (queues_of (record { bridge = bridge; queues = record { a = a; b = b } }) side) ≡ (side_plan plan side).queues
  all A = fresh_a.all_queues
  all B = fresh_b.all_queues

  each : (side : Side) (queue : ℕ) → queue < (side_plan plan side).queues → IsFreshQueue devs plan k side queue (queue_of (record { bridge = bridge; queues = record { a = a; b = b } }) side queue)
  each A = fresh_a.queues
  each B = fresh_b.queues
