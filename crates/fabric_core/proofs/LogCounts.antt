-- The numbers that a fabric keeps are those of the log of the steps that it represents.
use Rattle.std.proofs.Common.{◌≡◌, ◌∙◌, ℕ, ◌+◌, ◌<◌, List, count_by, length, refl, ap, subst}
use Rattle.step_kinds.specs.Sides.{other_side}
use Rattle.step_kinds.specs.declared.names.LaneName.{LaneName}
use Rattle.step_kinds.specs.declared.names.Side.{Side}
use Rattle.step_kinds.specs.declared.names.Side.TheVariants.{A, B}
use Rattle.step_kinds.specs.declared.plan.DevPlan.{DevPlan}
use Rattle.step_kinds.specs.declared.plan.Plan.{Plan}
use Rattle.step_kinds.specs.declared.steps.Step.{Step}
use Rattle.pair_model.specs.DeclaredPlans.{IsPairOf, IsQueueOf}
use Rattle.pair_model.specs.Plans.{dev_plan, pair_plan}
use Rattle.ledger_laws.proofs.Facade.{counters_are_counts, sessions_are_counts, tallies_are_counts}
use Rattle.ledger_model.specs.Ledger.{PairPart, Tally, dev_of, tally_of}
use Rattle.ledger_model.specs.Log.{accepted, counters_in, delivered, first_session, lane_of_device, trains}
use Rattle.ledger_model.specs.Memory.{memory_of, site_of}
use Rattle.ledger_laws.proofs.Facade.{sites_are_the_ledger}
use Rattle.bridge_pair.specs.Bridge.{Bridge}
use Rattle.fabric_rule.specs.Parts.{queue_of}
use Rattle.fabric_rule.specs.StandsFor.{QueueStands, has_link_forgotten, view_of}
use Rattle.fabric_core.specs.Fabric.{FabricState, accepted_of, delivered_of, pair_of, plan_kept}
use Rattle.fabric_core.specs.LogClauses.{HasMade, log_after}
use Rattle.fabric_core.proofs.StepsOfFabrics.{plan_of_standing, queue_of_bare}

module _ (plan : Plan) (steps : List Step) (fabric : FabricState) (made : HasMade plan steps fabric) where
  queue_kept : (k : ℕ) (side : Side) (queue : ℕ) → IsQueueOf (plan_kept fabric) k side queue → IsQueueOf plan k side queue
  queue_kept k side queue is = queue_of_bare plan k side queue (subst (λ plan. IsQueueOf plan k side queue) (plan_of_standing plan steps fabric made.stands) is)

  pair_kept : (k : ℕ) → IsPairOf (plan_kept fabric) k → IsPairOf plan k
  pair_kept k is = subst (λ plan. IsPairOf plan k) (plan_of_standing plan steps fabric made.stands) is

  queue_stands : (k : ℕ) (side : Side) (queue : ℕ) → IsQueueOf plan k side queue
      → QueueStands plan.devs (pair_plan plan k) k side queue (has_link_forgotten (site_of plan k steps).pair.link side) (view_of (site_of plan k steps).pair side queue) (queue_of (pair_of fabric k) side queue)
  queue_stands k side queue is = ((made.stands.pairs k is.declared).sides side).queues queue is.among

  there_and_back : (side : Side) → other_side (other_side side) ≡ side
  there_and_back A = refl
  there_and_back B = refl

  tally : (lane : LaneName) (session : ℕ) → tally_of (site_of plan lane.pair steps).pair lane.from lane.queue session
      ≡ record { accepted = length (accepted plan (log_after plan steps) lane session); delivered = length (delivered plan (log_after plan steps) lane session) }
  tally lane session = ap (λ (pair : PairPart). tally_of pair lane.from lane.queue session) (sites_are_the_ledger plan steps lane.pair) ∙ tallies_are_counts plan (memory_of plan) steps lane session

  pub accepted_counted : (lane : LaneName) (session : ℕ) → IsQueueOf (plan_kept fabric) lane.pair lane.from lane.queue → accepted_of fabric lane session ≡ length (accepted plan (log_after plan steps) lane session)
  accepted_counted lane session is =
      (queue_stands lane.pair lane.from lane.queue (queue_kept lane.pair lane.from lane.queue is)).accepted session ∙ ap (λ (tally : Tally). tally.accepted) (tally lane session)

  pub delivered_counted : (lane : LaneName) (session : ℕ) → IsQueueOf (plan_kept fabric) lane.pair (other_side lane.from) lane.queue
      → delivered_of fabric lane session ≡ length (delivered plan (log_after plan steps) lane session)
  delivered_counted lane session is =
      (queue_stands lane.pair (other_side lane.from) lane.queue (queue_kept lane.pair (other_side lane.from) lane.queue is)).delivered session
      ∙ ap (λ (from : Side). (tally_of (site_of plan lane.pair steps).pair from lane.queue session).delivered) (there_and_back lane.from)
      ∙ ap (λ (tally : Tally). tally.delivered) (tally lane session)

  pub session_counted : (k : ℕ) → IsPairOf (plan_kept fabric) k → (pair_of fabric k).bridge.link.session ≡ first_session plan k + count_by (trains k) (log_after plan steps)
  session_counted k is =
      ap (λ (bridge : Bridge). bridge.link.session) (made.stands.pairs k (pair_kept k is)).bridge ∙ ap (λ (pair : PairPart). pair.link.session) (sites_are_the_ledger plan steps k)
      ∙ sessions_are_counts plan (memory_of plan) steps k

  pub counters_counted : (dev : ℕ) → dev < length fabric.devs
      → (queue_of (pair_of fabric (dev_plan fabric.devs dev).pair) (dev_plan fabric.devs dev).side (dev_plan fabric.devs dev).queue).counters
      ≡ counters_in plan (log_after plan steps) (lane_of_device (dev_plan plan.devs dev))
  counters_counted dev below =
      let own = dev_plan plan.devs dev in
      ap (λ (devs : List DevPlan). (queue_of (pair_of fabric (dev_plan devs dev).pair) (dev_plan devs dev).side (dev_plan devs dev).queue).counters) made.stands.devs
      ∙ (queue_stands own.pair own.side own.queue (made.declared.devices dev (subst (λ (devs : List DevPlan). dev < length devs) made.stands.devs below)).queue).counters
      ∙ ap (λ (pair : PairPart). (dev_of pair own.side own.queue).counters) (sites_are_the_ledger plan steps own.pair) ∙ counters_are_counts plan (memory_of plan) steps (lane_of_device own)
