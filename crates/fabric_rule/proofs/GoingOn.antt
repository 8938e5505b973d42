-- Devices that go on where there is room again.
use Rattle.std.proofs.Common.{◌≡◌, ℕ, ◌+◌, ◌<◌, ◌&&◌, Bool, true, false, None, List, length, refl, sym, ap, ◌∙◌, subst, inl, ⊎_elim}
use Rattle.std.specs.Prelude.{if◌then◌else◌, nat_lt}
use Rattle.std.proofs.lemmas.Bool.{true≢false, false≢true, cases_Bool, le-leb}
use Rattle.step_kinds.specs.declared.names.Side.{Side}
use Rattle.step_kinds.specs.declared.plan.DevPlan.{DevPlan}
use Rattle.step_kinds.specs.declared.plan.PairPlan.{PairPlan}
use Rattle.step_kinds.specs.declared.steps.Answer.TheVariants as answer
use Rattle.step_kinds.specs.declared.steps.Step.TheVariants.{Wake}
use Rattle.pair_model.specs.DeclaredPlans.{SizesFit}
use Rattle.pair_model.specs.Device.{stays_stopped}
use Rattle.pair_model.specs.Plans.{dev_plan, side_plan}
use Rattle.pair_model.specs.Sizes.{sizes_of}
use Rattle.pair_model.specs.Addresses.{own_index_word}
use Rattle.pair_model.specs.Headers.{free_in_memory}
use Rattle.ledger_model.specs.Ledger.{lane_of, DevPart, dev_of, head_in, with_dev}
use Rattle.ledger_model.specs.Outcome.{Outcome, decided, refuse_if}
use Rattle.ledger_model.specs.Sending.{flow_of, wake_step}
use Rattle.plan_numbers.specs.Memories.{memory_size}
use Rattle.frame_ring.specs.Calls.{free_answer}
use Rattle.queue_pair.specs.Queue.{QueueState}
use Rattle.fabric_rule.specs.Parts.{QueuePart, with_queue}
use Rattle.fabric_rule.specs.StandsFor.{IsOn, PairStands, has_link_forgotten}
use Rattle.fabric_rule.proofs.Follows.{Follows, three_same}
use Rattle.fabric_rule.proofs.OneQueue.{Standing, device_changes, is_queue, kept, part, reads, seen_word, unchanged}
use Rattle.fabric_rule.proofs.WhatIsRead.{own_fits, same_word, word_inside}
use Rattle.fabric_rule.specs.Moves.{Move, move_of}

module _ {devs : List DevPlan} {plan : PairPlan} {k : ℕ} (now : Standing devs plan k) where
  -- A device that goes on

  abbrev goes_on : Side → ℕ → DevPart
  goes_on side queue = record (dev_of now.site.pair side queue) { stopped = false }

  abbrev flow_part : Side → ℕ → Bool → QueuePart
  flow_part side queue stopped = record (part now side queue) { flow = record (part now side queue).flow { stopped = stopped } }

  abbrev wakes : Side → ℕ → Bool → Move
  wakes side queue stays = record { answer = (if stays then answer.Stopped else answer.Awake); after = with_queue (kept now) side queue (flow_part side queue stays) }

  abbrev wake_made : Side → ℕ → Bool → Outcome
  wake_made side queue stays = decided now.site.pair (refuse_if stays answer.Stopped None) answer.Awake (with_dev now.site.pair side queue (goes_on side queue))

  wakes_or_stays : (side : Side) (queue : ℕ) (stays : Bool) → queue < (side_plan plan side).queues → (stays ≡ true → (part now side queue).flow.stopped ≡ true) → Follows devs plan k now.site (Wake k side queue 0) (wake_made side queue stays) (wakes side queue stays)
  wakes_or_stays side queue true among is = (
    refl,
    subst (λ stopped. PairStands devs plan k now.site (with_queue (kept now) side queue (flow_part side queue stopped))) (is refl)
        (unchanged now side queue (part now side queue).queue refl),
  )
  wakes_or_stays side queue false among is =
      (refl, device_changes now side queue false (part now side queue).counters (goes_on side queue) among refl ((now.sides side).queues queue among).counters (λ forgot. refl) (inl refl))

  free_at : (side : Side) (queue : ℕ) → queue < (side_plan plan side).queues → SizesFit plan → has_link_forgotten now.site.pair.link side ≡ false → free_answer (part now side queue).queue.port (kept now).bridge ≡ (reads now).free side queue
  free_at side queue among fits fresh =
      ap (λ (q : QueueState). free_answer q.port (kept now).bridge) (is_queue now side queue false among fresh)
      ∙ ap (λ inside. if inside then free_in_memory (sizes_of plan side queue).entries (head_in (sizes_of plan side queue) (lane_of now.site.pair side queue)) (seen_word now side queue) else 0)
      (le-leb (own_index_word plan side queue + 4) (memory_size plan side) (word_inside plan now.site now.pages now.spare side queue now.declared among (own_fits plan fits side)))
      ∙ ap (free_in_memory (sizes_of plan side queue).entries (head_in (sizes_of plan side queue) (lane_of now.site.pair side queue))) (same_word plan now.site now.pages now.spare side queue now.declared among (own_fits plan fits side))

  stays : (side : Side) (queue d : ℕ) (stopped : Bool) → queue < (side_plan plan side).queues → d < length devs → IsOn (dev_plan devs d) k side queue → (dev_of now.site.pair side queue).stopped ≡ stopped
      → stays_stopped (part now side queue).flow (free_answer (part now side queue).queue.port (kept now).bridge) ≡ stays_stopped (flow_of (dev_plan devs d) (dev_of now.site.pair side queue)) ((reads now).free side queue)
  stays side queue d false among declared on is =
      ap (λ stopped. stopped && nat_lt (free_answer (part now side queue).queue.port (kept now).bridge) (part now side queue).flow.start) (((now.sides side).queues queue among).stopped ∙ is)
      ∙ sym (ap (λ stopped. stopped && nat_lt ((reads now).free side queue) (dev_plan devs d).start) is)
  stays side queue d true among declared on is =
      let h = (now.sides side).queues queue among in
      let fits : SizesFit plan = ⊎_elim (λ goes. absurd (true≢false (sym is ∙ goes))) (λ fits. fits) h.stops in
      let fresh : has_link_forgotten now.site.pair.link side ≡ false = ⊎_elim (λ forgot. absurd (true≢false (sym is ∙ (h.forgets forgot).goes_on))) (λ fresh. fresh) (cases_Bool (has_link_forgotten now.site.pair.link side)) in
      three_same (λ stopped free start. stopped && nat_lt free start) h.stopped (free_at side queue among fits fresh) (h.limits d declared on).1

  stays_means : (stopped rest : Bool) → (stopped && rest) ≡ true → stopped ≡ true
  stays_means true rest stays = refl
  stays_means false rest stays = absurd (false≢true stays)

  pub wake_follows : (side : Side) (queue d : ℕ) → queue < (side_plan plan side).queues → d < length devs → IsOn (dev_plan devs d) k side queue
      → Follows devs plan k now.site (Wake k side queue d) (wake_step (reads now) (dev_plan devs d) now.site.pair side queue) (move_of devs (kept now) (Wake k side queue d))
  wake_follows side queue d among declared on =
      subst (λ stays. Follows devs plan k now.site (Wake k side queue d) (wake_made side queue stays) (move_of devs (kept now) (Wake k side queue d))) (stays side queue d (dev_of now.site.pair side queue).stopped among declared on refl)
      (wakes_or_stays side queue (stays_stopped (part now side queue).flow (free_answer (part now side queue).queue.port (kept now).bridge)) among (stays_means (part now side queue).flow.stopped _))
