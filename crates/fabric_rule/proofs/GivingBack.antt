-- Clearing the flags of the entry at hand, and giving it back.
use Rattle.std.proofs.Common.{◌≡◌, ℕ, ◌+◌, ◌-◌, ◌<◌, ◌⊎◌, Bool, true, false, Some, None, List, refl, sym, ap, ◌∙◌, subst, inl, inr, ⊎_elim, arith}
use Rattle.std.specs.Prelude.{if◌then◌else◌, not}
use Rattle.std.proofs.lemmas.Bool.{true≢false, false≢true}
use Rattle.step_kinds.specs.Sides.{other_side}
use Rattle.step_kinds.specs.declared.names.Side.{Side}
use Rattle.step_kinds.specs.declared.plan.DevPlan.{DevPlan}
use Rattle.step_kinds.specs.declared.plan.PairPlan.{PairPlan}
use Rattle.step_kinds.specs.declared.steps.Answer.{Answer}
use Rattle.step_kinds.specs.declared.steps.Answer.TheVariants as answer
use Rattle.step_kinds.specs.declared.steps.Step.TheVariants.{Clear, Ack}
use Rattle.lane_model.specs.Tests.{is_copied, is_cleared}
use Rattle.lane_model.specs.declared.Phase.{Phase}
use Rattle.lane_model.specs.declared.Phase.TheVariants.{Idle, Copying, Copied, Cleared}
use Rattle.pair_model.specs.DeclaredPlans.{SizesFit}
use Rattle.pair_model.specs.Plans.{side_plan}
use Rattle.ledger_model.specs.Ledger.{LanePart, lane_to, with_lane}
use Rattle.ledger_model.specs.Outcome.{Outcome, decided, refuse_if}
use Rattle.pair_model.specs.FreshRings.{zeroed_flags}
use Rattle.pair_model.specs.Headers.{flags_offset}
use Rattle.ledger_model.specs.Sending.{posts_through}
use Rattle.step_kinds.specs.declared.steps.Label.TheVariants.{Index}
use Rattle.ledger_model.specs.Receiving.{ack_step, clear_step}
use Rattle.bridge_pair.specs.Bridge.{Bridge}
use Rattle.frame_ring.specs.Calls.{port_ack_answer, port_acked_by, port_after_ack, port_after_clear, port_clear_answer, cleared_by}
use Rattle.frame_ring.specs.PortView.{flags_cleared, index_posted}
use Rattle.queue_pair.specs.Queue.{QueueState, with_port}
use Rattle.fabric_rule.specs.Answers.{of_ack, of_clear}
use Rattle.fabric_rule.specs.InPlace.{CountsOfPhase}
use Rattle.fabric_rule.specs.Parts.{with_bridge, with_queue}
use Rattle.fabric_rule.specs.StandsFor.{PairStands, has_link_forgotten}
use Rattle.fabric_rule.proofs.Arrivals.{bytes_come}
use Rattle.fabric_rule.proofs.Follows.{Follows}
use Rattle.fabric_rule.proofs.OneQueue.{Standing, as_it_was, by_bridge, by_queue, received_part, then_standing, kept, part_with, port_queue, reads, receives, stands_by}
use Rattle.fabric_rule.proofs.WhatIsRead.{own_fits, header_inside}
use Rattle.fabric_rule.proofs.RingPlaces.{fields_lie}
use Rattle.fabric_rule.proofs.RingPosts.{index_posts}
use Rattle.fabric_rule.specs.Moves.{Move, move_of}

-- of a receiver that took an entry, and of one that cleared its flags
after_copied : (phase : Phase) (acked cleared got : ℕ) → is_copied phase ≡ true → CountsOfPhase phase acked cleared got → (acked + 1 ≡ cleared + 1) × (cleared + 1 ≡ got)
after_copied Copied acked cleared got copied counts = (ap (λ n. n + 1) counts.0, counts.1)
after_copied Idle acked cleared got copied counts = absurd (false≢true copied)
after_copied Copying acked cleared got copied counts = absurd (false≢true copied)
after_copied Cleared acked cleared got copied counts = absurd (false≢true copied)

after_cleared : (phase : Phase) (acked cleared got : ℕ) → is_cleared phase ≡ true → CountsOfPhase phase acked cleared got → (acked + 1 ≡ cleared) × (cleared ≡ got)
after_cleared Cleared acked cleared got is counts = counts
after_cleared Idle acked cleared got is counts = absurd (false≢true is)
after_cleared Copying acked cleared got is counts = absurd (false≢true is)
after_cleared Copied acked cleared got is counts = absurd (false≢true is)

last_copied : (cleared got : ℕ) → cleared + 1 ≡ got → got - 1 ≡ cleared
last_copied cleared got is = omega (arith, is)

fits_where : (plan : PairPlan) (test : Phase → Bool) (phase : Phase) → test Idle ≡ false → test phase ≡ true → (phase ≡ Idle) ⊎ SizesFit plan → SizesFit plan
fits_where plan test phase at_idle holds fits = ⊎_elim (λ idle. absurd (true≢false (sym holds ∙ ap test idle ∙ at_idle))) (λ fits. fits) fits

-- a receiver is in turn or not
by_turn : (P : Bool → Type 0) (turn : Bool) → P false → (turn ≡ true → P true) → P turn
by_turn P true out in_turn = in_turn refl
by_turn P false out in_turn = out

module _ {devs : List DevPlan} {plan : PairPlan} {k : ℕ} (now : Standing devs plan k) where
  abbrev flags_gone : Side → ℕ → LanePart
  flags_gone side queue = record (lane_to now.site.pair side queue) { cleared = (lane_to now.site.pair side queue).cleared + 1; phase = Cleared }

  abbrev given : Side → ℕ → LanePart
  given side queue = record (lane_to now.site.pair side queue) { acked = (lane_to now.site.pair side queue).acked + 1; phase = Idle }

  -- the moves by a queue pair
  abbrev cleared_with : Side → ℕ → QueueState → Move
  cleared_with side queue q =
      record { answer = of_clear (port_clear_answer q.port); after = with_bridge (with_queue (kept now) side queue (part_with now side queue (with_port q (port_after_clear q.port)))) (cleared_by q.port (kept now).bridge) }

  abbrev acked_with : Side → ℕ → QueueState → Move
  acked_with side queue q =
      record { answer = of_ack (port_ack_answer q.port); after = with_bridge (with_queue (kept now) side queue (part_with now side queue (with_port q (port_after_ack q.port)))) (port_acked_by q.port (kept now).bridge) }

  abbrev clear_made : Side → ℕ → Bool → Outcome
  clear_made side queue copied = decided now.site.pair (refuse_if (not copied) answer.OutOfTurn None) (answer.Cleared (lane_to now.site.pair side queue).cleared) (with_lane now.site.pair (other_side side) queue (flags_gone side queue))

  -- where the receiver is in turn it comes to another place, and the bridge is another
  abbrev moves : Side → ℕ → LanePart → Bool → Answer → Bridge → Move
  moves side queue lane in_turn said bridge =
      record {
        answer = said;
        after =
            with_bridge (with_queue (kept now) side queue (part_with now side queue (with_port (port_queue now side queue false) (if in_turn then (received_part now side queue lane).queue.port else (port_queue now side queue false).port))))
            (if in_turn then bridge else (kept now).bridge);
      }

  abbrev clears : Side → ℕ → Bool → ℕ → Move
  clears side queue copied n = moves side queue (flags_gone side queue) copied (of_clear (if copied then Some n else None)) (flags_cleared (kept now).bridge side queue n)

  abbrev ack_made : Side → ℕ → Bool → Outcome
  ack_made side queue cleared =
      decided now.site.pair (refuse_if (not cleared) answer.OutOfTurn None) (answer.Acked (lane_to now.site.pair side queue).acked)
      (posts_through (reads now) (with_lane now.site.pair (other_side side) queue (given side queue)) side (Index queue (lane_to now.site.pair side queue).acked))

  abbrev acks : Side → ℕ → Bool → ℕ → Move
  acks side queue cleared n = moves side queue (given side queue) cleared (of_ack (if cleared then Some n else None)) (index_posted (kept now).bridge side queue n)

  clear_in_turn : (side : Side) (queue : ℕ) → queue < (side_plan plan side).queues → has_link_forgotten now.site.pair.link side ≡ false → is_copied (lane_to now.site.pair side queue).phase ≡ true
      → Follows devs plan k now.site (Clear k side queue) (clear_made side queue true) (clears side queue true ((lane_to now.site.pair side queue).got - 1))
  clear_in_turn side queue among fresh is =
      let lane = lane_to now.site.pair side queue in
      let counts = after_copied lane.phase lane.acked lane.cleared lane.got is ((stands_by now side queue false among fresh).receiving.counts refl) in
      let fits = fits_where plan is_copied lane.phase refl is (stands_by now side queue false among fresh).receiving.fits in
      subst (λ n. Follows devs plan k now.site (Clear k side queue) (clear_made side queue true) (clears side queue true n)) (sym (last_copied lane.cleared lane.got counts.1)) (
        refl,
        bytes_come (receives now side queue (flags_gone side queue) among fresh refl (record { counts = λ _. counts; fits = inr fits; len = λ copying. absurd (false≢true copying) })) side (zeroed_flags plan side queue lane.cleared)
            (header_inside plan now.site now.pages now.spare side queue now.declared among (own_fits plan fits side) lane.cleared (flags_offset plan) 4 (fields_lie plan).flags),
      )

  clear_by : (side : Side) (queue : ℕ) (forgotten : Bool) → queue < (side_plan plan side).queues → has_link_forgotten now.site.pair.link side ≡ forgotten
      → Follows devs plan k now.site (Clear k side queue) (clear_step now.site.pair side queue) (cleared_with side queue (port_queue now side queue forgotten))
  clear_by side queue true among forgot = rw (ap is_copied ((stands_by now side queue true among forgot).forgets refl).phase) (refl, as_it_was now side queue true among forgot)
  clear_by side queue false among fresh =
      by_turn (λ copied. Follows devs plan k now.site (Clear k side queue) (clear_made side queue copied) (clears side queue copied ((lane_to now.site.pair side queue).got - 1)))
      (is_copied (lane_to now.site.pair side queue).phase) (refl, as_it_was now side queue false among fresh) (clear_in_turn side queue among fresh)

  pub clear_follows : (side : Side) (queue : ℕ) → queue < (side_plan plan side).queues → Follows devs plan k now.site (Clear k side queue) (clear_step now.site.pair side queue) (move_of devs (kept now) (Clear k side queue))
  clear_follows side queue among = by_queue now side queue (λ (q : QueueState). Follows devs plan k now.site (Clear k side queue) (clear_step now.site.pair side queue) (cleared_with side queue q)) among (λ forgotten. clear_by side queue forgotten among)

  ack_in_turn : (side : Side) (queue : ℕ) → queue < (side_plan plan side).queues → has_link_forgotten now.site.pair.link side ≡ false → is_cleared (lane_to now.site.pair side queue).phase ≡ true
      → Follows devs plan k now.site (Ack k side queue) (ack_made side queue true) (acks side queue true ((lane_to now.site.pair side queue).got - 1))
  ack_in_turn side queue among fresh is =
      let lane = lane_to now.site.pair side queue in
      let counts = after_cleared lane.phase lane.acked lane.cleared lane.got is ((stands_by now side queue false among fresh).receiving.counts refl) in
      let given_back = with_queue (kept now) side queue (received_part now side queue (given side queue)) in
      let first = receives now side queue (given side queue) among fresh refl (record { counts = λ _. counts; fits = inl refl; len = λ copying. absurd (false≢true copying) }) in
      subst (λ n. Follows devs plan k now.site (Ack k side queue) (ack_made side queue true) (acks side queue true n)) (sym (last_copied lane.acked lane.got (counts.0 ∙ counts.1))) (
        refl,
        by_bridge now (with_lane now.site.pair (other_side side) queue (given side queue)) given_back.queues
            (λ (bridge : Bridge). PairStands devs plan k
            (record now.site { pair = posts_through (reads now) (with_lane now.site.pair (other_side side) queue (given side queue)) side (Index queue lane.acked) })
            (record given_back { bridge = index_posted bridge side queue lane.acked })) first
            (index_posts (then_standing now _ _ first) side queue lane.acked among (fits_where plan is_cleared lane.phase refl is (stands_by now side queue false among fresh).receiving.fits)),
      )

  ack_by : (side : Side) (queue : ℕ) (forgotten : Bool) → queue < (side_plan plan side).queues → has_link_forgotten now.site.pair.link side ≡ forgotten
      → Follows devs plan k now.site (Ack k side queue) (ack_step (reads now) now.site.pair side queue) (acked_with side queue (port_queue now side queue forgotten))
  ack_by side queue true among forgot = rw (ap is_cleared ((stands_by now side queue true among forgot).forgets refl).phase) (refl, as_it_was now side queue true among forgot)
  ack_by side queue false among fresh =
      by_turn (λ cleared. Follows devs plan k now.site (Ack k side queue) (ack_made side queue cleared) (acks side queue cleared ((lane_to now.site.pair side queue).got - 1)))
      (is_cleared (lane_to now.site.pair side queue).phase) (refl, as_it_was now side queue false among fresh) (ack_in_turn side queue among fresh)

  pub ack_follows : (side : Side) (queue : ℕ) → queue < (side_plan plan side).queues → Follows devs plan k now.site (Ack k side queue) (ack_step (reads now) now.site.pair side queue) (move_of devs (kept now) (Ack k side queue))
  ack_follows side queue among = by_queue now side queue (λ (q : QueueState). Follows devs plan k now.site (Ack k side queue) (ack_step (reads now) now.site.pair side queue) (acked_with side queue q)) among (λ forgotten. ack_by side queue forgotten among)
