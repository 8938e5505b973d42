-- Looking for the next entry.
use Rattle.std.proofs.Common.{◌≡◌, ℕ, ◌<◌, ◌≤◌, Bool, true, false, None, List, length, refl, sym, subst, inr, []}
use Rattle.std.specs.Prelude.{if◌then◌else◌, not}
use Rattle.std.proofs.lemmas.Bool.{false≢true}
use Rattle.step_kinds.specs.Bits.{has_bit}
use Rattle.step_kinds.specs.declared.names.Side.{Side}
use Rattle.step_kinds.specs.declared.plan.DevPlan.{DevPlan}
use Rattle.step_kinds.specs.declared.plan.PairPlan.{PairPlan}
use Rattle.step_kinds.specs.declared.steps.Answer.TheVariants as answer
use Rattle.step_kinds.specs.declared.steps.Step.TheVariants.{Look}
use Rattle.lane_model.specs.Tests.{is_idle}
use Rattle.lane_model.specs.declared.Phase.{Phase}
use Rattle.lane_model.specs.declared.Phase.TheVariants.{Idle, Copying, Copied, Cleared}
use Rattle.ring_geometry.specs.Geometry.{max_payload_of}
use Rattle.pair_model.specs.DeclaredPlans.{SizesFit}
use Rattle.pair_model.specs.Plans.{side_plan}
use Rattle.pair_model.specs.Sizes.{layout_to}
use Rattle.pair_model.specs.Headers.{Found, NoEntry, ALinkDownEntry, AnotherVersion, TooManyBytes, AnEntry}
use Rattle.ledger_model.specs.Ledger.{lane_to, side_of, dev_of, lane_of, tally_of}
use Rattle.ledger_model.specs.Outcome.{Outcome, decided, refuse_if}
use Rattle.ledger_model.specs.Receiving.{look_at, look_step}
use Rattle.ledger_model.specs.Memory.{bytes_of_site}
use Rattle.frame_ring.specs.Port.{Receiving, fresh_port, with_receiving}
use Rattle.frame_ring.specs.Calls.{entry_found, found_seen, look_found}
use Rattle.frame_ring.specs.declared.RingLook.TheVariants.{OutOfTurn as RingOutOfTurn}
use Rattle.queue_pair.specs.Gates.{after_look_answer, answer_of_look, look_answer, queue_after_look}
use Rattle.queue_pair.specs.Queue.{QueueState}
use Rattle.queue_pair.specs.declared.LookAnswer.{LookAnswer}
use Rattle.queue_pair.specs.declared.LookAnswer.TheVariants.{NotReady as NotJoined, Closed as QueueClosed}
use Rattle.fabric_rule.specs.Answers.{of_look}
use Rattle.fabric_rule.specs.InPlace.{CountsOfPhase}
use Rattle.fabric_rule.specs.Parts.{with_queue}
use Rattle.fabric_rule.specs.StandsFor.{has_link_forgotten}
use Rattle.std.proofs.lemmas.List.{append-nil}
use Rattle.step_kinds.specs.Sides.{other_side}
use Rattle.fabric_rule.proofs.Changes.{one_closes, stays}
use Rattle.fabric_rule.proofs.Follows.{Follows}
use Rattle.fabric_rule.proofs.OneQueue.{Standing, as_it_was, by_queue, is_queue, joined_is, kept, no_joined, part, part_with, port_queue, reads, receives, sender_changes, sent_part, sent_stands, stands_by, unchanged}
use Rattle.fabric_rule.proofs.WhatIsRead.{found_fits, own_fits, same_found}
use Rattle.fabric_rule.specs.Moves.{Move, move_of}

-- an idle receiver has given back all that it took
idle_counts : (phase : Phase) (acked cleared got : ℕ) → is_idle phase ≡ true → CountsOfPhase phase acked cleared got → (acked ≡ cleared) × (cleared ≡ got)
idle_counts Idle acked cleared got idle counts = counts
idle_counts Copying acked cleared got idle counts = absurd (false≢true idle)
idle_counts Copied acked cleared got idle counts = absurd (false≢true idle)
idle_counts Cleared acked cleared got idle counts = absurd (false≢true idle)

module _ {devs : List DevPlan} {plan : PairPlan} {k : ℕ} (now : Standing devs plan k) where
  -- Look

  abbrev look_value : Bool → Bool → Bool → Receiving → Found → LookAnswer
  look_value joined closed idle receiving seen = if not joined then NotJoined else if closed then QueueClosed else answer_of_look (if idle then look_found receiving seen else RingOutOfTurn)

  abbrev looked : Side → ℕ → QueueState → Bool → Bool → Bool → Found → Move
  looked side queue q joined closed idle seen =
      record {
        answer = of_look (look_value joined closed idle q.port.receiving seen);
        after =
            with_queue (kept now) side queue
            (part_with now side queue (after_look_answer (look_value joined closed idle q.port.receiving seen) q (if idle then with_receiving q.port (entry_found q.port.receiving seen) else q.port)));
      }

  abbrev look_made : Side → ℕ → Bool → Bool → Bool → Found → Outcome
  look_made side queue joined closed idle found =
      decided now.site.pair (refuse_if (not joined) answer.NotReady (refuse_if closed answer.Closed (refuse_if (not idle) answer.OutOfTurn None))) (look_at now.site.pair side queue found).answer (look_at now.site.pair side queue found).after

  abbrev LookFollows : Side → ℕ → QueueState → Bool → Bool → Bool → Bool → Found → Found → Type 0
  LookFollows side queue q joined closed idle idle' found seen = Follows devs plan k now.site (Look k side queue) (look_made side queue joined closed idle found) (looked side queue q joined closed idle' seen)

  look_refused : (side : Side) (queue : ℕ) (q : QueueState) (closed idle idle' : Bool) (found seen : Found) → (part now side queue).queue ≡ q → LookFollows side queue q false closed idle idle' found seen
  look_refused side queue q closed idle idle' found seen is = (refl, unchanged now side queue q is)

  -- the move of a look by its queue pair
  abbrev looked_with : Side → ℕ → QueueState → Move
  looked_with side queue q = record { answer = of_look (look_answer q (kept now).bridge); after = with_queue (kept now) side queue (part_with now side queue (queue_after_look q (kept now).bridge)) }

  look_at_entry : (side : Side) (queue : ℕ) (closed idle : Bool) (found : Found) → queue < (side_plan plan side).queues → has_link_forgotten now.site.pair.link side ≡ false → is_idle (lane_to now.site.pair side queue).phase ≡ idle → SizesFit plan
      → ((len left : ℕ) → found ≡ AnEntry len left → len ≤ max_payload_of (layout_to plan side queue)) → LookFollows side queue (port_queue now side queue false) true closed idle idle found found
  look_at_entry side queue true idle found among fresh is fits short = (refl, as_it_was now side queue false among fresh)
  look_at_entry side queue false false found among fresh is fits short = (refl, as_it_was now side queue false among fresh)
  look_at_entry side queue false true NoEntry among fresh is fits short = (refl, as_it_was now side queue false among fresh)
  look_at_entry side queue false true (AnotherVersion seen own) among fresh is fits short = (refl, as_it_was now side queue false among fresh)
  look_at_entry side queue false true (TooManyBytes len most) among fresh is fits short = (refl, as_it_was now side queue false among fresh)
  look_at_entry side queue false true ALinkDownEntry among fresh is fits short =
      let h = stands_by now side queue false among fresh in
      let sending = (port_queue now side queue false).port.sending in (
        refl,
        sender_changes now side queue [] (sent_part now side queue sending true) among (one_closes now.site.pair.sides side queue) (stays now.site.pair.lanes side (other_side side) queue) (stays now.site.pair.devs side (other_side side) queue)
            (stays now.site.pair.tallies side (other_side side) queue) (sym (append-nil (lane_of now.site.pair side queue).sent)) refl (λ session. refl)
            (sent_stands now side queue (lane_of now.site.pair side queue) sending true true (part now side queue).flow (part now side queue).counters (part now side queue).accepted (dev_of now.site.pair side queue)
            (λ session. (tally_of now.site.pair side queue session).accepted) among fresh refl (h.entry refl) h.sending refl h.stopped refl refl h.counters h.accepted h.stops),
      )
  look_at_entry side queue false true (AnEntry len left) among fresh is fits short =
      let lane = lane_to now.site.pair side queue in (
        refl,
        receives now side queue (record lane { phase = Copying; part = 0; len = len; left = left }) among fresh refl
            (record { counts = λ _. idle_counts lane.phase lane.acked lane.cleared lane.got is ((stands_by now side queue false among fresh).receiving.counts refl); fits = inr fits; len = λ _. short len left refl }),
      )

  look_joined : (side : Side) (queue : ℕ) (joined : Bool) (seen : Found) → queue < (side_plan plan side).queues → has_link_forgotten now.site.pair.link side ≡ false → has_bit (side_of now.site.pair side).joined queue ≡ joined → (joined ≡ true → SizesFit plan)
      → (SizesFit plan → seen ≡ (reads now).found side queue)
      → LookFollows side queue (port_queue now side queue false) joined (has_bit (side_of now.site.pair side).closed queue) (is_idle (lane_to now.site.pair side queue).phase) (is_idle (lane_to now.site.pair side queue).phase) ((reads now).found side queue) seen
  look_joined side queue false seen among fresh is fits same =
      look_refused side queue (port_queue now side queue false) (has_bit (side_of now.site.pair side).closed queue) (is_idle (lane_to now.site.pair side queue).phase) (is_idle (lane_to now.site.pair side queue).phase) ((reads now).found side queue) seen (is_queue now side queue false among fresh)
  look_joined side queue true seen among fresh is fits same =
      subst (LookFollows side queue (port_queue now side queue false) true (has_bit (side_of now.site.pair side).closed queue) (is_idle (lane_to now.site.pair side queue).phase) (is_idle (lane_to now.site.pair side queue).phase) ((reads now).found side queue)) (sym (same (fits refl)))
      (look_at_entry side queue (has_bit (side_of now.site.pair side).closed queue) (is_idle (lane_to now.site.pair side queue).phase) ((reads now).found side queue) among fresh refl (fits refl)
      (found_fits plan (bytes_of_site now.site) side queue (lane_to now.site.pair side queue).got (length (lane_to now.site.pair side queue).gathered)))

  -- by whether the bridge has it joined
  abbrev LookSeen : Side → ℕ → Bool → Bool → Type 0
  LookSeen side queue forgotten joined =
      let q = port_queue now side queue forgotten in
      Follows devs plan k now.site (Look k side queue) (look_step (reads now) now.site.pair side queue) (looked side queue q joined q.closed (is_idle q.port.receiving.phase) (found_seen q.port (kept now).bridge))

  look_by : (side : Side) (queue : ℕ) (forgotten : Bool) → queue < (side_plan plan side).queues → has_link_forgotten now.site.pair.link side ≡ forgotten → (has_bit (side_of now.site.pair side).joined queue ≡ true → SizesFit plan)
      → Follows devs plan k now.site (Look k side queue) (look_step (reads now) now.site.pair side queue) (looked_with side queue (port_queue now side queue forgotten))
  look_by side queue true among forgot fits =
      subst (LookSeen side queue true) (sym (joined_is now side queue))
      (subst (λ joined. LookFollows side queue (port_queue now side queue true) joined (has_bit (side_of now.site.pair side).closed queue) (is_idle (lane_to now.site.pair side queue).phase) true ((reads now).found side queue) (found_seen (fresh_port plan side queue) (kept now).bridge))
      (sym (no_joined now side queue forgot))
      (look_refused side queue (port_queue now side queue true) (has_bit (side_of now.site.pair side).closed queue) (is_idle (lane_to now.site.pair side queue).phase) true ((reads now).found side queue) (found_seen (fresh_port plan side queue) (kept now).bridge) (is_queue now side queue true among forgot)))
  look_by side queue false among fresh fits =
      subst (LookSeen side queue false) (sym (joined_is now side queue))
      (look_joined side queue (has_bit (side_of now.site.pair side).joined queue) (found_seen (port_queue now side queue false).port (kept now).bridge) among fresh refl fits
      (λ fit. same_found plan now.site now.pages now.spare side queue now.declared among (own_fits plan fit side) (lane_to now.site.pair side queue).got (length (lane_to now.site.pair side queue).gathered)))

  pub look_follows : (side : Side) (queue : ℕ) → queue < (side_plan plan side).queues → (has_bit (side_of now.site.pair side).joined queue ≡ true → SizesFit plan)
      → Follows devs plan k now.site (Look k side queue) (look_step (reads now) now.site.pair side queue) (move_of devs (kept now) (Look k side queue))
  look_follows side queue among fits =
      by_queue now side queue (λ (q : QueueState). Follows devs plan k now.site (Look k side queue) (look_step (reads now) now.site.pair side queue) (looked_with side queue q)) among (λ forgotten forgot. look_by side queue forgotten among forgot fits)
