-- Copying the entry at hand.
use Rattle.std.proofs.Common.{◌≡◌, ℕ, ◌+◌, ◌<◌, ◌⊎◌, Bool, true, false, None, List, [], ◌++◌, length, refl, sym, ap, ◌∙◌, subst, inr, ⊎_elim}
use Rattle.std.specs.Prelude.{if◌then◌else◌, not, nat_lt}
use Rattle.std.proofs.lemmas.Bool.{true≢false, false≢true}
use Rattle.step_kinds.specs.Sides.{other_side}
use Rattle.step_kinds.specs.declared.names.Side.{Side}
use Rattle.step_kinds.specs.declared.plan.DevPlan.{DevPlan}
use Rattle.step_kinds.specs.declared.plan.PairPlan.{PairPlan}
use Rattle.step_kinds.specs.declared.lanes.LaneCopy.{LaneCopy}
use Rattle.step_kinds.specs.declared.lanes.LaneCopy.TheVariants.{Part, Whole, OutOfTurn as NotCopying}
use Rattle.step_kinds.specs.declared.steps.Answer.TheVariants as answer
use Rattle.step_kinds.specs.declared.steps.Step.TheVariants.{Copy}
use Rattle.lane_model.specs.Lane.{chunks_in}
use Rattle.lane_model.specs.Tests.{is_copying}
use Rattle.lane_model.specs.declared.Phase.{Phase}
use Rattle.lane_model.specs.declared.Phase.TheVariants.{Idle, Copying, Copied, Cleared}
use Rattle.pair_model.specs.DeclaredPlans.{SizesFit}
use Rattle.pair_model.specs.Device.{count_delivered}
use Rattle.pair_model.specs.Plans.{side_plan}
use Rattle.ledger_model.specs.Ledger.{DevPart, LanePart, Tally, dev_of, lane_to, tally_of, updated, with_lane}
use Rattle.ledger_model.specs.Outcome.{Outcome, decided, refuse_if}
use Rattle.ledger_model.specs.Receiving.{copy_step, counts_delivered}
use Rattle.frame_ring.specs.Port.{PortState, with_receiving}
use Rattle.frame_ring.specs.Calls.{port_after_copy, port_copy_answer, gathered_next}
use Rattle.queue_pair.specs.Queue.{QueueState, with_port}
use Rattle.fabric_rule.specs.Answers.{of_copy}
use Rattle.fabric_rule.specs.InPlace.{CountsOfPhase, ReceivingInPlace, fabric_receiver_of}
use Rattle.fabric_rule.specs.Parts.{one_more, with_queue}
use Rattle.fabric_rule.specs.StandsFor.{has_link_forgotten}
use Rattle.fabric_rule.proofs.Changes.{changes, peer_changes}
use Rattle.fabric_rule.proofs.Counts.{counts_one_more}
use Rattle.fabric_rule.proofs.Follows.{Follows, updated_same}
use Rattle.fabric_rule.proofs.OneQueue.{Standing, as_it_was, by_queue, received_stands, receiver_changes, kept, part, part_with, port_queue, reads, receives, stands_by}
use Rattle.fabric_rule.proofs.WhatIsRead.{own_fits, same_part}
use Rattle.fabric_rule.specs.Moves.{Move, move_of}
use Rattle.fabric_rule.specs.Turns.{delivered_where_whole}

-- of a receiver that copies
pub copying_fits : (plan : PairPlan) (phase : Phase) → is_copying phase ≡ true → (phase ≡ Idle) ⊎ SizesFit plan → SizesFit plan
copying_fits plan phase copying fits = ⊎_elim (λ idle. absurd (true≢false (sym copying ∙ ap is_copying idle))) (λ fits. fits) fits

copied_counts : (phase : Phase) (acked cleared got : ℕ) → is_copying phase ≡ true → CountsOfPhase phase acked cleared got → (acked ≡ cleared) × (cleared + 1 ≡ got + 1)
copied_counts Copying acked cleared got copying counts = (counts.0, ap (λ n. n + 1) counts.1)
copied_counts Idle acked cleared got copying counts = absurd (false≢true copying)
copied_counts Copied acked cleared got copying counts = absurd (false≢true copying)
copied_counts Cleared acked cleared got copying counts = absurd (false≢true copying)

module _ {devs : List DevPlan} {plan : PairPlan} {k : ℕ} (now : Standing devs plan k) where
  -- the receiver's lane after a copy
  abbrev with_part : Side → ℕ → List ℕ → LanePart
  with_part side queue gathered = record (lane_to now.site.pair side queue) { part = (lane_to now.site.pair side queue).part + 1; gathered = gathered }

  abbrev with_entry : Side → ℕ → List ℕ → LanePart
  with_entry side queue gathered = record (lane_to now.site.pair side queue) { got = (lane_to now.site.pair side queue).got + 1; phase = Copied; gathered = gathered }

  abbrev with_frame : Side → ℕ → LanePart
  with_frame side queue = record (lane_to now.site.pair side queue) { got = (lane_to now.site.pair side queue).got + 1; phase = Copied; gathered = []; done = (lane_to now.site.pair side queue).done + 1 }

  abbrev copied_as : Side → ℕ → Bool → Bool → List ℕ → Outcome
  copied_as side queue more_parts more_entries gathered =
      if more_parts
      then record { answer = answer.Copied (lane_to now.site.pair side queue).got (lane_to now.site.pair side queue).part; after = with_lane now.site.pair (other_side side) queue (with_part side queue gathered) }
      else if more_entries
      then record { answer = answer.Copied (lane_to now.site.pair side queue).got (lane_to now.site.pair side queue).part; after = with_lane now.site.pair (other_side side) queue (with_entry side queue gathered) }
      else record {
        answer = answer.Delivered (lane_to now.site.pair side queue).done gathered;
        after = counts_delivered (with_lane now.site.pair (other_side side) queue (with_frame side queue)) side queue (length gathered);
      }

  abbrev copy_made : Side → ℕ → Bool → Bool → Bool → List ℕ → Outcome
  copy_made side queue copying more_parts more_entries gathered =
      decided now.site.pair (refuse_if (not copying) answer.OutOfTurn None) (copied_as side queue more_parts more_entries gathered).answer (copied_as side queue more_parts more_entries gathered).after

  abbrev copy_value : QueueState → Bool → Bool → Bool → List ℕ → LaneCopy
  copy_value q copying more_parts more_entries gathered =
      if copying
      then (if more_parts then Part q.port.receiving.got q.port.receiving.part
      else if more_entries then Part q.port.receiving.got q.port.receiving.part
      else Whole q.port.receiving.done gathered)
      else NotCopying

  abbrev copy_port : QueueState → Bool → Bool → Bool → List ℕ → PortState
  copy_port q copying more_parts more_entries gathered =
      if copying
      then with_receiving q.port
      (if more_parts then record q.port.receiving { part = q.port.receiving.part + 1; gathered = gathered }
      else if more_entries then record q.port.receiving { got = q.port.receiving.got + 1; phase = Copied; gathered = gathered }
      else record q.port.receiving { got = q.port.receiving.got + 1; phase = Copied; gathered = []; done = q.port.receiving.done + 1 })
      else q.port

  abbrev copied : Side → ℕ → QueueState → Bool → Bool → Bool → List ℕ → Move
  copied side queue q copying more_parts more_entries gathered =
      record {
        answer = of_copy (copy_value q copying more_parts more_entries gathered);
        after =
            with_queue (kept now) side queue
            (delivered_where_whole (copy_value q copying more_parts more_entries gathered) now.site.pair.link.session (part_with now side queue (with_port q (copy_port q copying more_parts more_entries gathered))));
      }

  abbrev CopyFollows : Side → ℕ → Bool → Bool → Bool → List ℕ → List ℕ → Type 0
  CopyFollows side queue copying more_parts more_entries gathered seen =
      Follows devs plan k now.site (Copy k side queue) (copy_made side queue copying more_parts more_entries gathered) (copied side queue (port_queue now side queue false) copying more_parts more_entries seen)

  -- the receiver after an entry
  took_entry : (side : Side) (queue done : ℕ) (gathered : List ℕ) → is_copying (lane_to now.site.pair side queue).phase ≡ true → ReceivingInPlace plan side queue false (fabric_receiver_of (lane_to now.site.pair side queue))
      → ReceivingInPlace plan side queue false (fabric_receiver_of (record (lane_to now.site.pair side queue) { got = (lane_to now.site.pair side queue).got + 1; phase = Copied; gathered = gathered; done = done }))
  took_entry side queue done gathered copying old =
      record {
        counts = λ _. copied_counts (lane_to now.site.pair side queue).phase (lane_to now.site.pair side queue).acked (lane_to now.site.pair side queue).cleared (lane_to now.site.pair side queue).got copying (old.counts refl);
        fits = inr (copying_fits plan (lane_to now.site.pair side queue).phase copying old.fits);
        len = λ again. absurd (false≢true again);
      }

  -- the frames delivered in each session, with one more, and the device that counts it
  abbrev counted : Side → ℕ → Tally
  counted side queue = record (tally_of now.site.pair (other_side side) queue now.site.pair.link.session) { delivered = (tally_of now.site.pair (other_side side) queue now.site.pair.link.session).delivered + 1 }

  abbrev counting : Side → ℕ → List ℕ → DevPart
  counting side queue gathered = record (dev_of now.site.pair side queue) { counters = count_delivered (dev_of now.site.pair side queue).counters (length gathered) }

  -- the move of a copy by its queue pair
  abbrev copied_with : Side → ℕ → QueueState → Move
  copied_with side queue q =
      record {
        answer = of_copy (port_copy_answer q.port (kept now).bridge);
        after = with_queue (kept now) side queue (delivered_where_whole (port_copy_answer q.port (kept now).bridge) now.site.pair.link.session (part_with now side queue (with_port q (port_after_copy q.port (kept now).bridge))));
      }

  copies : (side : Side) (queue : ℕ) (copying more_parts more_entries : Bool) (gathered : List ℕ) → queue < (side_plan plan side).queues → has_link_forgotten now.site.pair.link side ≡ false → is_copying (lane_to now.site.pair side queue).phase ≡ copying
      → CopyFollows side queue copying more_parts more_entries gathered gathered
  copies side queue false more_parts more_entries gathered among fresh is = (refl, as_it_was now side queue false among fresh)
  copies side queue true true more_entries gathered among fresh is =
      let old = (stands_by now side queue false among fresh).receiving in
      (refl, receives now side queue (with_part side queue gathered) among fresh refl (record { counts = old.counts; fits = inr (copying_fits plan (lane_to now.site.pair side queue).phase is old.fits); len = old.len }))
  copies side queue true false true gathered among fresh is =
      let old = (stands_by now side queue false among fresh).receiving in
      (refl, receives now side queue (with_entry side queue gathered) among fresh refl (took_entry side queue (lane_to now.site.pair side queue).done gathered is old))
  copies side queue true false false gathered among fresh is =
      let old = stands_by now side queue false among fresh in
      let tallies = tally_of now.site.pair (other_side side) queue in
      let session = now.site.pair.link.session in (
        refl,
        receiver_changes now side queue _ among (peer_changes now.site.pair.lanes side queue (with_frame side queue)) (changes now.site.pair.devs side queue (counting side queue gathered))
            (peer_changes now.site.pair.tallies side queue (updated tallies session (counted side queue))) refl (updated_same (λ (tally : Tally). tally.accepted) tallies session (counted side queue) refl)
            (received_stands now side queue (with_frame side queue) (counting side queue gathered) (count_delivered (part now side queue).counters (length gathered)) (one_more (part now side queue).delivered session)
            (λ s. (updated tallies session (counted side queue) s).delivered) among fresh refl (ap (λ counters. count_delivered counters (length gathered)) old.counters)
            (counts_one_more (λ (tally : Tally). tally.delivered) (part now side queue).delivered tallies session (counted side queue) old.delivered refl)
            (took_entry side queue ((lane_to now.site.pair side queue).done + 1) [] is old.receiving)),
      )

  copy_by : (side : Side) (queue : ℕ) (forgotten : Bool) → queue < (side_plan plan side).queues → has_link_forgotten now.site.pair.link side ≡ forgotten
      → Follows devs plan k now.site (Copy k side queue) (copy_step (reads now) now.site.pair side queue) (copied_with side queue (port_queue now side queue forgotten))
  copy_by side queue true among forgot =
      subst (λ copying. Follows devs plan k now.site (Copy k side queue)
      (copy_made side queue copying (nat_lt ((lane_to now.site.pair side queue).part + 1) (chunks_in (lane_to now.site.pair side queue).len)) (nat_lt 0 (lane_to now.site.pair side queue).left) ((lane_to now.site.pair side queue).gathered ++ (reads now).part side queue))
      (copied_with side queue (port_queue now side queue true)))
      (sym (ap is_copying ((stands_by now side queue true among forgot).forgets refl).phase))
      (refl, as_it_was now side queue true among forgot)
  copy_by side queue false among fresh = at_copying (is_copying (lane_to now.site.pair side queue).phase) refl
    where
      more_parts : Bool
      more_parts = nat_lt ((lane_to now.site.pair side queue).part + 1) (chunks_in (lane_to now.site.pair side queue).len)

      more_entries : Bool
      more_entries = nat_lt 0 (lane_to now.site.pair side queue).left

      at_copying : (copying : Bool) → is_copying (lane_to now.site.pair side queue).phase ≡ copying
          → CopyFollows side queue copying more_parts more_entries ((lane_to now.site.pair side queue).gathered ++ (reads now).part side queue) (gathered_next (port_queue now side queue false).port (kept now).bridge)
      at_copying false is = (refl, as_it_was now side queue false among fresh)
      at_copying true is =
          let stands = stands_by now side queue false among fresh in
          subst (CopyFollows side queue true more_parts more_entries ((lane_to now.site.pair side queue).gathered ++ (reads now).part side queue))
          (sym (ap (λ bytes. (lane_to now.site.pair side queue).gathered ++ bytes)
          (same_part plan now.site now.pages now.spare side queue now.declared among (own_fits plan (copying_fits plan (lane_to now.site.pair side queue).phase is stands.receiving.fits) side) (lane_to now.site.pair side queue).got (lane_to now.site.pair side queue).len (lane_to now.site.pair side queue).part (stands.receiving.len is))))
          (copies side queue true more_parts more_entries ((lane_to now.site.pair side queue).gathered ++ (reads now).part side queue) among fresh is)

  pub copy_follows : (side : Side) (queue : ℕ) → queue < (side_plan plan side).queues → Follows devs plan k now.site (Copy k side queue) (copy_step (reads now) now.site.pair side queue) (move_of devs (kept now) (Copy k side queue))
  copy_follows side queue among = by_queue now side queue (λ (q : QueueState). Follows devs plan k now.site (Copy k side queue) (copy_step (reads now) now.site.pair side queue) (copied_with side queue q)) among (λ forgotten. copy_by side queue forgotten among)
