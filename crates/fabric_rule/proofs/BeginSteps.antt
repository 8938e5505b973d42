-- Frames and link-down entries that are begun, by users and by devices.
use Rattle.std.proofs.Common.{◌≡◌, ℕ, ◌+◌, ◌-◌, ◌<◌, ◌&&◌, ◌||◌, ◌⊎◌, Bool, true, false, Option, Some, None, List, [], ◌∷◌, ◌++◌, length, refl, sym, ap, ◌∙◌, subst, inl, inr, ⊎_elim, arith}
use Rattle.std.specs.Prelude.{if◌then◌else◌, nat_lt, not}
use Rattle.std.specs.List.{AllByRecursion}
use Rattle.std.proofs.lemmas.Bool.{true≢false, cases_Bool, le-leb}
use Rattle.step_kinds.specs.Bits.{has_bit, with_bit}
use Rattle.step_kinds.specs.Sides.{other_side}
use Rattle.step_kinds.specs.declared.names.Side.{Side}
use Rattle.step_kinds.specs.declared.plan.Counters.{Counters}
use Rattle.step_kinds.specs.declared.plan.DevPlan.{DevPlan}
use Rattle.step_kinds.specs.declared.plan.PairPlan.{PairPlan}
use Rattle.step_kinds.specs.declared.steps.Answer.{Answer}
use Rattle.step_kinds.specs.declared.steps.Answer.TheVariants as answer
use Rattle.step_kinds.specs.declared.steps.Label.{Label}
use Rattle.step_kinds.specs.declared.steps.Step.TheVariants.{Begin, QpDown, Xbegin}
use Rattle.lane_model.specs.Lane.{Entry, GoesDown}
use Rattle.lane_model.specs.Ring.{head_of}
use Rattle.lane_model.specs.Tests.{is_empty_list}
use Rattle.pair_model.specs.Both.{at_side}
use Rattle.pair_model.specs.DeclaredPlans.{SizesFit}
use Rattle.pair_model.specs.Device.{Flow, stopped_after_send, count_accepted, count_refused}
use Rattle.pair_model.specs.Ethernet.{ethernet_frame}
use Rattle.pair_model.specs.Labels.{labels_of}
use Rattle.pair_model.specs.Link.{is_up}
use Rattle.pair_model.specs.Pieces.{pieces_of}
use Rattle.pair_model.specs.Plans.{dev_plan, side_plan}
use Rattle.pair_model.specs.Sizes.{sizes_of, pieces_in}
use Rattle.pair_model.specs.Addresses.{own_index_word}
use Rattle.pair_model.specs.Headers.{free_in_memory}
use Rattle.ledger_model.specs.Ledger.{DevPart, LanePart, Tally, dev_of, head_in, lane_of, side_of, tally_of, updated, with_lane, with_side_part}
use Rattle.ledger_model.specs.Outcome.{Outcome, decided}
use Rattle.ledger_model.specs.Sending.{begin_step, counts_accepted, counts_refused, counts_sent, frame_begun as lane_begun, begun_lane, flow_of, is_busy as is_lane_busy, qpdown_step, xbegin_step}
use Rattle.plan_numbers.specs.Memories.{memory_size}
use Rattle.frame_ring.specs.Port.{PortState, with_sending}
use Rattle.frame_ring.specs.Calls.{port_begin_answer, port_after_begin, port_down_answer, after_down, entries_begun, free_answer, where_begun}
use Rattle.queue_pair.specs.Gates.{answer_unless, begin_answer, queue_after_begin, qpdown_answer, after_qpdown, closed_where_begun, port_unless}
use Rattle.queue_pair.specs.Queue.{QueueState, with_port}
use Rattle.queue_pair.specs.declared.BeginAnswer.{BeginAnswer}
use Rattle.queue_pair.specs.declared.BeginAnswer.TheVariants.{Ok as IsBegun, LinkDown as IsLinkDown}
use Rattle.step_kinds.specs.declared.lanes.Begun.{Begun}
use Rattle.fabric_rule.specs.Answers.{of_begin, of_xbegin}
use Rattle.fabric_rule.specs.InPlace.{FitsSlot, fabric_sender_of}
use Rattle.fabric_rule.specs.Parts.{QueuePart, SessionCount, count_in, one_more, with_queue}
use Rattle.fabric_rule.specs.StandsFor.{IsOn, PairStands, QueueStands, has_link_forgotten, view_of}
use Rattle.fabric_rule.proofs.NewEntries.{begun_in_place, free_less, last-begun, length-begun, length-pieces, pieces_fit, some_pieces}
use Rattle.fabric_rule.proofs.Counts.{counts_one_more}
use Rattle.fabric_rule.proofs.Follows.{Follows, three_same, updated_same}
use Rattle.fabric_rule.proofs.Gates.{NotOk, Passes, Refuses, gates, not_accepted, port_says, refusal_says, side_says}
use Rattle.fabric_rule.proofs.Links.{not_down_up}
use Rattle.fabric_rule.proofs.OneQueue.{Standing, as_it_was, by_queue, device_changes, is_queue, joined_is, kept, part, part_with, port_queue, reads, seen_word, sender_changes, sent_stands, unchanged}
use Rattle.fabric_rule.proofs.Changes.{changes, none_closes, one_closes, stays}
use Rattle.fabric_rule.proofs.WhatIsRead.{own_fits, same_word, word_inside}
use Rattle.fabric_rule.specs.Moves.{Move, move_of}
use Rattle.fabric_rule.specs.Turns.{accepted_where_begun, xbegun}

module _ {devs : List DevPlan} {plan : PairPlan} {k : ℕ} (now : Standing devs plan k) where
  -- a lane with its first entry begun, and the port's end of it
  abbrev lane_with : Side → ℕ → Entry → List Entry → ℕ → LanePart
  lane_with side queue first others told =
      record (lane_of now.site.pair side queue) { sent = (lane_of now.site.pair side queue).sent ++ first ∷ []; waiting = others; todo = labels_of queue (length (lane_of now.site.pair side queue).sent) first; told = told }

  abbrev port_with : Side → ℕ → Entry → List Entry → ℕ → PortState
  port_with side queue first others told =
      with_sending (port_queue now side queue false).port
      (record { begun = length (lane_of now.site.pair side queue).sent + 1; told = told; entry = first; todo = labels_of queue (length (lane_of now.site.pair side queue).sent) first; waiting = others })

  -- the queue then
  begins : (side : Side) (queue : ℕ) (first : Entry) (others : List Entry) (told : ℕ) (closed seen_closed : Bool) (flow : Flow) (counters : Counters) (accepted : List SessionCount) (dev : DevPart) (seen_accepted : ℕ → ℕ)
      → queue < (side_plan plan side).queues → has_link_forgotten now.site.pair.link side ≡ false → SizesFit plan → FitsSlot plan side queue first → AllByRecursion (FitsSlot plan side queue) others
      → closed ≡ seen_closed → flow.stopped ≡ dev.stopped → flow.stop ≡ (part now side queue).flow.stop → flow.start ≡ (part now side queue).flow.start → counters ≡ dev.counters → ((session : ℕ) → count_in accepted session ≡ seen_accepted session)
      → QueueStands devs plan k side queue (has_link_forgotten now.site.pair.link side)
      (record (view_of now.site.pair side queue) { sends = fabric_sender_of (lane_with side queue first others told); dev = dev; accepted = seen_accepted; closed = seen_closed })
      (record (part now side queue) { queue = record { port = port_with side queue first others told; closed = closed }; flow = flow; counters = counters; accepted = accepted })
  begins side queue first others told closed seen_closed flow counters accepted dev seen_accepted among fresh fits short all same_closed stopped stop start counted counts =
      sent_stands now side queue (lane_with side queue first others told) (port_with side queue first others told).sending closed seen_closed flow counters accepted dev seen_accepted among fresh
      (ap (λ begun. record { begun = begun; told = told; entry = first; todo = labels_of queue (length (lane_of now.site.pair side queue).sent) first; waiting = others }) (sym (length-begun (lane_of now.site.pair side queue).sent first)))
      (λ _. sym (last-begun queue (fabric_sender_of (lane_of now.site.pair side queue)) first others told)) (begun_in_place plan side queue (fabric_sender_of (lane_of now.site.pair side queue)) first others told fits short all)
      same_closed stopped stop start counted counts (inr fits)

  -- the part of a queue on which a frame was begun and accepted
  abbrev accepted_part : Side → ℕ → Entry → List Entry → QueuePart
  accepted_part side queue first others =
      record (part now side queue) {
        queue = record { port = port_with side queue first others ((lane_of now.site.pair side queue).told + 1); closed = has_bit (side_of now.site.pair side).closed queue };
        accepted = one_more (part now side queue).accepted now.site.pair.link.session;
      }

  -- the frames accepted, with one more in the session
  abbrev one_accepted : Side → ℕ → Tally
  one_accepted side queue = record (tally_of now.site.pair side queue now.site.pair.link.session) { accepted = (tally_of now.site.pair side queue now.site.pair.link.session).accepted + 1 }

  abbrev more_accepted : Side → ℕ → ℕ → Tally
  more_accepted side queue = updated (tally_of now.site.pair side queue) now.site.pair.link.session (one_accepted side queue)

  counts_one : (side : Side) (queue : ℕ) → queue < (side_plan plan side).queues → (session : ℕ) → count_in (one_more (part now side queue).accepted now.site.pair.link.session) session ≡ (more_accepted side queue session).accepted
  counts_one side queue among =
      counts_one_more (λ (tally : Tally). tally.accepted) (part now side queue).accepted (tally_of now.site.pair side queue) now.site.pair.link.session (one_accepted side queue) ((now.sides side).queues queue among).accepted refl

  none_delivered : (side : Side) (queue session : ℕ) → (more_accepted side queue session).delivered ≡ (tally_of now.site.pair side queue session).delivered
  none_delivered side queue = updated_same (λ (tally : Tally). tally.delivered) (tally_of now.site.pair side queue) now.site.pair.link.session (one_accepted side queue) refl

  not_up : (side : Side) → has_link_forgotten now.site.pair.link side ≡ true → is_up now.site.pair.link.state ≡ false
  not_up side forgot =
      ⊎_elim (λ up. absurd (true≢false (sym forgot ∙ ap (λ down. down && at_side now.site.pair.link.clean side) (not_down_up now.site.pair.link.state up)))) (λ down. down) (cases_Bool (is_up now.site.pair.link.state))

  is_some_piece : (largest : ℕ) (bytes : List ℕ) → pieces_of largest bytes ≡ [] → ⊥
  is_some_piece largest bytes none = let l = length-pieces largest bytes in let some = some_pieces largest (length bytes) in let z = ap length none in omega (arith, l, some, z)

  -- Begin

  abbrev begin_made : Side → ℕ → List ℕ → List Entry → Option Answer → Outcome
  begin_made side queue frame pieces refusal =
      decided now.site.pair refusal (answer.OkNumber (lane_of now.site.pair side queue).told) (counts_accepted (with_lane now.site.pair side queue (lane_begun queue (lane_of now.site.pair side queue) pieces)) side queue)

  abbrev begin_says : Side → ℕ → List ℕ → Answer → QueueState → Move
  begin_says side queue frame said after = record { answer = said; after = with_queue (kept now) side queue (accepted_where_begun said now.site.pair.link.session (part_with now side queue after)) }

  -- the tests of a queue's lane, by an index word
  abbrev is_full : Side → ℕ → ℕ → ℕ → Bool
  is_full side queue needed index = nat_lt (free_in_memory (sizes_of plan side queue).entries (head_in (sizes_of plan side queue) (lane_of now.site.pair side queue)) index) needed

  abbrev tests : Bool → Side → ℕ → ℕ → ℕ → Bool → Bool → Bool → ℕ → Option Answer
  tests up side queue len needed long stopped joined index =
      refusal_says up joined (has_bit (side_of now.site.pair side).closed queue) long (is_lane_busy (lane_of now.site.pair side queue)) stopped (is_full side queue needed index) len
      (sizes_of plan side queue).most (head_in (sizes_of plan side queue) (lane_of now.site.pair side queue)) index

  begin_core : (side : Side) (queue : ℕ) (frame : List ℕ) (pieces : List Entry) (refusal : Option Answer) (said : Answer) (begun : BeginAnswer) (joined busy full : Bool) (q after : QueueState) (new : PortState) → (part now side queue).queue ≡ q
      → (joined ≡ true → PairStands devs plan k (record now.site { pair = counts_accepted (with_lane now.site.pair side queue (lane_begun queue (lane_of now.site.pair side queue) pieces)) side queue }) (begin_says side queue frame (answer.OkNumber (lane_of now.site.pair side queue).told) (with_port q new)).after)
      → Passes joined busy full said begun refusal (lane_of now.site.pair side queue).told q new after ⊎ Refuses false said begun refusal q after
      → Follows devs plan k now.site (Begin k side queue frame) (begin_made side queue frame pieces refusal) (begin_says side queue frame said after)
  begin_core side queue frame pieces refusal said begun joined busy full q after new is ok (inl passes) =
      subst (λ refusal. Follows devs plan k now.site (Begin k side queue frame) (begin_made side queue frame pieces refusal) (begin_says side queue frame said after)) (sym passes.none)
      (subst (λ said. Follows devs plan k now.site (Begin k side queue frame) (begin_made side queue frame pieces None) (begin_says side queue frame said after)) (sym passes.said_is)
      (subst (λ (after : QueueState). Follows devs plan k now.site (Begin k side queue frame) (begin_made side queue frame pieces None) (begin_says side queue frame (answer.OkNumber (lane_of now.site.pair side queue).told) after)) (sym passes.after_is) (refl, ok passes.is_joined)))
  begin_core side queue frame pieces refusal said begun joined busy full q after new is ok (inr refuses) =
      subst (λ refusal. Follows devs plan k now.site (Begin k side queue frame) (begin_made side queue frame pieces refusal) (begin_says side queue frame said after)) (sym refuses.refusal_is) (
        refl,
        subst (λ (part : QueuePart). PairStands devs plan k now.site (with_queue (kept now) side queue part))
            (sym (ap (λ (after : QueueState). accepted_where_begun said now.site.pair.link.session (part_with now side queue after)) (refuses.after_is refl) ∙ not_accepted said now.site.pair.link.session (part_with now side queue q) refuses.not_ok))
            (unchanged now side queue q is),
      )

  -- the move of a begin by its queue pair
  abbrev begin_with : Side → ℕ → List ℕ → QueueState → Move
  begin_with side queue frame q = begin_says side queue frame (of_begin (begin_answer q (kept now).bridge (length frame))) (queue_after_begin q (kept now).bridge frame)

  abbrev needs : Side → ℕ → List ℕ → ℕ
  needs side queue frame = pieces_in (sizes_of plan side queue).largest (length frame)

  abbrev is_long : Side → ℕ → List ℕ → Bool
  is_long side queue frame = nat_lt (sizes_of plan side queue).most (length frame)

  abbrev port_new : Side → ℕ → List Entry → PortState
  port_new side queue pieces =
      with_sending (port_queue now side queue false).port (record (entries_begun queue (port_queue now side queue false).port.sending pieces) { told = (lane_of now.site.pair side queue).told + 1 })

  abbrev says : Side → ℕ → Bool → Bool → Bool → ℕ → ℕ → ℕ → Begun
  says side queue long busy full len index told = port_says long busy full len (sizes_of plan side queue).most (head_in (sizes_of plan side queue) (lane_of now.site.pair side queue)) index told

  abbrev says_frame : Side → ℕ → List ℕ → Begun
  says_frame side queue frame = says side queue (is_long side queue frame) (is_lane_busy (lane_of now.site.pair side queue)) (is_full side queue (needs side queue frame) (seen_word now side queue)) (length frame) (seen_word now side queue) (lane_of now.site.pair side queue).told

  abbrev side_refuses : Side → ℕ → Bool → Option BeginAnswer
  side_refuses side queue joined = side_says (is_up now.site.pair.link.state) joined (has_bit (side_of now.site.pair side).closed queue)

  -- the tests of a frame by the index word that the ledger reads, and by the one that the port sees
  abbrev BeginAt : Side → ℕ → List ℕ → List Entry → Bool → ℕ → Type 0
  BeginAt side queue frame pieces joined index =
      Follows devs plan k now.site (Begin k side queue frame) (begin_made side queue frame pieces (tests (is_up now.site.pair.link.state) side queue (length frame) (needs side queue frame) (is_long side queue frame) false joined index))
      (begin_says side queue frame (of_begin (answer_unless (side_refuses side queue joined) (says_frame side queue frame)))
      (port_unless (side_refuses side queue joined) (port_queue now side queue false) (where_begun (port_queue now side queue false).port (port_new side queue pieces) (says_frame side queue frame))))

  begin_read : (side : Side) (queue : ℕ) (frame : List ℕ) (pieces : List Entry) (joined : Bool) → (joined ≡ true → seen_word now side queue ≡ (reads now).index_word side queue) → BeginAt side queue frame pieces joined (seen_word now side queue) → BeginAt side queue frame pieces joined ((reads now).index_word side queue)
  begin_read side queue frame pieces true same at_seen = subst (BeginAt side queue frame pieces true) (same refl) at_seen
  begin_read side queue frame pieces false same at_seen = at_seen

  -- the pair once a frame was begun
  begin_ok : (side : Side) (queue : ℕ) (first : Entry) (others : List Entry) → queue < (side_plan plan side).queues → has_link_forgotten now.site.pair.link side ≡ false → SizesFit plan → AllByRecursion (FitsSlot plan side queue) (first ∷ others)
      → PairStands devs plan k (record now.site { pair = counts_accepted (with_lane now.site.pair side queue (lane_with side queue first others ((lane_of now.site.pair side queue).told + 1))) side queue })
      (with_queue (kept now) side queue (accepted_part side queue first others))
  begin_ok side queue first others among fresh fits all =
      let h = (now.sides side).queues queue among in
      sender_changes now side queue (first ∷ []) (accepted_part side queue first others) among (none_closes now.site.pair.sides side (other_side side) queue)
      (changes now.site.pair.lanes side queue (lane_with side queue first others ((lane_of now.site.pair side queue).told + 1))) (stays now.site.pair.devs side (other_side side) queue)
      (changes now.site.pair.tallies side queue (more_accepted side queue)) refl refl (none_delivered side queue)
      (begins side queue first others ((lane_of now.site.pair side queue).told + 1) (has_bit (side_of now.site.pair side).closed queue) (has_bit (side_of now.site.pair side).closed queue) (part now side queue).flow (part now side queue).counters
      (one_more (part now side queue).accepted now.site.pair.link.session) (dev_of now.site.pair side queue) (λ session. (more_accepted side queue session).accepted) among fresh fits all.0 all.1 refl h.stopped refl refl h.counters (counts_one side queue among))

  begin_fresh : (side : Side) (queue : ℕ) (frame : List ℕ) (pieces : List Entry) (joined : Bool) → queue < (side_plan plan side).queues → has_link_forgotten now.site.pair.link side ≡ false → (joined ≡ true → SizesFit plan) → pieces_of (sizes_of plan side queue).largest frame ≡ pieces → AllByRecursion (FitsSlot plan side queue) pieces
      → BeginAt side queue frame pieces joined (seen_word now side queue)
  begin_fresh side queue frame [] joined among fresh fits is all = absurd (is_some_piece (sizes_of plan side queue).largest frame is)
  begin_fresh side queue frame (first ∷ others) joined among fresh fits is all =
      begin_core side queue frame (first ∷ others) _ _ _ joined _ _ (port_queue now side queue false) _ (port_new side queue (first ∷ others)) (is_queue now side queue false among fresh)
      (λ yes. begin_ok side queue first others among fresh (fits yes) all)
      (gates (length frame) (sizes_of plan side queue).most (head_in (sizes_of plan side queue) (lane_of now.site.pair side queue)) (seen_word now side queue) (lane_of now.site.pair side queue).told (port_queue now side queue false) (port_new side queue (first ∷ others))
      (is_up now.site.pair.link.state) joined (has_bit (side_of now.site.pair side).closed queue) (is_long side queue frame) (is_lane_busy (lane_of now.site.pair side queue)) false (is_full side queue (needs side queue frame) (seen_word now side queue)))

  -- the answer by whether the link is up, and whether the bridge has the queue joined
  abbrev BeginSeen : Side → ℕ → List ℕ → Bool → Bool → Bool → Type 0
  BeginSeen side queue frame forgotten up joined =
      let q = port_queue now side queue forgotten in
      let refuses = side_says up joined q.closed in
      Follows devs plan k now.site (Begin k side queue frame)
      (begin_made side queue frame (pieces_of (sizes_of plan side queue).largest frame)
      (tests up side queue (length frame) (needs side queue frame) (is_long side queue frame) false (has_bit (side_of now.site.pair side).joined queue) ((reads now).index_word side queue)))
      (begin_says side queue frame (of_begin (answer_unless refuses (port_begin_answer q.port (kept now).bridge (length frame)))) (port_unless refuses q (port_after_begin q.port (kept now).bridge frame)))

  begin_by : (side : Side) (queue : ℕ) (frame : List ℕ) (forgotten : Bool) → queue < (side_plan plan side).queues → has_link_forgotten now.site.pair.link side ≡ forgotten → (has_bit (side_of now.site.pair side).joined queue ≡ true → SizesFit plan)
      → Follows devs plan k now.site (Begin k side queue frame) (begin_step (sizes_of plan side queue) (reads now) now.site.pair side queue frame) (begin_with side queue frame (port_queue now side queue forgotten))
  begin_by side queue frame true among forgot fits =
      subst (BeginSeen side queue frame true (is_up now.site.pair.link.state)) (sym (joined_is now side queue))
      (subst (λ up. BeginSeen side queue frame true up (has_bit (side_of now.site.pair side).joined queue)) (sym (not_up side forgot)) (refl, as_it_was now side queue true among forgot))
  begin_by side queue frame false among fresh fits =
      subst (BeginSeen side queue frame false (is_up now.site.pair.link.state)) (sym (joined_is now side queue))
      (begin_read side queue frame (pieces_of (sizes_of plan side queue).largest frame) (has_bit (side_of now.site.pair side).joined queue)
      (λ joined. same_word plan now.site now.pages now.spare side queue now.declared among (own_fits plan (fits joined) side))
      (begin_fresh side queue frame (pieces_of (sizes_of plan side queue).largest frame) (has_bit (side_of now.site.pair side).joined queue) among fresh fits refl (pieces_fit (sizes_of plan side queue).largest frame)))

  pub begin_follows : (side : Side) (queue : ℕ) (frame : List ℕ) → queue < (side_plan plan side).queues → (has_bit (side_of now.site.pair side).joined queue ≡ true → SizesFit plan)
      → Follows devs plan k now.site (Begin k side queue frame) (begin_step (sizes_of plan side queue) (reads now) now.site.pair side queue frame) (move_of devs (kept now) (Begin k side queue frame))
  begin_follows side queue frame among fits =
      by_queue now side queue (λ (q : QueueState). Follows devs plan k now.site (Begin k side queue frame) (begin_step (sizes_of plan side queue) (reads now) now.site.pair side queue frame) (begin_with side queue frame q)) among
      (λ forgotten forgot. begin_by side queue frame forgotten among forgot fits)

  -- A link-down entry

  abbrev down_made : Side → ℕ → Option Answer → Outcome
  down_made side queue refusal =
      decided now.site.pair refusal (answer.OkNumber (lane_of now.site.pair side queue).told)
      (with_side_part (with_lane now.site.pair side queue (begun_lane queue (lane_of now.site.pair side queue) (GoesDown ∷ []))) side (record (side_of now.site.pair side) { closed = with_bit (side_of now.site.pair side).closed queue }))

  abbrev down_says : Side → ℕ → Answer → QueueState → Move
  down_says side queue said after = record { answer = said; after = with_queue (kept now) side queue (part_with now side queue after) }

  abbrev DownCore : Side → ℕ → Option Answer → Answer → BeginAnswer → QueueState → Type 0
  DownCore side queue refusal said begun after = Follows devs plan k now.site (QpDown k side queue) (down_made side queue refusal) (down_says side queue said (closed_where_begun begun after))

  down_core : (side : Side) (queue : ℕ) (refusal : Option Answer) (said : Answer) (begun : BeginAnswer) (joined busy full : Bool) (q after : QueueState) (new : PortState) → (part now side queue).queue ≡ q
      → (joined ≡ true → DownCore side queue None (answer.OkNumber (lane_of now.site.pair side queue).told) (IsBegun (lane_of now.site.pair side queue).told) (with_port q new))
      → Passes joined busy full said begun refusal (lane_of now.site.pair side queue).told q new after ⊎ Refuses false said begun refusal q after
      → DownCore side queue refusal said begun after
  down_core side queue refusal said begun joined busy full q after new is ok (inl passes) =
      subst (λ refusal. DownCore side queue refusal said begun after) (sym passes.none)
      (subst (λ said. DownCore side queue None said begun after) (sym passes.said_is)
      (subst (λ begun. DownCore side queue None (answer.OkNumber (lane_of now.site.pair side queue).told) begun after) (sym passes.begun_is)
      (subst (DownCore side queue None (answer.OkNumber (lane_of now.site.pair side queue).told) (IsBegun (lane_of now.site.pair side queue).told)) (sym passes.after_is) (ok passes.is_joined))))
  down_core side queue refusal said begun joined busy full q after new is ok (inr refuses) =
      subst (λ refusal. DownCore side queue refusal said begun after) (sym refuses.refusal_is)
      (refl, subst (λ (after : QueueState). PairStands devs plan k now.site (with_queue (kept now) side queue (part_with now side queue after))) (sym (refuses.stays_open refl after ∙ refuses.after_is refl)) (unchanged now side queue q is))

  abbrev says_down : Side → ℕ → Begun
  says_down side queue = says side queue false (is_lane_busy (lane_of now.site.pair side queue)) (is_full side queue 1 (seen_word now side queue)) 0 (seen_word now side queue) (lane_of now.site.pair side queue).told

  abbrev DownAt : Side → ℕ → Bool → ℕ → Type 0
  DownAt side queue joined index =
      DownCore side queue (tests (is_up now.site.pair.link.state) side queue 0 1 false false joined index) (of_begin (answer_unless (side_refuses side queue joined) (says_down side queue))) (answer_unless (side_refuses side queue joined) (says_down side queue))
      (port_unless (side_refuses side queue joined) (port_queue now side queue false) (where_begun (port_queue now side queue false).port (port_with side queue GoesDown [] (lane_of now.site.pair side queue).told) (says_down side queue)))

  down_read : (side : Side) (queue : ℕ) (joined : Bool) → (joined ≡ true → seen_word now side queue ≡ (reads now).index_word side queue) → DownAt side queue joined (seen_word now side queue) → DownAt side queue joined ((reads now).index_word side queue)
  down_read side queue true same at_seen = subst (DownAt side queue true) (same refl) at_seen
  down_read side queue false same at_seen = at_seen

  abbrev down_with : Side → ℕ → QueueState → Move
  down_with side queue q = down_says side queue (of_begin (qpdown_answer q (kept now).bridge)) (after_qpdown q (kept now).bridge)

  abbrev down_part : Side → ℕ → QueuePart
  down_part side queue = part_with now side queue (record { port = port_with side queue GoesDown [] (lane_of now.site.pair side queue).told; closed = true })

  no_payload : (side : Side) (queue : ℕ) → FitsSlot plan side queue GoesDown
  no_payload side queue = omega arith

  down_ok : (side : Side) (queue : ℕ) → queue < (side_plan plan side).queues → has_link_forgotten now.site.pair.link side ≡ false → SizesFit plan
      → DownCore side queue None (answer.OkNumber (lane_of now.site.pair side queue).told) (IsBegun (lane_of now.site.pair side queue).told) (with_port (port_queue now side queue false) (port_with side queue GoesDown [] (lane_of now.site.pair side queue).told))
  down_ok side queue among fresh fits =
      let h = (now.sides side).queues queue among in (
        refl,
        sender_changes now side queue (GoesDown ∷ []) (down_part side queue) among (one_closes now.site.pair.sides side queue) (changes now.site.pair.lanes side queue (lane_with side queue GoesDown [] (lane_of now.site.pair side queue).told))
            (stays now.site.pair.devs side (other_side side) queue) (stays now.site.pair.tallies side (other_side side) queue) refl refl (λ session. refl)
            (begins side queue GoesDown [] (lane_of now.site.pair side queue).told true true (part now side queue).flow (part now side queue).counters (part now side queue).accepted (dev_of now.site.pair side queue)
            (λ session. (tally_of now.site.pair side queue session).accepted) among fresh fits (no_payload side queue) tt refl h.stopped refl refl h.counters h.accepted),
      )

  abbrev DownSeen : Side → ℕ → Bool → Bool → Bool → Type 0
  DownSeen side queue forgotten up joined =
      let q = port_queue now side queue forgotten in
      let refuses = side_says up joined q.closed in
      let begun = answer_unless refuses (port_down_answer q.port (kept now).bridge) in
      Follows devs plan k now.site (QpDown k side queue) (down_made side queue (tests up side queue 0 1 false false (has_bit (side_of now.site.pair side).joined queue) ((reads now).index_word side queue)))
      (down_says side queue (of_begin begun) (closed_where_begun begun (port_unless refuses q (after_down q.port (kept now).bridge))))

  down_by : (side : Side) (queue : ℕ) (forgotten : Bool) → queue < (side_plan plan side).queues → has_link_forgotten now.site.pair.link side ≡ forgotten → (has_bit (side_of now.site.pair side).joined queue ≡ true → SizesFit plan)
      → Follows devs plan k now.site (QpDown k side queue) (qpdown_step (sizes_of plan side queue) (reads now) now.site.pair side queue) (down_with side queue (port_queue now side queue forgotten))
  down_by side queue true among forgot fits =
      subst (DownSeen side queue true (is_up now.site.pair.link.state)) (sym (joined_is now side queue))
      (subst (λ up. DownSeen side queue true up (has_bit (side_of now.site.pair side).joined queue)) (sym (not_up side forgot)) (refl, as_it_was now side queue true among forgot))
  down_by side queue false among fresh fits =
      subst (DownSeen side queue false (is_up now.site.pair.link.state)) (sym (joined_is now side queue))
      (down_read side queue (has_bit (side_of now.site.pair side).joined queue) (λ joined. same_word plan now.site now.pages now.spare side queue now.declared among (own_fits plan (fits joined) side))
      (down_core side queue _ _ _ (has_bit (side_of now.site.pair side).joined queue) _ _ (port_queue now side queue false) _ (port_with side queue GoesDown [] (lane_of now.site.pair side queue).told) (is_queue now side queue false among fresh)
      (λ joined. down_ok side queue among fresh (fits joined))
      (gates 0 (sizes_of plan side queue).most (head_in (sizes_of plan side queue) (lane_of now.site.pair side queue)) (seen_word now side queue) (lane_of now.site.pair side queue).told (port_queue now side queue false) (port_with side queue GoesDown [] (lane_of now.site.pair side queue).told)
      (is_up now.site.pair.link.state) (has_bit (side_of now.site.pair side).joined queue) (has_bit (side_of now.site.pair side).closed queue) false (is_lane_busy (lane_of now.site.pair side queue)) false (is_full side queue 1 (seen_word now side queue)))))

  pub qpdown_follows : (side : Side) (queue : ℕ) → queue < (side_plan plan side).queues → (has_bit (side_of now.site.pair side).joined queue ≡ true → SizesFit plan)
      → Follows devs plan k now.site (QpDown k side queue) (qpdown_step (sizes_of plan side queue) (reads now) now.site.pair side queue) (move_of devs (kept now) (QpDown k side queue))
  qpdown_follows side queue among fits =
      by_queue now side queue (λ (q : QueueState). Follows devs plan k now.site (QpDown k side queue) (qpdown_step (sizes_of plan side queue) (reads now) now.site.pair side queue) (down_with side queue q)) among
      (λ forgotten forgot. down_by side queue forgotten among forgot fits)

  -- A device's frame

  -- the part of its queue then, by the answer
  abbrev device_part : Side → ℕ → List ℕ → Answer → QueueState → QueueState → QueuePart
  device_part side queue frame (answer.OkNumber number) q after =
      record {
        queue = after;
        flow = record (part now side queue).flow { stopped = stopped_after_send (part now side queue).flow (free_answer after.port (kept now).bridge) };
        counters = count_accepted (part now side queue).counters (length frame);
        accepted = one_more (part now side queue).accepted now.site.pair.link.session;
        delivered = (part now side queue).delivered;
      }
  device_part side queue frame said q after = record (part_with now side queue q) { counters = count_refused (part now side queue).counters }

  device_part_is : (side : Side) (queue : ℕ) (frame : List ℕ) (said : Answer) (q : QueueState) → xbegun said (kept now).bridge (part_with now side queue q) frame ≡ device_part side queue frame said q (queue_after_begin q (kept now).bridge frame)
  device_part_is side queue frame (answer.OkNumber number) q = refl
  device_part_is side queue frame said q = refl

  device_refused : (side : Side) (queue : ℕ) (frame : List ℕ) (said : Answer) (q after : QueueState) → NotOk said → device_part side queue frame said q after ≡ record (part_with now side queue q) { counters = count_refused (part now side queue).counters }
  device_refused side queue frame (answer.OkNumber number) q after not_ok = absurd not_ok
  device_refused side queue frame said q after not_ok = refl

  abbrev sent_dev : Side → ℕ → ℕ → List ℕ → DevPart
  sent_dev side queue d frame =
      record {
        stopped = stopped_after_send (flow_of (dev_plan devs d) (dev_of now.site.pair side queue)) ((reads now).free side queue - needs side queue frame);
        counters = count_accepted (dev_of now.site.pair side queue).counters (length frame);
      }

  abbrev refused_dev : Side → ℕ → DevPart
  refused_dev side queue = record (dev_of now.site.pair side queue) { counters = count_refused (dev_of now.site.pair side queue).counters }

  abbrev device_made : Side → ℕ → ℕ → List ℕ → List Entry → Option Answer → Outcome
  device_made side queue d frame pieces refusal =
      decided (counts_refused now.site.pair side queue) refusal (answer.OkNumber (lane_of now.site.pair side queue).told)
      (counts_sent (dev_plan devs d) (counts_accepted (with_lane now.site.pair side queue (lane_begun queue (lane_of now.site.pair side queue) pieces)) side queue) side queue (length frame) ((reads now).free side queue - needs side queue frame))

  abbrev device_says : Side → ℕ → List ℕ → Answer → QueueState → QueueState → Move
  device_says side queue frame said q after = record { answer = said; after = with_queue (kept now) side queue (device_part side queue frame said q after) }

  refused : (side : Side) (queue : ℕ) (forgotten : Bool) → queue < (side_plan plan side).queues → has_link_forgotten now.site.pair.link side ≡ forgotten
      → PairStands devs plan k (record now.site { pair = counts_refused now.site.pair side queue }) (with_queue (kept now) side queue (record (part_with now side queue (port_queue now side queue forgotten)) { counters = count_refused (part now side queue).counters }))
  refused side queue forgotten among is =
      let h = (now.sides side).queues queue among in
      subst (λ (q : QueueState). PairStands devs plan k (record now.site { pair = counts_refused now.site.pair side queue }) (with_queue (kept now) side queue (record (part_with now side queue q) { counters = count_refused (part now side queue).counters })))
      (is_queue now side queue forgotten among is)
      (device_changes now side queue (part now side queue).flow.stopped (count_refused (part now side queue).counters) (refused_dev side queue) among h.stopped (ap count_refused h.counters) (λ forgot. (h.forgets forgot).goes_on) h.stops)

  abbrev stopped_then : Bool → ℕ → ℕ → Bool
  stopped_then stopped free stop = stopped || nat_lt free stop

  idle_waiting : (todo : List Label) (waiting : List Entry) → (not (is_empty_list todo) || not (is_empty_list waiting)) ≡ false → waiting ≡ []
  idle_waiting [] [] idle = refl
  idle_waiting [] (next ∷ waiting) idle = absurd (true≢false idle)
  idle_waiting (label ∷ todo) waiting idle = absurd (true≢false idle)

  module _ (d : ℕ) (dst : List ℕ) (kind : ℕ) (payload frame : List ℕ) where
    abbrev DeviceCore : Side → ℕ → List Entry → Option Answer → Answer → QueueState → QueueState → Type 0
    DeviceCore side queue pieces refusal said q after = Follows devs plan k now.site (Xbegin k side queue d dst kind payload) (device_made side queue d frame pieces refusal) (device_says side queue frame said q after)

    device_core : (side : Side) (queue : ℕ) (pieces : List Entry) (refusal : Option Answer) (said : Answer) (begun : BeginAnswer) (joined busy stopped full : Bool) (q after : QueueState) (new : PortState)
        → (joined ≡ true → busy ≡ false → full ≡ false → DeviceCore side queue pieces None (answer.OkNumber (lane_of now.site.pair side queue).told) q (with_port q new))
        → PairStands devs plan k (record now.site { pair = counts_refused now.site.pair side queue }) (with_queue (kept now) side queue (record (part_with now side queue q) { counters = count_refused (part now side queue).counters }))
        → Passes joined busy full said begun refusal (lane_of now.site.pair side queue).told q new after ⊎ Refuses stopped said begun refusal q after
        → DeviceCore side queue pieces refusal said q after
    device_core side queue pieces refusal said begun joined busy stopped full q after new ok refused (inl passes) =
        subst (λ refusal. DeviceCore side queue pieces refusal said q after) (sym passes.none)
        (subst (λ said. DeviceCore side queue pieces None said q after) (sym passes.said_is)
        (subst (DeviceCore side queue pieces None (answer.OkNumber (lane_of now.site.pair side queue).told) q) (sym passes.after_is) (ok passes.is_joined passes.not_busy passes.has_room)))
    device_core side queue pieces refusal said begun joined busy stopped full q after new ok refused (inr refuses) =
        subst (λ refusal. DeviceCore side queue pieces refusal said q after) (sym refuses.refusal_is)
        (refl, subst (λ (part : QueuePart). PairStands devs plan k (record now.site { pair = counts_refused now.site.pair side queue }) (with_queue (kept now) side queue part)) (sym (device_refused side queue frame said q after refuses.not_ok)) refused)

    abbrev DeviceAt : Side → ℕ → List Entry → Bool → Bool → ℕ → Type 0
    DeviceAt side queue pieces stopped joined index =
        DeviceCore side queue pieces (tests (is_up now.site.pair.link.state) side queue (length frame) (needs side queue frame) (is_long side queue frame) (dev_of now.site.pair side queue).stopped joined index)
        (of_xbegin stopped (answer_unless (side_refuses side queue joined) (says_frame side queue frame))) (port_queue now side queue false)
        (port_unless (side_refuses side queue joined) (port_queue now side queue false) (where_begun (port_queue now side queue false).port (port_new side queue pieces) (says_frame side queue frame)))

    device_read : (side : Side) (queue : ℕ) (pieces : List Entry) (stopped joined : Bool) → (joined ≡ true → seen_word now side queue ≡ (reads now).index_word side queue) → DeviceAt side queue pieces stopped joined (seen_word now side queue)
        → DeviceAt side queue pieces stopped joined ((reads now).index_word side queue)
    device_read side queue pieces stopped true same at_seen = subst (DeviceAt side queue pieces stopped true) (same refl) at_seen
    device_read side queue pieces stopped false same at_seen = at_seen

    abbrev device_with : Side → ℕ → Bool → QueueState → Move
    device_with side queue stopped q =
        device_says side queue frame (of_xbegin stopped (begin_answer q (kept now).bridge (length frame))) q (queue_after_begin q (kept now).bridge frame)

    abbrev frame_part : Side → ℕ → Entry → List Entry → QueuePart
    frame_part side queue first others =
        device_part side queue frame (answer.OkNumber (lane_of now.site.pair side queue).told) (port_queue now side queue false) (with_port (port_queue now side queue false) (port_new side queue (first ∷ others)))

    -- what is free then
    free_then : (side : Side) (queue : ℕ) (first : Entry) (others : List Entry) (told : ℕ) → queue < (side_plan plan side).queues → SizesFit plan → (lane_of now.site.pair side queue).waiting ≡ [] → length (first ∷ others) ≡ needs side queue frame → is_full side queue (needs side queue frame) (seen_word now side queue) ≡ false
        → free_answer (port_with side queue first others told) (kept now).bridge ≡ (reads now).free side queue - needs side queue frame
    free_then side queue first others told among fits none count room =
        ap (λ inside. if inside then free_in_memory (sizes_of plan side queue).entries (head_of (sizes_of plan side queue).entries (length (lane_of now.site.pair side queue).sent + 1 + length others)) (seen_word now side queue) else 0)
        (le-leb (own_index_word plan side queue + 4) (memory_size plan side) (word_inside plan now.site now.pages now.spare side queue now.declared among (own_fits plan fits side)))
        ∙ ap (λ n. free_in_memory (sizes_of plan side queue).entries (head_of (sizes_of plan side queue).entries n) (seen_word now side queue))
        (let z = ap length none in let same : length (lane_of now.site.pair side queue).sent + 1 + length others ≡ length (lane_of now.site.pair side queue).sent + length (lane_of now.site.pair side queue).waiting + needs side queue frame = omega (arith, z, count) in same)
        ∙ free_less (sizes_of plan side queue).entries (length (lane_of now.site.pair side queue).sent + length (lane_of now.site.pair side queue).waiting) (needs side queue frame) (seen_word now side queue) room (some_pieces (sizes_of plan side queue).largest (length frame))
        ∙ ap (λ index. free_in_memory (sizes_of plan side queue).entries (head_in (sizes_of plan side queue) (lane_of now.site.pair side queue)) index - needs side queue frame)
        (same_word plan now.site now.pages now.spare side queue now.declared among (own_fits plan fits side))

    device_ok : (side : Side) (queue : ℕ) (first : Entry) (others : List Entry) → queue < (side_plan plan side).queues → d < length devs → IsOn (dev_plan devs d) k side queue → has_link_forgotten now.site.pair.link side ≡ false → SizesFit plan → AllByRecursion (FitsSlot plan side queue) (first ∷ others)
        → length (first ∷ others) ≡ needs side queue frame → is_lane_busy (lane_of now.site.pair side queue) ≡ false → is_full side queue (needs side queue frame) (seen_word now side queue) ≡ false
        → DeviceCore side queue (first ∷ others) None (answer.OkNumber (lane_of now.site.pair side queue).told) (port_queue now side queue false) (with_port (port_queue now side queue false) (port_new side queue (first ∷ others)))
    device_ok side queue first others among declared on fresh fits all count idle room =
        let h = (now.sides side).queues queue among in
        let told = (lane_of now.site.pair side queue).told + 1 in (
          refl,
          sender_changes now side queue (first ∷ []) (frame_part side queue first others) among (none_closes now.site.pair.sides side (other_side side) queue) (changes now.site.pair.lanes side queue (lane_with side queue first others told))
              (changes now.site.pair.devs side queue (sent_dev side queue d frame)) (changes now.site.pair.tallies side queue (more_accepted side queue)) refl refl (none_delivered side queue)
              (begins side queue first others told (has_bit (side_of now.site.pair side).closed queue) (has_bit (side_of now.site.pair side).closed queue) (frame_part side queue first others).flow (frame_part side queue first others).counters
              (one_more (part now side queue).accepted now.site.pair.link.session) (sent_dev side queue d frame) (λ session. (more_accepted side queue session).accepted) among fresh fits all.0 all.1 refl
              (three_same stopped_then h.stopped (free_then side queue first others told among fits (idle_waiting (lane_of now.site.pair side queue).todo (lane_of now.site.pair side queue).waiting idle) count room) (h.limits d declared on).0)
              refl refl (ap (λ counters. count_accepted counters (length frame)) h.counters) (counts_one side queue among)),
        )

    device_fresh : (side : Side) (queue : ℕ) (pieces : List Entry) (joined : Bool) → queue < (side_plan plan side).queues → d < length devs → IsOn (dev_plan devs d) k side queue → has_link_forgotten now.site.pair.link side ≡ false → (joined ≡ true → SizesFit plan)
        → pieces_of (sizes_of plan side queue).largest frame ≡ pieces → AllByRecursion (FitsSlot plan side queue) pieces → DeviceAt side queue pieces (dev_of now.site.pair side queue).stopped joined (seen_word now side queue)
    device_fresh side queue [] joined among declared on fresh fits is all = absurd (is_some_piece (sizes_of plan side queue).largest frame is)
    device_fresh side queue (first ∷ others) joined among declared on fresh fits is all =
        device_core side queue (first ∷ others) _ _ _ joined _ (dev_of now.site.pair side queue).stopped _ (port_queue now side queue false) _ (port_new side queue (first ∷ others))
        (λ yes idle room. device_ok side queue first others among declared on fresh (fits yes) all (sym (ap length is) ∙ length-pieces (sizes_of plan side queue).largest frame) idle room)
        (refused side queue false among fresh)
        (gates (length frame) (sizes_of plan side queue).most (head_in (sizes_of plan side queue) (lane_of now.site.pair side queue)) (seen_word now side queue) (lane_of now.site.pair side queue).told (port_queue now side queue false) (port_new side queue (first ∷ others))
        (is_up now.site.pair.link.state) joined (has_bit (side_of now.site.pair side).closed queue) (is_long side queue frame) (is_lane_busy (lane_of now.site.pair side queue)) (dev_of now.site.pair side queue).stopped (is_full side queue (needs side queue frame) (seen_word now side queue)))

    abbrev DeviceSeen : Side → ℕ → Bool → Bool → Bool → Type 0
    DeviceSeen side queue forgotten up joined =
        let q = port_queue now side queue forgotten in
        let refuses = side_says up joined q.closed in
        Follows devs plan k now.site (Xbegin k side queue d dst kind payload)
        (device_made side queue d frame (pieces_of (sizes_of plan side queue).largest frame)
        (tests up side queue (length frame) (needs side queue frame) (is_long side queue frame) (dev_of now.site.pair side queue).stopped (has_bit (side_of now.site.pair side).joined queue) ((reads now).index_word side queue)))
        (device_says side queue frame (of_xbegin (dev_of now.site.pair side queue).stopped (answer_unless refuses (port_begin_answer q.port (kept now).bridge (length frame)))) q (port_unless refuses q (port_after_begin q.port (kept now).bridge frame)))

    device_by : (side : Side) (queue : ℕ) (forgotten : Bool) → queue < (side_plan plan side).queues → d < length devs → IsOn (dev_plan devs d) k side queue → has_link_forgotten now.site.pair.link side ≡ forgotten → (has_bit (side_of now.site.pair side).joined queue ≡ true → SizesFit plan)
        → Follows devs plan k now.site (Xbegin k side queue d dst kind payload)
        (device_made side queue d frame (pieces_of (sizes_of plan side queue).largest frame) (tests (is_up now.site.pair.link.state) side queue (length frame) (needs side queue frame) (is_long side queue frame) (dev_of now.site.pair side queue).stopped (has_bit (side_of now.site.pair side).joined queue) ((reads now).index_word side queue)))
        (device_with side queue (dev_of now.site.pair side queue).stopped (port_queue now side queue forgotten))
    device_by side queue true among declared on forgot fits =
        subst (DeviceSeen side queue true (is_up now.site.pair.link.state)) (sym (joined_is now side queue))
        (subst (λ up. DeviceSeen side queue true up (has_bit (side_of now.site.pair side).joined queue)) (sym (not_up side forgot)) (down (dev_of now.site.pair side queue).stopped))
      where
        down : (stopped : Bool) → Follows devs plan k now.site (Xbegin k side queue d dst kind payload) (device_made side queue d frame (pieces_of (sizes_of plan side queue).largest frame) (Some answer.LinkDown))
            (device_says side queue frame (of_xbegin stopped IsLinkDown) (port_queue now side queue true) (port_queue now side queue true))
        down true = (refl, refused side queue true among forgot)
        down false = (refl, refused side queue true among forgot)
    device_by side queue false among declared on fresh fits =
        subst (DeviceSeen side queue false (is_up now.site.pair.link.state)) (sym (joined_is now side queue))
        (device_read side queue (pieces_of (sizes_of plan side queue).largest frame) (dev_of now.site.pair side queue).stopped (has_bit (side_of now.site.pair side).joined queue)
        (λ joined. same_word plan now.site now.pages now.spare side queue now.declared among (own_fits plan (fits joined) side))
        (device_fresh side queue (pieces_of (sizes_of plan side queue).largest frame) (has_bit (side_of now.site.pair side).joined queue) among declared on fresh fits refl (pieces_fit (sizes_of plan side queue).largest frame)))

  pub xbegin_follows : (side : Side) (queue d : ℕ) (dst : List ℕ) (kind : ℕ) (payload : List ℕ) → queue < (side_plan plan side).queues → d < length devs → IsOn (dev_plan devs d) k side queue → (has_bit (side_of now.site.pair side).joined queue ≡ true → SizesFit plan)
      → Follows devs plan k now.site (Xbegin k side queue d dst kind payload) (xbegin_step (sizes_of plan side queue) (reads now) (dev_plan devs d) now.site.pair side queue dst kind payload) (move_of devs (kept now) (Xbegin k side queue d dst kind payload))
  xbegin_follows side queue d dst kind payload among declared on fits =
      subst (λ (new : QueuePart). Frames (record { answer = said; after = with_queue (kept now) side queue new })) (sym (device_part_is side queue frame said (part now side queue).queue))
      (by_queue now side queue (λ (q : QueueState). Frames (device_with d dst kind payload frame side queue (part now side queue).flow.stopped q)) among
      (λ forgotten forgot. subst (λ stopped. Frames (device_with d dst kind payload frame side queue stopped (port_queue now side queue forgotten))) (sym ((now.sides side).queues queue among).stopped)
      (device_by d dst kind payload frame side queue forgotten among declared on forgot fits)))
    where
      frame : List ℕ
      frame = ethernet_frame dst (dev_plan devs d).address kind payload

      said : Answer
      said = of_xbegin (part now side queue).flow.stopped (begin_answer (part now side queue).queue (kept now).bridge (length frame))

      Frames : Move → Type 0
      Frames move = Follows devs plan k now.site (Xbegin k side queue d dst kind payload) (xbegin_step (sizes_of plan side queue) (reads now) (dev_plan devs d) now.site.pair side queue dst kind payload) move
