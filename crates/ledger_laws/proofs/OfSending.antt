-- No step but those that send is refused as too long, busy, stopped or for want of room.
use Rattle.std.proofs.Common.{◌≡◌, ℕ, ◌==◌, Bool, true, false, not, Option, Some, None, List, length, map, refl}
use Rattle.std.specs.Prelude.{◌+◌, ◌++◌, if◌then◌else◌, nat_lt, slice_get}
use Rattle.std.proofs.lemmas.Bool.{cond_both, true≢false}
use Rattle.step_kinds.specs.Bits.{has_bit}
use Rattle.step_kinds.specs.declared.names.Side.{Side}
use Rattle.step_kinds.specs.declared.plan.DevPlan.{DevPlan}
use Rattle.step_kinds.specs.declared.plan.PairPlan.{PairPlan}
use Rattle.step_kinds.specs.declared.steps.Answer.{Answer}
use Rattle.step_kinds.specs.declared.steps.Answer.TheVariants.{Ok as Done, OkSession, LinkDown, Already, NotYet, NotReady, NotChecked, Version, Queues, Windows, Closed, TooLong, Busy, Stopped, Again, OutOfTurn, Joined, Offered, Up, Blocked, Landed, Cleared as ClearedFrame, Acked}
use Rattle.step_kinds.specs.declared.steps.Label.{Label}
use Rattle.step_kinds.specs.declared.steps.Label.TheVariants.{Index}
use Rattle.step_kinds.specs.declared.steps.Step.{Step}
use Rattle.step_kinds.specs.declared.steps.Step.TheVariants.{Enable, Train, Break, DropDone, Clean, Offer, Check, Ready, Join, Begin, QpDown, Xbegin, Post, Land, Look, Copy, Clear, Ack, Wake}
use Rattle.order_rules.specs.Order.{may_land}
use Rattle.lane_model.specs.Lane.{chunks_in}
use Rattle.pair_model.specs.Link.{enable_refusal, enabled_link, train_refusal, cut_refusal, drop_refusal, clean_refusal}
use Rattle.pair_model.specs.Orders.{order_of}
use Rattle.pair_model.specs.Pads.{links_pad, offers, pad_index, queues_pad, version_pad, windows_pad, first_larger, versions_differ}
use Rattle.pair_model.specs.Plans.{side_plan}
use Rattle.pair_model.specs.declared.LinkRefusal.{LinkRefusal}
use Rattle.pair_model.specs.declared.LinkRefusal.TheVariants.{NotDown, Dirty, NotEnabled, NotUp, NotClosing, SessionsSpent}
use Rattle.pair_model.specs.Headers.{Bytes}
use Rattle.ledger_model.specs.Handshake.{check_refusal, pad_in, refuse_larger}
use Rattle.ledger_model.specs.Ledger.{PairPart, side_of, lane_to, link_up, posts, with_side_part}
use Rattle.ledger_model.specs.LinkSteps.{answer_of_refusal, refusal_answer}
use Rattle.ledger_model.specs.Next.{read_next}
use Rattle.ledger_model.specs.Outcome.{Outcome, decided, refuse_if}
use Rattle.ledger_model.specs.Reading.{Reading}
use Rattle.ledger_model.specs.Receiving.{copy_of, is_cleared, is_copied, is_copying, is_idle, land_found, lands_on, look_at, look_refusal, taken_out}
use Rattle.ledger_model.specs.Sending.{posts_through}
use Rattle.ledger_laws.proofs.Outcomes.{Each, Nothing, Just, each_if, each_decided}
use Rattle.ledger_laws.proofs.RefusedInOrder.{found_is_none}
use Rattle.ledger_laws.proofs.walk.Cases.{acking, broken, cleaned, clearing, copied_entry, copied_last, copied_more, dropped, joining, next_offer, offering, post_cases, readied, ready_pad, trained}

-- the refusals that a side meets with what it sends, and no other
abbrev pub is_of_sending : Answer → Bool
is_of_sending (TooLong len most) = true
is_of_sending Busy = true
is_of_sending Stopped = true
is_of_sending (Again head tail) = true
is_of_sending answer = false

abbrev pub Not : Answer → Type 0
Not answer = is_of_sending answer ≡ false

not_if : (b : Bool) (refusal : Answer) (later : Option Answer) → Not refusal → Each Not later → Each Not (refuse_if b refusal later)
not_if b refusal later first rest = each_if Not b refusal later first rest

link_refusal : (refusal : LinkRefusal) → Not (refusal_answer refusal)
link_refusal NotDown = refl
link_refusal Dirty = refl
link_refusal NotEnabled = refl
link_refusal NotUp = refl
link_refusal NotClosing = refl
link_refusal SessionsSpent = refl

-- the steps that meet them
abbrev pub sends : Step → Bool
sends (Begin p side queue frame) = true
sends (QpDown p side queue) = true
sends (Xbegin p side queue dev dst kind payload) = true
sends (Wake p side queue dev) = true
sends step = false

module _ (devs : List DevPlan) (plan : PairPlan) (reading : Reading) (bytes : Bytes) (pair : PairPart) where
  abbrev Next : Step → Answer
  Next step = (read_next devs plan reading bytes pair step).answer

  link_not : (refusal : Option LinkRefusal) (made : Answer) (new : PairPart) → Not made → Not (decided pair (answer_of_refusal refusal) made new).answer
  link_not None made new none = none
  link_not (Some refusal) made new none = link_refusal refusal

  offer_not : (side : Side) → Not (Next (Offer 0 side))
  offer_not side =
      each_decided Not pair
      (refuse_if (not (link_up pair)) LinkDown (refuse_if ((side_of pair side).offered == length (offers (side_plan plan side))) Already None))
      (Offered (pad_index (next_offer plan pair side))) (posts (offering pair side) side (next_offer plan pair side))
      (not_if (not (link_up pair)) LinkDown _ refl (not_if ((side_of pair side).offered == length (offers (side_plan plan side))) Already None refl Nothing)) refl

  check_not : (side : Side) → Not (Next (Check 0 side))
  check_not side =
      each_decided Not pair (check_refusal (side_plan plan side) (side_of pair side) (link_up pair)) Up (with_side_part pair side (record (side_of pair side) { up = true }))
      (not_if (not (link_up pair)) LinkDown _ refl
      (not_if (side_of pair side).up Already _ refl
      (not_if (pad_in (side_of pair side) version_pad == 0) NotYet _ refl
      (not_if (versions_differ (pad_in (side_of pair side) version_pad) (side_plan plan side).version)
      (Version (pad_in (side_of pair side) version_pad) (side_plan plan side).version) _ refl
      (not_if (not (pad_in (side_of pair side) queues_pad == (side_plan plan side).queues)) (Queues (pad_in (side_of pair side) queues_pad) (side_plan plan side).queues) _ refl
      (not_if (not (pad_in (side_of pair side) windows_pad == (side_plan plan side).windows)) (Windows (pad_in (side_of pair side) windows_pad) (side_plan plan side).windows) _ refl
      (larger (first_larger (side_plan plan side) (side_of pair side).pads)))))))) refl
    where
      larger : (found : Option ℕ) → Each Not (refuse_larger (side_of pair side) (side_plan plan side).cap found None)
      larger None = Nothing
      larger (Some m) = Just refl

  ready_not : (side : Side) (queue : ℕ) → Not (Next (Ready 0 side queue))
  ready_not side queue =
      each_decided Not pair
      (refuse_if (not (link_up pair)) LinkDown (refuse_if (not (side_of pair side).up) NotChecked (refuse_if (has_bit (side_of pair side).ready queue) Already None)))
      Done (posts (readied pair side queue) side (ready_pad pair side queue))
      (not_if _ LinkDown _ refl (not_if _ NotChecked _ refl (not_if _ Already None refl Nothing))) refl

  join_not : (side : Side) (queue : ℕ) → Not (Next (Join 0 side queue))
  join_not side queue =
      each_decided Not pair
      (refuse_if (not (link_up pair)) LinkDown
      (refuse_if (not (has_bit (side_of pair side).ready queue)) NotReady
      (refuse_if (has_bit (side_of pair side).joined queue) Already
      (refuse_if (not (has_bit (pad_in (side_of pair side) links_pad) queue)) NotYet None))))
      Joined (joining pair side queue)
      (not_if (not (link_up pair)) LinkDown _ refl
      (not_if (not (has_bit (side_of pair side).ready queue)) NotReady _ refl
      (not_if (has_bit (side_of pair side).joined queue) Already _ refl
      (not_if (not (has_bit (pad_in (side_of pair side) links_pad) queue)) NotYet None refl Nothing)))) refl

  look_not : (side : Side) (queue : ℕ) → Not (Next (Look 0 side queue))
  look_not side queue =
      each_decided Not pair (look_refusal pair side queue) (look_at pair side queue (reading.found side queue)).answer (look_at pair side queue (reading.found side queue)).after
      (not_if (not (has_bit (side_of pair side).joined queue)) NotReady _ refl
      (not_if (has_bit (side_of pair side).closed queue) Closed _ refl
      (not_if (not (is_idle (lane_to pair side queue).phase)) OutOfTurn None refl Nothing)))
      (found_is_none is_of_sending refl refl (λ seen own. refl) (λ len most. refl) (λ number len. refl) pair side queue (reading.found side queue))

  land_not : (side : Side) (place : ℕ) → Not (Next (Land 0 side place))
  land_not side place = go (slice_get (side_of pair side).flight place)
    where
      go : (found : Option Label) → Not (land_found plan pair side place found).answer
      go None = refl
      go (Some label) =
          each_decided Not pair (refuse_if (not (may_land (map (order_of plan side) (side_of pair side).flight) place)) Blocked None) (Landed label)
          (lands_on (taken_out pair side place label) side label) (not_if _ Blocked None refl Nothing) refl

  copy_not : (side : Side) (queue : ℕ) → Not (Next (Copy 0 side queue))
  copy_not side queue =
      let lane = lane_to pair side queue in
      let copied = copy_of pair side queue lane (lane.gathered ++ reading.part side queue) in
      each_decided Not pair (refuse_if (not (is_copying lane.phase)) OutOfTurn None) copied.answer copied.after (not_if _ OutOfTurn None refl Nothing)
      (cond_both (nat_lt (lane.part + 1) (chunks_in lane.len)) (copied_more pair side queue lane (lane.gathered ++ reading.part side queue))
      (if nat_lt 0 lane.left then copied_entry pair side queue lane (lane.gathered ++ reading.part side queue) else copied_last pair side queue lane (lane.gathered ++ reading.part side queue))
      (λ (o : Outcome). Not o.answer) (λ _. refl)
      (λ _. cond_both (nat_lt 0 lane.left) (copied_entry pair side queue lane (lane.gathered ++ reading.part side queue)) (copied_last pair side queue lane (lane.gathered ++ reading.part side queue))
      (λ (o : Outcome). Not o.answer) (λ _. refl) (λ _. refl)))

  turn_not : (b : Bool) (made : Answer) (new : PairPart) → Not made → Not (decided pair (refuse_if b OutOfTurn None) made new).answer
  turn_not b made new none = each_decided Not pair (refuse_if b OutOfTurn None) made new (not_if b OutOfTurn None refl Nothing) none

  post_not : (side : Side) (queue : ℕ) → Not (Next (Post 0 side queue))
  post_not side queue = post_cases reading (λ o. Not o.answer) pair side queue refl (λ label rest e. refl) (λ entry others label rest idle waits e. refl)

  pub others_not : (step : Step) → sends step ≡ false → Not (Next step)
  others_not (Enable p side) e = link_not (enable_refusal pair.link side) Done (record pair { link = enabled_link pair.link side }) refl
  others_not (Train p) e = link_not (train_refusal pair.link) (OkSession (pair.link.session + 1)) (trained pair) refl
  others_not (Break p) e = link_not (cut_refusal pair.link) Done (broken pair) refl
  others_not (DropDone p) e = link_not (drop_refusal pair.link) Done (dropped pair) refl
  others_not (Clean p side) e = link_not (clean_refusal pair.link) Done (cleaned pair side) refl
  others_not (Offer p side) e = offer_not side
  others_not (Check p side) e = check_not side
  others_not (Ready p side queue) e = ready_not side queue
  others_not (Join p side queue) e = join_not side queue
  others_not (Begin p side queue frame) e = absurd (true≢false e)
  others_not (QpDown p side queue) e = absurd (true≢false e)
  others_not (Xbegin p side queue dev dst kind payload) e = absurd (true≢false e)
  others_not (Post p side queue) e = post_not side queue
  others_not (Land p side place) e = land_not side place
  others_not (Look p side queue) e = look_not side queue
  others_not (Copy p side queue) e = copy_not side queue
  others_not (Clear p side queue) e = turn_not (not (is_copied (lane_to pair side queue).phase)) (ClearedFrame (lane_to pair side queue).cleared) (clearing pair side queue) refl
  others_not (Ack p side queue) e =
      turn_not (not (is_cleared (lane_to pair side queue).phase)) (Acked (lane_to pair side queue).acked) (posts_through reading (acking pair side queue) side (Index queue (lane_to pair side queue).acked)) refl
  others_not (Wake p side queue dev) e = absurd (true≢false e)
  others_not step e = refl
