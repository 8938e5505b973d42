-- Each step's cases: it is refused and changes nothing, or it passed its tests and has its effect.
use Rattle.std.proofs.Common.{◌≡◌, ℕ, ◌+◌, ◌==◌, ◌≤◌, ◌||◌, arith, Bool, true, false, not, Option, Some, None, List, [], ◌∷◌, refl, sym, subst}
use Rattle.std.specs.Prelude.{◌-◌, ◌++◌, if◌then◌else◌, nat_lt, length, map, slice_get, slice_index_or}
use Rattle.std.proofs.lemmas.Bool.{true≢false, not-false, cond_both, ltb-false}
use Rattle.step_kinds.specs.Bits.{has_bit, with_bit}
use Rattle.step_kinds.specs.Sides.{other_side}
use Rattle.step_kinds.specs.declared.names.Side.{Side}
use Rattle.step_kinds.specs.declared.plan.DevPlan.{DevPlan}
use Rattle.step_kinds.specs.declared.plan.PairPlan.{PairPlan}
use Rattle.step_kinds.specs.declared.plan.SidePlan.{SidePlan}
use Rattle.step_kinds.specs.declared.steps.Label.{Label}
use Rattle.step_kinds.specs.declared.steps.Label.TheVariants.{Index, Pad}
use Rattle.step_kinds.specs.declared.steps.Answer.{Answer}
use Rattle.step_kinds.specs.declared.steps.Answer.TheVariants.{Ok as Done, OkSession, OkNumber, LinkDown, Already, Offered, NotYet, Version, Queues, Windows, Up, NotChecked, NotReady, Joined, Closed, TooLong, Busy, Stopped, Again, Idle, Posted, Nothing as NothingThere, Blocked, Landed, OutOfTurn, Empty, PeerDown, ReadyFrame, Copied as CopiedPart, Delivered, Cleared as ClearedFrame, Acked, Awake, Irq, Mem, PadValue, QueueShown, VerDiffers, Long}
use Rattle.lane_model.specs.Lane.{Entry, GoesDown, chunks_in}
use Rattle.lane_model.specs.declared.Phase.TheVariants.{Copying, Copied, Cleared, Idle as IsIdle}
use Rattle.pair_model.specs.Both.{both_of, with_side, at_side}
use Rattle.ledger_model.specs.Handshake.{pad_in, refuse_larger, refuse_differing, check_refusal, offer_step, check_step, ready_step, join_step}
use Rattle.pair_model.specs.Pads.{offers, pad_index, first_larger, versions_differ, links_pad, queues_pad, version_pad, windows_pad}
use Rattle.pair_model.specs.Plans.{side_plan}
use Rattle.pair_model.specs.Sizes.{Sizes, pieces_in}
use Rattle.pair_model.specs.Ethernet.{ethernet_frame}
use Rattle.pair_model.specs.Headers.{Found, NoEntry, ALinkDownEntry, AnotherVersion, TooManyBytes, AnEntry}
use Rattle.ledger_model.specs.Labels.{labels_of}
use Rattle.ledger_model.specs.Reading.{Reading}
use Rattle.order_rules.specs.Order.{may_land}
use Rattle.pair_model.specs.Orders.{order_of}
use Rattle.ledger_laws.specs.Laws.{is_link_down}
use Rattle.ledger_model.specs.Ledger.{PairPart, LanePart, SidePart, side_of, lane_of, lane_to, dev_of, link_up, posts, with_lane, with_dev, with_side_part, head_in}
use Rattle.pair_model.specs.Link.{enable_refusal, enabled_link, train_refusal, trained_link, cut_refusal, cut_link, drop_refusal, dropped_link, clean_refusal, cleaned_link}
use Rattle.ledger_model.specs.LinkSteps.{answer_of_refusal, enable_step, train_step, break_step, drop_step, clean_step, fresh_lane, emptied_side, cleaned_side, forgotten_lanes, started_dev}
use Rattle.ledger_model.specs.Outcome.{Outcome, decided, refuse_if}
use Rattle.ledger_model.specs.Receiving.{lands_on, taken_out, land_found, land_step, closes, look_at, look_step, copy_of, copy_step, clear_step, ack_step, is_idle, is_copying, is_copied, is_cleared, counts_delivered}
use Rattle.ledger_model.specs.Sending.{is_empty_list, is_busy, refuse_sender, refuse_long, refuse_busy, refuse_full, begin_refusal, xbegin_refusal, begun, begun_lane, with_next, begin_step, qpdown_step, xbegin_step, counts_refused, counts_sent, posts_through, post_first, post_step, wake_step, flow_of}
use Rattle.pair_model.specs.Device.{stays_stopped}
use Rattle.pair_model.specs.declared.LinkRefusal.{LinkRefusal}
use Rattle.pair_model.specs.declared.LinkRefusal.TheVariants.{NotDown}
use Rattle.ledger_laws.proofs.Outcomes.{Each, Nothing, Just, each_if, decided_cases, passed}

-- the answers to a step that was refused
abbrev pub refuses : Answer → Bool
refuses Done = false
refuses (OkSession session) = false
refuses (OkNumber number) = false
refuses (Offered index) = false
refuses Up = false
refuses Joined = false
refuses (Posted label) = false
refuses (Landed label) = false
refuses PeerDown = false
refuses (VerDiffers seen own) = false
refuses (Long len most) = false
refuses (ReadyFrame number len) = false
refuses (CopiedPart number part) = false
refuses (Delivered number frame) = false
refuses (ClearedFrame number) = false
refuses (Acked number) = false
refuses Awake = false
refuses (Irq bits) = false
refuses (Mem bytes) = false
refuses (PadValue value) = false
refuses (QueueShown count label) = false
refuses answer = true

-- a refusal, and whether it is `linkdown`
pub record Refused (b : Bool) (r : Answer) : Type 0 where
  pub is : refuses r ≡ true
  pub link : is_link_down r ≡ b

-- a step that needs the link tests it first
down_each : (up : Bool) (later : Option Answer) → Each (Refused false) later → Each (Refused (not up)) (refuse_if (not up) LinkDown later)
down_each false later rest = Just (record { is = refl; link = refl })
down_each true later rest = rest

-- a later test
no : {later : Option Answer} (b : Bool) (r : Answer) → refuses r ≡ true → is_link_down r ≡ false → Each (Refused false) later → Each (Refused false) (refuse_if b r later)
no b r e d rest = each_if (Refused false) b r _ (record { is = e; link = d }) rest

-- the steps of the link
link_cases : (P : Outcome → Type 0) (old : PairPart) (refusal : Option LinkRefusal) (answer : Answer) (new : PairPart)
    → ((r : Answer) → Refused false r → P (record { answer = r; after = old }))
    → (refusal ≡ None → P (record { answer = answer; after = new }))
    → P (decided old (answer_of_refusal refusal) answer new)
link_cases P old None answer new refused made = made refl
link_cases P old (Some NotDown) answer new refused made = refused _ (record { is = refl; link = refl })
link_cases P old (Some refusal) answer new refused made = refused _ (record { is = refl; link = refl })

-- An enable is refused and leaves its pair as it was, or passes its tests and has its side enabled.
pub enable_cases : (P : Outcome → Type 0) (pair : PairPart) (side : Side)
    → ((r : Answer) → Refused false r → P (record { answer = r; after = pair }))
    → (enable_refusal pair.link side ≡ None → P (record { answer = Done; after = record pair { link = enabled_link pair.link side } }))
    → P (enable_step pair side)
enable_cases P pair side refused made = link_cases P pair (enable_refusal pair.link side) Done (record pair { link = enabled_link pair.link side }) refused made

abbrev pub trained : PairPart → PairPart
trained pair = record pair { link = trained_link pair.link; lanes = both_of (λ queue. fresh_lane) }

-- A train is refused and leaves its pair as it was, or passes its tests and begins the next session with fresh lanes.
pub train_cases : (P : Outcome → Type 0) (pair : PairPart)
    → ((r : Answer) → Refused false r → P (record { answer = r; after = pair }))
    → (train_refusal pair.link ≡ None → P (record { answer = OkSession (pair.link.session + 1); after = trained pair }))
    → P (train_step pair)
train_cases P pair refused made = link_cases P pair (train_refusal pair.link) (OkSession (pair.link.session + 1)) (trained pair) refused made

abbrev pub broken : PairPart → PairPart
broken pair = record pair { link = cut_link pair.link }

-- A break is refused and leaves its pair as it was, or passes its test and has the link closing.
pub break_cases : (P : Outcome → Type 0) (pair : PairPart)
    → ((r : Answer) → Refused false r → P (record { answer = r; after = pair }))
    → (cut_refusal pair.link ≡ None → P (record { answer = Done; after = broken pair }))
    → P (break_step pair)
break_cases P pair refused made = link_cases P pair (cut_refusal pair.link) Done (broken pair) refused made

abbrev pub dropped : PairPart → PairPart
dropped pair = record pair { link = dropped_link pair.link; sides = record { a = emptied_side pair.sides.a; b = emptied_side pair.sides.b } }

-- A drop is refused and leaves its pair as it was, or passes its test and leaves the link down, nothing in flight.
pub drop_cases : (P : Outcome → Type 0) (pair : PairPart)
    → ((r : Answer) → Refused false r → P (record { answer = r; after = pair }))
    → (drop_refusal pair.link ≡ None → P (record { answer = Done; after = dropped pair }))
    → P (drop_step pair)
drop_cases P pair refused made = link_cases P pair (drop_refusal pair.link) Done (dropped pair) refused made

abbrev pub cleaned : PairPart → Side → PairPart
cleaned pair side = record pair {
  link = cleaned_link pair.link side;
  sides = with_side pair.sides side (cleaned_side (side_of pair side));
  lanes = forgotten_lanes pair.lanes side;
  devs = with_side pair.devs side (λ queue. started_dev (at_side pair.devs side queue));
}

-- A clean is refused and leaves its pair as it was, or passes its test and has its side forget the session.
pub clean_cases : (P : Outcome → Type 0) (pair : PairPart) (side : Side)
    → ((r : Answer) → Refused false r → P (record { answer = r; after = pair }))
    → (clean_refusal pair.link ≡ None → P (record { answer = Done; after = cleaned pair side }))
    → P (clean_step pair side)
clean_cases P pair side refused made = link_cases P pair (clean_refusal pair.link) Done (cleaned pair side) refused made

-- the handshake
abbrev pub next_offer : PairPlan → PairPart → Side → Label
next_offer plan pair side = slice_index_or (offers (side_plan plan side)) (side_of pair side).offered (Pad 0 0)

abbrev pub offering : PairPart → Side → PairPart
offering pair side = with_side_part pair side (record (side_of pair side) { offered = (side_of pair side).offered + 1 })

-- An offer is refused and leaves its pair as it was, or finds the link up and posts the side's next number.
pub offer_cases : (P : Outcome → Type 0) (plan : PairPlan) (pair : PairPart) (side : Side)
    → ((r : Answer) → Refused (not (link_up pair)) r → P (record { answer = r; after = pair }))
    → (link_up pair ≡ true → ((side_of pair side).offered == length (offers (side_plan plan side))) ≡ false
    → P (record { answer = Offered (pad_index (next_offer plan pair side)); after = posts (offering pair side) side (next_offer plan pair side) }))
    → P (offer_step plan pair side)
offer_cases P plan pair side refused made =
    decided_cases P (Refused (not (link_up pair))) pair
    (refuse_if (not (link_up pair)) LinkDown (refuse_if ((side_of pair side).offered == length (offers (side_plan plan side))) Already None))
    (Offered (pad_index (next_offer plan pair side))) (posts (offering pair side) side (next_offer plan pair side))
    (down_each (link_up pair) _ (no ((side_of pair side).offered == length (offers (side_plan plan side))) Already refl refl Nothing))
    refused
    (λ none.
    let a = passed _ _ _ none in
    let b = passed _ _ _ a.1 in
    made (not-false _ a.0) b.0)

differing_each : (seen own : ℕ) (refusal : ℕ → ℕ → Answer) (later : Option Answer) → Refused false (refusal seen own) → Each (Refused false) later → Each (Refused false) (refuse_differing seen own refusal later)
differing_each seen own refusal later first rest = each_if (Refused false) (not (seen == own)) (refusal seen own) later first rest

larger_each : (part : SidePart) (cap : ℕ) (found : Option ℕ) → Each (Refused false) (refuse_larger part cap found None)
larger_each part cap None = Nothing
larger_each part cap (Some m) = Just (record { is = refl; link = refl })

check_each : (own : SidePlan) (part : SidePart) (up : Bool) → Each (Refused (not up)) (check_refusal own part up)
check_each own part up =
    down_each up _
    (no part.up Already refl refl
    (no (pad_in part version_pad == 0) NotYet refl refl
    (no (versions_differ (pad_in part version_pad) own.version) (Version (pad_in part version_pad) own.version) refl refl
    (differing_each (pad_in part queues_pad) own.queues Queues _ (record { is = refl; link = refl })
    (differing_each (pad_in part windows_pad) own.windows Windows _ (record { is = refl; link = refl })
    (larger_each part own.cap (first_larger own part.pads)))))))

-- A check is refused and leaves its pair as it was, or passes its tests and has its side up.
pub check_cases : (P : Outcome → Type 0) (plan : PairPlan) (pair : PairPart) (side : Side)
    → ((r : Answer) → Refused (not (link_up pair)) r → P (record { answer = r; after = pair }))
    → (check_refusal (side_plan plan side) (side_of pair side) (link_up pair) ≡ None
    → P (record { answer = Up; after = with_side_part pair side (record (side_of pair side) { up = true }) }))
    → P (check_step plan pair side)
check_cases P plan pair side refused made =
    decided_cases P (Refused (not (link_up pair))) pair (check_refusal (side_plan plan side) (side_of pair side) (link_up pair)) Up
    (with_side_part pair side (record (side_of pair side) { up = true }))
    (check_each (side_plan plan side) (side_of pair side) (link_up pair)) refused made

abbrev pub readied : PairPart → Side → ℕ → PairPart
readied pair side queue = with_side_part pair side (record (side_of pair side) { ready = with_bit (side_of pair side).ready queue })

abbrev pub ready_pad : PairPart → Side → ℕ → Label
ready_pad pair side queue = Pad links_pad (with_bit (side_of pair side).ready queue)

-- A ready is refused and leaves its pair as it was, or finds link and side up and posts the queues that are ready.
pub ready_cases : (P : Outcome → Type 0) (pair : PairPart) (side : Side) (queue : ℕ)
    → ((r : Answer) → Refused (not (link_up pair)) r → P (record { answer = r; after = pair }))
    → (link_up pair ≡ true → (side_of pair side).up ≡ true → P (record { answer = Done; after = posts (readied pair side queue) side (ready_pad pair side queue) }))
    → P (ready_step pair side queue)
ready_cases P pair side queue refused made =
    decided_cases P (Refused (not (link_up pair))) pair
    (refuse_if (not (link_up pair)) LinkDown (refuse_if (not (side_of pair side).up) NotChecked (refuse_if (has_bit (side_of pair side).ready queue) Already None)))
    Done (posts (readied pair side queue) side (ready_pad pair side queue))
    (down_each (link_up pair) _
    (no (not (side_of pair side).up) NotChecked refl refl (no (has_bit (side_of pair side).ready queue) Already refl refl Nothing)))
    refused (λ none. let a = passed _ _ _ none in let b = passed _ _ _ a.1 in made (not-false _ a.0) (not-false _ b.0))

abbrev pub joining : PairPart → Side → ℕ → PairPart
joining pair side queue = with_side_part pair side (record (side_of pair side) { joined = with_bit (side_of pair side).joined queue })

-- A join is refused and leaves its pair as it was, or finds the queue ready on both sides and has it joined.
pub join_cases : (P : Outcome → Type 0) (pair : PairPart) (side : Side) (queue : ℕ)
    → ((r : Answer) → Refused (not (link_up pair)) r → P (record { answer = r; after = pair }))
    → (link_up pair ≡ true → has_bit (side_of pair side).ready queue ≡ true → has_bit (pad_in (side_of pair side) links_pad) queue ≡ true
    → P (record { answer = Joined; after = joining pair side queue }))
    → P (join_step pair side queue)
join_cases P pair side queue refused made =
    decided_cases P (Refused (not (link_up pair))) pair
    (refuse_if (not (link_up pair)) LinkDown
    (refuse_if (not (has_bit (side_of pair side).ready queue)) NotReady
    (refuse_if (has_bit (side_of pair side).joined queue) Already
    (refuse_if (not (has_bit (pad_in (side_of pair side) links_pad) queue)) NotYet None))))
    Joined (joining pair side queue)
    (down_each (link_up pair) _
    (no (not (has_bit (side_of pair side).ready queue)) NotReady refl refl
    (no (has_bit (side_of pair side).joined queue) Already refl refl
    (no (not (has_bit (pad_in (side_of pair side) links_pad) queue)) NotYet refl refl Nothing))))
    refused
    (λ none.
    let a = passed _ _ _ none in
    let b = passed _ _ _ a.1 in
    let c = passed _ _ _ b.1 in
    let d = passed _ _ _ c.1 in
    made (not-false _ a.0) (not-false _ b.0) (not-false _ d.0))

-- Sending

-- what a side that begins a frame of this many bytes, which needs this many entries, has passed
pub record MaySend (reading : Reading) (sizes : Sizes) (pair : PairPart) (side : Side) (queue len needed : ℕ) : Type 0 where
  pub up : link_up pair ≡ true
  pub joined : has_bit (side_of pair side).joined queue ≡ true
  pub not_closed : has_bit (side_of pair side).closed queue ≡ false
  pub not_busy : (lane_of pair side queue).todo ≡ []
  pub none_waiting : (lane_of pair side queue).waiting ≡ []
  pub room : needed ≤ reading.free side queue
  pub fits : len ≤ sizes.most

-- A list that fails the test of not being empty is empty.
pub empty_is : {X : Type 0} (xs : List X) → not (is_empty_list xs) ≡ false → xs ≡ []
empty_is [] e = refl
empty_is (x ∷ xs) e = absurd (true≢false e)

-- If it is false that one of two tests passes, neither does.
pub neither : (a b : Bool) → (a || b) ≡ false → (a ≡ false) × (b ≡ false)
neither true b e = absurd (true≢false e)
neither false b e = (refl, e)

full_each : (sizes : Sizes) (reading : Reading) (lane : LanePart) (side : Side) (queue needed : ℕ) → Each (Refused false) (refuse_full sizes reading lane side queue needed None)
full_each sizes reading lane side queue needed =
    no (nat_lt (reading.free side queue) needed) (Again (head_in sizes lane) (reading.index_word side queue)) refl refl Nothing

busy_each : (lane : LanePart) (later : Option Answer) → Each (Refused false) later → Each (Refused false) (refuse_busy lane later)
busy_each lane later rest = no (is_busy lane) Busy refl refl rest

long_each : (len most : ℕ) (later : Option Answer) → Each (Refused false) later → Each (Refused false) (refuse_long len most later)
long_each len most later rest = no (nat_lt most len) (TooLong len most) refl refl rest

sender_each : (pair : PairPart) (side : Side) (queue : ℕ) (later : Option Answer) → Each (Refused false) later → Each (Refused (not (link_up pair))) (refuse_sender pair side queue later)
sender_each pair side queue later rest =
    down_each (link_up pair) _ (no (not (has_bit (side_of pair side).joined queue)) NotReady refl refl (no (has_bit (side_of pair side).closed queue) Closed refl refl rest))

-- what is passed before the entry is looked at
record MaySendAny (pair : PairPart) (side : Side) (queue : ℕ) : Type 0 where
  up : link_up pair ≡ true
  joined : has_bit (side_of pair side).joined queue ≡ true
  not_closed : has_bit (side_of pair side).closed queue ≡ false

sender_passed : (pair : PairPart) (side : Side) (queue : ℕ) (later : Option Answer) → refuse_sender pair side queue later ≡ None → MaySendAny pair side queue × (later ≡ None)
sender_passed pair side queue later none =
    let a = passed _ _ _ none in
    let b = passed _ _ _ a.1 in
    let c = passed _ _ _ b.1 in
    (record { up = not-false _ a.0; joined = not-false _ b.0; not_closed = c.0 }, c.1)

-- what is passed with it: the lane's sender is idle, and there is room, as what is passed later says
may_send : (reading : Reading) (sizes : Sizes) (pair : PairPart) (side : Side) (queue len needed : ℕ) (later : Option Answer) → MaySendAny pair side queue
    → refuse_busy (lane_of pair side queue) later ≡ None → (later ≡ None → nat_lt (reading.free side queue) needed ≡ false) → len ≤ sizes.most
    → MaySend reading sizes pair side queue len needed
may_send reading sizes pair side queue len needed later any none room fits =
    let a = passed _ _ _ none in
    let idle = neither _ _ a.0 in
    record {
      up = any.up;
      joined = any.joined;
      not_closed = any.not_closed;
      not_busy = empty_is _ idle.0;
      none_waiting = empty_is _ idle.1;
      room = ltb-false (reading.free side queue) needed (room a.1);
      fits = fits;
    }

-- and a frame isn't too long
may_send_frame : (reading : Reading) (sizes : Sizes) (pair : PairPart) (side : Side) (queue len needed : ℕ) (later : Option Answer)
    → refuse_sender pair side queue (refuse_long len sizes.most (refuse_busy (lane_of pair side queue) later)) ≡ None
    → (later ≡ None → nat_lt (reading.free side queue) needed ≡ false) → MaySend reading sizes pair side queue len needed
may_send_frame reading sizes pair side queue len needed later none room =
    let a = sender_passed pair side queue _ none in
    let b = passed _ _ _ a.1 in
    may_send reading sizes pair side queue len needed later a.0 b.1 room (ltb-false sizes.most len b.0)

abbrev pub closing : PairPart → Side → ℕ → PairPart
closing pair side queue =
    with_side_part (with_lane pair side queue (begun_lane queue (lane_of pair side queue) (GoesDown ∷ []))) side
    (record (side_of pair side) { closed = with_bit (side_of pair side).closed queue })

-- the entries that a frame needs
abbrev pub needs : Sizes → ℕ → ℕ
needs sizes len = pieces_in sizes.largest len

module _ (reading : Reading) where
  pub begin_cases : (P : Outcome → Type 0) (sizes : Sizes) (pair : PairPart) (side : Side) (queue : ℕ) (bytes : List ℕ)
      → ((r : Answer) → Refused (not (link_up pair)) r → P (record { answer = r; after = pair }))
      → (MaySend reading sizes pair side queue (length bytes) (needs sizes (length bytes)) → P (record { answer = OkNumber (lane_of pair side queue).told; after = begun sizes pair side queue bytes }))
      → P (begin_step sizes reading pair side queue bytes)
  begin_cases P sizes pair side queue bytes refused made =
      decided_cases P (Refused (not (link_up pair))) pair (begin_refusal sizes reading pair side queue (length bytes)) (OkNumber (lane_of pair side queue).told) (begun sizes pair side queue bytes)
      (sender_each pair side queue _
      (long_each (length bytes) sizes.most _ (busy_each (lane_of pair side queue) _ (full_each sizes reading (lane_of pair side queue) side queue (needs sizes (length bytes))))))
      refused
      (λ none. made (may_send_frame reading sizes pair side queue (length bytes) (needs sizes (length bytes)) _ none (λ full. (passed _ _ _ full).0)))

  pub qpdown_cases : (P : Outcome → Type 0) (sizes : Sizes) (pair : PairPart) (side : Side) (queue : ℕ)
      → ((r : Answer) → Refused (not (link_up pair)) r → P (record { answer = r; after = pair }))
      → (MaySend reading sizes pair side queue 0 1 → P (record { answer = OkNumber (lane_of pair side queue).told; after = closing pair side queue }))
      → P (qpdown_step sizes reading pair side queue)
  qpdown_cases P sizes pair side queue refused made =
      decided_cases P (Refused (not (link_up pair))) pair
      (refuse_sender pair side queue (refuse_busy (lane_of pair side queue) (refuse_full sizes reading (lane_of pair side queue) side queue 1 None)))
      (OkNumber (lane_of pair side queue).told) (closing pair side queue)
      (sender_each pair side queue _ (busy_each (lane_of pair side queue) _ (full_each sizes reading (lane_of pair side queue) side queue 1)))
      refused
      (λ none.
      let a = sender_passed pair side queue _ none in
      made (may_send reading sizes pair side queue 0 1 _ a.0 a.1 (λ full. (passed _ _ _ full).0) (omega arith)))

  -- a device counts a frame that was accepted
  abbrev pub sent_frame : Sizes → DevPlan → PairPart → Side → ℕ → List ℕ → PairPart
  sent_frame sizes plan pair side queue frame =
      counts_sent plan (begun sizes pair side queue frame) side queue (length frame) (reading.free side queue - needs sizes (length frame))

  -- a device's frame, which passes one test more: the device isn't stopped
  pub device_cases : (P : Outcome → Type 0) (sizes : Sizes) (plan : DevPlan) (pair : PairPart) (side : Side) (queue : ℕ) (dst : List ℕ) (kind : ℕ) (payload : List ℕ)
      → ((r : Answer) → Refused (not (link_up pair)) r → P (record { answer = r; after = counts_refused pair side queue }))
      → ((dev_of pair side queue).stopped ≡ false
      → MaySend reading sizes pair side queue (length (ethernet_frame dst plan.address kind payload)) (needs sizes (length (ethernet_frame dst plan.address kind payload)))
      → P (record { answer = OkNumber (lane_of pair side queue).told; after = sent_frame sizes plan pair side queue (ethernet_frame dst plan.address kind payload) }))
      → P (xbegin_step sizes reading plan pair side queue dst kind payload)
  device_cases P sizes plan pair side queue dst kind payload refused made =
      decided_cases P (Refused (not (link_up pair))) (counts_refused pair side queue)
      (xbegin_refusal sizes reading pair (dev_of pair side queue) side queue len)
      (OkNumber (lane_of pair side queue).told) (sent_frame sizes plan pair side queue (ethernet_frame dst plan.address kind payload))
      (sender_each pair side queue _ (long_each len sizes.most _
      (busy_each (lane_of pair side queue) _
      (no (dev_of pair side queue).stopped Stopped refl refl (full_each sizes reading (lane_of pair side queue) side queue (needs sizes len))))))
      refused
      (λ none.
      let full = refuse_full sizes reading (lane_of pair side queue) side queue (needs sizes len) None in
      let idle = refuse_if (dev_of pair side queue).stopped Stopped full in
      let a = sender_passed pair side queue (refuse_long len sizes.most (refuse_busy (lane_of pair side queue) idle)) none in
      let b = passed (nat_lt sizes.most len) (TooLong len sizes.most) (refuse_busy (lane_of pair side queue) idle) a.1 in
      let c = passed (is_busy (lane_of pair side queue)) Busy idle b.1 in
      let d = passed (dev_of pair side queue).stopped Stopped full c.1 in
      made d.0 (may_send_frame reading sizes pair side queue len (needs sizes len) _ none (λ stopped. (passed _ _ _ (passed _ _ _ stopped).1).0)))
    where
      len : ℕ
      len = length (ethernet_frame dst plan.address kind payload)

  pub xbegin_cases : (P : Outcome → Type 0) (sizes : Sizes) (plan : DevPlan) (pair : PairPart) (side : Side) (queue : ℕ) (dst : List ℕ) (kind : ℕ) (payload : List ℕ)
      → ((r : Answer) → Refused (not (link_up pair)) r → P (record { answer = r; after = counts_refused pair side queue }))
      → (MaySend reading sizes pair side queue (length (ethernet_frame dst plan.address kind payload)) (needs sizes (length (ethernet_frame dst plan.address kind payload)))
      → P (record { answer = OkNumber (lane_of pair side queue).told; after = sent_frame sizes plan pair side queue (ethernet_frame dst plan.address kind payload) }))
      → P (xbegin_step sizes reading plan pair side queue dst kind payload)
  xbegin_cases P sizes plan pair side queue dst kind payload refused made = device_cases P sizes plan pair side queue dst kind payload refused (λ started. made)

  -- what posts a write of a lane that is this one by then
  abbrev pub posted_by : PairPart → Side → ℕ → LanePart → List Label → Label → PairPart
  posted_by pair side queue lane rest label = posts_through reading (with_lane pair side queue (record lane { todo = rest })) side label

  pub post_cases : (P : Outcome → Type 0) (pair : PairPart) (side : Side) (queue : ℕ)
      → P (record { answer = Idle; after = pair })
      → ((label : Label) (rest : List Label) → (lane_of pair side queue).todo ≡ label ∷ rest
      → P (record { answer = Posted label; after = posted_by pair side queue (lane_of pair side queue) rest label }))
      → ((entry : Entry) (others : List Entry) (label : Label) (rest : List Label) → (lane_of pair side queue).todo ≡ [] → (lane_of pair side queue).waiting ≡ entry ∷ others
      → labels_of queue (length (lane_of pair side queue).sent) entry ≡ label ∷ rest
      → P (record { answer = Posted label; after = posted_by pair side queue (with_next queue (lane_of pair side queue) (entry ∷ others)) rest label }))
      → P (post_step reading pair side queue)
  post_cases P pair side queue idle made made_next = go (lane_of pair side queue).todo refl
    where
      lane : LanePart
      lane = lane_of pair side queue

      Post : LanePart → List Label → Type 0
      Post l todo = P (post_first reading pair side queue l todo)

      next : (waiting : List Entry) → lane.waiting ≡ waiting → lane.todo ≡ [] → Post (with_next queue lane waiting) (with_next queue lane waiting).todo
      next [] e empty = subst (λ todo. Post lane todo) (sym empty) idle
      next (entry ∷ others) e empty = labels (labels_of queue (length lane.sent) entry) refl
        where
          labels : (todo : List Label) → labels_of queue (length lane.sent) entry ≡ todo → Post (with_next queue lane (entry ∷ others)) todo
          labels [] is = idle
          labels (label ∷ rest) is = made_next entry others label rest empty e is

      go : (todo : List Label) → lane.todo ≡ todo
          → Post (if is_empty_list todo then with_next queue lane lane.waiting else lane) (if is_empty_list todo then with_next queue lane lane.waiting else lane).todo
      go [] e = next lane.waiting refl e
      go (label ∷ rest) e = subst (λ todo. Post lane todo) (sym e) (made label rest e)

-- A wake is refused and leaves its pair as it was, or has its device no longer stopped.
pub wake_cases : (P : Outcome → Type 0) (reading : Reading) (plan : DevPlan) (pair : PairPart) (side : Side) (queue : ℕ)
    → ((r : Answer) → Refused false r → P (record { answer = r; after = pair }))
    → P (record { answer = Awake; after = with_dev pair side queue (record (dev_of pair side queue) { stopped = false }) })
    → P (wake_step reading plan pair side queue)
wake_cases P reading plan pair side queue refused made =
    decided_cases P (Refused false) pair
    (refuse_if (stays_stopped (flow_of plan (dev_of pair side queue)) (reading.free side queue)) Stopped None) Awake
    (with_dev pair side queue (record (dev_of pair side queue) { stopped = false }))
    (no (stays_stopped (flow_of plan (dev_of pair side queue)) (reading.free side queue)) Stopped refl refl Nothing) refused (λ none. made)

-- Landing and receiving
abbrev pub landed : PairPart → Side → ℕ → Label → PairPart
landed pair side place label = lands_on (taken_out pair side place label) side label

-- A landing is refused and leaves its pair as it was, or lands the write at its place, which may land there.
pub land_cases : (P : Outcome → Type 0) (plan : PairPlan) (pair : PairPart) (side : Side) (place : ℕ)
    → ((r : Answer) → Refused false r → P (record { answer = r; after = pair }))
    → ((label : Label) → slice_get (side_of pair side).flight place ≡ Some label → may_land (map (order_of plan side) (side_of pair side).flight) place ≡ true
    → P (record { answer = Landed label; after = landed pair side place label }))
    → P (land_step plan pair side place)
land_cases P plan pair side place refused made = go (slice_get (side_of pair side).flight place) refl
  where
    go : (found : Option Label) → slice_get (side_of pair side).flight place ≡ found → P (land_found plan pair side place found)
    go None e = refused NothingThere (record { is = refl; link = refl })
    go (Some label) e =
        decided_cases P (Refused false) pair (refuse_if (not (may_land (map (order_of plan side) (side_of pair side).flight) place)) Blocked None) (Landed label)
        (landed pair side place label)
        (no (not (may_land (map (order_of plan side) (side_of pair side).flight) place)) Blocked refl refl Nothing) refused
        (λ none. made label e (not-false _ ((passed _ _ _ none).0)))

abbrev pub looking : PairPart → Side → ℕ → ℕ → ℕ → PairPart
looking pair side queue len left =
    with_lane pair (other_side side) queue (record (lane_to pair side queue) { phase = Copying; part = 0; len = len; left = left })

-- what a receiver that looks has passed
pub record MayLookAt (pair : PairPart) (side : Side) (queue : ℕ) : Type 0 where
  pub joined : has_bit (side_of pair side).joined queue ≡ true
  pub not_closed : has_bit (side_of pair side).closed queue ≡ false
  pub idle : is_idle (lane_to pair side queue).phase ≡ true

-- the refusals of a look but for the one that nothing is there
abbrev pub found_refusals : Answer → Bool
found_refusals NotReady = true
found_refusals Closed = true
found_refusals OutOfTurn = true
found_refusals (VerDiffers seen own) = true
found_refusals (Long len most) = true
found_refusals r = false

-- a test and those after it
test_cases : (P : Option Answer → Type 0) (b : Bool) (r : Answer) (later : Option Answer) → P (Some r) → (b ≡ false → P later) → P (refuse_if b r later)
test_cases P true r later first rest = first
test_cases P false r later first rest = rest refl

-- A look is refused, or an idle receiver of a joined and open queue finds nothing, an entry or a link-down entry.
pub look_cases : (reading : Reading) (P : Outcome → Type 0) (pair : PairPart) (side : Side) (queue : ℕ)
    → ((r : Answer) → is_link_down r ≡ false → found_refusals r ≡ true → P (record { answer = r; after = pair }))
    → (MayLookAt pair side queue → reading.found side queue ≡ NoEntry → P (record { answer = Empty; after = pair }))
    → (MayLookAt pair side queue → (len left : ℕ) → reading.found side queue ≡ AnEntry len left
    → P (record { answer = ReadyFrame (lane_to pair side queue).got len; after = looking pair side queue len left }))
    → (MayLookAt pair side queue → P (record { answer = PeerDown; after = closes pair side queue }))
    → P (look_step reading pair side queue)
look_cases reading P pair side queue refused none ready gone =
    test_cases Left (not (has_bit (side_of pair side).joined queue)) NotReady _ (refused NotReady refl refl)
    (λ joined. test_cases Left (has_bit (side_of pair side).closed queue) Closed _ (refused Closed refl refl)
    (λ open_yet. test_cases Left (not (is_idle (lane_to pair side queue).phase)) OutOfTurn _ (refused OutOfTurn refl refl)
    (λ turn. found (record { joined = not-false _ joined; not_closed = open_yet; idle = not-false _ turn }) (reading.found side queue) refl)))
  where
    Left : Option Answer → Type 0
    Left refusal =
        let found = look_at pair side queue (reading.found side queue) in
        P (decided pair refusal found.answer found.after)

    found : MayLookAt pair side queue → (at : Found) → reading.found side queue ≡ at
        → P (decided pair None (look_at pair side queue at).answer (look_at pair side queue at).after)
    found may NoEntry is = none may is
    found may ALinkDownEntry is = gone may
    found may (AnotherVersion seen own) is = refused (VerDiffers seen own) refl refl
    found may (TooManyBytes len most) is = refused (Long len most) refl refl
    found may (AnEntry len left) is = ready may len left is

-- the three cases of a copy: a part that isn't the entry's last, the last part of an entry with others after it, and of
-- a frame
abbrev pub copied_more : PairPart → Side → ℕ → LanePart → List ℕ → Outcome
copied_more pair side queue lane gathered = record {
  answer = CopiedPart lane.got lane.part;
  after = with_lane pair (other_side side) queue (record lane { part = lane.part + 1; gathered = gathered });
}

abbrev pub copied_entry : PairPart → Side → ℕ → LanePart → List ℕ → Outcome
copied_entry pair side queue lane gathered = record {
  answer = CopiedPart lane.got lane.part;
  after = with_lane pair (other_side side) queue (record lane { got = lane.got + 1; phase = Copied; gathered = gathered });
}

abbrev pub copied_last : PairPart → Side → ℕ → LanePart → List ℕ → Outcome
copied_last pair side queue lane gathered = record {
  answer = Delivered lane.done gathered;
  after =
      counts_delivered
      (with_lane pair (other_side side) queue (record lane { got = lane.got + 1; phase = Copied; gathered = []; done = lane.done + 1 }))
      side queue (length gathered);
}

part_cases : (P : Outcome → Type 0) (pair : PairPart) (side : Side) (queue : ℕ) (lane : LanePart) (gathered : List ℕ)
    → (nat_lt (lane.part + 1) (chunks_in lane.len) ≡ true → P (copied_more pair side queue lane gathered))
    → (nat_lt (lane.part + 1) (chunks_in lane.len) ≡ false → nat_lt 0 lane.left ≡ true → P (copied_entry pair side queue lane gathered))
    → (nat_lt (lane.part + 1) (chunks_in lane.len) ≡ false → nat_lt 0 lane.left ≡ false → P (copied_last pair side queue lane gathered)) → P (copy_of pair side queue lane gathered)
part_cases P pair side queue lane gathered more entry last =
    cond_both (nat_lt (lane.part + 1) (chunks_in lane.len)) (copied_more pair side queue lane gathered)
    (if nat_lt 0 lane.left then copied_entry pair side queue lane gathered else copied_last pair side queue lane gathered) P more
    (λ all. cond_both (nat_lt 0 lane.left) (copied_entry pair side queue lane gathered) (copied_last pair side queue lane gathered) P (entry all) (last all))

-- A copy is refused, or copies a part that isn't its entry's last, the last of an entry, or the last of a frame.
pub copy_cases : (reading : Reading) (P : Outcome → Type 0) (pair : PairPart) (side : Side) (queue : ℕ)
    → let lane = lane_to pair side queue in
    let gathered = lane.gathered ++ reading.part side queue in
    ((r : Answer) → Refused false r → P (record { answer = r; after = pair }))
    → (is_copying lane.phase ≡ true → nat_lt (lane.part + 1) (chunks_in lane.len) ≡ true → P (copied_more pair side queue lane gathered))
    → (is_copying lane.phase ≡ true → nat_lt (lane.part + 1) (chunks_in lane.len) ≡ false → nat_lt 0 lane.left ≡ true → P (copied_entry pair side queue lane gathered))
    → (is_copying lane.phase ≡ true → nat_lt (lane.part + 1) (chunks_in lane.len) ≡ false → nat_lt 0 lane.left ≡ false → P (copied_last pair side queue lane gathered))
    → P (copy_step reading pair side queue)
copy_cases reading P pair side queue refused more entry last =
    decided_cases P (Refused false) pair (refuse_if (not (is_copying (lane_to pair side queue).phase)) OutOfTurn None) copied.answer copied.after
    (no (not (is_copying (lane_to pair side queue).phase)) OutOfTurn refl refl Nothing) refused
    (λ none.
    let turn : is_copying (lane_to pair side queue).phase ≡ true = not-false _ ((passed _ _ _ none).0) in
    part_cases P pair side queue (lane_to pair side queue) ((lane_to pair side queue).gathered ++ reading.part side queue) (more turn) (entry turn) (last turn))
  where
    copied : Outcome
    copied = copy_of pair side queue (lane_to pair side queue) ((lane_to pair side queue).gathered ++ reading.part side queue)

abbrev pub clearing : PairPart → Side → ℕ → PairPart
clearing pair side queue = with_lane pair (other_side side) queue (record (lane_to pair side queue) { cleared = (lane_to pair side queue).cleared + 1; phase = Cleared })

-- A clear is refused and leaves its pair as it was, or finds the entry copied and counts it as cleared.
pub clear_cases : (P : Outcome → Type 0) (pair : PairPart) (side : Side) (queue : ℕ)
    → ((r : Answer) → Refused false r → P (record { answer = r; after = pair }))
    → (is_copied (lane_to pair side queue).phase ≡ true → P (record { answer = ClearedFrame (lane_to pair side queue).cleared; after = clearing pair side queue }))
    → P (clear_step pair side queue)
clear_cases P pair side queue refused made =
    decided_cases P (Refused false) pair (refuse_if (not (is_copied (lane_to pair side queue).phase)) OutOfTurn None) (ClearedFrame (lane_to pair side queue).cleared)
    (clearing pair side queue)
    (no (not (is_copied (lane_to pair side queue).phase)) OutOfTurn refl refl Nothing) refused (λ none. made (not-false (is_copied (lane_to pair side queue).phase) ((passed (not (is_copied (lane_to pair side queue).phase)) OutOfTurn None none).0)))

abbrev pub acking : PairPart → Side → ℕ → PairPart
acking pair side queue = with_lane pair (other_side side) queue (record (lane_to pair side queue) { acked = (lane_to pair side queue).acked + 1; phase = IsIdle })

-- An ack is refused and leaves its pair as it was, or finds the entry cleared and posts its index write.
pub ack_cases : (reading : Reading) (P : Outcome → Type 0) (pair : PairPart) (side : Side) (queue : ℕ)
    → ((r : Answer) → Refused false r → P (record { answer = r; after = pair }))
    → (is_cleared (lane_to pair side queue).phase ≡ true
    → P (record { answer = Acked (lane_to pair side queue).acked; after = posts_through reading (acking pair side queue) side (Index queue (lane_to pair side queue).acked) }))
    → P (ack_step reading pair side queue)
ack_cases reading P pair side queue refused made =
    decided_cases P (Refused false) pair (refuse_if (not (is_cleared (lane_to pair side queue).phase)) OutOfTurn None) (Acked (lane_to pair side queue).acked)
    (posts_through reading (acking pair side queue) side (Index queue (lane_to pair side queue).acked))
    (no (not (is_cleared (lane_to pair side queue).phase)) OutOfTurn refl refl Nothing) refused (λ none. made (not-false (is_cleared (lane_to pair side queue).phase) ((passed (not (is_cleared (lane_to pair side queue).phase)) OutOfTurn None none).0)))
