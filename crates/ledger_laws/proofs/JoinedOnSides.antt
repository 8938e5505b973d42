-- A queue is joined only on a side that is up. Only where it is joined is a device stopped, has a lane something left
-- to post at its sender, and is an entry in a receiver's hand.
use Rattle.std.proofs.Common.{◌≡◌, ℕ, ◌+◌, ◌||◌, Bool, true, false, not, Option, Some, None, List, [], ◌∷◌, ◌++◌, refl, sym, ap, ◌∙◌, inl, inr, ◌⊎◌}
use Rattle.std.specs.Prelude.{if◌then◌else◌, slice_get}
use Rattle.std.specs.List.{AllByRecursion}
use Rattle.std.proofs.lemmas.Bool.{false≢true, true≢false, both_ways, cases_eq, eq-eqb, ne_eqb}
use Rattle.step_kinds.specs.Bits.{has_bit, with_bit}
use Rattle.step_kinds.specs.Sides.{other_side}
use Rattle.step_kinds.specs.declared.names.LaneName.{LaneName}
use Rattle.step_kinds.specs.declared.names.Side.{Side}
use Rattle.step_kinds.specs.declared.names.Side.TheVariants.{A, B}
use Rattle.step_kinds.specs.declared.plan.DevPlan.{DevPlan}
use Rattle.step_kinds.specs.declared.plan.PairPlan.{PairPlan}
use Rattle.step_kinds.specs.declared.plan.Plan.{Plan}
use Rattle.step_kinds.specs.declared.steps.Answer.{Answer}
use Rattle.step_kinds.specs.declared.steps.Label.{Label}
use Rattle.step_kinds.specs.declared.steps.Label.TheVariants.{Index, Pad}
use Rattle.step_kinds.specs.declared.steps.Step.{Step}
use Rattle.step_kinds.specs.declared.steps.Step.TheVariants.{Enable, Train, Break, DropDone, Clean, Offer, Check, Ready, Join, Begin, QpDown, Xbegin, Post, Land, Look, Copy, Clear, Ack, Wake, Irq, Mask, Unmask, Spad, Poke}
use Rattle.lane_model.specs.Lane.{Entry}
use Rattle.lane_model.specs.declared.Phase.{Phase}
use Rattle.lane_model.specs.declared.Phase.TheVariants.{Copying, Copied, Cleared}
use Rattle.pair_model.specs.Headers.{Bytes, Found, ALinkDownEntry, AnEntry}
use Rattle.ledger_model.specs.Ledger.{LanePart, SidePart, DevPart, PairPart, side_of, lane_of, lane_to, dev_of, link_up, with_side_part, with_lane, with_dev, posts, posts_raw, updated}
use Rattle.ledger_model.specs.LinkSteps.{emptied_side, cleaned_side, started_dev}
use Rattle.ledger_model.specs.Log.{Answered}
use Rattle.ledger_model.specs.Next.{fresh_pair, read_next}
use Rattle.ledger_model.specs.Outcome.{Outcome, decided}
use Rattle.ledger_model.specs.Reading.{Reading, reading_of}
use Rattle.ledger_model.specs.Receiving.{is_idle, is_copying, is_copied, is_cleared, lands_on, taken_out, land_found, look_at}
use Rattle.ledger_model.specs.Sending.{is_empty_list, is_busy, next_begun, posts_through, post_first}
use Rattle.pair_model.specs.Both.{at_side, with_side}
use Rattle.pair_model.specs.Plans.{dev_plan, pair_plan}
use Rattle.pair_model.specs.Sizes.{sizes_of}
use Rattle.ledger_laws.specs.States.{JoinedSideIsUp, StoppedDeviceIsJoined, BusySenderIsJoined, BusyReceiverIsJoined}
use Rattle.ledger_laws.proofs.AtStart.{fresh-lane}
use Rattle.ledger_laws.proofs.BitSets.{no_bit, has-with_kept}
use Rattle.ledger_laws.proofs.FreshLanes.{started}
use Rattle.ledger_laws.proofs.PairStates.{HoldsOfPair, pair_after, landing_cases}
use Rattle.ledger_laws.proofs.walk.Cases.{offer_cases, offering, next_offer, ready_cases, readied, ready_pad, xbegin_cases, copy_cases, ack_cases, acking}
use Rattle.ledger_laws.proofs.walk.Logs.{HoldsAlways, always_after}
use Rattle.ledger_laws.proofs.walk.News.{News}
use Rattle.ledger_laws.proofs.walk.Sight.{Sight, Sender, Receiver, sight}
use Rattle.ledger_laws.proofs.walk.Turn.{Turn, Trains, Forgets, Checks, Readies, Joins, Begins, Closes, Posts, PostsNext, Strays, Looks, CopiesEntry, CopiesLast, Clears, Acks, IsRaw}

-- A side that is up

pub record IsUpOnce (up : Bool) (ready joined : ℕ) : Type 0 where
  pub ready_once_up : (ready ≡ 0) ⊎ (up ≡ true)
  pub joined_once_up : (joined ≡ 0) ⊎ (up ≡ true)

abbrev UpOnceOf : Sight → Type 0
UpOnceOf s = IsUpOnce s.sender.up s.sender.ready s.sender.joined

up_kept : (plan : Plan) (lane : LaneName) (s : Sight) (made : Answered) (news : News) (t : Sight) → Turn plan lane s made news t → UpOnceOf s → UpOnceOf t
up_kept plan lane s made news t (Forgets Sender may) h = record { ready_once_up = inl refl; joined_once_up = inl refl }
up_kept plan lane s made news t (Checks Sender may) h = record { ready_once_up = inr refl; joined_once_up = inr refl }
up_kept plan lane s made news t (Readies Sender queue may) h = record { ready_once_up = inr may.checked; joined_once_up = h.joined_once_up }
up_kept plan lane s made news t (Joins Sender queue may) h = record {
  ready_once_up = h.ready_once_up;
  joined_once_up = elim h.ready_once_up [ inl none ↦ absurd (no_bit s.sender.ready queue none may.ready) | inr up ↦ inr up ];
}
up_kept plan lane s made news t turn h = h

up_at_start : (plan : PairPlan) (from : Side) (q : ℕ) (up : Bool) → UpOnceOf (sight from q (started plan up))
up_at_start plan A q true = record { ready_once_up = inr refl; joined_once_up = inr refl }
up_at_start plan B q true = record { ready_once_up = inr refl; joined_once_up = inr refl }
up_at_start plan A q false = record { ready_once_up = inl refl; joined_once_up = inl refl }
up_at_start plan B q false = record { ready_once_up = inl refl; joined_once_up = inl refl }

up_runs : (plan : Plan) (lane : LaneName) → HoldsAlways plan lane (λ log s. UpOnceOf s)
up_runs plan lane = record {
  fresh = up_at_start (pair_plan plan lane.pair) lane.from lane.queue (pair_plan plan lane.pair).up;
  turns = λ log s made news t tells turn h. up_kept plan lane s made news t turn h;
}

-- After every log a queue is joined only on a side that is up.
pub joined_side_is_up : JoinedSideIsUp
joined_side_is_up plan memories steps pair side queue joined =
    let lane : LaneName = record { pair = pair; from = side; queue = queue } in
    elim (always_after plan lane _ (up_runs plan lane) memories steps).joined_once_up [ inl none ↦ absurd (no_bit _ queue none joined) | inr up ↦ up ]

-- A lane with something left to post

abbrev BusyOf : ℕ → Sight → Type 0
BusyOf q s = is_busy s.lane ≡ true → has_bit s.sender.joined q ≡ true

-- A lane that has a write left to post is busy.
pub some_todo : (lane : LanePart) (label : Label) (rest : List Label) → lane.todo ≡ label ∷ rest → is_busy lane ≡ true
some_todo lane label rest next = ap (λ todo. not (is_empty_list todo) || not (is_empty_list lane.waiting)) next

-- A lane in which an entry waits, and no write is left to post, is busy.
pub some_wait : (lane : LanePart) (entry : Entry) (others : List Entry) → lane.todo ≡ [] → lane.waiting ≡ entry ∷ others → is_busy lane ≡ true
some_wait lane entry others none waits =
    ap (λ todo. not (is_empty_list todo) || not (is_empty_list lane.waiting)) none ∙ ap (λ waiting. not (is_empty_list waiting)) waits

busy_kept : (plan : Plan) (lane : LaneName) (s : Sight) (made : Answered) (news : News) (t : Sight) → IsRaw plan lane ≡ false → Turn plan lane s made news t
    → BusyOf lane.queue s → BusyOf lane.queue t
busy_kept plan lane s made news t no_raw (Trains may) h = λ busy. absurd (false≢true busy)
busy_kept plan lane s made news t no_raw (Forgets Sender may) h = λ busy. absurd (false≢true busy)
busy_kept plan lane s made news t no_raw (Joins Sender queue may) h = λ busy. has-with_kept s.sender.joined lane.queue queue (h busy)
busy_kept plan lane s made news t no_raw (Begins bytes first others may cut) h = λ busy. may.joined
busy_kept plan lane s made news t no_raw (Closes may) h = λ busy. may.joined
busy_kept plan lane s made news t no_raw (Posts label rest may) h = λ busy. h (some_todo s.lane label rest may.next)
busy_kept plan lane s made news t no_raw (PostsNext entry others label rest may) h = λ busy. h (some_wait s.lane entry others may.idle may.waits)
busy_kept plan lane s made news t no_raw (Strays after may) h = absurd (both_ways (IsRaw plan lane) no_raw may.raw_pair)
busy_kept plan lane s made news t no_raw turn h = h

busy_runs : (plan : Plan) (lane : LaneName) → IsRaw plan lane ≡ false → HoldsAlways plan lane (λ log s. BusyOf lane.queue s)
busy_runs plan lane no_raw = record {
  fresh = λ busy. absurd (both_ways _ (ap is_busy (fresh-lane (pair_plan plan lane.pair) lane.from lane.queue)) busy);
  turns = λ log s made news t tells turn h. busy_kept plan lane s made news t no_raw turn h;
}

-- On an ordinary pair a lane has something left to post only if its queue is joined at the sender.
pub busy_sender_is_joined : BusySenderIsJoined
busy_sender_is_joined plan memories steps pair side queue no_raw =
    let lane : LaneName = record { pair = pair; from = side; queue = queue } in always_after plan lane _ (busy_runs plan lane no_raw) memories steps

-- An entry in a receiver's hand

abbrev HoldsEntryOf : ℕ → Sight → Type 0
HoldsEntryOf q s = is_idle s.lane.phase ≡ false → has_bit s.receiver.joined q ≡ true

-- A receiver that is copying isn't idle.
pub copying-not_idle : (phase : Phase) → is_copying phase ≡ true → is_idle phase ≡ false
copying-not_idle Copying e = refl
copying-not_idle phase e = absurd (false≢true e)

copied-not_idle : (phase : Phase) → is_copied phase ≡ true → is_idle phase ≡ false
copied-not_idle Copied e = refl
copied-not_idle phase e = absurd (false≢true e)

-- A receiver that has cleared an entry and not given it back isn't idle.
pub cleared-not_idle : (phase : Phase) → is_cleared phase ≡ true → is_idle phase ≡ false
cleared-not_idle Cleared e = refl
cleared-not_idle phase e = absurd (false≢true e)

entry_kept : (plan : Plan) (lane : LaneName) (s : Sight) (made : Answered) (news : News) (t : Sight) → IsRaw plan lane ≡ false → Turn plan lane s made news t
    → HoldsEntryOf lane.queue s → HoldsEntryOf lane.queue t
entry_kept plan lane s made news t no_raw (Trains may) h = λ busy. absurd (true≢false busy)
entry_kept plan lane s made news t no_raw (Forgets Receiver may) h = λ busy. absurd (true≢false busy)
entry_kept plan lane s made news t no_raw (Joins Receiver queue may) h = λ busy. has-with_kept s.receiver.joined lane.queue queue (h busy)
entry_kept plan lane s made news t no_raw (Strays after may) h = absurd (both_ways (IsRaw plan lane) no_raw may.raw_pair)
entry_kept plan lane s made news t no_raw (Looks len left may) h = λ busy. may.joined
entry_kept plan lane s made news t no_raw (CopiesEntry bytes may) h = λ busy. h (copying-not_idle s.lane.phase may.copy.turn)
entry_kept plan lane s made news t no_raw (CopiesLast bytes may) h = λ busy. h (copying-not_idle s.lane.phase may.copy.turn)
entry_kept plan lane s made news t no_raw (Clears may) h = λ busy. h (copied-not_idle s.lane.phase may.turn)
entry_kept plan lane s made news t no_raw (Acks may) h = λ busy. absurd (true≢false busy)
entry_kept plan lane s made news t no_raw turn h = h

entry_runs : (plan : Plan) (lane : LaneName) → IsRaw plan lane ≡ false → HoldsAlways plan lane (λ log s. HoldsEntryOf lane.queue s)
entry_runs plan lane no_raw = record {
  fresh = λ busy. absurd (both_ways _ busy (ap (λ (l : LanePart). is_idle l.phase) (fresh-lane (pair_plan plan lane.pair) lane.from lane.queue)));
  turns = λ log s made news t tells turn h. entry_kept plan lane s made news t no_raw turn h;
}

-- On an ordinary pair a receiver has an entry in hand only if the queue is joined on its side.
pub busy_receiver_is_joined : BusyReceiverIsJoined
busy_receiver_is_joined plan memories steps pair A queue no_raw =
    let lane : LaneName = record { pair = pair; from = B; queue = queue } in always_after plan lane _ (entry_runs plan lane no_raw) memories steps
busy_receiver_is_joined plan memories steps pair B queue no_raw =
    let lane : LaneName = record { pair = pair; from = A; queue = queue } in always_after plan lane _ (entry_runs plan lane no_raw) memories steps

-- A device that is stopped

abbrev StopsJoined : PairPart → Type 0
StopsJoined pair = (side : Side) (queue : ℕ) → (dev_of pair side queue).stopped ≡ true → has_bit (side_of pair side).joined queue ≡ true

stops_decided : (old : PairPart) (refusal : Option Answer) (answer : Answer) (new : PairPart) → StopsJoined old → StopsJoined new → StopsJoined (decided old refusal answer new).after
stops_decided old None answer new first second = second
stops_decided old (Some r) answer new first second = first

-- a side's part on which each queue is joined that was
stops_side : (pair : PairPart) (side : Side) (part : SidePart) → ((queue : ℕ) → has_bit (side_of pair side).joined queue ≡ true → has_bit part.joined queue ≡ true)
    → StopsJoined pair → StopsJoined (with_side_part pair side part)
stops_side pair A part more h A queue stopped = more queue (h A queue stopped)
stops_side pair A part more h B queue stopped = h B queue stopped
stops_side pair B part more h A queue stopped = h A queue stopped
stops_side pair B part more h B queue stopped = more queue (h B queue stopped)

-- and with the same ones
stops_alike : (pair : PairPart) (side : Side) (part : SidePart) → part.joined ≡ (side_of pair side).joined → StopsJoined pair → StopsJoined (with_side_part pair side part)
stops_alike pair side part same h = stops_side pair side part (λ queue has. ap (λ joined. has_bit joined queue) same ∙ has) h

-- another device
stops_dev : (pair : PairPart) (side : Side) (queue : ℕ) (dev : DevPart) → (dev.stopped ≡ true → has_bit (side_of pair side).joined queue ≡ true) → StopsJoined pair
    → StopsJoined (with_dev pair side queue dev)
stops_dev pair side queue dev now h other q = go side other now
  where
    at : (f : ℕ → DevPart) (bits : ℕ) → (dev.stopped ≡ true → has_bit bits queue ≡ true) → ((f q).stopped ≡ true → has_bit bits q ≡ true)
        → (updated f queue dev q).stopped ≡ true → has_bit bits q ≡ true
    at f bits now old = elim (cases_eq q queue) [
      | inl e ↦ λ stopped. ap (has_bit bits) e ∙ now (sym (ap (λ b. (if b then dev else f q).stopped) (eq-eqb q queue e)) ∙ stopped)
      | inr ne ↦ λ stopped. old (sym (ap (λ b. (if b then dev else f q).stopped) (ne_eqb q queue ne)) ∙ stopped)
    ]

    go : (side other : Side) → (dev.stopped ≡ true → has_bit (side_of pair side).joined queue ≡ true)
        → (dev_of (with_dev pair side queue dev) other q).stopped ≡ true → has_bit (side_of pair other).joined q ≡ true
    go A A now = at pair.devs.a pair.sides.a.joined now (h A q)
    go A B now = h B q
    go B A now = h A q
    go B B now = at pair.devs.b pair.sides.b.joined now (h B q)

stops_posts : (pair : PairPart) (side : Side) (label : Label) → StopsJoined pair → StopsJoined (posts pair side label)
stops_posts pair side label h = go (link_up pair)
  where
    go : (up : Bool) → StopsJoined (if up then with_side_part pair side (record (side_of pair side) { flight = (side_of pair side).flight ++ label ∷ [] }) else pair)
    go true = stops_alike pair side _ refl h
    go false = h

stops_raw : (pair : PairPart) (side : Side) (label : Label) (bytes : List ℕ) → StopsJoined pair → StopsJoined (posts_raw pair side label bytes)
stops_raw pair side label bytes h = go (link_up pair)
  where
    go : (up : Bool)
        → StopsJoined (if up then with_side_part pair side (record (side_of pair side) { flight = (side_of pair side).flight ++ label ∷ []; poked = (side_of pair side).poked ++ bytes ∷ [] }) else pair)
    go true = stops_alike pair side _ refl h
    go false = h

stops_through : (reading : Reading) (pair : PairPart) (side : Side) (label : Label) → StopsJoined pair → StopsJoined (posts_through reading pair side label)
stops_through reading pair side label h = go (reading.reaches side label)
  where
    go : (reaches : Bool) → StopsJoined (if reaches then posts pair side label else pair)
    go true = stops_posts pair side label h
    go false = h

stops_posted : (reading : Reading) (pair : PairPart) (side : Side) (queue : ℕ) (lane : LanePart) (todo : List Label) → StopsJoined pair → StopsJoined (post_first reading pair side queue lane todo).after
stops_posted reading pair side queue lane [] h = h
stops_posted reading pair side queue lane (label ∷ rest) h = stops_through reading (with_lane pair side queue (record lane { todo = rest })) side label h

stops_landed : (pair : PairPart) (side : Side) (label : Label) → StopsJoined pair → StopsJoined (lands_on pair side label)
stops_landed pair side label h =
    landing_cases StopsJoined pair side label h (λ from queue lane. h) (λ part keeps. stops_alike pair (other_side side) part keeps.joined h)

stops_land : (plan : PairPlan) (pair : PairPart) (side : Side) (place : ℕ) (found : Option Label) → StopsJoined pair → StopsJoined (land_found plan pair side place found).after
stops_land plan pair side place None h = h
stops_land plan pair side place (Some label) h =
    stops_decided pair _ _ (lands_on (taken_out pair side place label) side label) h (stops_landed (taken_out pair side place label) side label (stops_alike pair side _ refl h))

stops_found : (pair : PairPart) (side : Side) (queue : ℕ) (found : Found) → StopsJoined pair → StopsJoined (look_at pair side queue found).after
stops_found pair side queue ALinkDownEntry h = stops_alike pair side _ refl h
stops_found pair side queue (AnEntry len left) h = h
stops_found pair side queue found h = h

-- a side that is cleaned starts its devices
stops_cleaned : (pair : PairPart) (side : Side) → StopsJoined pair
    → StopsJoined (record pair { sides = with_side pair.sides side (cleaned_side (side_of pair side)); devs = with_side pair.devs side (λ queue. started_dev (at_side pair.devs side queue)) })
stops_cleaned pair A h A queue stopped = absurd (false≢true stopped)
stops_cleaned pair A h B queue stopped = h B queue stopped
stops_cleaned pair B h A queue stopped = h A queue stopped
stops_cleaned pair B h B queue stopped = absurd (false≢true stopped)

stops_dropped : (pair : PairPart) → StopsJoined pair → StopsJoined (record pair { sides = record { a = emptied_side pair.sides.a; b = emptied_side pair.sides.b } })
stops_dropped pair h A queue stopped = h A queue stopped
stops_dropped pair h B queue stopped = h B queue stopped

-- each step
stops_next : (devs : List DevPlan) (plan : PairPlan) (reading : Reading) (bytes : Bytes) (pair : PairPart) (step : Step) → StopsJoined pair → StopsJoined (read_next devs plan reading bytes pair step).after
stops_next devs plan reading bytes pair (Enable p side) h = stops_decided pair _ _ _ h h
stops_next devs plan reading bytes pair (Train p) h = stops_decided pair _ _ _ h h
stops_next devs plan reading bytes pair (Break p) h = stops_decided pair _ _ _ h h
stops_next devs plan reading bytes pair (DropDone p) h = stops_decided pair _ _ _ h (stops_dropped pair h)
stops_next devs plan reading bytes pair (Clean p side) h = stops_decided pair _ _ _ h (stops_cleaned pair side h)
stops_next devs plan reading bytes pair (Offer p side) h =
    offer_cases (λ (o : Outcome). StopsJoined o.after) plan pair side (λ r is. h) (λ up more. stops_posts (offering pair side) side (next_offer plan pair side) (stops_alike pair side (record (side_of pair side) { offered = (side_of pair side).offered + 1 }) refl h))
stops_next devs plan reading bytes pair (Check p side) h = stops_decided pair _ _ _ h (stops_alike pair side _ refl h)
stops_next devs plan reading bytes pair (Ready p side queue) h =
    ready_cases (λ (o : Outcome). StopsJoined o.after) pair side queue (λ r is. h)
    (λ up checked. stops_posts (readied pair side queue) side (ready_pad pair side queue) (stops_alike pair side (record (side_of pair side) { ready = with_bit (side_of pair side).ready queue }) refl h))
stops_next devs plan reading bytes pair (Join p side queue) h = stops_decided pair _ _ _ h (stops_side pair side _ (λ other has. has-with_kept (side_of pair side).joined other queue has) h)
stops_next devs plan reading bytes pair (Begin p side queue frame) h = stops_decided pair _ _ _ h h
stops_next devs plan reading bytes pair (QpDown p side queue) h = stops_decided pair _ _ _ h (stops_alike pair side _ refl h)
stops_next devs plan reading bytes pair (Xbegin p side queue dev dst kind payload) h =
    xbegin_cases reading (λ (o : Outcome). StopsJoined o.after) (sizes_of plan side queue) (dev_plan devs dev) pair side queue dst kind payload
    (λ r is. stops_dev pair side queue _ (λ stopped. h side queue stopped) h) (λ may. stops_dev pair side queue _ (λ stopped. may.joined) h)
stops_next devs plan reading bytes pair (Post p side queue) h =
    stops_posted reading pair side queue (next_begun queue (lane_of pair side queue)) (next_begun queue (lane_of pair side queue)).todo h
stops_next devs plan reading bytes pair (Land p side place) h = stops_land plan pair side place (slice_get (side_of pair side).flight place) h
stops_next devs plan reading bytes pair (Look p side queue) h = stops_decided pair _ _ _ h (stops_found pair side queue (reading.found side queue) h)
stops_next devs plan reading bytes pair (Copy p side queue) h =
    copy_cases reading (λ (o : Outcome). StopsJoined o.after) pair side queue (λ r is. h) (λ turn more. h) (λ turn last more. h)
    (λ turn last whole. stops_dev pair side queue _ (λ stopped. h side queue stopped) h)
stops_next devs plan reading bytes pair (Clear p side queue) h = stops_decided pair _ _ _ h h
stops_next devs plan reading bytes pair (Ack p side queue) h =
    ack_cases reading (λ (o : Outcome). StopsJoined o.after) pair side queue (λ r is. h) (λ turn. stops_through reading (acking pair side queue) side (Index queue (lane_to pair side queue).acked) h)
stops_next devs plan reading bytes pair (Wake p side queue dev) h = stops_decided pair _ _ _ h (stops_dev pair side queue _ (λ stopped. absurd (false≢true stopped)) h)
stops_next devs plan reading bytes pair (Irq p side) h = stops_alike pair side _ refl h
stops_next devs plan reading bytes pair (Mask p side bits) h = stops_alike pair side _ refl h
stops_next devs plan reading bytes pair (Unmask p side bits) h = stops_alike pair side _ refl h
stops_next devs plan reading bytes pair (Spad p side i value) h = stops_posts pair side (Pad i value) h
stops_next devs plan reading bytes pair (Poke p side window offset poked) h = stops_raw pair side _ poked h
stops_next devs plan reading bytes pair step h = h

stops_hold : (plan : Plan) (pair : ℕ) → HoldsOfPair plan pair (λ step. Unit {0}) StopsJoined
stops_hold plan pair = record {
  fresh = at_start;
  steps = λ bytes part step fits on todos h. stops_next plan.devs (pair_plan plan pair) (reading_of (pair_plan plan pair) bytes part) bytes part step h;
}
  where
    at_start : StopsJoined (fresh_pair (pair_plan plan pair))
    at_start A queue stopped = absurd (false≢true stopped)
    at_start B queue stopped = absurd (false≢true stopped)

all_fit : (steps : List Step) → AllByRecursion (λ step. Unit {0}) steps
all_fit [] = tt
all_fit (step ∷ steps) = (tt, all_fit steps)

-- After every log a device is stopped only if its queue is joined on its side.
pub stopped_device_is_joined : StoppedDeviceIsJoined
stopped_device_is_joined plan memories steps pair side queue = pair_after plan pair _ StopsJoined (stops_hold plan pair) memories steps (all_fit steps) side queue
