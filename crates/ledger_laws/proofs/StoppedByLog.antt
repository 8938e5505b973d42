-- A device is stopped in the ledger if and only if it is by the log. If it is stopped its side hasn't forgotten the
-- session, so that the log knows the room of its ring.
use Rattle.std.proofs.Common.{◌≡◌, ℕ, ◌-◌, ◌==◌, ◌&&◌, ◌||◌, Bool, true, false, List, [], ◌∷◌, ◌++◌, length, refl, sym, ap, ◌∙◌, append_assoc}
use Rattle.std.specs.Prelude.{if◌then◌else◌, nat_lt}
use Rattle.std.proofs.lemmas.Bool.{false≢true, eq-eqb, ne_eqb, cond-true, cond-false}
use Rattle.std.proofs.lemmas.List.{append-nil}
use Rattle.step_kinds.specs.Sides.{same_side}
use Rattle.step_kinds.specs.Subject.{subject_of}
use Rattle.step_kinds.specs.declared.names.LaneName.{LaneName}
use Rattle.step_kinds.specs.declared.names.Side.{Side}
use Rattle.step_kinds.specs.declared.names.Side.TheVariants.{A, B}
use Rattle.step_kinds.specs.declared.plan.PairPlan.{PairPlan}
use Rattle.step_kinds.specs.declared.plan.Plan.{Plan}
use Rattle.step_kinds.specs.declared.steps.Answer.{Answer}
use Rattle.step_kinds.specs.declared.steps.Answer.TheVariants.{Ok as Done, OkNumber, Awake}
use Rattle.step_kinds.specs.declared.steps.Label.TheVariants.{Index, Pad, Raw}
use Rattle.step_kinds.specs.declared.steps.Step.{Step}
use Rattle.step_kinds.specs.declared.steps.Step.TheVariants.{Enable, Train, Break, DropDone, Clean, Offer, Check, Ready, Join, Begin, QpDown, Xbegin, Post, Land, Look, Copy, Clear, Ack, Wake, Spad, Poke}
use Rattle.pair_model.specs.Both.{at_side, with_side}
use Rattle.pair_model.specs.Ethernet.{ethernet_frame}
use Rattle.pair_model.specs.Plans.{dev_plan, pair_plan}
use Rattle.pair_model.specs.Sizes.{sizes_of}
use Rattle.pair_model.specs.Headers.{Bytes}
use Rattle.ledger_model.specs.Ledger.{DevPart, PairPart, dev_of, free_of, lane_of, lane_to, link_up, with_lane}
use Rattle.ledger_model.specs.LinkSteps.{started_dev}
use Rattle.ledger_model.specs.Log.{Answered, Memories, is_on, ledger_of, log_of, room_in}
use Rattle.ledger_model.specs.Next.{fresh_pair, read_next}
use Rattle.ledger_model.specs.Outcome.{Outcome}
use Rattle.ledger_model.specs.Reading.{Reading, by_bytes, by_ledger, reading_of}
use Rattle.ledger_model.specs.Sending.{with_next}
use Rattle.ledger_laws.specs.Devices.{is_stopped_in, stop_next, stopped_from}
use Rattle.ledger_laws.proofs.AgainWhereNoRoom.{room_runs}
use Rattle.ledger_laws.proofs.AtStart.{up-not_down}
use Rattle.ledger_laws.proofs.CountersAreCounts.{Devs, dev-off, dev-own, devs-landed, devs-posts, devs-posts_raw, devs-through, on-elsewhere, with_part}
use Rattle.ledger_laws.proofs.EachPair.{AnyStep, HoldsOfLog, log_after}
use Rattle.ledger_laws.proofs.FreshLanes.{started}
use Rattle.ledger_laws.proofs.JoinedOnSides.{joined_side_is_up, stopped_device_is_joined}
use Rattle.ledger_laws.proofs.LogGrowth.{left_by, made_by}
use Rattle.ledger_laws.proofs.RoomInLog.{IsOpen, RoomKnown, open_above, room_kept, room_less, room_told}
use Rattle.ledger_laws.proofs.walk.Cases.{ack_cases, acking, begin_cases, break_cases, check_cases, clean_cases, clear_cases, copy_cases, device_cases, drop_cases, enable_cases, join_cases, land_cases, look_cases, needs, offer_cases, post_cases, qpdown_cases, ready_cases, refuses, train_cases, wake_cases}
use Rattle.ledger_laws.proofs.walk.Logs.{HoldsAlways, all_fit, always_after}
use Rattle.ledger_laws.proofs.walk.News.{News}
use Rattle.ledger_laws.proofs.walk.Of.{turn_elsewhere, turn_of}
use Rattle.ledger_laws.proofs.walk.Sight.{Receiver, Sender, Sight, by_lane, sight}
use Rattle.ledger_laws.proofs.walk.Tells.{on-off, on-own}
use Rattle.ledger_laws.proofs.walk.Turn.{Breaks, Checks, Drops, Forgets, IsRaw, SizesOf, Trains, Turn}

-- A side that is up hasn't forgotten the session

abbrev OpenOnceUp : Sight → Type 0
OpenOnceUp s = s.sender.up ≡ true → IsOpen s

open_kept : (plan : Plan) (lane : LaneName) (s : Sight) (made : Answered) (news : News) (t : Sight) → Turn plan lane s made news t → OpenOnceUp s → OpenOnceUp t
open_kept plan lane s made news t (Trains may) h = λ up. refl
open_kept plan lane s made news t (Breaks may) h = λ up. refl
open_kept plan lane s made news t (Drops may) h = λ up. refl
open_kept plan lane s made news t (Forgets Sender may) h = λ up. absurd (false≢true up)
open_kept plan lane s made news t (Forgets Receiver may) h = h
open_kept plan lane s made news t (Checks e may) h = λ up. open_above s (up-not_down s.state may.up)
open_kept plan lane s made news t turn h = h

open_at_start : (plan : PairPlan) (from : Side) (q : ℕ) (up : Bool) → OpenOnceUp (sight from q (started plan up))
open_at_start plan A q true = λ up. refl
open_at_start plan B q true = λ up. refl
open_at_start plan A q false = λ up. absurd (false≢true up)
open_at_start plan B q false = λ up. absurd (false≢true up)

open_runs : (plan : Plan) (lane : LaneName) → HoldsAlways plan lane (λ log s. OpenOnceUp s)
open_runs plan lane = record {
  fresh = open_at_start (pair_plan plan lane.pair) lane.from lane.queue (pair_plan plan lane.pair).up;
  turns = λ log s made news t tells turn h. open_kept plan lane s made news t turn h;
}

stopped_is_open : (plan : Plan) (memories : Memories) (steps : List Step) (own : LaneName) → (dev_of (ledger_of plan memories steps own.pair) own.from own.queue).stopped ≡ true
    → IsOpen (sight own.from own.queue (ledger_of plan memories steps own.pair))
stopped_is_open plan memories steps own stopped =
    always_after plan own (λ log s. OpenOnceUp s) (open_runs plan own) memories steps
    (joined_side_is_up plan memories steps own.pair own.from own.queue (stopped_device_is_joined plan memories steps own.pair own.from own.queue stopped))

-- The log with one entry more

stopped-last : (plan : Plan) (own : LaneName) (before : List Answered) (now : Bool) (log : List Answered) (made : Answered)
    → stopped_from plan own before now (log ++ made ∷ []) ≡ stop_next plan own ((before ++ log) ++ made ∷ []) (stopped_from plan own before now log) made
stopped-last plan own before now [] made = ap (λ log. stop_next plan own (log ++ made ∷ []) now made) (sym (append-nil before))
stopped-last plan own before now (first ∷ log) made =
    let seen = before ++ first ∷ [] in
    let next = stop_next plan own seen now first in
    stopped-last plan own seen next log made
    ∙ ap (λ log_before. stop_next plan own (log_before ++ made ∷ []) (stopped_from plan own seen next log) made) (append_assoc before (first ∷ []) log)

-- what an entry of another pair tells, and a refusal
stop-elsewhere : (plan : Plan) (own : LaneName) (log : List Answered) (now : Bool) (step : Step) (answer : Answer) → (subject_of step ≡ own.pair → ⊥)
    → stop_next plan own log now (record { step = step; answer = answer }) ≡ now
stop-elsewhere plan own log now (Xbegin p side queue dev dst kind payload) (OkNumber n) ne = cond-false (is_on own p side queue) (nat_lt (room_in plan log own) (dev_plan plan.devs dev).stop) now (on-elsewhere own p side queue ne)
stop-elsewhere plan own log now (Wake p side queue dev) Awake ne = cond-false (is_on own p side queue) false now (on-elsewhere own p side queue ne)
stop-elsewhere plan own log now (Clean p side) Done ne = cond-false ((p == own.pair) && same_side side own.from) false now (ap (λ b. b && same_side side own.from) (ne_eqb p own.pair ne))
stop-elsewhere plan own log now step answer ne = refl

stop-refused : (plan : Plan) (own : LaneName) (log : List Answered) (now : Bool) (step : Step) (r : Answer) → refuses r ≡ true → stop_next plan own log now (record { step = step; answer = r }) ≡ now
stop-refused plan own log now (Xbegin p side queue dev dst kind payload) (OkNumber n) is = absurd (false≢true is)
stop-refused plan own log now (Wake p side queue dev) Awake is = absurd (false≢true is)
stop-refused plan own log now (Clean p side) Done is = absurd (false≢true is)
stop-refused plan own log now step r is = refl

-- What a step does to a device is what the log is told

abbrev stopped_of : DevPart → Bool
stopped_of dev = dev.stopped

-- a device is stopped or not as the one at its place is
stopped-kept : (from : Side) (q : ℕ) (devs : Devs) (side : Side) (queue : ℕ) (part : DevPart) → part.stopped ≡ (at_side devs side queue).stopped
    → (at_side (with_part devs side queue part) from q).stopped ≡ (at_side devs from q).stopped
stopped-kept from q devs side queue =
    by_lane from q (λ s k. (part : DevPart) → part.stopped ≡ (at_side devs s k).stopped → (at_side (with_part devs s k part) from q).stopped ≡ (at_side devs from q).stopped)
    (λ part e. ap stopped_of (dev-own from q devs part) ∙ e)
    (λ s k c off part e. ap stopped_of (dev-off from q devs s k part off)) side queue

module _ (plan : Plan) (own : LaneName) (reading : Reading) (bytes : Bytes) (pair : PairPart) (log : List Answered)
    (room : link_up pair ≡ true → reading.free own.from own.queue ≡ room_in plan log own) where
  abbrev Own : PairPlan
  Own = pair_plan plan own.pair

  abbrev Before : Bool
  Before = (dev_of pair own.from own.queue).stopped

  abbrev Told : Step → Answer → Bool
  Told step answer = stop_next plan own (log ++ record { step = step; answer = answer } ∷ []) Before (record { step = step; answer = answer })

  abbrev StopsSo : Step → Outcome → Type 0
  StopsSo step o = Told step o.answer ≡ (dev_of o.after own.from own.queue).stopped

  -- where no device is changed
  same : {devs : Devs} → devs ≡ pair.devs → Before ≡ (at_side devs own.from own.queue).stopped
  same e = sym (ap (λ (devs : Devs). (at_side devs own.from own.queue).stopped) e)

  refused : (step : Step) (r : Answer) → refuses r ≡ true → StopsSo step (record { answer = r; after = pair })
  refused step r is = stop-refused plan own (log ++ record { step = step; answer = r } ∷ []) Before step r is

  clean_stops : (p : ℕ) → p ≡ own.pair → (side : Side)
      → (if (p == own.pair) && same_side side own.from then false else Before) ≡ (at_side (with_side pair.devs side (λ queue. started_dev (at_side pair.devs side queue))) own.from own.queue).stopped
  clean_stops p e side = rw (eq-eqb p own.pair e) (go own.from side)
    where
      go : (f s : Side) → (if same_side s f then false else (at_side pair.devs f own.queue).stopped) ≡ (at_side (with_side pair.devs s (λ queue. started_dev (at_side pair.devs s queue))) f own.queue).stopped
      go A A = refl
      go A B = refl
      go B A = refl
      go B B = refl

  abbrev Frame : ℕ → List ℕ → ℕ → List ℕ → List ℕ
  Frame dev dst kind payload = ethernet_frame dst (dev_plan plan.devs dev).address kind payload

  -- what is free once a frame was begun
  left_free : (p dev : ℕ) (dst : List ℕ) (kind : ℕ) (payload : List ℕ) (told : ℕ) → p ≡ own.pair → link_up pair ≡ true
      → room_in plan (log ++ record { step = Xbegin p own.from own.queue dev dst kind payload; answer = OkNumber told } ∷ []) own
      ≡ reading.free own.from own.queue - needs (sizes_of Own own.from own.queue) (length (Frame dev dst kind payload))
  left_free p dev dst kind payload told e up =
      room_less plan own log (record { step = Xbegin p own.from own.queue dev dst kind payload; answer = OkNumber told })
      (needs (sizes_of Own own.from own.queue) (length (Frame dev dst kind payload)))
      (cond-true (is_on own p own.from own.queue) (needs (sizes_of Own own.from own.queue) (length (Frame dev dst kind payload))) 0 (on-own own p e)) refl refl
      ∙ ap (λ free. free - needs (sizes_of Own own.from own.queue) (length (Frame dev dst kind payload))) (sym (room up))

  device_begins : (p dev : ℕ) (dst : List ℕ) (kind : ℕ) (payload : List ℕ) → p ≡ own.pair → (side : Side) (queue : ℕ)
      → StopsSo (Xbegin p side queue dev dst kind payload) (read_next plan.devs Own reading bytes pair (Xbegin p side queue dev dst kind payload))
  device_begins p dev dst kind payload e =
      by_lane own.from own.queue (λ side queue. StopsSo (Xbegin p side queue dev dst kind payload) (read_next plan.devs Own reading bytes pair (Xbegin p side queue dev dst kind payload)))
      (device_cases reading (StopsSo (Xbegin p own.from own.queue dev dst kind payload)) (sizes_of Own own.from own.queue) (dev_plan plan.devs dev) pair own.from own.queue dst kind payload
      (λ r no. refused (Xbegin p own.from own.queue dev dst kind payload) r no.is ∙ sym (stopped-kept own.from own.queue pair.devs own.from own.queue _ refl))
      (λ started may.
      cond-true (is_on own p own.from own.queue) _ Before (on-own own p e)
      ∙ ap (λ free. nat_lt free (dev_plan plan.devs dev).stop) (left_free p dev dst kind payload (lane_of pair own.from own.queue).told e may.up)
      ∙ ap (λ b. b || nat_lt (reading.free own.from own.queue - needs (sizes_of Own own.from own.queue) (length (Frame dev dst kind payload))) (dev_plan plan.devs dev).stop) (sym started)
      ∙ sym (ap stopped_of (dev-own own.from own.queue pair.devs _))))
      (λ side queue c off.
      device_cases reading (StopsSo (Xbegin p side queue dev dst kind payload)) (sizes_of Own side queue) (dev_plan plan.devs dev) pair side queue dst kind payload
      (λ r no. refused (Xbegin p side queue dev dst kind payload) r no.is ∙ sym (stopped-kept own.from own.queue pair.devs side queue _ refl))
      (λ started may.
      cond-false (is_on own p side queue) _ Before (on-off own p side queue off)
      ∙ sym (ap stopped_of (dev-off own.from own.queue pair.devs side queue _ off))))

  device_wakes : (p dev : ℕ) → p ≡ own.pair → (side : Side) (queue : ℕ) → StopsSo (Wake p side queue dev) (read_next plan.devs Own reading bytes pair (Wake p side queue dev))
  device_wakes p dev e =
      by_lane own.from own.queue (λ side queue. StopsSo (Wake p side queue dev) (read_next plan.devs Own reading bytes pair (Wake p side queue dev)))
      (wake_cases (StopsSo (Wake p own.from own.queue dev)) reading (dev_plan plan.devs dev) pair own.from own.queue (λ r no. refused (Wake p own.from own.queue dev) r no.is)
      (cond-true (is_on own p own.from own.queue) false Before (on-own own p e) ∙ sym (ap stopped_of (dev-own own.from own.queue pair.devs _))))
      (λ side queue c off.
      wake_cases (StopsSo (Wake p side queue dev)) reading (dev_plan plan.devs dev) pair side queue (λ r no. refused (Wake p side queue dev) r no.is)
      (cond-false (is_on own p side queue) false Before (on-off own p side queue off) ∙ sym (ap stopped_of (dev-off own.from own.queue pair.devs side queue _ off))))

  stops_next : (step : Step) → subject_of step ≡ own.pair → StopsSo step (read_next plan.devs Own reading bytes pair step)
  stops_next (Enable p side) e = enable_cases (StopsSo (Enable p side)) pair side (λ r no. refl) (λ _. refl)
  stops_next (Train p) e = train_cases (StopsSo (Train p)) pair (λ r no. refl) (λ _. refl)
  stops_next (Break p) e = break_cases (StopsSo (Break p)) pair (λ r no. refl) (λ _. refl)
  stops_next (DropDone p) e = drop_cases (StopsSo (DropDone p)) pair (λ r no. refl) (λ _. refl)
  stops_next (Clean p side) e = clean_cases (StopsSo (Clean p side)) pair side (λ r no. refused (Clean p side) r no.is) (λ _. clean_stops p e side)
  stops_next (Offer p side) e = offer_cases (StopsSo (Offer p side)) Own pair side (λ r no. refl) (λ up more. same (devs-posts _ side _))
  stops_next (Check p side) e = check_cases (StopsSo (Check p side)) Own pair side (λ r no. refl) (λ _. refl)
  stops_next (Ready p side queue) e = ready_cases (StopsSo (Ready p side queue)) pair side queue (λ r no. refl) (λ up checked. same (devs-posts _ side _))
  stops_next (Join p side queue) e = join_cases (StopsSo (Join p side queue)) pair side queue (λ r no. refl) (λ up ready asked. refl)
  stops_next (Begin p side queue frame) e = begin_cases reading (StopsSo (Begin p side queue frame)) (sizes_of Own side queue) pair side queue frame (λ r no. refl) (λ may. refl)
  stops_next (QpDown p side queue) e = qpdown_cases reading (StopsSo (QpDown p side queue)) (sizes_of Own side queue) pair side queue (λ r no. refl) (λ may. refl)
  stops_next (Xbegin p side queue dev dst kind payload) e = device_begins p dev dst kind payload e side queue
  stops_next (Post p side queue) e =
      post_cases reading (StopsSo (Post p side queue)) pair side queue refl
      (λ label rest is. same (devs-through reading (with_lane pair side queue (record (lane_of pair side queue) { todo = rest })) side label))
      (λ entry others label rest idle waits is. same (devs-through reading (with_lane pair side queue (record (with_next queue (lane_of pair side queue) (entry ∷ others)) { todo = rest })) side label))
  stops_next (Land p side place) e = land_cases (StopsSo (Land p side place)) Own pair side place (λ r no. refl) (λ label at may. same (devs-landed _ side label))
  stops_next (Look p side queue) e = look_cases reading (StopsSo (Look p side queue)) pair side queue (λ r no found. refl) (λ may empty. refl) (λ may len left found. refl) (λ may. refl)
  stops_next (Copy p side queue) e =
      copy_cases reading (StopsSo (Copy p side queue)) pair side queue (λ r no. refl) (λ turn more. refl) (λ turn all others. refl)
      (λ turn all last. sym (stopped-kept own.from own.queue pair.devs side queue _ refl))
  stops_next (Clear p side queue) e = clear_cases (StopsSo (Clear p side queue)) pair side queue (λ r no. refl) (λ _. refl)
  stops_next (Ack p side queue) e =
      ack_cases reading (StopsSo (Ack p side queue)) pair side queue (λ r no. refl) (λ _. same (devs-through reading (acking pair side queue) side (Index queue (lane_to pair side queue).acked)))
  stops_next (Wake p side queue dev) e = device_wakes p dev e side queue
  stops_next (Spad p side i value) e = same (devs-posts pair side (Pad i value))
  stops_next (Poke p side window offset poked) e = same (devs-posts_raw pair side (Raw window offset (length poked)) poked)
  stops_next step e = refl

-- After every log

record StopKnown (plan : Plan) (own : LaneName) (log : List Answered) (pair : PairPart) : Type 0 where
  room : RoomKnown plan own log (sight own.from own.queue pair)
  stopped : is_stopped_in plan log own ≡ (dev_of pair own.from own.queue).stopped

fresh_stop : (plan : PairPlan) (from : Side) (q : ℕ) → false ≡ (dev_of (fresh_pair plan) from q).stopped
fresh_stop plan A q = refl
fresh_stop plan B q = refl

stop_runs : (plan : Plan) (own : LaneName) → IsRaw plan own ≡ false → HoldsOfLog plan own.pair AnyStep (StopKnown plan own)
stop_runs plan own no_raw = record {
  fresh = record { room = (room_runs plan own no_raw).fresh; stopped = fresh_stop (pair_plan plan own.pair) own.from own.queue };
  own = λ log bytes pair step any e todos h.
      let made = made_by plan own.pair bytes pair step in
      let turn = turn_of plan own bytes pair todos step e in
      let s = sight own.from own.queue pair in
      let t = sight own.from own.queue (left_by plan own.pair bytes pair step) in
      let plan_of = pair_plan plan own.pair in
      record {
        room = room_kept plan own no_raw log s made turn.news t turn.tells turn.turn h.room;
        stopped =
            stopped-last plan own [] false log made ∙ ap (λ now. stop_next plan own (log ++ made ∷ []) now made) h.stopped
            ∙ stops_next plan own (reading_of plan_of bytes pair) bytes pair log
            (λ up.
            ap (λ (reading : Reading). reading.free own.from own.queue) (cond-false plan_of.raw (by_bytes plan_of bytes pair) (by_ledger plan_of pair) no_raw)
            ∙ room_told plan own log s h.room (open_above s (up-not_down pair.link.state up)))
            step e;
      };
  other = λ log pair made ne h.
      let s = sight own.from own.queue pair in
      let turn = turn_elsewhere plan own s made ne in
      record {
        room = room_kept plan own no_raw log s made turn.news s turn.tells turn.turn h.room;
        stopped = stopped-last plan own [] false log made ∙ stop-elsewhere plan own (log ++ made ∷ []) (is_stopped_in plan log own) made.step made.answer ne ∙ h.stopped;
      };
}

-- a device is stopped where the log says so, and then what is free is what the log says
pub stopped_known : (plan : Plan) (memories : Memories) (steps : List Step) (own : LaneName) → IsRaw plan own ≡ false
    → is_stopped_in plan (log_of plan memories steps) own ≡ (dev_of (ledger_of plan memories steps own.pair) own.from own.queue).stopped
stopped_known plan memories steps own no_raw = (log_after plan own.pair AnyStep (StopKnown plan own) (stop_runs plan own no_raw) memories steps (all_fit steps)).stopped

-- While a device of an ordinary pair is stopped, the ledger has as many entries free in its ring as the log counts.
pub room_while_stopped : (plan : Plan) (memories : Memories) (steps : List Step) (own : LaneName) → IsRaw plan own ≡ false
    → (dev_of (ledger_of plan memories steps own.pair) own.from own.queue).stopped ≡ true
    → free_of (SizesOf plan own) (lane_of (ledger_of plan memories steps own.pair) own.from own.queue) ≡ room_in plan (log_of plan memories steps) own
room_while_stopped plan memories steps own no_raw stopped =
    room_told plan own (log_of plan memories steps) (sight own.from own.queue (ledger_of plan memories steps own.pair))
    (log_after plan own.pair AnyStep (StopKnown plan own) (stop_runs plan own no_raw) memories steps (all_fit steps)).room
    (stopped_is_open plan memories steps own stopped)
