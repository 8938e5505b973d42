-- `again` is returned if and only if the ring has no room.
use Rattle.std.proofs.Common.{◌≡◌, ℕ, Bool, true, false, not, ◌&&◌, ◌||◌, Option, Some, None, List, [], length, refl, sym, ap, ◌∙◌, subst, arith}
use Rattle.std.specs.Prelude.{nat_lt}
use Rattle.std.proofs.lemmas.Bool.{false≢true, cond-false}
use Rattle.std.proofs.lemmas.Option.{none-some, same_Some}
use Rattle.step_kinds.specs.Sides.{other_side}
use Rattle.step_kinds.specs.Subject.{subject_of}
use Rattle.step_kinds.specs.declared.names.LaneName.{LaneName}
use Rattle.step_kinds.specs.declared.names.Side.{Side}
use Rattle.step_kinds.specs.declared.plan.Plan.{Plan}
use Rattle.step_kinds.specs.declared.plan.PairPlan.{PairPlan}
use Rattle.step_kinds.specs.declared.steps.Answer.{Answer}
use Rattle.step_kinds.specs.declared.steps.Answer.TheVariants.{OkNumber, LinkDown, NotReady, Closed, TooLong, Busy, Stopped, Again}
use Rattle.step_kinds.specs.declared.steps.Step.{Step}
use Rattle.step_kinds.specs.declared.steps.Step.TheVariants.{Begin, QpDown, Xbegin}
use Rattle.pair_model.specs.Plans.{dev_plan, pair_plan}
use Rattle.pair_model.specs.Sizes.{Sizes, sizes_of}
use Rattle.pair_model.specs.Ethernet.{ethernet_frame}
use Rattle.pair_model.specs.Headers.{Bytes}
use Rattle.ledger_laws.specs.Laws.{AgainWhereNoRoom, lane_begun_by, sender_refused, frame_refused, refused_earlier, is_again, entries_needed}
use Rattle.ledger_model.specs.Ledger.{LanePart, PairPart, lane_of, dev_of, link_up, free_of, head_in}
use Rattle.ledger_model.specs.Log.{room_in, log_of, ledger_of, Memories}
use Rattle.ledger_model.specs.Next.{read_next, fresh_pair}
use Rattle.ledger_model.specs.Outcome.{decided, refuse_if}
use Rattle.ledger_model.specs.Sending.{is_busy, begun, begin_step, xbegin_step, refuse_sender, refuse_full, begin_refusal, xbegin_refusal, counts_refused, refuse_busy}
use Rattle.ledger_model.specs.Labels.{indexes_among}
use Rattle.ledger_laws.proofs.AtStart.{fresh-lane, fresh-flight, up-not_down}
use Rattle.ledger_laws.proofs.walk.Turn.{IsRaw, SizesOf}
use Rattle.ledger_model.specs.Reading.{Reading, by_bytes, by_ledger}
use Rattle.ledger_laws.proofs.RoomInLog.{RoomKnown, open_above, room_kept, room_told}
use Rattle.ledger_laws.proofs.LogGrowth.{answer_of, made_by}
use Rattle.ledger_laws.proofs.walk.Cases.{closing, needs, sent_frame}
use Rattle.ledger_laws.proofs.walk.Logs.{HoldsAlways, always_after}
use Rattle.ledger_laws.proofs.walk.Sight.{sight}

-- The answer of a step that begins an entry

-- whether the refusal is `again`
abbrev again_of : Option Answer → Bool
again_of None = false
again_of (Some r) = is_again r

again_decided : (old new : PairPart) (refusal : Option Answer) (n : ℕ) → is_again (decided old refusal (OkNumber n) new).answer ≡ again_of refusal
again_decided old new None n = refl
again_decided old new (Some r) n = refl

again_full : (full : Bool) (head tail : ℕ) → again_of (refuse_if full (Again head tail) None) ≡ full
again_full true head tail = refl
again_full false head tail = refl

-- refusals of a sender, and those that come after them
again_sender : (down apart shut : Bool) (later : Option Answer) (rest full : Bool) → (down ≡ false → again_of later ≡ (not rest && full))
    → again_of (refuse_if down LinkDown (refuse_if apart NotReady (refuse_if shut Closed later))) ≡ (not ((down || (apart || shut)) || rest) && full)
again_sender true apart shut later rest full h = refl
again_sender false true shut later rest full h = refl
again_sender false false true later rest full h = refl
again_sender false false false later rest full h = h refl

again_busy : (busy : Bool) (later : Option Answer) (full : Bool) → again_of later ≡ full → again_of (refuse_if busy Busy later) ≡ (not busy && full)
again_busy true later full h = refl
again_busy false later full h = h

again_long : (long busy : Bool) (len most : ℕ) (later : Option Answer) (full : Bool) → again_of later ≡ full
    → again_of (refuse_if long (TooLong len most) (refuse_if busy Busy later)) ≡ (not (long || busy) && full)
again_long true busy len most later full h = refl
again_long false busy len most later full h = again_busy busy later full h

again_stopped : (long busy stopped : Bool) (len most : ℕ) (later : Option Answer) (full : Bool) → again_of later ≡ full
    → again_of (refuse_if long (TooLong len most) (refuse_if busy Busy (refuse_if stopped Stopped later))) ≡ (not ((long || busy) || stopped) && full)
again_stopped true busy stopped len most later full h = refl
again_stopped false true stopped len most later full h = refl
again_stopped false false true len most later full h = refl
again_stopped false false false len most later full h = h

or_assoc : (a b c full : Bool) → (not (a || (b || c)) && full) ≡ (not ((a || b) || c) && full)
or_assoc true b c full = refl
or_assoc false b c full = refl

-- the ring's room is what this test says
again_ring : (full : Bool) (sizes : Sizes) (reading : Reading) (pair : PairPart) (side : Side) (queue needed : ℕ) → nat_lt (reading.free side queue) needed ≡ full
    → again_of (refuse_full sizes reading (lane_of pair side queue) side queue needed None) ≡ full
again_ring full sizes reading pair side queue needed is =
    again_full (nat_lt (reading.free side queue) needed) (head_in sizes (lane_of pair side queue)) (reading.index_word side queue) ∙ is

is_up_now : (up : Bool) → not up ≡ false → up ≡ true
is_up_now true e = refl
is_up_now false e = absurd (false≢true (sym e))

-- what a step that begins on a lane answers, if it is refused for another reason or not, and the room on that lane is
-- this
abbrev AgainSo : Bool → Bool → Answer → Type 0
AgainSo early full answer = is_again answer ≡ (not early && full)

module _ (plan : Plan) (lane : LaneName) (reading : Reading) (bytes : Bytes) (pair : PairPart) (full : Bool) where
  abbrev Own : PairPlan
  Own = pair_plan plan lane.pair

  abbrev IsFull : Step → Type 0
  IsFull step = link_up pair ≡ true → nat_lt (reading.free lane.from lane.queue) (entries_needed plan lane step) ≡ full

  again_answer : (step : Step) → lane_begun_by step ≡ Some lane → IsFull step → AgainSo (refused_earlier plan pair step) full (read_next plan.devs Own reading bytes pair step).answer
  again_answer (Begin p side queue frame) e is =
      let same : record { pair = p; from = side; queue = queue } ≡ lane = same_Some _ _ e in
      let sizes = sizes_of Own side queue in
      let lanes = lane_of pair side queue in
      subst (λ k. AgainSo (frame_refused (sizes_of (pair_plan plan k) side queue) pair side queue (length frame)) full (begin_step sizes reading pair side queue frame).answer) (sym (ap (λ (l : LaneName). l.pair) same))
      (again_decided pair (begun sizes pair side queue frame) (begin_refusal sizes reading pair side queue (length frame)) lanes.told
      ∙ again_sender _ _ _ _ (nat_lt sizes.most (length frame) || is_busy lanes) full (λ up.
      again_long (nat_lt sizes.most (length frame)) (is_busy lanes) (length frame) sizes.most _ full
      (again_ring full sizes reading pair side queue (needs sizes (length frame))
      (ap (λ (l : LaneName). nat_lt (reading.free l.from l.queue) (needs (sizes_of Own l.from l.queue) (length frame))) same ∙ is (is_up_now (link_up pair) up)))))
  again_answer (QpDown p side queue) e is =
      let same : record { pair = p; from = side; queue = queue } ≡ lane = same_Some _ _ e in
      let sizes = sizes_of Own side queue in
      let lanes = lane_of pair side queue in
      again_decided pair (closing pair side queue) (refuse_sender pair side queue (refuse_busy lanes (refuse_full sizes reading lanes side queue 1 None))) lanes.told
      ∙ again_sender _ _ _ _ (is_busy lanes) full (λ up.
      again_busy (is_busy lanes) _ full
      (again_ring full sizes reading pair side queue 1 (ap (λ (l : LaneName). nat_lt (reading.free l.from l.queue) 1) same ∙ is (is_up_now (link_up pair) up))))
  again_answer (Xbegin p side queue dev dst kind payload) e is =
      let same : record { pair = p; from = side; queue = queue } ≡ lane = same_Some _ _ e in
      let sizes = sizes_of Own side queue in
      let lanes = lane_of pair side queue in
      let own = dev_plan plan.devs dev in
      let frame = ethernet_frame dst own.address kind payload in
      let stopped = (dev_of pair side queue).stopped in
      subst (λ k. AgainSo (frame_refused (sizes_of (pair_plan plan k) side queue) pair side queue (length frame) || stopped) full (xbegin_step sizes reading own pair side queue dst kind payload).answer) (sym (ap (λ (l : LaneName). l.pair) same))
      (again_decided (counts_refused pair side queue) (sent_frame reading sizes own pair side queue frame) (xbegin_refusal sizes reading pair (dev_of pair side queue) side queue (length frame)) lanes.told
      ∙ again_sender _ _ _ _ ((nat_lt sizes.most (length frame) || is_busy lanes) || stopped) full (λ up.
      again_stopped (nat_lt sizes.most (length frame)) (is_busy lanes) stopped (length frame) sizes.most _ full
      (again_ring full sizes reading pair side queue (needs sizes (length frame))
      (ap (λ (l : LaneName). nat_lt (reading.free l.from l.queue) (needs (sizes_of Own l.from l.queue) (length frame))) same ∙ is (is_up_now (link_up pair) up))))
      ∙ or_assoc (sender_refused pair side queue) (nat_lt sizes.most (length frame) || is_busy lanes) stopped full)
  again_answer step e is = absurd (none-some lane e)

-- The log knows the room

room_fresh : (plan : Plan) (lane : LaneName) → RoomKnown plan lane [] (sight lane.from lane.queue (fresh_pair (pair_plan plan lane.pair)))
room_fresh plan lane =
    let own = pair_plan plan lane.pair in
    subst (λ (l : LanePart). RoomKnown plan lane [] (record (sight lane.from lane.queue (fresh_pair own)) { lane = l })) (sym (fresh-lane own lane.from lane.queue))
    (record {
      empty = λ down. (fresh-flight own lane.from, fresh-flight own (other_side lane.from));
      chain = record { acked_cleared = omega arith; cleared_got = omega arith; copied = λ x. absurd (false≢true x); given = λ x. absurd (false≢true x) };
      waits = record { waiting = 0; indexes = ap (indexes_among lane.queue) (fresh-flight own (other_side lane.from)); within = omega arith; all_up = λ _. refl };
      takes = record { within = omega arith; copying = λ x. absurd (false≢true x) };
      counts = λ open_yet. record { taken = refl; given = refl };
    })

-- On an ordinary pair the facts of a ring's room hold before any step, and each turn of the lane keeps them.
pub room_runs : (plan : Plan) (lane : LaneName) → IsRaw plan lane ≡ false → HoldsAlways plan lane (RoomKnown plan lane)
room_runs plan lane no_raw = record { fresh = room_fresh plan lane; turns = room_kept plan lane no_raw }

-- the room that the ledger counts is that of the log, while the link is up
pub room_known : (plan : Plan) (memories : Memories) (steps : List Step) (lane : LaneName) → IsRaw plan lane ≡ false → link_up (ledger_of plan memories steps lane.pair) ≡ true
    → free_of (SizesOf plan lane) (lane_of (ledger_of plan memories steps lane.pair) lane.from lane.queue) ≡ room_in plan (log_of plan memories steps) lane
room_known plan memories steps lane no_raw up =
    let now = ledger_of plan memories steps lane.pair in
    room_told plan lane (log_of plan memories steps) (sight lane.from lane.queue now) (always_after plan lane (RoomKnown plan lane) (room_runs plan lane no_raw) memories steps)
    (open_above (sight lane.from lane.queue now) (up-not_down now.link.state up))

begun_subject : (step : Step) (lane : LaneName) → lane_begun_by step ≡ Some lane → subject_of step ≡ lane.pair
begun_subject (Begin p side queue frame) lane e = ap (λ l. l.pair) (same_Some _ _ e)
begun_subject (QpDown p side queue) lane e = ap (λ l. l.pair) (same_Some _ _ e)
begun_subject (Xbegin p side queue dev dst kind payload) lane e = ap (λ l. l.pair) (same_Some _ _ e)
begun_subject step lane e = absurd (none-some lane e)

-- On an ordinary pair a step that sends is `again` if and only if no earlier test refuses it and the ring lacks room.
pub again_where_no_room : AgainWhereNoRoom
again_where_no_room plan memories steps step answer lane no_raw begins goes =
    let log = log_of plan memories steps in
    let ledger = ledger_of plan memories steps in
    let full = nat_lt (room_in plan log lane) (entries_needed plan lane step) in
    let early = refused_earlier plan (ledger lane.pair) step in
    subst (AgainSo early full) (sym (answer_of plan memories steps step answer goes))
    (subst (λ k. AgainSo early full (made_by plan k (memories log k) (ledger k) step).answer) (sym (begun_subject step lane begins))
    (subst (λ (reading : Reading). AgainSo early full (read_next plan.devs (pair_plan plan lane.pair) reading (memories log lane.pair) (ledger lane.pair) step).answer)
    (sym (cond-false (pair_plan plan lane.pair).raw (by_bytes (pair_plan plan lane.pair) (memories log lane.pair) (ledger lane.pair)) (by_ledger (pair_plan plan lane.pair) (ledger lane.pair)) no_raw))
    (again_answer plan lane (by_ledger (pair_plan plan lane.pair) (ledger lane.pair)) (memories log lane.pair) (ledger lane.pair) full step begins
    (λ up. ap (λ n. nat_lt n (entries_needed plan lane step)) (room_known plan memories steps lane no_raw up)))))
