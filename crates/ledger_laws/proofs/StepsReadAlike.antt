-- If the bytes and the ledger show a step the same of the rings, it has the same outcome by both.
use Rattle.std.proofs.Common.{◌≡◌, ℕ, ◌-◌, ◌<◌, ◌&&◌, Bool, true, false, not, Option, None, List, [], ◌∷◌, ◌++◌, length, refl, ap}
use Rattle.std.specs.Prelude.{if◌then◌else◌, nat_lt}
use Rattle.step_kinds.specs.Bits.{has_bit}
use Rattle.step_kinds.specs.Subject.{subject_of}
use Rattle.step_kinds.specs.declared.names.Side.{Side}
use Rattle.step_kinds.specs.declared.plan.DevPlan.{DevPlan}
use Rattle.step_kinds.specs.declared.plan.PairPlan.{PairPlan}
use Rattle.step_kinds.specs.declared.plan.Plan.{Plan}
use Rattle.step_kinds.specs.declared.steps.Answer.{Answer}
use Rattle.step_kinds.specs.declared.steps.Answer.TheVariants.{OkNumber, LinkDown, NotReady, Closed, Again, Stopped, Awake, OutOfTurn, Posted, Acked}
use Rattle.step_kinds.specs.declared.steps.Label.{Label}
use Rattle.step_kinds.specs.declared.steps.Label.TheVariants.{Index}
use Rattle.step_kinds.specs.declared.steps.Step.{Step}
use Rattle.step_kinds.specs.declared.steps.Step.TheVariants.{Begin, QpDown, Xbegin, Post, Look, Copy, Ack, Wake}
use Rattle.pair_model.specs.DeclaredPlans.{IsPermitted}
use Rattle.pair_model.specs.Ethernet.{ethernet_frame}
use Rattle.pair_model.specs.Plans.{dev_plan, pair_plan, side_plan}
use Rattle.pair_model.specs.Sizes.{pieces_in, sizes_of}
use Rattle.pair_model.specs.Headers.{Bytes, Found}
use Rattle.ledger_laws.proofs.walk.Cases.{acking}
use Rattle.ledger_model.specs.Ledger.{LanePart, PairPart, side_of, lane_of, lane_to, dev_of, head_in, link_up, posts, with_lane, with_dev}
use Rattle.ledger_model.specs.Next.{read_next}
use Rattle.ledger_model.specs.Outcome.{Outcome, decided, refuse_if}
use Rattle.ledger_model.specs.Reading.{Reading, by_bytes, by_ledger, has_window}
use Rattle.ledger_model.specs.Receiving.{is_idle, is_copying, is_cleared, look_at, copy_of}
use Rattle.ledger_model.specs.Sending.{refuse_busy, refuse_full, refuse_long, begun, begin_step, qpdown_step, xbegin_step, counts_refused, counts_sent, next_begun, post_first, posts_through, wake_step}

-- what a step on a queue of a side reads
pub record ReadAlike (plan : PairPlan) (bytes : Bytes) (now : PairPart) (side : Side) (queue : ℕ) : Type 0 where
  -- where the queue is joined the sender reads its room, and a device is stopped only there
  pub free : has_bit (side_of now side).joined queue ≡ true → (by_bytes plan bytes now).free side queue ≡ (by_ledger plan now).free side queue
  pub index_word : has_bit (side_of now side).joined queue ≡ true → (by_bytes plan bytes now).index_word side queue ≡ (by_ledger plan now).index_word side queue
  pub stopped : (dev_of now side queue).stopped ≡ true → has_bit (side_of now side).joined queue ≡ true
  -- an idle receiver of a joined queue looks, and one that copies an entry reads its next part
  pub found : has_bit (side_of now side).joined queue ≡ true → is_idle (lane_to now side queue).phase ≡ true → (by_bytes plan bytes now).found side queue ≡ (by_ledger plan now).found side queue
  pub part : is_copying (lane_to now side queue).phase ≡ true → (by_bytes plan bytes now).part side queue ≡ (by_ledger plan now).part side queue
  -- the peer has the windows of the writes that are posted
  pub posts : (label : Label) (rest : List Label) → (next_begun queue (lane_of now side queue)).todo ≡ label ∷ rest → has_window plan side label ≡ true
  pub gives : is_cleared (lane_to now side queue).phase ≡ true → has_window plan side (Index queue (lane_to now side queue).acked) ≡ true

-- two arguments that are the same
two_alike : {X Y Z : Type 0} (f : X → Y → Z) {a b : X} {c d : Y} → a ≡ b → c ≡ d → f a c ≡ f b d
two_alike f e g = cc

-- a side that is to send is refused before it reads, if the link isn't up or the queue isn't joined
sender_decides : (up joined : Bool) (old : PairPart) (x y : Option Answer) (answer : Answer) (m n : PairPart) → (joined ≡ true → (x ≡ y) × (m ≡ n))
    → decided old (refuse_if (not up) LinkDown (refuse_if (not joined) NotReady x)) answer m ≡ decided old (refuse_if (not up) LinkDown (refuse_if (not joined) NotReady y)) answer n
sender_decides false joined old x y answer m n same = refl
sender_decides true false old x y answer m n same = refl
sender_decides true true old x y answer m n same = let e = same refl in two_alike (λ refusal after. decided old refusal answer after) e.0 e.1

-- a device that isn't stopped goes on without a look at its room
wakes_alike : (stopped : Bool) (free other start : ℕ) → (stopped ≡ true → free ≡ other) → (stopped && nat_lt free start) ≡ (stopped && nat_lt other start)
wakes_alike false free other start same = refl
wakes_alike true free other start same = ap (λ n. nat_lt n start) (same refl)

looks_alike : (joined closed idle : Bool) (pair : PairPart) (side : Side) (queue : ℕ) (x y : Found) → (joined ≡ true → idle ≡ true → x ≡ y)
    → decided pair (refuse_if (not joined) NotReady (refuse_if closed Closed (refuse_if (not idle) OutOfTurn None))) (look_at pair side queue x).answer (look_at pair side queue x).after
    ≡ decided pair (refuse_if (not joined) NotReady (refuse_if closed Closed (refuse_if (not idle) OutOfTurn None))) (look_at pair side queue y).answer (look_at pair side queue y).after
looks_alike false closed idle pair side queue x y same = refl
looks_alike true true idle pair side queue x y same = refl
looks_alike true false false pair side queue x y same = refl
looks_alike true false true pair side queue x y same = ap (λ (f : Found). decided pair None (look_at pair side queue f).answer (look_at pair side queue f).after) (same refl refl)

-- what a receiver that isn't in the phase would read changes nothing
turns_alike : (turn : Bool) (pair : PairPart) (x y : Outcome) → (turn ≡ true → x ≡ y)
    → decided pair (refuse_if (not turn) OutOfTurn None) x.answer x.after ≡ decided pair (refuse_if (not turn) OutOfTurn None) y.answer y.after
turns_alike false pair x y same = refl
turns_alike true pair x y same = ap (λ (o : Outcome). decided pair None o.answer o.after) (same refl)

module _ (plan : PairPlan) (bytes : Bytes) (now : PairPart) where
  -- the two readings
  abbrev InMemory : Reading
  InMemory = by_bytes plan bytes now

  abbrev InLedger : Reading
  InLedger = by_ledger plan now

  abbrev Alike : Side → ℕ → Type 0
  Alike side queue = ReadAlike plan bytes now side queue

  full_alike : (side : Side) (queue needed : ℕ) → Alike side queue → has_bit (side_of now side).joined queue ≡ true
      → refuse_full (sizes_of plan side queue) InMemory (lane_of now side queue) side queue needed None ≡ refuse_full (sizes_of plan side queue) InLedger (lane_of now side queue) side queue needed None
  full_alike side queue needed alike joined =
      two_alike (λ free word. refuse_if (nat_lt free needed) (Again (head_in (sizes_of plan side queue) (lane_of now side queue)) word) None) (alike.free joined) (alike.index_word joined)

  begins_alike : (side : Side) (queue : ℕ) (frame : List ℕ) → Alike side queue
      → begin_step (sizes_of plan side queue) InMemory now side queue frame ≡ begin_step (sizes_of plan side queue) InLedger now side queue frame
  begins_alike side queue frame alike =
      let sizes = sizes_of plan side queue in
      let lane = lane_of now side queue in
      sender_decides (link_up now) (has_bit (side_of now side).joined queue) now _ _ (OkNumber lane.told) (begun sizes now side queue frame) (begun sizes now side queue frame) (λ joined. (
        ap (λ later. refuse_if (has_bit (side_of now side).closed queue) Closed (refuse_long (length frame) sizes.most (refuse_busy lane later)))
            (full_alike side queue (pieces_in sizes.largest (length frame)) alike joined),
        refl,
      ))

  shuts_alike : (side : Side) (queue : ℕ) → Alike side queue
      → qpdown_step (sizes_of plan side queue) InMemory now side queue ≡ qpdown_step (sizes_of plan side queue) InLedger now side queue
  shuts_alike side queue alike =
      let lane = lane_of now side queue in
      sender_decides (link_up now) (has_bit (side_of now side).joined queue) now _ _ (OkNumber lane.told) _ _ (λ joined. (
        ap (λ later. refuse_if (has_bit (side_of now side).closed queue) Closed (refuse_busy lane later)) (full_alike side queue 1 alike joined),
        refl,
      ))

  sends_alike : (dev : DevPlan) (side : Side) (queue : ℕ) (dst : List ℕ) (kind : ℕ) (payload : List ℕ) → Alike side queue
      → xbegin_step (sizes_of plan side queue) InMemory dev now side queue dst kind payload ≡ xbegin_step (sizes_of plan side queue) InLedger dev now side queue dst kind payload
  sends_alike dev side queue dst kind payload alike =
      let sizes = sizes_of plan side queue in
      let lane = lane_of now side queue in
      let frame = ethernet_frame dst dev.address kind payload in
      let needed = pieces_in sizes.largest (length frame) in
      sender_decides (link_up now) (has_bit (side_of now side).joined queue) (counts_refused now side queue) _ _ (OkNumber lane.told)
      (counts_sent dev (begun sizes now side queue frame) side queue (length frame) (InMemory.free side queue - needed))
      (counts_sent dev (begun sizes now side queue frame) side queue (length frame) (InLedger.free side queue - needed))
      (λ joined. (
        ap (λ later. refuse_if (has_bit (side_of now side).closed queue) Closed (refuse_long (length frame) sizes.most (refuse_busy lane (refuse_if (dev_of now side queue).stopped Stopped later))))
            (full_alike side queue needed alike joined),
        ap (λ free. counts_sent dev (begun sizes now side queue frame) side queue (length frame) (free - needed)) (alike.free joined),
      ))

  goes_on_alike : (dev : DevPlan) (side : Side) (queue : ℕ) → Alike side queue → wake_step InMemory dev now side queue ≡ wake_step InLedger dev now side queue
  goes_on_alike dev side queue alike =
      ap (λ stays. decided now (refuse_if stays Stopped None) Awake (with_dev now side queue (record (dev_of now side queue) { stopped = false })))
      (wakes_alike (dev_of now side queue).stopped (InMemory.free side queue) (InLedger.free side queue) dev.start (λ stopped. alike.free (alike.stopped stopped)))

  through_alike : (pair : PairPart) (side : Side) (label : Label) → has_window plan side label ≡ true → posts_through InMemory pair side label ≡ posts_through InLedger pair side label
  through_alike pair side label has = ap (λ reaches. if reaches then posts pair side label else pair) has

  posts_alike : (side : Side) (queue : ℕ) (lane : LanePart) (todo : List Label) → ((label : Label) (rest : List Label) → todo ≡ label ∷ rest → has_window plan side label ≡ true)
      → post_first InMemory now side queue lane todo ≡ post_first InLedger now side queue lane todo
  posts_alike side queue lane [] has = refl
  posts_alike side queue lane (label ∷ rest) has =
      ap (λ (after : PairPart). record { answer = Posted label; after = after }) (through_alike (with_lane now side queue (record lane { todo = rest })) side label (has label rest refl))

-- each step that the plan permits
pub read_alike : (plan : Plan) (bytes : Bytes) (now : PairPart) (step : Step) → IsPermitted plan step
    → ((side : Side) (queue : ℕ) → queue < (side_plan (pair_plan plan (subject_of step)) side).queues → ReadAlike (pair_plan plan (subject_of step)) bytes now side queue)
    → read_next plan.devs (pair_plan plan (subject_of step)) (by_bytes (pair_plan plan (subject_of step)) bytes now) bytes now step
    ≡ read_next plan.devs (pair_plan plan (subject_of step)) (by_ledger (pair_plan plan (subject_of step)) now) bytes now step
read_alike plan bytes now (Begin p side queue frame) may alike = begins_alike (pair_plan plan p) bytes now side queue frame (alike side queue may.0.among)
read_alike plan bytes now (QpDown p side queue) may alike = shuts_alike (pair_plan plan p) bytes now side queue (alike side queue may.among)
read_alike plan bytes now (Xbegin p side queue dev dst kind payload) may alike =
    sends_alike (pair_plan plan p) bytes now (dev_plan plan.devs dev) side queue dst kind payload (alike side queue may.0.among)
read_alike plan bytes now (Post p side queue) may alike =
    let lane = next_begun queue (lane_of now side queue) in
    posts_alike (pair_plan plan p) bytes now side queue lane lane.todo (alike side queue may.among).posts
read_alike plan bytes now (Look p side queue) may alike =
    looks_alike (has_bit (side_of now side).joined queue) (has_bit (side_of now side).closed queue) (is_idle (lane_to now side queue).phase) now side queue _ _ (alike side queue may.among).found
read_alike plan bytes now (Copy p side queue) may alike =
    let lane = lane_to now side queue in
    turns_alike (is_copying lane.phase) now _ _ (λ turn. ap (λ part. copy_of now side queue lane (lane.gathered ++ part)) ((alike side queue may.among).part turn))
read_alike plan bytes now (Ack p side queue) may alike =
    let lane = lane_to now side queue in
    turns_alike (is_cleared lane.phase) now (record { answer = Acked lane.acked; after = posts_through (by_bytes (pair_plan plan p) bytes now) (acking now side queue) side (Index queue lane.acked) })
    (record { answer = Acked lane.acked; after = posts_through (by_ledger (pair_plan plan p) now) (acking now side queue) side (Index queue lane.acked) })
    (λ turn. ap (λ (after : PairPart). record { answer = Acked lane.acked; after = after })
    (through_alike (pair_plan plan p) bytes now (acking now side queue) side (Index queue lane.acked) ((alike side queue may.among).gives turn)))
read_alike plan bytes now (Wake p side queue dev) may alike = goes_on_alike (pair_plan plan p) bytes now (dev_plan plan.devs dev) side queue (alike side queue may.0.among)
read_alike plan bytes now step may alike = refl
