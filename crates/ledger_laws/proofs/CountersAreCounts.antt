-- The counters of the ledger's devices are what the log counts.
use Rattle.std.proofs.Common.{◌≡◌, ℕ, ◌+◌, ◌==◌, ◌&&◌, Bool, true, false, not, List, [], ◌∷◌, ◌++◌, length, refl, sym, ap, ◌∙◌, arith}
use Rattle.std.specs.Prelude.{if◌then◌else◌, count_by, sum_by}
use Rattle.std.specs.List.{flat_map}
use Rattle.std.proofs.lemmas.Bool.{false≢true, eq-eqb, ne_eqb, cond-true, cond-false}
use Rattle.std.proofs.lemmas.Grind.{flat_map-append}
use Rattle.std.proofs.lemmas.List.{append-nil, length-append}
use Rattle.std.proofs.lemmas.List.Sums.{sum_by-append}
use Rattle.step_kinds.specs.Sides.{same_side}
use Rattle.step_kinds.specs.Subject.{subject_of}
use Rattle.step_kinds.specs.declared.names.LaneName.{LaneName}
use Rattle.step_kinds.specs.declared.names.Side.{Side}
use Rattle.step_kinds.specs.declared.names.Side.TheVariants.{A, B}
use Rattle.step_kinds.specs.declared.plan.Counters.{Counters}
use Rattle.step_kinds.specs.declared.plan.PairPlan.{PairPlan}
use Rattle.step_kinds.specs.declared.plan.Plan.{Plan}
use Rattle.step_kinds.specs.declared.steps.Answer.{Answer}
use Rattle.step_kinds.specs.declared.steps.Answer.TheVariants.{OkNumber, Delivered}
use Rattle.step_kinds.specs.declared.steps.Label.{Label}
use Rattle.step_kinds.specs.declared.steps.Label.TheVariants.{Flag, Down, Bell, Index, Pad}
use Rattle.step_kinds.specs.declared.steps.Step.{Step}
use Rattle.step_kinds.specs.declared.steps.Step.TheVariants.{Enable, Train, Break, DropDone, Clean, Offer, Check, Ready, Join, Begin, QpDown, Xbegin, Post, Land, Look, Copy, Clear, Ack, Wake, Spad, Poke}
use Rattle.pair_model.specs.Both.{Both, at_side, with_side}
use Rattle.pair_model.specs.Device.{count_accepted, count_refused, count_delivered, no_counts}
use Rattle.pair_model.specs.Ethernet.{ethernet_frame}
use Rattle.pair_model.specs.Plans.{dev_plan, pair_plan}
use Rattle.pair_model.specs.Sizes.{sizes_of}
use Rattle.pair_model.specs.Headers.{Bytes}
use Rattle.ledger_model.specs.Ledger.{DevPart, PairPart, dev_of, lane_of, lane_to, with_lane, posts, posts_raw, updated}
use Rattle.ledger_model.specs.LinkSteps.{started_dev}
use Rattle.ledger_model.specs.Log.{Answered, is_on, device_accepts, device_refuses, device_delivers, is_short, counters_in}
use Rattle.ledger_model.specs.Next.{fresh_pair, read_next}
use Rattle.ledger_model.specs.Outcome.{Outcome}
use Rattle.ledger_model.specs.Reading.{Reading, reading_of}
use Rattle.ledger_model.specs.Receiving.{lands_on}
use Rattle.ledger_model.specs.Sending.{posts_through, with_next}
use Rattle.ledger_laws.specs.Laws.{CountersAreCounts}
use Rattle.ledger_laws.proofs.EachPair.{HoldsOfLog, AnyStep, log_after, same-posts, same-posts_raw, same-through}
use Rattle.ledger_laws.proofs.LogGrowth.{made_by}
use Rattle.ledger_laws.proofs.walk.Cases.{refuses, enable_cases, train_cases, break_cases, drop_cases, clean_cases, offer_cases, check_cases, ready_cases, join_cases, begin_cases, qpdown_cases, xbegin_cases, post_cases, land_cases, look_cases, copy_cases, clear_cases, ack_cases, acking, wake_cases}
use Rattle.ledger_laws.proofs.walk.Logs.{all_fit}
use Rattle.ledger_laws.proofs.walk.Sight.{IsOff, by_lane}
use Rattle.ledger_laws.proofs.walk.Tells.{on-own, on-off}

-- What one entry of the log adds to counters: frames accepted, whether one was refused, and frames delivered

abbrev counted : Counters → List (List ℕ) → Bool → List (List ℕ) → Counters
counted c sent refused found = record {
  tx = c.tx + length sent;
  tx_bytes = c.tx_bytes + sum_by length sent;
  refused = c.refused + (if refused then 1 else 0);
  rx = c.rx + count_by (λ frame. not (is_short frame)) found;
  rx_bytes = c.rx_bytes + sum_by (λ frame. if is_short frame then 0 else length frame) found;
  short = c.short + count_by is_short found;
}

-- counters are the same where their numbers are
abbrev six : ℕ → ℕ → ℕ → ℕ → ℕ → ℕ → Counters
six a b c d e f = record { tx = a; tx_bytes = b; refused = c; rx = d; rx_bytes = e; short = f }

same_counts : {a b c d e f p q r s t u : ℕ} → a ≡ p → b ≡ q → c ≡ r → d ≡ s → e ≡ t → f ≡ u → six a b c d e f ≡ six p q r s t u
same_counts x y z v w o = λ i. six (x i) (y i) (z i) (v i) (w i) (o i)

counted_none : (c : Counters) → counted c [] false [] ≡ c
counted_none c = same_counts (omega arith) (omega arith) (omega arith) (omega arith) (omega arith) (omega arith)

counted_accepted : (c : Counters) (frame : List ℕ) → counted c (frame ∷ []) false [] ≡ count_accepted c (length frame)
counted_accepted c frame = same_counts (omega arith) (omega arith) (omega arith) (omega arith) (omega arith) (omega arith)

counted_refused : (c : Counters) → counted c [] true [] ≡ count_refused c
counted_refused c = same_counts (omega arith) (omega arith) (omega arith) (omega arith) (omega arith) (omega arith)

counted_delivered : (c : Counters) (frame : List ℕ) → counted c [] false (frame ∷ []) ≡ count_delivered c (length frame)
counted_delivered c frame = go (is_short frame)
  where
    go : (b : Bool)
        → six (c.tx + 0) (c.tx_bytes + 0) (c.refused + 0) (c.rx + (0 + (if not b then 1 else 0))) (c.rx_bytes + (0 + (if b then 0 else length frame))) (c.short + (0 + (if b then 1 else 0)))
        ≡ (if b then six c.tx c.tx_bytes c.refused c.rx c.rx_bytes (c.short + 1) else six c.tx c.tx_bytes c.refused (c.rx + 1) (c.rx_bytes + length frame) c.short)
    go true = same_counts (omega arith) (omega arith) (omega arith) (omega arith) (omega arith) (omega arith)
    go false = same_counts (omega arith) (omega arith) (omega arith) (omega arith) (omega arith) (omega arith)

-- a log with one entry more
found-last : {X : Type 0} (read : Answered → List X) (log : List Answered) (made : Answered) → flat_map read (log ++ made ∷ []) ≡ flat_map read log ++ read made
found-last read log made = flat_map-append read log (made ∷ []) ∙ ap (λ end. flat_map read log ++ end) (append-nil (read made))

counters-last : (plan : Plan) (own : LaneName) (log : List Answered) (made : Answered)
    → counters_in plan (log ++ made ∷ []) own ≡ counted (counters_in plan log own) (device_accepts plan own made) (device_refuses own made) (device_delivers own made)
counters-last plan own log made =
    let sent_before : List (List ℕ) = flat_map (device_accepts plan own) log in
    let sent_now : List (List ℕ) = device_accepts plan own made in
    let found_before : List (List ℕ) = flat_map (device_delivers own) log in
    let found_now : List (List ℕ) = device_delivers own made in
    let sent = found-last (device_accepts plan own) log made in
    let found = found-last (device_delivers own) log made in
    same_counts (ap (λ (xs : List (List ℕ)). length xs) sent ∙ length-append sent_before sent_now)
    (ap (sum_by (λ (xs : List ℕ). length xs)) sent ∙ sum_by-append (λ (xs : List ℕ). length xs) sent_before sent_now)
    (sum_by-append (λ m. if device_refuses own m then 1 else 0) log (made ∷ []) ∙ omega arith)
    (ap (count_by (λ frame. not (is_short frame))) found ∙ sum_by-append (λ frame. if not (is_short frame) then 1 else 0) found_before found_now)
    (ap (sum_by (λ frame. if is_short frame then 0 else length frame)) found ∙ sum_by-append (λ frame. if is_short frame then 0 else length frame) found_before found_now)
    (ap (count_by is_short) found ∙ sum_by-append (λ frame. if is_short frame then 1 else 0) found_before found_now)

-- What a step on another pair tells of a device

-- A side and queue of another pair than a lane's are not on the lane.
pub on-elsewhere : (own : LaneName) (p : ℕ) (side : Side) (queue : ℕ) → (p ≡ own.pair → ⊥) → is_on own p side queue ≡ false
on-elsewhere own p side queue ne = ap (λ b. b && (same_side side own.from && (queue == own.queue))) (ne_eqb p own.pair ne)

accepts-elsewhere : (plan : Plan) (own : LaneName) (step : Step) (answer : Answer) → (subject_of step ≡ own.pair → ⊥) → device_accepts plan own (record { step = step; answer = answer }) ≡ []
accepts-elsewhere plan own (Xbegin p side queue dev dst kind payload) (OkNumber n) ne = cond-false (is_on own p side queue) _ [] (on-elsewhere own p side queue ne)
accepts-elsewhere plan own step answer ne = refl

refuses-elsewhere : (own : LaneName) (step : Step) (answer : Answer) → (subject_of step ≡ own.pair → ⊥) → device_refuses own (record { step = step; answer = answer }) ≡ false
refuses-elsewhere own (Xbegin p side queue dev dst kind payload) (OkNumber n) ne = refl
refuses-elsewhere own (Xbegin p side queue dev dst kind payload) answer ne = on-elsewhere own p side queue ne
refuses-elsewhere own step answer ne = refl

delivers-elsewhere : (own : LaneName) (step : Step) (answer : Answer) → (subject_of step ≡ own.pair → ⊥) → device_delivers own (record { step = step; answer = answer }) ≡ []
delivers-elsewhere own (Copy p side queue) (Delivered n frame) ne = cond-false (is_on own p side queue) _ [] (on-elsewhere own p side queue ne)
delivers-elsewhere own step answer ne = refl

-- The device after a step

abbrev pub Devs : Type 0
Devs = Both (ℕ → DevPart)

abbrev pub with_part : Devs → Side → ℕ → DevPart → Devs
with_part devs side queue part = with_side devs side (updated (at_side devs side) queue part)

-- A device that is put on a side and queue is read back there.
pub dev-own : (from : Side) (q : ℕ) (devs : Devs) (part : DevPart) → at_side (with_part devs from q part) from q ≡ part
dev-own A q devs part = cond-true (q == q) part (devs.a q) (eq-eqb q q refl)
dev-own B q devs part = cond-true (q == q) part (devs.b q) (eq-eqb q q refl)

-- Putting a device on another side or queue leaves the one on this side and queue as it was.
pub dev-off : (from : Side) (q : ℕ) (devs : Devs) (side : Side) (queue : ℕ) (part : DevPart) → IsOff from q side queue → at_side (with_part devs side queue part) from q ≡ at_side devs from q
dev-off from q devs side queue part off = go from side off.placed
  where
    go : (f s : Side) → (same_side s f && (q == queue)) ≡ false → at_side (with_part devs s queue part) f q ≡ at_side devs f q
    go A A off = cond-false (q == queue) part (devs.a q) off
    go B B off = cond-false (q == queue) part (devs.b q) off
    go A B off = refl
    go B A off = refl

abbrev counters_of : DevPart → Counters
counters_of d = d.counters

-- a device with the same counters changes none
counters-kept : (from : Side) (q : ℕ) (devs : Devs) (side : Side) (queue : ℕ) (part : DevPart) → part.counters ≡ (at_side devs side queue).counters
    → (at_side (with_part devs side queue part) from q).counters ≡ (at_side devs from q).counters
counters-kept from q devs side queue =
    by_lane from q (λ s k. (part : DevPart) → part.counters ≡ (at_side devs s k).counters → (at_side (with_part devs s k part) from q).counters ≡ (at_side devs from q).counters)
    (λ part e. ap counters_of (dev-own from q devs part) ∙ e)
    (λ s k c off part e. ap counters_of (dev-off from q devs s k part off)) side queue

-- A side that posts a write changes no device.
pub devs-posts : (pair : PairPart) (side : Side) (label : Label) → (posts pair side label).devs ≡ pair.devs
devs-posts pair side label = same-posts (λ (p : PairPart). p.devs) pair side label (λ _. refl)

-- A side that posts a raw write with its bytes changes no device.
pub devs-posts_raw : (pair : PairPart) (side : Side) (label : Label) (bytes : List ℕ) → (posts_raw pair side label bytes).devs ≡ pair.devs
devs-posts_raw pair side label bytes = same-posts_raw (λ (p : PairPart). p.devs) pair side label bytes (λ _. refl)

-- A side that posts a write through a window changes no device, whether the peer has that window or not.
pub devs-through : (reading : Reading) (pair : PairPart) (side : Side) (label : Label) → (posts_through reading pair side label).devs ≡ pair.devs
devs-through reading pair side label = same-through (λ (p : PairPart). p.devs) reading pair side label (λ _. refl)

-- A write that lands changes no device.
pub devs-landed : (pair : PairPart) (side : Side) (label : Label) → (lands_on pair side label).devs ≡ pair.devs
devs-landed pair side (Flag queue n) = refl
devs-landed pair side (Down queue n) = refl
devs-landed pair side (Bell queue) = refl
devs-landed pair side (Index queue n) = refl
devs-landed pair side (Pad i value) = refl
devs-landed pair side label = refl

-- what a refusal tells
accepts-refused : (plan : Plan) (own : LaneName) (p : ℕ) (side : Side) (queue dev : ℕ) (dst : List ℕ) (kind : ℕ) (payload : List ℕ) (r : Answer) → refuses r ≡ true
    → device_accepts plan own (record { step = Xbegin p side queue dev dst kind payload; answer = r }) ≡ []
accepts-refused plan own p side queue dev dst kind payload (OkNumber n) is = absurd (false≢true is)
accepts-refused plan own p side queue dev dst kind payload r is = refl

refuses-refused : (own : LaneName) (p : ℕ) (side : Side) (queue dev : ℕ) (dst : List ℕ) (kind : ℕ) (payload : List ℕ) (r : Answer) → refuses r ≡ true
    → device_refuses own (record { step = Xbegin p side queue dev dst kind payload; answer = r }) ≡ is_on own p side queue
refuses-refused own p side queue dev dst kind payload (OkNumber n) is = absurd (false≢true is)
refuses-refused own p side queue dev dst kind payload r is = refl

delivers-refused : (own : LaneName) (p : ℕ) (side : Side) (queue : ℕ) (r : Answer) → refuses r ≡ true → device_delivers own (record { step = Copy p side queue; answer = r }) ≡ []
delivers-refused own p side queue (Delivered n frame) is = absurd (false≢true is)
delivers-refused own p side queue r is = refl

-- what a step does to a device's counters is what the log is told of it
record Counts (plan : Plan) (own : LaneName) (before : Counters) (step : Step) (o : Outcome) : Type 0 where
  is : (dev_of o.after own.from own.queue).counters
      ≡ counted before (device_accepts plan own (record { step = step; answer = o.answer })) (device_refuses own (record { step = step; answer = o.answer }))
      (device_delivers own (record { step = step; answer = o.answer }))

-- where it is told this
record IsTold (plan : Plan) (own : LaneName) (step : Step) (answer : Answer) (sent : List (List ℕ)) (refused : Bool) (found : List (List ℕ)) : Type 0 where
  accepts : device_accepts plan own (record { step = step; answer = answer }) ≡ sent
  refuses : device_refuses own (record { step = step; answer = answer }) ≡ refused
  delivers : device_delivers own (record { step = step; answer = answer }) ≡ found

module _ (plan : Plan) (own : LaneName) (reading : Reading) (bytes : Bytes) (pair : PairPart) where
  abbrev Before : Counters
  Before = (dev_of pair own.from own.queue).counters

  abbrev CountsSo : Step → Outcome → Type 0
  CountsSo step o = Counts plan own Before step o

  told : {step : Step} {o : Outcome} {sent found : List (List ℕ)} {refused : Bool} → IsTold plan own step o.answer sent refused found
      → (dev_of o.after own.from own.queue).counters ≡ counted Before sent refused found → CountsSo step o
  told h e = record { is = e ∙ (λ i. counted Before (sym h.accepts i) (sym h.refuses i) (sym h.delivers i)) }

  -- nothing is told, and the device's counters are the same
  none : {step : Step} {o : Outcome} → IsTold plan own step o.answer [] false [] → (dev_of o.after own.from own.queue).counters ≡ Before → CountsSo step o
  none h e = told h (e ∙ sym (counted_none Before))

  -- and no device is changed
  same : {step : Step} {o : Outcome} → IsTold plan own step o.answer [] false [] → o.after.devs ≡ pair.devs → CountsSo step o
  same h e = none h (ap (λ (devs : Devs). (at_side devs own.from own.queue).counters) e)

  nothing : {step : Step} {answer : Answer} → device_accepts plan own (record { step = step; answer = answer }) ≡ [] → device_refuses own (record { step = step; answer = answer }) ≡ false
      → device_delivers own (record { step = step; answer = answer }) ≡ [] → IsTold plan own step answer [] false []
  nothing a b c = record { accepts = a; refuses = b; delivers = c }

  started : (side : Side) → (at_side (with_side pair.devs side (λ queue. started_dev (at_side pair.devs side queue))) own.from own.queue).counters ≡ Before
  started side = go own.from side
    where
      go : (f s : Side) → (at_side (with_side pair.devs s (λ queue. started_dev (at_side pair.devs s queue))) f own.queue).counters ≡ (at_side pair.devs f own.queue).counters
      go A A = refl
      go A B = refl
      go B A = refl
      go B B = refl

  device_begins : (p dev : ℕ) (dst : List ℕ) (kind : ℕ) (payload : List ℕ) → p ≡ own.pair → (side : Side) (queue : ℕ)
      → CountsSo (Xbegin p side queue dev dst kind payload) (read_next plan.devs (pair_plan plan own.pair) reading bytes pair (Xbegin p side queue dev dst kind payload))
  device_begins p dev dst kind payload e =
      by_lane own.from own.queue (λ side queue. CountsSo (Xbegin p side queue dev dst kind payload) (read_next plan.devs (pair_plan plan own.pair) reading bytes pair (Xbegin p side queue dev dst kind payload)))
      (xbegin_cases reading (CountsSo (Xbegin p own.from own.queue dev dst kind payload)) (sizes_of (pair_plan plan own.pair) own.from own.queue) (dev_plan plan.devs dev) pair own.from own.queue dst kind payload
      (λ r no. told (record {
        accepts = accepts-refused plan own p own.from own.queue dev dst kind payload r no.is;
        refuses = refuses-refused own p own.from own.queue dev dst kind payload r no.is ∙ on-own own p e;
        delivers = refl;
      }) (ap counters_of (dev-own own.from own.queue pair.devs _) ∙ sym (counted_refused Before)))
      (λ may. told (record { accepts = cond-true (is_on own p own.from own.queue) (frame ∷ []) [] (on-own own p e); refuses = refl; delivers = refl })
      (ap counters_of (dev-own own.from own.queue pair.devs _) ∙ sym (counted_accepted Before frame))))
      (λ side queue c off.
      xbegin_cases reading (CountsSo (Xbegin p side queue dev dst kind payload)) (sizes_of (pair_plan plan own.pair) side queue) (dev_plan plan.devs dev) pair side queue dst kind payload
      (λ r no. none (record {
        accepts = accepts-refused plan own p side queue dev dst kind payload r no.is;
        refuses = refuses-refused own p side queue dev dst kind payload r no.is ∙ on-off own p side queue off;
        delivers = refl;
      }) (ap counters_of (dev-off own.from own.queue pair.devs side queue _ off)))
      (λ may. none (record { accepts = cond-false (is_on own p side queue) (frame ∷ []) [] (on-off own p side queue off); refuses = refl; delivers = refl })
      (ap counters_of (dev-off own.from own.queue pair.devs side queue _ off))))
    where
      frame : List ℕ
      frame = ethernet_frame dst (dev_plan plan.devs dev).address kind payload

  device_copies : (p : ℕ) → p ≡ own.pair → (side : Side) (queue : ℕ) → CountsSo (Copy p side queue) (read_next plan.devs (pair_plan plan own.pair) reading bytes pair (Copy p side queue))
  device_copies p e =
      by_lane own.from own.queue (λ side queue. CountsSo (Copy p side queue) (read_next plan.devs (pair_plan plan own.pair) reading bytes pair (Copy p side queue)))
      (copy_cases reading (CountsSo (Copy p own.from own.queue)) pair own.from own.queue (λ r no. same (nothing refl refl (delivers-refused own p own.from own.queue r no.is)) refl)
      (λ turn more. same (nothing refl refl refl) refl) (λ turn all others. same (nothing refl refl refl) refl)
      (λ turn all last. told (record { accepts = refl; refuses = refl; delivers = cond-true (is_on own p own.from own.queue) (found own.from own.queue ∷ []) [] (on-own own p e) })
      (ap counters_of (dev-own own.from own.queue pair.devs _) ∙ sym (counted_delivered Before (found own.from own.queue)))))
      (λ side queue c off.
      copy_cases reading (CountsSo (Copy p side queue)) pair side queue (λ r no. same (nothing refl refl (delivers-refused own p side queue r no.is)) refl)
      (λ turn more. same (nothing refl refl refl) refl) (λ turn all others. same (nothing refl refl refl) refl)
      (λ turn all last. none (nothing refl refl (cond-false (is_on own p side queue) (found side queue ∷ []) [] (on-off own p side queue off)))
      (ap counters_of (dev-off own.from own.queue pair.devs side queue _ off))))
    where
      found : Side → ℕ → List ℕ
      found side queue = (lane_to pair side queue).gathered ++ reading.part side queue

  counts_next : (step : Step) → subject_of step ≡ own.pair → CountsSo step (read_next plan.devs (pair_plan plan own.pair) reading bytes pair step)
  counts_next (Enable p side) e = enable_cases (CountsSo (Enable p side)) pair side (λ r no. same (nothing refl refl refl) refl) (λ _. same (nothing refl refl refl) refl)
  counts_next (Train p) e = train_cases (CountsSo (Train p)) pair (λ r no. same (nothing refl refl refl) refl) (λ _. same (nothing refl refl refl) refl)
  counts_next (Break p) e = break_cases (CountsSo (Break p)) pair (λ r no. same (nothing refl refl refl) refl) (λ _. same (nothing refl refl refl) refl)
  counts_next (DropDone p) e = drop_cases (CountsSo (DropDone p)) pair (λ r no. same (nothing refl refl refl) refl) (λ _. same (nothing refl refl refl) refl)
  counts_next (Clean p side) e = clean_cases (CountsSo (Clean p side)) pair side (λ r no. same (nothing refl refl refl) refl) (λ _. none (nothing refl refl refl) (started side))
  counts_next (Offer p side) e = offer_cases (CountsSo (Offer p side)) (pair_plan plan own.pair) pair side (λ r no. same (nothing refl refl refl) refl) (λ up more. same (nothing refl refl refl) (devs-posts _ side _))
  counts_next (Check p side) e = check_cases (CountsSo (Check p side)) (pair_plan plan own.pair) pair side (λ r no. same (nothing refl refl refl) refl) (λ _. same (nothing refl refl refl) refl)
  counts_next (Ready p side queue) e = ready_cases (CountsSo (Ready p side queue)) pair side queue (λ r no. same (nothing refl refl refl) refl) (λ up checked. same (nothing refl refl refl) (devs-posts _ side _))
  counts_next (Join p side queue) e = join_cases (CountsSo (Join p side queue)) pair side queue (λ r no. same (nothing refl refl refl) refl) (λ up ready asked. same (nothing refl refl refl) refl)
  counts_next (Begin p side queue frame) e = begin_cases reading (CountsSo (Begin p side queue frame)) (sizes_of (pair_plan plan own.pair) side queue) pair side queue frame (λ r no. same (nothing refl refl refl) refl) (λ may. same (nothing refl refl refl) refl)
  counts_next (QpDown p side queue) e = qpdown_cases reading (CountsSo (QpDown p side queue)) (sizes_of (pair_plan plan own.pair) side queue) pair side queue (λ r no. same (nothing refl refl refl) refl) (λ may. same (nothing refl refl refl) refl)
  counts_next (Xbegin p side queue dev dst kind payload) e = device_begins p dev dst kind payload e side queue
  counts_next (Post p side queue) e =
      post_cases reading (CountsSo (Post p side queue)) pair side queue (same (nothing refl refl refl) refl) (λ label rest is. same (nothing refl refl refl) (devs-through reading (with_lane pair side queue (record (lane_of pair side queue) { todo = rest })) side label))
      (λ entry others label rest idle waits is.
      same (nothing refl refl refl) (devs-through reading (with_lane pair side queue (record (with_next queue (lane_of pair side queue) (entry ∷ others)) { todo = rest })) side label))
  counts_next (Land p side place) e = land_cases (CountsSo (Land p side place)) (pair_plan plan own.pair) pair side place (λ r no. same (nothing refl refl refl) refl) (λ label at may. same (nothing refl refl refl) (devs-landed _ side label))
  counts_next (Look p side queue) e = look_cases reading (CountsSo (Look p side queue)) pair side queue (λ r no found. same (nothing refl refl refl) refl) (λ may empty. same (nothing refl refl refl) refl) (λ may len left found. same (nothing refl refl refl) refl) (λ may. same (nothing refl refl refl) refl)
  counts_next (Copy p side queue) e = device_copies p e side queue
  counts_next (Clear p side queue) e = clear_cases (CountsSo (Clear p side queue)) pair side queue (λ r no. same (nothing refl refl refl) refl) (λ _. same (nothing refl refl refl) refl)
  counts_next (Ack p side queue) e = ack_cases reading (CountsSo (Ack p side queue)) pair side queue (λ r no. same (nothing refl refl refl) refl) (λ _. same (nothing refl refl refl) (devs-through reading (acking pair side queue) side (Index queue (lane_to pair side queue).acked)))
  counts_next (Wake p side queue dev) e =
      wake_cases (CountsSo (Wake p side queue dev)) reading (dev_plan plan.devs dev) pair side queue (λ r no. same (nothing refl refl refl) refl) (none (nothing refl refl refl) (counters-kept own.from own.queue pair.devs side queue _ refl))
  counts_next (Spad p side i value) e = same (nothing refl refl refl) (devs-posts pair side _)
  counts_next (Poke p side window offset poked) e = same (nothing refl refl refl) (devs-posts_raw pair side _ poked)
  counts_next step e = same (nothing refl refl refl) refl

abbrev IsCounted : Plan → LaneName → List Answered → PairPart → Type 0
IsCounted plan own log pair = (dev_of pair own.from own.queue).counters ≡ counters_in plan log own

fresh_counts : (plan : PairPlan) (from : Side) (q : ℕ) → (dev_of (fresh_pair plan) from q).counters ≡ no_counts
fresh_counts plan A q = refl
fresh_counts plan B q = refl

counted_runs : (plan : Plan) (own : LaneName) → HoldsOfLog plan own.pair AnyStep (IsCounted plan own)
counted_runs plan own = record {
  fresh = fresh_counts (pair_plan plan own.pair) own.from own.queue;
  own = λ log bytes pair step any e todos h.
      let made = made_by plan own.pair bytes pair step in
      (counts_next plan own (reading_of (pair_plan plan own.pair) bytes pair) bytes pair step e).is
      ∙ ap (λ (c : Counters). counted c (device_accepts plan own made) (device_refuses own made) (device_delivers own made)) h ∙ sym (counters-last plan own log made);
  other = λ log pair made ne h.
      h ∙ sym (counted_none (counters_in plan log own))
      ∙ (λ i. counted (counters_in plan log own) (sym (accepts-elsewhere plan own made.step made.answer ne) i) (sym (refuses-elsewhere own made.step made.answer ne) i)
      (sym (delivers-elsewhere own made.step made.answer ne) i))
      ∙ sym (counters-last plan own log made);
}

-- The six counters of the device on a side and queue are what the log counts there, on raw pairs too.
pub counters_are_counts : CountersAreCounts
counters_are_counts plan memories steps own = log_after plan own.pair AnyStep (IsCounted plan own) (counted_runs plan own) memories steps (all_fit steps)
