-- What was posted on a lane in the session, and then what is left to post, are the writes of the entries begun.
use Rattle.std.proofs.Common.{◌≡◌, ℕ, ◌+◌, ◌==◌, ◌&&◌, Bool, true, false, List, [], ◌∷◌, ◌++◌, length, refl, sym, ap, ◌∙◌, subst, append_assoc, arith}
use Rattle.std.specs.Prelude.{if◌then◌else◌}
use Rattle.std.proofs.lemmas.Bool.{false≢true, both_ways, eq-eqb, ne_eqb, cond-true, cond-false, not-false}
use Rattle.std.proofs.lemmas.List.{append-nil}
use Rattle.step_kinds.specs.Sides.{other_side, same_side}
use Rattle.step_kinds.specs.Subject.{subject_of}
use Rattle.step_kinds.specs.declared.names.LaneName.{LaneName}
use Rattle.step_kinds.specs.declared.names.Side.{Side}
use Rattle.step_kinds.specs.declared.names.Side.TheVariants.{A, B}
use Rattle.step_kinds.specs.declared.plan.PairPlan.{PairPlan}
use Rattle.step_kinds.specs.declared.plan.Plan.{Plan}
use Rattle.step_kinds.specs.declared.steps.Answer.{Answer}
use Rattle.step_kinds.specs.declared.steps.Answer.TheVariants.{Ok as Done, OkSession, Posted}
use Rattle.step_kinds.specs.declared.steps.Label.{Label}
use Rattle.step_kinds.specs.declared.steps.Label.TheVariants.{Flag, Down, Bell, Index, Pad}
use Rattle.step_kinds.specs.declared.steps.Step.{Step}
use Rattle.step_kinds.specs.declared.steps.Step.TheVariants.{Enable, Train, Break, DropDone, Clean, Offer, Check, Ready, Join, Begin, QpDown, Xbegin, Post, Land, Look, Copy, Clear, Ack, Wake, Spad, Poke}
use Rattle.lane_model.specs.Lane.{Entry, GoesDown}
use Rattle.lane_model.specs.declared.Phase.TheVariants.{Idle, Copying, Copied, Cleared}
use Rattle.pair_model.specs.Both.{Both, at_side}
use Rattle.pair_model.specs.Ethernet.{ethernet_frame}
use Rattle.pair_model.specs.Link.{Link, is_down, is_closing}
use Rattle.pair_model.specs.Plans.{dev_plan, pair_plan}
use Rattle.pair_model.specs.Sizes.{sizes_of}
use Rattle.pair_model.specs.declared.LinkState.{LinkState}
use Rattle.pair_model.specs.declared.LinkState.TheVariants.{Down as LinkIsDown, Up as LinkIsUp, Closing}
use Rattle.pair_model.specs.Headers.{Bytes}
use Rattle.ledger_model.specs.Labels.{labels_of}
use Rattle.ledger_model.specs.Ledger.{LanePart, PairPart, lane_of, lane_to, with_lane}
use Rattle.ledger_model.specs.Log.{Answered, is_on, trains, posts_write, posted_in}
use Rattle.ledger_model.specs.Next.{read_next}
use Rattle.ledger_model.specs.Outcome.{Outcome}
use Rattle.ledger_model.specs.Pieces.{pieces_of}
use Rattle.ledger_model.specs.Reading.{Reading, reading_of}
use Rattle.ledger_model.specs.Receiving.{lands_on, taken_out, copy_step}
use Rattle.ledger_model.specs.Sending.{posts_through, begun_lane, frame_begun, with_next, begin_step, qpdown_step, xbegin_step, post_step}
use Rattle.ledger_laws.specs.Laws.{labels_from, has_forgotten, PostedAreWrites}
use Rattle.ledger_laws.proofs.AtStart.{fresh-lane, up-not_down}
use Rattle.ledger_laws.proofs.EachPair.{HoldsOfLog, AnyStep, log_after, same-posts, same-posts_raw, same-through}
use Rattle.ledger_laws.proofs.LogGrowth.{made_by, left_by}
use Rattle.ledger_laws.proofs.LogReaders.{session_found-last}
use Rattle.ledger_laws.proofs.Outcomes.{refused_passed}
use Rattle.ledger_laws.proofs.walk.Cases.{refuses, enable_cases, train_cases, break_cases, drop_cases, clean_cases, offer_cases, check_cases, ready_cases, join_cases, begin_cases, qpdown_cases, xbegin_cases, post_cases, land_cases, look_cases, copy_cases, clear_cases, ack_cases, acking, wake_cases, trained, cleaned, offering, readied}
use Rattle.ledger_laws.proofs.walk.Logs.{all_fit}
use Rattle.ledger_laws.proofs.walk.Sight.{IsOff, by_lane, lane-own, lane-off}
use Rattle.ledger_laws.proofs.walk.Tells.{on-own, on-off}

-- The labels of entries, with one entry more

labels-last : (q n : ℕ) (entries : List Entry) (entry : Entry) → labels_from q n (entries ++ entry ∷ []) ≡ labels_from q n entries ++ labels_of q (n + length entries) entry
labels-last q n [] entry = append-nil (labels_of q n entry) ∙ ap (λ k. labels_of q k entry) (omega arith)
labels-last q n (first ∷ entries) entry =
    ap (λ labels. labels_of q n first ++ labels) (labels-last q (n + 1) entries entry ∙ ap (λ k. labels_from q (n + 1) entries ++ labels_of q k entry) (omega arith))
    ∙ sym (append_assoc (labels_of q n first) (labels_from q (n + 1) entries) (labels_of q (n + length (first ∷ entries)) entry))

-- what was posted, and is left to post
abbrev AreWrites : ℕ → List Label → List Label → List Entry → Type 0
AreWrites q posted todo sent = posted ++ todo ≡ labels_from q 0 sent

one_more : (q : ℕ) (posted todo : List Label) (sent : List Entry) (entry : Entry) → todo ≡ [] → AreWrites q posted todo sent → AreWrites q posted (labels_of q (length sent) entry) (sent ++ entry ∷ [])
one_more q posted todo sent entry idle h =
    ap (λ labels. labels ++ labels_of q (length sent) entry) (sym (append-nil posted) ∙ ap (λ labels. posted ++ labels) (sym idle) ∙ h)
    ∙ ap (λ k. labels_from q 0 sent ++ labels_of q k entry) (omega arith) ∙ sym (labels-last q 0 sent entry)

entries_begun : (q : ℕ) (posted : List Label) (lane : LanePart) (entries : List Entry) → lane.todo ≡ [] → AreWrites q posted lane.todo lane.sent
    → AreWrites q posted (begun_lane q lane entries).todo (begun_lane q lane entries).sent
entries_begun q posted lane [] idle h = h
entries_begun q posted lane (first ∷ others) idle h = one_more q posted lane.todo lane.sent first idle h

one_posted : (q : ℕ) (posted : List Label) (label : Label) (todo rest : List Label) (sent : List Entry) → todo ≡ label ∷ rest → AreWrites q posted todo sent → AreWrites q (posted ++ label ∷ []) rest sent
one_posted q posted label todo rest sent next h = append_assoc posted (label ∷ []) rest ∙ ap (λ labels. posted ++ labels) (sym next) ∙ h

closing-not_down : (state : LinkState) → is_closing state ≡ true → is_down state ≡ false
closing-not_down LinkIsDown e = absurd (false≢true e)
closing-not_down LinkIsUp e = refl
closing-not_down Closing e = refl

-- What a step leaves of links and lanes: what the law reads of a pair
record Seen (from : Side) (q : ℕ) (before after : PairPart) : Type 0 where
  link : after.link ≡ before.link
  todo : (lane_of after from q).todo ≡ (lane_of before from q).todo
  sent : (lane_of after from q).sent ≡ (lane_of before from q).sent

seen_same : (from : Side) (q : ℕ) (before after : PairPart) → after.link ≡ before.link → after.lanes ≡ before.lanes → Seen from q before after
seen_same from q before after link lanes =
    record { link = link; todo = ap (λ (l : Both (ℕ → LanePart)). (at_side l from q).todo) lanes; sent = ap (λ (l : Both (ℕ → LanePart)). (at_side l from q).sent) lanes }

seen_then : (from : Side) (q : ℕ) (a b c : PairPart) → Seen from q a b → Seen from q b c → Seen from q a c
seen_then from q a b c h k = record { link = k.link ∙ h.link; todo = k.todo ∙ h.todo; sent = k.sent ∙ h.sent }

seen_lane : (from : Side) (q : ℕ) (pair : PairPart) (side : Side) (queue : ℕ) (part : LanePart) → part.todo ≡ (lane_of pair side queue).todo → part.sent ≡ (lane_of pair side queue).sent
    → Seen from q pair (with_lane pair side queue part)
seen_lane from q pair side queue =
    by_lane from q (λ s k. (part : LanePart) → part.todo ≡ (lane_of pair s k).todo → part.sent ≡ (lane_of pair s k).sent → Seen from q pair (with_lane pair s k part))
    (λ part e f. record { link = refl; todo = ap (λ (l : LanePart). l.todo) (lane-own from q pair part) ∙ e; sent = ap (λ (l : LanePart). l.sent) (lane-own from q pair part) ∙ f })
    (λ s k c off part e f. seen_off part s k off) side queue
  where
    seen_off : (part : LanePart) (s : Side) (k : ℕ) → IsOff from q s k → Seen from q pair (with_lane pair s k part)
    seen_off part s k off =
        record { link = refl; todo = ap (λ (l : LanePart). l.todo) (lane-off from q pair s k part off); sent = ap (λ (l : LanePart). l.sent) (lane-off from q pair s k part off) }

seen_landed : (from : Side) (q : ℕ) (pair : PairPart) (side : Side) (label : Label) → Seen from q pair (lands_on pair side label)
seen_landed from q pair side (Flag queue n) = seen_lane from q pair side queue _ refl refl
seen_landed from q pair side (Down queue n) = seen_lane from q pair side queue _ refl refl
seen_landed from q pair side (Bell queue) = seen_same from q pair _ refl refl
seen_landed from q pair side (Index queue n) = seen_lane from q pair (other_side side) queue _ refl refl
seen_landed from q pair side (Pad i value) = seen_same from q pair _ refl refl
seen_landed from q pair side label = seen_same from q pair _ refl refl

-- What a step tells of posted writes

record IsTold (lane : LaneName) (step : Step) (answer : Answer) (starts : Bool) (labels : List Label) : Type 0 where
  starts_is : trains lane.pair (record { step = step; answer = answer }) ≡ starts
  labels_are : posts_write lane (record { step = step; answer = answer }) ≡ labels

train-refused : (k p : ℕ) (r : Answer) → refuses r ≡ true → trains k (record { step = Train p; answer = r }) ≡ false
train-refused k p (OkSession session) is = absurd (false≢true is)
train-refused k p r is = refl

trains-elsewhere : (k : ℕ) (step : Step) (answer : Answer) → (subject_of step ≡ k → ⊥) → trains k (record { step = step; answer = answer }) ≡ false
trains-elsewhere k (Train p) (OkSession session) ne = ne_eqb p k ne
trains-elsewhere k step answer ne = refl

posts-elsewhere : (lane : LaneName) (step : Step) (answer : Answer) → (subject_of step ≡ lane.pair → ⊥) → posts_write lane (record { step = step; answer = answer }) ≡ []
posts-elsewhere lane (Post p side queue) (Posted label) ne =
    cond-false (is_on lane p side queue) (label ∷ []) [] (ap (λ b. b && (same_side side lane.from && (queue == lane.queue))) (ne_eqb p lane.pair ne))
posts-elsewhere lane step answer ne = refl

-- what a step does to a lane is what the log is told of it
record Writes (lane : LaneName) (before : PairPart) (step : Step) (o : Outcome) : Type 0 where
  is : (posted : List Label) → (has_forgotten before lane.from ≡ false → AreWrites lane.queue posted (lane_of before lane.from lane.queue).todo (lane_of before lane.from lane.queue).sent)
      → has_forgotten o.after lane.from ≡ false
      → AreWrites lane.queue (if trains lane.pair (record { step = step; answer = o.answer }) then [] else posted ++ posts_write lane (record { step = step; answer = o.answer }))
      (lane_of o.after lane.from lane.queue).todo (lane_of o.after lane.from lane.queue).sent

module _ (plan : Plan) (lane : LaneName) (reading : Reading) (bytes : Bytes) (pair : PairPart) where
  abbrev Own : PairPlan
  Own = pair_plan plan lane.pair

  abbrev Now : LanePart
  Now = lane_of pair lane.from lane.queue

  abbrev After : PairPart → LanePart
  After after = lane_of after lane.from lane.queue

  abbrev WritesSo : Step → Outcome → Type 0
  WritesSo step o = Writes lane pair step o

  abbrev Posts : List Label → PairPart → Type 0
  Posts labels after = (posted : List Label) → AreWrites lane.queue posted Now.todo Now.sent → AreWrites lane.queue (posted ++ labels) (After after).todo (After after).sent

  told : {step : Step} {o : Outcome} {labels : List Label} → IsTold lane step o.answer false labels
      → (has_forgotten o.after lane.from ≡ false → (has_forgotten pair lane.from ≡ false) × Posts labels o.after) → WritesSo step o
  told {step} {o} {labels} h next = record {
    is = λ posted now open_yet.
        let goes = next open_yet in
        subst (λ labels. AreWrites lane.queue labels (After o.after).todo (After o.after).sent)
        (sym (ap (λ b. if b then [] else posted ++ posts_write lane (record { step = step; answer = o.answer })) h.starts_is ∙ ap (λ labels. posted ++ labels) h.labels_are)) (goes.1 posted (now goes.0));
  }

  -- nothing is told, and nothing changes
  alike : (after : PairPart) → (After after).todo ≡ Now.todo → (After after).sent ≡ Now.sent → Posts [] after
  alike after todo sent posted now = (λ i. append-nil posted i ++ todo i) ∙ now ∙ ap (labels_from lane.queue 0) (sym sent)

  seen : {step : Step} {o : Outcome} → IsTold lane step o.answer false [] → Seen lane.from lane.queue pair o.after → WritesSo step o
  seen {step} {o} h same = told h (λ open_yet. (ap (λ (link : Link). is_down link.state && at_side link.clean lane.from) (sym same.link) ∙ open_yet, alike o.after same.todo same.sent))

  quiet : {step : Step} {o : Outcome} → IsTold lane step o.answer false [] → o.after.link ≡ pair.link → o.after.lanes ≡ pair.lanes → WritesSo step o
  quiet {step} {o} h link lanes = seen h (seen_same lane.from lane.queue pair o.after link lanes)

  nothing : {step : Step} {answer : Answer} → trains lane.pair (record { step = step; answer = answer }) ≡ false → posts_write lane (record { step = step; answer = answer }) ≡ [] → IsTold lane step answer false []
  nothing starts labels = record { starts_is = starts; labels_are = labels }

  -- the link wasn't down
  on_link : is_down pair.link.state ≡ false → has_forgotten pair lane.from ≡ false
  on_link e = ap (λ b. b && at_side pair.link.clean lane.from) e

  train_writes : (p : ℕ) → p ≡ lane.pair → WritesSo (Train p) (record { answer = OkSession (pair.link.session + 1); after = trained pair })
  train_writes p e = record {
    is = λ posted now open_yet.
        subst (λ b. AreWrites lane.queue (if b then [] else posted ++ []) (After (trained pair)).todo (After (trained pair)).sent) (sym (eq-eqb p lane.pair e)) (fresh lane.from);
  }
    where
      fresh : (from : Side) → AreWrites lane.queue [] (lane_of (trained pair) from lane.queue).todo (lane_of (trained pair) from lane.queue).sent
      fresh A = refl
      fresh B = refl

  clean_writes : (p : ℕ) (side : Side) → is_down pair.link.state ≡ true → WritesSo (Clean p side) (record { answer = Done; after = cleaned pair side })
  clean_writes p side down = told (nothing refl refl) (go lane.from side)
    where
      go : (f s : Side) → has_forgotten (cleaned pair s) f ≡ false
          → (has_forgotten pair f ≡ false) × ((posted : List Label) → AreWrites lane.queue posted (lane_of pair f lane.queue).todo (lane_of pair f lane.queue).sent
          → AreWrites lane.queue (posted ++ []) (lane_of (cleaned pair s) f lane.queue).todo (lane_of (cleaned pair s) f lane.queue).sent)
      go A A open_yet = absurd (both_ways (is_down pair.link.state && true) open_yet (ap (λ b. b && true) down))
      go B B open_yet = absurd (both_ways (is_down pair.link.state && true) open_yet (ap (λ b. b && true) down))
      go A B open_yet = (open_yet, λ posted now. ap (λ labels. labels ++ (lane_of pair A lane.queue).todo) (append-nil posted) ∙ now)
      go B A open_yet = (open_yet, λ posted now. ap (λ labels. labels ++ (lane_of pair B lane.queue).todo) (append-nil posted) ∙ now)

  -- entries are begun on the lane, or on another
  begins_here : {step : Step} {o : Outcome} (entries : List Entry) → IsTold lane step o.answer false [] → o.after.link ≡ pair.link → Now.todo ≡ []
      → (After o.after).todo ≡ (begun_lane lane.queue Now entries).todo → (After o.after).sent ≡ (begun_lane lane.queue Now entries).sent → WritesSo step o
  begins_here {step} {o} entries h link idle todo sent =
      told h (λ open_yet. (
        ap (λ (link : Link). is_down link.state && at_side link.clean lane.from) (sym link) ∙ open_yet,
        λ posted now. (λ i. append-nil posted i ++ todo i) ∙ entries_begun lane.queue posted Now entries idle now ∙ ap (labels_from lane.queue 0) (sym sent),
      ))

  begin_writes : (p : ℕ) (bytes_begun : List ℕ) (side : Side) (queue : ℕ) → WritesSo (Begin p side queue bytes_begun) (begin_step (sizes_of Own side queue) reading pair side queue bytes_begun)
  begin_writes p frame =
      by_lane lane.from lane.queue (λ side queue. WritesSo (Begin p side queue frame) (begin_step (sizes_of Own side queue) reading pair side queue frame))
      (begin_cases reading (WritesSo (Begin p lane.from lane.queue frame)) (sizes_of Own lane.from lane.queue) pair lane.from lane.queue frame (λ r no. quiet (nothing refl refl) refl refl)
      (λ may. begins_here (pieces_of (sizes_of Own lane.from lane.queue).largest frame) (nothing refl refl) refl may.not_busy
      (ap (λ (l : LanePart). l.todo) (lane-own lane.from lane.queue pair (frame_begun lane.queue Now (pieces_of (sizes_of Own lane.from lane.queue).largest frame))))
      (ap (λ (l : LanePart). l.sent) (lane-own lane.from lane.queue pair (frame_begun lane.queue Now (pieces_of (sizes_of Own lane.from lane.queue).largest frame))))))
      (λ side queue c off.
      begin_cases reading (WritesSo (Begin p side queue frame)) (sizes_of Own side queue) pair side queue frame (λ r no. quiet (nothing refl refl) refl refl)
      (λ may. seen (nothing refl refl) (record {
        link = refl;
        todo = ap (λ (l : LanePart). l.todo) (lane-off lane.from lane.queue pair side queue _ off);
        sent = ap (λ (l : LanePart). l.sent) (lane-off lane.from lane.queue pair side queue _ off);
      })))

  xbegin_writes : (p dev : ℕ) (dst : List ℕ) (kind : ℕ) (payload : List ℕ) (side : Side) (queue : ℕ)
      → WritesSo (Xbegin p side queue dev dst kind payload) (xbegin_step (sizes_of Own side queue) reading (dev_plan plan.devs dev) pair side queue dst kind payload)
  xbegin_writes p dev dst kind payload =
      by_lane lane.from lane.queue
      (λ side queue. WritesSo (Xbegin p side queue dev dst kind payload) (xbegin_step (sizes_of Own side queue) reading (dev_plan plan.devs dev) pair side queue dst kind payload))
      (xbegin_cases reading (WritesSo (Xbegin p lane.from lane.queue dev dst kind payload)) (sizes_of Own lane.from lane.queue) (dev_plan plan.devs dev) pair lane.from lane.queue dst kind payload
      (λ r no. quiet (nothing refl refl) refl refl)
      (λ may. begins_here pieces (nothing refl refl) refl may.not_busy
      (ap (λ (l : LanePart). l.todo) (lane-own lane.from lane.queue pair (frame_begun lane.queue Now pieces))) (ap (λ (l : LanePart). l.sent) (lane-own lane.from lane.queue pair (frame_begun lane.queue Now pieces)))))
      (λ side queue c off.
      xbegin_cases reading (WritesSo (Xbegin p side queue dev dst kind payload)) (sizes_of Own side queue) (dev_plan plan.devs dev) pair side queue dst kind payload
      (λ r no. quiet (nothing refl refl) refl refl)
      (λ may. seen (nothing refl refl) (record {
        link = refl;
        todo = ap (λ (l : LanePart). l.todo) (lane-off lane.from lane.queue pair side queue _ off);
        sent = ap (λ (l : LanePart). l.sent) (lane-off lane.from lane.queue pair side queue _ off);
      })))
    where
      pieces : List Entry
      pieces = pieces_of (sizes_of Own lane.from lane.queue).largest (ethernet_frame dst (dev_plan plan.devs dev).address kind payload)

  qpdown_writes : (p : ℕ) (side : Side) (queue : ℕ) → WritesSo (QpDown p side queue) (qpdown_step (sizes_of Own side queue) reading pair side queue)
  qpdown_writes p =
      by_lane lane.from lane.queue (λ side queue. WritesSo (QpDown p side queue) (qpdown_step (sizes_of Own side queue) reading pair side queue))
      (qpdown_cases reading (WritesSo (QpDown p lane.from lane.queue)) (sizes_of Own lane.from lane.queue) pair lane.from lane.queue (λ r no. quiet (nothing refl refl) refl refl)
      (λ may. begins_here (GoesDown ∷ []) (nothing refl refl) refl may.not_busy
      (ap (λ (l : LanePart). l.todo) (lane-own lane.from lane.queue pair (begun_lane lane.queue Now (GoesDown ∷ []))))
      (ap (λ (l : LanePart). l.sent) (lane-own lane.from lane.queue pair (begun_lane lane.queue Now (GoesDown ∷ []))))))
      (λ side queue c off.
      qpdown_cases reading (WritesSo (QpDown p side queue)) (sizes_of Own side queue) pair side queue (λ r no. quiet (nothing refl refl) refl refl)
      (λ may. seen (nothing refl refl) (record {
        link = refl;
        todo = ap (λ (l : LanePart). l.todo) (lane-off lane.from lane.queue pair side queue _ off);
        sent = ap (λ (l : LanePart). l.sent) (lane-off lane.from lane.queue pair side queue _ off);
      })))

  -- a write of the lane is posted
  module _ (p : ℕ) (on : p ≡ lane.pair) where
    posts_here : (part : LanePart) (label : Label) (rest : List Label) → ((posted : List Label) → AreWrites lane.queue posted Now.todo Now.sent → AreWrites lane.queue (posted ++ label ∷ []) rest part.sent)
        → WritesSo (Post p lane.from lane.queue) (record { answer = Posted label; after = posts_through reading (with_lane pair lane.from lane.queue (record part { todo = rest })) lane.from label })
    posts_here part label rest next =
        told (record { starts_is = refl; labels_are = cond-true (is_on lane p lane.from lane.queue) (label ∷ []) [] (on-own lane p on) })
        (λ open_yet. (
          ap (λ (link : Link). is_down link.state && at_side link.clean lane.from) (sym (same-through (λ (q : PairPart). q.link) reading left lane.from label (λ _. refl))) ∙ open_yet,
          λ posted now. (λ i. (posted ++ label ∷ []) ++ is_todo i) ∙ next posted now ∙ ap (labels_from lane.queue 0) (sym is_sent),
        ))
      where
        left : PairPart
        left = with_lane pair lane.from lane.queue (record part { todo = rest })

        is_lane : After (posts_through reading left lane.from label) ≡ record part { todo = rest }
        is_lane = ap (λ (l : Both (ℕ → LanePart)). at_side l lane.from lane.queue) (same-through (λ (q : PairPart). q.lanes) reading left lane.from label (λ _. refl)) ∙ lane-own lane.from lane.queue pair (record part { todo = rest })

        is_todo : (After (posts_through reading left lane.from label)).todo ≡ rest
        is_todo = ap (λ (l : LanePart). l.todo) is_lane

        is_sent : (After (posts_through reading left lane.from label)).sent ≡ part.sent
        is_sent = ap (λ (l : LanePart). l.sent) is_lane

    posts_aside : (side : Side) (queue : ℕ) → IsOff lane.from lane.queue side queue → (part : LanePart) (label : Label)
        → WritesSo (Post p side queue) (record { answer = Posted label; after = posts_through reading (with_lane pair side queue part) side label })
    posts_aside side queue off part label =
        seen (nothing refl (cond-false (is_on lane p side queue) (label ∷ []) [] (on-off lane p side queue off))) (record {
          link = same-through (λ (q : PairPart). q.link) reading (with_lane pair side queue part) side label (λ _. refl);
          todo = ap (λ (l : Both (ℕ → LanePart)). (at_side l lane.from lane.queue).todo) lanes ∙ ap (λ (l : LanePart). l.todo) (lane-off lane.from lane.queue pair side queue part off);
          sent = ap (λ (l : Both (ℕ → LanePart)). (at_side l lane.from lane.queue).sent) lanes ∙ ap (λ (l : LanePart). l.sent) (lane-off lane.from lane.queue pair side queue part off);
        })
      where
        lanes : (posts_through reading (with_lane pair side queue part) side label).lanes ≡ (with_lane pair side queue part).lanes
        lanes = same-through (λ (q : PairPart). q.lanes) reading (with_lane pair side queue part) side label (λ _. refl)

    post_writes : (side : Side) (queue : ℕ) → WritesSo (Post p side queue) (post_step reading pair side queue)
    post_writes =
        by_lane lane.from lane.queue (λ side queue. WritesSo (Post p side queue) (post_step reading pair side queue))
        (post_cases reading (WritesSo (Post p lane.from lane.queue)) pair lane.from lane.queue (quiet (nothing refl refl) refl refl)
        (λ label rest is. posts_here Now label rest (λ posted now. one_posted lane.queue posted label Now.todo rest Now.sent is now))
        (λ entry others label rest idle waits is.
        posts_here (with_next lane.queue Now (entry ∷ others)) label rest
        (λ posted now. one_posted lane.queue posted label (labels_of lane.queue (length Now.sent) entry) rest (Now.sent ++ entry ∷ []) is (one_more lane.queue posted Now.todo Now.sent entry idle now))))
        (λ side queue c off.
        post_cases reading (WritesSo (Post p side queue)) pair side queue (quiet (nothing refl refl) refl refl)
        (λ label rest is. posts_aside side queue off (record (lane_of pair side queue) { todo = rest }) label)
        (λ entry others label rest idle waits is. posts_aside side queue off (record (with_next queue (lane_of pair side queue) (entry ∷ others)) { todo = rest }) label))

  -- a receiver changes its lane
  receives : {step : Step} {o : Outcome} → IsTold lane step o.answer false [] → (side : Side) (queue : ℕ) (part : LanePart) → part.todo ≡ (lane_of pair side queue).todo → part.sent ≡ (lane_of pair side queue).sent
      → o.after.link ≡ pair.link → o.after.lanes ≡ (with_lane pair side queue part).lanes → WritesSo step o
  receives {step} {o} h side queue part todo sent link lanes =
      let same = seen_lane lane.from lane.queue pair side queue part todo sent in
      seen h (record {
        link = link;
        todo = ap (λ (l : Both (ℕ → LanePart)). (at_side l lane.from lane.queue).todo) lanes ∙ same.todo;
        sent = ap (λ (l : Both (ℕ → LanePart)). (at_side l lane.from lane.queue).sent) lanes ∙ same.sent;
      })

  copy_writes : (p : ℕ) (side : Side) (queue : ℕ) → WritesSo (Copy p side queue) (copy_step reading pair side queue)
  copy_writes p side queue =
      copy_cases reading (WritesSo (Copy p side queue)) pair side queue (λ r no. quiet (nothing refl refl) refl refl)
      (λ turn more. receives (nothing refl refl) (other_side side) queue (record to { part = to.part + 1; gathered = gathered }) refl refl refl refl)
      (λ turn all others. receives (nothing refl refl) (other_side side) queue (record to { got = to.got + 1; phase = Copied; gathered = gathered }) refl refl refl refl)
      (λ turn all last. receives (nothing refl refl) (other_side side) queue (record to { got = to.got + 1; phase = Copied; gathered = []; done = to.done + 1 }) refl refl refl refl)
    where
      to : LanePart
      to = lane_to pair side queue

      gathered : List ℕ
      gathered = to.gathered ++ reading.part side queue

  writes_next : (step : Step) → subject_of step ≡ lane.pair → WritesSo step (read_next plan.devs Own reading bytes pair step)
  writes_next (Enable p side) e = enable_cases (WritesSo (Enable p side)) pair side (λ r no. quiet (nothing refl refl) refl refl) (λ _. told (nothing refl refl) (λ open_yet. (open_yet, alike pair refl refl)))
  writes_next (Train p) e = train_cases (WritesSo (Train p)) pair (λ r no. quiet (nothing (train-refused lane.pair p r no.is) refl) refl refl) (λ _. train_writes p e)
  writes_next (Break p) e =
      break_cases (WritesSo (Break p)) pair (λ r no. quiet (nothing refl refl) refl refl)
      (λ may. told (nothing refl refl) (λ _. (on_link (up-not_down pair.link.state (not-false _ (refused_passed _ _ _ may).0)), alike pair refl refl)))
  writes_next (DropDone p) e =
      drop_cases (WritesSo (DropDone p)) pair (λ r no. quiet (nothing refl refl) refl refl)
      (λ may. told (nothing refl refl) (λ _. (on_link (closing-not_down pair.link.state (not-false _ (refused_passed _ _ _ may).0)), alike pair refl refl)))
  writes_next (Clean p side) e =
      clean_cases (WritesSo (Clean p side)) pair side (λ r no. quiet (nothing refl refl) refl refl) (λ may. clean_writes p side (not-false _ (refused_passed _ _ _ may).0))
  writes_next (Offer p side) e =
      offer_cases (WritesSo (Offer p side)) Own pair side (λ r no. quiet (nothing refl refl) refl refl) (λ up more. quiet (nothing refl refl) (same-posts (λ (q : PairPart). q.link) (offering pair side) side _ (λ _. refl)) (same-posts (λ (q : PairPart). q.lanes) (offering pair side) side _ (λ _. refl)))
  writes_next (Check p side) e = check_cases (WritesSo (Check p side)) Own pair side (λ r no. quiet (nothing refl refl) refl refl) (λ _. quiet (nothing refl refl) refl refl)
  writes_next (Ready p side queue) e =
      ready_cases (WritesSo (Ready p side queue)) pair side queue (λ r no. quiet (nothing refl refl) refl refl)
      (λ up checked. quiet (nothing refl refl) (same-posts (λ (q : PairPart). q.link) (readied pair side queue) side _ (λ _. refl)) (same-posts (λ (q : PairPart). q.lanes) (readied pair side queue) side _ (λ _. refl)))
  writes_next (Join p side queue) e = join_cases (WritesSo (Join p side queue)) pair side queue (λ r no. quiet (nothing refl refl) refl refl) (λ up ready asked. quiet (nothing refl refl) refl refl)
  writes_next (Begin p side queue frame) e = begin_writes p frame side queue
  writes_next (QpDown p side queue) e = qpdown_writes p side queue
  writes_next (Xbegin p side queue dev dst kind payload) e = xbegin_writes p dev dst kind payload side queue
  writes_next (Post p side queue) e = post_writes p e side queue
  writes_next (Land p side place) e =
      land_cases (WritesSo (Land p side place)) Own pair side place (λ r no. quiet (nothing refl refl) refl refl)
      (λ label at may. seen (nothing refl refl) (seen_then lane.from lane.queue pair (taken_out pair side place label) _ (seen_same lane.from lane.queue pair (taken_out pair side place label) refl refl)
      (seen_landed lane.from lane.queue (taken_out pair side place label) side label)))
  writes_next (Look p side queue) e =
      look_cases reading (WritesSo (Look p side queue)) pair side queue (λ r no found. quiet (nothing refl refl) refl refl) (λ may empty. quiet (nothing refl refl) refl refl)
      (λ may len left found. receives (nothing refl refl) (other_side side) queue (record (lane_to pair side queue) { phase = Copying; part = 0; len = len; left = left }) refl refl refl refl)
      (λ may. quiet (nothing refl refl) refl refl)
  writes_next (Copy p side queue) e = copy_writes p side queue
  writes_next (Clear p side queue) e =
      clear_cases (WritesSo (Clear p side queue)) pair side queue (λ r no. quiet (nothing refl refl) refl refl)
      (λ _. receives (nothing refl refl) (other_side side) queue (record (lane_to pair side queue) { cleared = (lane_to pair side queue).cleared + 1; phase = Cleared }) refl refl refl refl)
  writes_next (Ack p side queue) e =
      ack_cases reading (WritesSo (Ack p side queue)) pair side queue (λ r no. quiet (nothing refl refl) refl refl)
      (λ _. receives (nothing refl refl) (other_side side) queue (record (lane_to pair side queue) { acked = (lane_to pair side queue).acked + 1; phase = Idle }) refl refl
      (same-through (λ (q : PairPart). q.link) reading (acking pair side queue) side (Index queue (lane_to pair side queue).acked) (λ _. refl))
      (same-through (λ (q : PairPart). q.lanes) reading (acking pair side queue) side (Index queue (lane_to pair side queue).acked) (λ _. refl)))
  writes_next (Wake p side queue dev) e = wake_cases (WritesSo (Wake p side queue dev)) reading (dev_plan plan.devs dev) pair side queue (λ r no. quiet (nothing refl refl) refl refl) (quiet (nothing refl refl) refl refl)
  writes_next (Spad p side i value) e = quiet (nothing refl refl) (same-posts (λ (q : PairPart). q.link) pair side _ (λ _. refl)) (same-posts (λ (q : PairPart). q.lanes) pair side _ (λ _. refl))
  writes_next (Poke p side window offset poked) e =
      quiet (nothing refl refl) (same-posts_raw (λ (q : PairPart). q.link) pair side _ poked (λ _. refl)) (same-posts_raw (λ (q : PairPart). q.lanes) pair side _ poked (λ _. refl))
  writes_next step e = quiet (nothing refl refl) refl refl

abbrev HasPosted : LaneName → List Answered → PairPart → Type 0
HasPosted lane log pair = has_forgotten pair lane.from ≡ false → AreWrites lane.queue (posted_in log lane) (lane_of pair lane.from lane.queue).todo (lane_of pair lane.from lane.queue).sent

posted_runs : (plan : Plan) (lane : LaneName) → HoldsOfLog plan lane.pair AnyStep (HasPosted lane)
posted_runs plan lane = record {
  fresh = λ open_yet. subst (λ (l : LanePart). AreWrites lane.queue [] l.todo l.sent) (sym (fresh-lane (pair_plan plan lane.pair) lane.from lane.queue)) refl;
  own = λ log bytes pair step any e todos h open_yet.
      let made = made_by plan lane.pair bytes pair step in
      ap (λ labels. labels ++ (lane_of (left_by plan lane.pair bytes pair step) lane.from lane.queue).todo) (session_found-last (posts_write lane) lane.pair log made)
      ∙ (writes_next plan lane (reading_of (pair_plan plan lane.pair) bytes pair) bytes pair step e).is (posted_in log lane) h open_yet;
  other = λ log pair made ne h open_yet.
      ap (λ labels. labels ++ (lane_of pair lane.from lane.queue).todo)
      (session_found-last (posts_write lane) lane.pair log made
      ∙ ap (λ b. if b then [] else posted_in log lane ++ posts_write lane made) (trains-elsewhere lane.pair made.step made.answer ne)
      ∙ ap (λ labels. posted_in log lane ++ labels) (posts-elsewhere lane made.step made.answer ne) ∙ append-nil (posted_in log lane))
      ∙ h open_yet;
}

-- Until a sender forgets the session, the writes posted and then those left to post are its entries' in order.
pub posted_are_writes : PostedAreWrites
posted_are_writes plan memories steps lane = log_after plan lane.pair AnyStep (HasPosted lane) (posted_runs plan lane) memories steps (all_fit steps)
