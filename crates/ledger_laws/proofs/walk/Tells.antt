-- What each step tells the readers of the log of one lane: nothing, but for the steps that one of them reads.
use Rattle.std.proofs.Common.{◌≡◌, ℕ, ◌==◌, Bool, true, false, ◌&&◌, Option, Some, None, List, [], ◌∷◌, refl, ap, ◌∙◌}
use Rattle.std.specs.Prelude.{if◌then◌else◌, length}
use Rattle.std.proofs.lemmas.Bool.{both_ways, false≢true, true≢false, eq-eqb, ne_eqb, and_right, cond_both}
use Rattle.step_kinds.specs.Sides.{other_side, same_side}
use Rattle.step_kinds.specs.Subject.{subject_of}
use Rattle.step_kinds.specs.declared.names.LaneName.{LaneName}
use Rattle.step_kinds.specs.declared.names.Side.{Side}
use Rattle.step_kinds.specs.declared.names.Side.TheVariants.{A, B}
use Rattle.step_kinds.specs.declared.plan.Plan.{Plan}
use Rattle.step_kinds.specs.declared.steps.Answer.{Answer}
use Rattle.step_kinds.specs.declared.steps.Answer.TheVariants.{Ok as Done, OkSession, OkNumber, Up, Posted, Landed, Empty, ReadyFrame, Copied as CopiedPart, Delivered, Cleared, Acked, Irq as IrqBits}
use Rattle.step_kinds.specs.declared.steps.Label.{Label}
use Rattle.step_kinds.specs.declared.steps.Label.TheVariants.{Bell, Index, Pad}
use Rattle.step_kinds.specs.declared.steps.Step.{Step}
use Rattle.step_kinds.specs.declared.steps.Step.TheVariants.{Train, Break, DropDone, Check, Begin, QpDown, Xbegin, Post, Land, Look, Copy, Clear, Ack, Irq}
use Rattle.lane_model.specs.declared.Write.TheVariants.{Bell as QueueBell}
use Rattle.ledger_model.specs.Labels.{write_of, label_index_of}
use Rattle.ledger_model.specs.Ledger.{LanePart}
use Rattle.ledger_model.specs.Log.{Answered, takes_room, gives_room, trains, breaks, accepts, delivers, is_on}
use Rattle.ledger_model.specs.Rings.{RingPart, ring_next, with_write, with_index}
use Rattle.pair_model.specs.Plans.{dev_plan, pair_plan}
use Rattle.pair_model.specs.Sizes.{Sizes, sizes_of, pieces_in}
use Rattle.pair_model.specs.Ethernet.{ethernet_frame}
use Rattle.ledger_laws.specs.LaneChanges.{LaneChange, change_by_write, change_by_index, Unchanged, LinkIsLost, FlightIsDropped, EntryIsBegun, WriteIsPosted, EntryIsFound, PartIsCopied, FlagsAreCleared, IndexIsPosted, change_of}
use Rattle.ledger_laws.proofs.walk.Cases.{refuses}
use Rattle.ledger_laws.proofs.walk.News.{News, no_news, Tells, saw_next, pad_next, looked_news, begun_news, change_heard, pads_landed, ring_checked, ring_cleared, sees_taken}
use Rattle.ledger_laws.proofs.walk.Sight.{Role, Sender, Receiver, side_at, other_other, same_side-refl, other_side-not, other_side-across, IsOff}
use Rattle.ledger_laws.proofs.walk.Turn.{IsForeign}

-- whether a reader of some lane of the pair reads this
abbrev pub is_read : Step → Answer → Bool
is_read (Train p) (OkSession session) = true
is_read (Break p) Done = true
is_read (DropDone p) Done = true
is_read (Check p side) Up = true
is_read (Begin p side queue frame) (OkNumber n) = true
is_read (QpDown p side queue) (OkNumber n) = true
is_read (Xbegin p side queue dev dst kind payload) (OkNumber n) = true
is_read (Post p side queue) (Posted label) = true
is_read (Land p side place) (Landed label) = true
is_read (Look p side queue) answer = true
is_read (Copy p side queue) (CopiedPart n part) = true
is_read (Copy p side queue) (Delivered n frame) = true
is_read (Clear p side queue) (Cleared n) = true
is_read (Ack p side queue) (Acked n) = true
is_read (Irq p side) (IrqBits bits) = true
is_read step answer = false

-- no reader of the lane reads this
abbrev IsUnread : LaneName → Step → Answer → Type 0
IsUnread lane step answer = is_read step answer ≡ true → subject_of step ≡ lane.pair → ⊥

-- what no reader reads, and what is made on another pair, tells nothing
pub tells_nothing : (plan : Plan) (lane : LaneName) (part : LanePart) (step : Step) (answer : Answer) → IsUnread lane step answer
    → Tells plan lane part (record { step = step; answer = answer }) no_news
tells_nothing plan lane part step answer h = record {
  takes = takes step answer h;
  gives = gives step answer h;
  starts = starts step answer h;
  ends = ends step answer h;
  accepted = accepted step answer h;
  delivered = delivered step answer h;
  sees = λ saw. sees saw step answer h;
  pads = λ e i now. pads e i now step answer h;
  ring = λ sizes ring. ring_same sizes ring step answer h;
  change = change step answer h;
}
  where
    off : (p : ℕ) (b : Bool) {X : Type 0} (x y : X) → (p ≡ lane.pair → ⊥) → (if (p == lane.pair) && b then x else y) ≡ y
    off p b x y ne = rw (ne_eqb p lane.pair ne) refl

    not_here : (p : ℕ) (b : Bool) → (p ≡ lane.pair → ⊥) → ((p == lane.pair) && b) ≡ false
    not_here p b ne = rw (ne_eqb p lane.pair ne) refl

    takes : (step : Step) (r : Answer) → IsUnread lane step r → takes_room plan lane (record { step = step; answer = r }) ≡ 0
    takes (Begin p side queue frame) (OkNumber n) h = off p _ _ 0 (h refl)
    takes (QpDown p side queue) (OkNumber n) h = off p _ _ 0 (h refl)
    takes (Xbegin p side queue dev dst kind payload) (OkNumber n) h = off p _ _ 0 (h refl)
    takes step r h = refl

    gives : (step : Step) (r : Answer) → IsUnread lane step r → gives_room lane (record { step = step; answer = r }) ≡ false
    gives (Land p side place) (Landed (Index queue n)) h = not_here p _ (h refl)
    gives step r h = refl

    starts : (step : Step) (r : Answer) → IsUnread lane step r → trains lane.pair (record { step = step; answer = r }) ≡ false
    starts (Train p) (OkSession session) h = ne_eqb p lane.pair (h refl)
    starts step r h = refl

    ends : (step : Step) (r : Answer) → IsUnread lane step r → breaks lane.pair (record { step = step; answer = r }) ≡ false
    ends (Break p) Done h = ne_eqb p lane.pair (h refl)
    ends step r h = refl

    accepted : (step : Step) (r : Answer) → IsUnread lane step r → accepts plan lane (record { step = step; answer = r }) ≡ []
    accepted (Begin p side queue frame) (OkNumber n) h = off p _ _ [] (h refl)
    accepted (Xbegin p side queue dev dst kind payload) (OkNumber n) h = off p _ _ [] (h refl)
    accepted step r h = refl

    delivered : (step : Step) (r : Answer) → IsUnread lane step r → delivers lane (record { step = step; answer = r }) ≡ []
    delivered (Copy p side queue) (Delivered n frame) h = off p _ _ [] (h refl)
    delivered step r h = refl

    sees : (saw : Bool) (step : Step) (r : Answer) → IsUnread lane step r → saw_next lane (record { step = step; answer = r }) saw ≡ saw
    sees saw (Look p side queue) Empty h = off p _ true saw (h refl)
    sees saw (Look p side queue) r h = off p _ false saw (h refl)
    sees saw (Irq p side) (IrqBits bits) h = off p _ false saw (h refl)
    sees saw step r h = refl

    pads : (e : Role) (i : ℕ) (now : Option ℕ) (step : Step) (r : Answer) → IsUnread lane step r → pad_next lane (record { step = step; answer = r }) e i now ≡ now
    pads e i now (Land p side place) (Landed (Pad j value)) h = off p _ _ now (h refl)
    pads e i now step r h = refl

    ring_same : (sizes : Sizes) (ring : RingPart) (step : Step) (r : Answer) → IsUnread lane step r → ring_next sizes lane part ring (record { step = step; answer = r }) ≡ ring
    ring_same sizes ring (Land p side place) (Landed label) h = rw (ne_eqb p lane.pair (h refl)) refl
    ring_same sizes ring (Check p side) Up h = rw (ne_eqb p lane.pair (h refl)) refl
    ring_same sizes ring (Clear p side queue) (Cleared n) h = off p _ _ ring (h refl)
    ring_same sizes ring step r h = refl

    change : (step : Step) (r : Answer) → IsUnread lane step r → change_of lane (record { step = step; answer = r }) ≡ Unchanged
    change (Break p) Done h = rw (ne_eqb p lane.pair (h refl)) refl
    change (DropDone p) Done h = rw (ne_eqb p lane.pair (h refl)) refl
    change (Begin p side queue frame) (OkNumber n) h = off p _ EntryIsBegun Unchanged (h refl)
    change (QpDown p side queue) (OkNumber n) h = off p _ EntryIsBegun Unchanged (h refl)
    change (Xbegin p side queue dev dst kind payload) (OkNumber n) h = off p _ EntryIsBegun Unchanged (h refl)
    change (Post p side queue) (Posted label) h = off p _ WriteIsPosted Unchanged (h refl)
    change (Land p side place) (Landed label) h = rw (ne_eqb p lane.pair (h refl)) refl
    change (Look p side queue) (ReadyFrame n len) h = off p _ EntryIsFound Unchanged (h refl)
    change (Copy p side queue) (CopiedPart n part) h = off p _ PartIsCopied Unchanged (h refl)
    change (Copy p side queue) (Delivered n frame) h = off p _ PartIsCopied Unchanged (h refl)
    change (Clear p side queue) (Cleared n) h = off p _ FlagsAreCleared Unchanged (h refl)
    change (Ack p side queue) (Acked n) h = off p _ IndexIsPosted Unchanged (h refl)
    change step r h = refl

-- a step with an answer that no reader reads
pub tells_no : (plan : Plan) (lane : LaneName) (part : LanePart) (step : Step) (answer : Answer) → is_read step answer ≡ false
    → Tells plan lane part (record { step = step; answer = answer }) no_news
tells_no plan lane part step answer unread = tells_nothing plan lane part step answer (λ read. absurd (both_ways (is_read step answer) unread read))

abbrev pub is_look : Step → Bool
is_look (Look p side queue) = true
is_look step = false

-- a refusal is read by no reader, but for that of a look
pub unread-refused : (step : Step) (r : Answer) → is_look step ≡ false → refuses r ≡ true → is_read step r ≡ false
unread-refused (Train p) (OkSession session) not_look e = absurd (false≢true e)
unread-refused (Break p) Done not_look e = absurd (false≢true e)
unread-refused (DropDone p) Done not_look e = absurd (false≢true e)
unread-refused (Check p side) Up not_look e = absurd (false≢true e)
unread-refused (Begin p side queue frame) (OkNumber n) not_look e = absurd (false≢true e)
unread-refused (QpDown p side queue) (OkNumber n) not_look e = absurd (false≢true e)
unread-refused (Xbegin p side queue dev dst kind payload) (OkNumber n) not_look e = absurd (false≢true e)
unread-refused (Post p side queue) (Posted label) not_look e = absurd (false≢true e)
unread-refused (Land p side place) (Landed label) not_look e = absurd (false≢true e)
unread-refused (Look p side queue) r not_look e = absurd (true≢false not_look)
unread-refused (Copy p side queue) (CopiedPart n part) not_look e = absurd (false≢true e)
unread-refused (Copy p side queue) (Delivered n frame) not_look e = absurd (false≢true e)
unread-refused (Clear p side queue) (Cleared n) not_look e = absurd (false≢true e)
unread-refused (Ack p side queue) (Acked n) not_look e = absurd (false≢true e)
unread-refused (Irq p side) (IrqBits bits) not_look e = absurd (false≢true e)
unread-refused step r not_look e = refl

-- the answer to a look that finds nothing there
abbrev pub is_nothing : Answer → Bool
is_nothing Empty = true
is_nothing r = false

-- the answer to a look that finds a frame
abbrev pub is_ready : Answer → Bool
is_ready (ReadyFrame n len) = true
is_ready r = false

-- what readers make of a label that lands: room, scratchpads, the ring
abbrev pub gives_landed : ℕ → Label → Role → Bool
gives_landed q (Index p n) Receiver = p == q
gives_landed q label e = false

abbrev pub pads_heard : Role → Label → Role → ℕ → Option ℕ → Option ℕ
pads_heard e (Pad i value) f j now = pads_landed e i value f j now
pads_heard e label f j now = now

abbrev pub ring_heard : ℕ → Role → Label → LanePart → Sizes → RingPart → RingPart
ring_heard q Sender label lane sizes ring = record { ring = with_write sizes.entries lane ring.ring (write_of q label); index_word = ring.index_word }
ring_heard q Receiver label lane sizes ring = record { ring = ring.ring; index_word = with_index sizes.entries ring.index_word (label_index_of q label) }

-- a doorbell is no write to the ring, whichever queue it is for
pub bell_in_ring : (q k : ℕ) (e : Role) (lane : LanePart) (sizes : Sizes) (ring : RingPart) → ring_heard q e (Bell k) lane sizes ring ≡ ring
bell_in_ring q k Sender lane sizes ring = cond_both (k == q) (Some QueueBell) None (λ w. record { ring = with_write sizes.entries lane ring.ring w; index_word = ring.index_word } ≡ ring) (λ _. refl) (λ _. refl)
bell_in_ring q k Receiver lane sizes ring = refl

-- A scratchpad write that lands changes neither slots nor index word of a lane.
pub pad_in_ring : (q i value : ℕ) (e : Role) (lane : LanePart) (sizes : Sizes) (ring : RingPart) → ring_heard q e (Pad i value) lane sizes ring ≡ ring
pad_in_ring q i value Sender lane sizes ring = refl
pad_in_ring q i value Receiver lane sizes ring = refl

-- A write that isn't the lane's, if it lands, changes neither slots nor index word of the lane.
pub foreign_in_ring : (q : ℕ) (e : Role) (label : Label) (lane : LanePart) (sizes : Sizes) (ring : RingPart) → IsForeign q e label → ring_heard q e label lane sizes ring ≡ ring
foreign_in_ring q Sender label lane sizes ring none = ap (λ w. record { ring = with_write sizes.entries lane ring.ring w; index_word = ring.index_word }) none
foreign_in_ring q Receiver label lane sizes ring none = ap (λ n. record { ring = ring.ring; index_word = with_index sizes.entries ring.index_word n }) none

-- so they change nothing of the lane
pub pad_no_change : (q i value : ℕ) (e : Role) → change_heard q e (Pad i value) ≡ Unchanged
pad_no_change q i value Sender = refl
pad_no_change q i value Receiver = refl

-- A write that isn't the lane's, if it lands, is no change of the lane.
pub foreign_no_change : (q : ℕ) (e : Role) (label : Label) → IsForeign q e label → change_heard q e label ≡ Unchanged
foreign_no_change q Sender label none = ap change_by_write none
foreign_no_change q Receiver label none = ap change_by_index none

-- the steps that some reader reads

told : {plan : Plan} {lane : LaneName} {part : LanePart} {made : Answered} {news : News} → takes_room plan lane made ≡ news.takes → gives_room lane made ≡ news.gives
    → trains lane.pair made ≡ news.starts → breaks lane.pair made ≡ news.ends → accepts plan lane made ≡ news.accepted → delivers lane made ≡ news.delivered
    → ((saw : Bool) → saw_next lane made saw ≡ news.sees saw) → ((e : Role) (i : ℕ) (now : Option ℕ) → pad_next lane made e i now ≡ news.pads e i now)
    → ((sizes : Sizes) (ring : RingPart) → ring_next sizes lane part ring made ≡ news.ring sizes ring) → change_of lane made ≡ news.change → Tells plan lane part made news
told takes gives starts ends accepted delivered sees pads ring change =
    record { takes = takes; gives = gives; starts = starts; ends = ends; accepted = accepted; delivered = delivered; sees = sees; pads = pads; ring = ring; change = change }

-- whether a step's queue is the lane's
pub on-own : (lane : LaneName) (p : ℕ) → p ≡ lane.pair → is_on lane p lane.from lane.queue ≡ true
on-own lane p e = rw (eq-eqb p lane.pair e, same_side-refl lane.from, eq-eqb lane.queue lane.queue refl) refl

-- On the lane's pair and queue, the other side of the receiver's side is the lane's sender.
pub on-back : (lane : LaneName) (p : ℕ) → p ≡ lane.pair → is_on lane p (other_side (other_side lane.from)) lane.queue ≡ true
on-back lane p e = ap (λ s. is_on lane p s lane.queue) (other_other lane.from) ∙ on-own lane p e

-- A side and queue that aren't those of a lane are not on the lane, whichever pair they are of.
pub on-off : (lane : LaneName) (p : ℕ) (side : Side) (queue : ℕ) → IsOff lane.from lane.queue side queue → is_on lane p side queue ≡ false
on-off lane p side queue off = and_right (p == lane.pair) _ off.named

-- whether a step is one of the lane's receiver
abbrev pub at_receiver : LaneName → ℕ → Side → ℕ → Bool
at_receiver lane p side queue = (p == lane.pair) && (same_side side (other_side lane.from) && (queue == lane.queue))

-- The other side of a lane's sender is, on the lane's pair and queue, the lane's receiver.
pub receives-own : (lane : LaneName) (p : ℕ) → p ≡ lane.pair → at_receiver lane p (other_side lane.from) lane.queue ≡ true
receives-own lane p e = rw (eq-eqb p lane.pair e, same_side-refl (other_side lane.from), eq-eqb lane.queue lane.queue refl) refl

-- A side and queue that receive another lane aren't the lane's receiver, whichever pair they are of.
pub receives-off : (lane : LaneName) (p : ℕ) (side : Side) (queue : ℕ) → IsOff lane.from lane.queue (other_side side) queue → at_receiver lane p side queue ≡ false
receives-off lane p side queue off = and_right (p == lane.pair) _ (ap (λ b. b && (queue == lane.queue)) (across lane.from side) ∙ off.named)
  where
    across : (from s : Side) → same_side s (other_side from) ≡ same_side (other_side s) from
    across A A = refl
    across A B = refl
    across B A = refl
    across B B = refl

module _ (plan : Plan) (lane : LaneName) (part : LanePart) (p : ℕ) where
  -- what the lane's readers are told of a step with its answer
  abbrev IsTold : Step → Answer → News → Type 0
  IsTold step answer news = Tells plan lane part (record { step = step; answer = answer }) news

  -- the entries that a frame of this many bytes needs on the lane
  abbrev needed : ℕ → ℕ
  needed len = pieces_in (sizes_of (pair_plan plan lane.pair) lane.from lane.queue).largest len

  pub tells_train : p ≡ lane.pair → (session : ℕ) → IsTold (Train p) (OkSession session) (record no_news { starts = true })
  tells_train same session = told refl refl (eq-eqb p lane.pair same) refl refl refl (λ saw. refl) (λ e i now. refl) (λ sizes ring. refl) refl

  pub tells_break : p ≡ lane.pair → IsTold (Break p) Done (record no_news { ends = true; change = LinkIsLost })
  tells_break same = told refl refl refl (eq-eqb p lane.pair same) refl refl (λ saw. refl) (λ e i now. refl) (λ sizes ring. refl) (rw (eq-eqb p lane.pair same) refl)

  pub tells_drop : p ≡ lane.pair → IsTold (DropDone p) Done (record no_news { change = FlightIsDropped })
  tells_drop same = told refl refl refl refl refl refl (λ saw. refl) (λ e i now. refl) (λ sizes ring. refl) (rw (eq-eqb p lane.pair same) refl)

  pub tells_check : p ≡ lane.pair → (e : Role) → IsTold (Check p (side_at lane.from e)) Up (record no_news { ring = ring_checked e })
  tells_check same e = told refl refl refl refl refl refl (λ saw. refl) (λ f i now. refl) (checked e) refl
    where
      checked : (e : Role) (sizes : Sizes) (ring : RingPart) → ring_next sizes lane part ring (record { step = Check p (side_at lane.from e); answer = Up }) ≡ ring_checked e sizes ring
      checked Sender sizes ring = rw (eq-eqb p lane.pair same, same_side-refl lane.from) refl
      checked Receiver sizes ring = rw (eq-eqb p lane.pair same, other_side-not lane.from) refl

  pub tells_begin : (side : Side) (queue : ℕ) (frame : List ℕ) (n : ℕ) (own : Bool) → is_on lane p side queue ≡ own → IsTold (Begin p side queue frame) (OkNumber n) (begun_news own (needed (length frame)) n frame)
  tells_begin side queue frame n own on =
      told (ap (λ b. if b then needed (length frame) else 0) on) refl refl refl (ap (λ b. if b then record { number = n; bytes = frame } ∷ [] else []) on) refl (λ saw. refl) (λ e i now. refl) (λ sizes ring. refl)
      (ap (λ b. if b then EntryIsBegun else Unchanged) on)

  pub tells_xbegin : (side : Side) (queue dev : ℕ) (dst : List ℕ) (kind : ℕ) (payload : List ℕ) (n : ℕ) (own : Bool) → is_on lane p side queue ≡ own
      → IsTold (Xbegin p side queue dev dst kind payload) (OkNumber n)
      (begun_news own (needed (length (ethernet_frame dst (dev_plan plan.devs dev).address kind payload))) n (ethernet_frame dst (dev_plan plan.devs dev).address kind payload))
  tells_xbegin side queue dev dst kind payload n own on =
      told (ap (λ b. if b then needed (length (ethernet_frame dst (dev_plan plan.devs dev).address kind payload)) else 0) on) refl refl refl (ap (λ b. if b then record { number = n; bytes = ethernet_frame dst (dev_plan plan.devs dev).address kind payload } ∷ [] else []) on) refl
      (λ saw. refl) (λ e i now. refl) (λ sizes ring. refl) (ap (λ b. if b then EntryIsBegun else Unchanged) on)

  pub tells_qpdown : (side : Side) (queue n : ℕ) (own : Bool) → is_on lane p side queue ≡ own → IsTold (QpDown p side queue) (OkNumber n)
      (record no_news { takes = (if own then 1 else 0); change = (if own then EntryIsBegun else Unchanged) })
  tells_qpdown side queue n own on = told (ap (λ b. if b then 1 else 0) on) refl refl refl refl refl (λ saw. refl) (λ e i now. refl) (λ sizes ring. refl) (ap (λ b. if b then EntryIsBegun else Unchanged) on)

  pub tells_post : (side : Side) (queue : ℕ) (label : Label) (own : Bool) → is_on lane p side queue ≡ own
      → IsTold (Post p side queue) (Posted label) (record no_news { change = (if own then WriteIsPosted else Unchanged) })
  tells_post side queue label own on = told refl refl refl refl refl refl (λ saw. refl) (λ e i now. refl) (λ sizes ring. refl) (ap (λ b. if b then WriteIsPosted else Unchanged) on)

  pub tells_empty : (side : Side) (queue : ℕ) (own : Bool) → at_receiver lane p side queue ≡ own → IsTold (Look p side queue) Empty (record no_news { sees = λ saw. if own then true else saw })
  tells_empty side queue own at = told refl refl refl refl refl refl (λ saw. ap (λ b. if b then true else saw) at) (λ e i now. refl) (λ sizes ring. refl) refl

  -- what a look that found something tells of the receiver's sight
  looked_at : (side : Side) (queue : ℕ) (r : Answer) → is_nothing r ≡ false → (saw : Bool)
      → saw_next lane (record { step = Look p side queue; answer = r }) saw ≡ (if at_receiver lane p side queue then false else saw)
  looked_at side queue Empty some saw = absurd (true≢false some)
  looked_at side queue r some saw = refl

  pub tells_look : (side : Side) (queue : ℕ) (r : Answer) → is_nothing r ≡ false → is_ready r ≡ false → (own : Bool) → at_receiver lane p side queue ≡ own
      → IsTold (Look p side queue) r (looked_news own)
  tells_look side queue r some no_frame own at =
      told refl refl refl refl refl refl (λ saw. looked_at side queue r some saw ∙ ap (λ b. if b then false else saw) at) (λ e i now. refl) (λ sizes ring. refl) (unchanged r no_frame)
    where
      unchanged : (r : Answer) → is_ready r ≡ false → change_of lane (record { step = Look p side queue; answer = r }) ≡ Unchanged
      unchanged (ReadyFrame n len) no_frame = absurd (true≢false no_frame)
      unchanged r no_frame = refl

  pub tells_ready : (side : Side) (queue n len : ℕ) (own : Bool) → at_receiver lane p side queue ≡ own → is_on lane p (other_side side) queue ≡ own
      → IsTold (Look p side queue) (ReadyFrame n len) (record (looked_news own) { change = (if own then EntryIsFound else Unchanged) })
  tells_ready side queue n len own at on =
      told refl refl refl refl refl refl (λ saw. ap (λ b. if b then false else saw) at) (λ e i now. refl) (λ sizes ring. refl) (ap (λ b. if b then EntryIsFound else Unchanged) on)

  pub tells_part : (side : Side) (queue n part : ℕ) (own : Bool) → is_on lane p (other_side side) queue ≡ own
      → IsTold (Copy p side queue) (CopiedPart n part) (record no_news { change = (if own then PartIsCopied else Unchanged) })
  tells_part side queue n part own on = told refl refl refl refl refl refl (λ saw. refl) (λ e i now. refl) (λ sizes ring. refl) (ap (λ b. if b then PartIsCopied else Unchanged) on)

  pub tells_copy : (side : Side) (queue n : ℕ) (frame : List ℕ) (own : Bool) → is_on lane p (other_side side) queue ≡ own
      → IsTold (Copy p side queue) (Delivered n frame)
      (record no_news { delivered = (if own then record { number = n; bytes = frame } ∷ [] else []); change = (if own then PartIsCopied else Unchanged) })
  tells_copy side queue n frame own on =
      told refl refl refl refl refl (ap (λ b. if b then record { number = n; bytes = frame } ∷ [] else []) on) (λ saw. refl) (λ e i now. refl) (λ sizes ring. refl)
      (ap (λ b. if b then PartIsCopied else Unchanged) on)

  pub tells_clear : (side : Side) (queue n : ℕ) (own : Bool) → is_on lane p (other_side side) queue ≡ own
      → IsTold (Clear p side queue) (Cleared n) (record no_news { ring = λ sizes ring. if own then ring_cleared n sizes ring else ring; change = (if own then FlagsAreCleared else Unchanged) })
  tells_clear side queue n own on = told refl refl refl refl refl refl (λ saw. refl) (λ e i now. refl) (λ sizes ring. ap (λ b. if b then ring_cleared n sizes ring else ring) on)
      (ap (λ b. if b then FlagsAreCleared else Unchanged) on)

  pub tells_ack : (side : Side) (queue n : ℕ) (own : Bool) → is_on lane p (other_side side) queue ≡ own
      → IsTold (Ack p side queue) (Acked n) (record no_news { change = (if own then IndexIsPosted else Unchanged) })
  tells_ack side queue n own on = told refl refl refl refl refl refl (λ saw. refl) (λ e i now. refl) (λ sizes ring. refl) (ap (λ b. if b then IndexIsPosted else Unchanged) on)

  pub tells_irq : p ≡ lane.pair → (e : Role) (bits : ℕ) → IsTold (Irq p (side_at lane.from e)) (IrqBits bits) (record no_news { sees = sees_taken lane.queue e bits })
  tells_irq same e bits = told refl refl refl refl refl refl (taken e) (λ f i now. refl) (λ sizes ring. refl) refl
    where
      taken : (e : Role) (saw : Bool) → saw_next lane (record { step = Irq p (side_at lane.from e); answer = IrqBits bits }) saw ≡ sees_taken lane.queue e bits saw
      taken Sender saw = rw (eq-eqb p lane.pair same, other_side-across lane.from) refl
      taken Receiver saw = rw (eq-eqb p lane.pair same, same_side-refl (other_side lane.from)) refl

  pub tells_land : p ≡ lane.pair → (e : Role) (place : ℕ) (label : Label) (gives : Bool) (pads : Role → ℕ → Option ℕ → Option ℕ) (ring : Sizes → RingPart → RingPart) (change : LaneChange)
      → gives_landed lane.queue label e ≡ gives → ((f : Role) (i : ℕ) (now : Option ℕ) → pads_heard e label f i now ≡ pads f i now)
      → ((sizes : Sizes) (before : RingPart) → ring_heard lane.queue e label part sizes before ≡ ring sizes before)
      → change_heard lane.queue e label ≡ change
      → IsTold (Land p (side_at lane.from e) place) (Landed label) (record no_news { gives = gives; pads = pads; ring = ring; change = change })
  tells_land same e place label gives pads ring change gives_so pads_so ring_so change_so =
      told refl (gives_is e label ∙ gives_so) refl refl refl refl (λ saw. refl) (λ f i now. pads_is e label f i now ∙ pads_so f i now) (λ sizes before. ring_is e sizes before ∙ ring_so sizes before)
      (change_is e ∙ change_so)
    where
      gives_is : (e : Role) (label : Label) → gives_room lane (record { step = Land p (side_at lane.from e) place; answer = Landed label }) ≡ gives_landed lane.queue label e
      gives_is Sender (Index q n) = rw (eq-eqb p lane.pair same, other_side-not lane.from) refl
      gives_is Receiver (Index q n) = rw (eq-eqb p lane.pair same, other_other lane.from, same_side-refl lane.from) refl
      gives_is Sender label = refl
      gives_is Receiver label = refl

      pads_is : (e : Role) (label : Label) (f : Role) (i : ℕ) (now : Option ℕ)
          → pad_next lane (record { step = Land p (side_at lane.from e) place; answer = Landed label }) f i now ≡ pads_heard e label f i now
      pads_is Sender (Pad j value) Sender i now = rw (eq-eqb p lane.pair same, other_side-not lane.from) refl
      pads_is Sender (Pad j value) Receiver i now = rw (eq-eqb p lane.pair same, same_side-refl (other_side lane.from)) refl
      pads_is Receiver (Pad j value) Sender i now = rw (eq-eqb p lane.pair same, other_other lane.from, same_side-refl lane.from) refl
      pads_is Receiver (Pad j value) Receiver i now = rw (eq-eqb p lane.pair same, other_other lane.from, other_side-across lane.from) refl
      pads_is Sender label f i now = refl
      pads_is Receiver label f i now = refl

      ring_is : (e : Role) (sizes : Sizes) (ring : RingPart)
          → ring_next sizes lane part ring (record { step = Land p (side_at lane.from e) place; answer = Landed label }) ≡ ring_heard lane.queue e label part sizes ring
      ring_is Sender sizes ring = rw (eq-eqb p lane.pair same, same_side-refl lane.from) refl
      ring_is Receiver sizes ring = rw (eq-eqb p lane.pair same, other_side-not lane.from) refl

      change_is : (e : Role) → change_of lane (record { step = Land p (side_at lane.from e) place; answer = Landed label }) ≡ change_heard lane.queue e label
      change_is Sender = rw (eq-eqb p lane.pair same, same_side-refl lane.from) refl
      change_is Receiver = rw (eq-eqb p lane.pair same, other_side-not lane.from) refl
