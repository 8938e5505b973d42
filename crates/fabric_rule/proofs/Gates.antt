-- The tests that a frame or a link-down entry passes, in their order.
use Rattle.std.proofs.Common.{◌≡◌, ℕ, ◌⊎◌, Bool, true, false, Option, Some, None, refl, sym, ap, subst, inl, inr}
use Rattle.std.specs.Prelude.{if◌then◌else◌, not}
use Rattle.step_kinds.specs.declared.lanes.Begun.{Begun}
use Rattle.step_kinds.specs.declared.lanes.Begun.TheVariants.{Ok as BegunOk, TooLong as FrameTooLong, Busy as PortBusy, NoRoom}
use Rattle.step_kinds.specs.declared.steps.Answer.{Answer}
use Rattle.step_kinds.specs.declared.steps.Answer.TheVariants as answer
use Rattle.ledger_model.specs.Outcome.{refuse_if}
use Rattle.frame_ring.specs.Calls.{where_begun}
use Rattle.frame_ring.specs.Port.{PortState}
use Rattle.queue_pair.specs.Gates.{answer_unless, closed_where_begun, port_unless}
use Rattle.queue_pair.specs.Queue.{QueueState, with_port}
use Rattle.queue_pair.specs.declared.BeginAnswer.{BeginAnswer}
use Rattle.queue_pair.specs.declared.BeginAnswer.TheVariants as begin
use Rattle.fabric_rule.specs.Answers.{of_begin, of_xbegin}
use Rattle.fabric_rule.specs.Parts.{QueuePart}
use Rattle.fabric_rule.specs.Turns.{accepted_where_begun}

abbrev pub side_says : Bool → Bool → Bool → Option BeginAnswer
side_says up joined closed = if not up then Some begin.LinkDown else if not joined then Some begin.NotReady else if closed then Some begin.Closed else None

abbrev pub port_says : Bool → Bool → Bool → ℕ → ℕ → ℕ → ℕ → ℕ → Begun
port_says long busy full len most head index told = if long then FrameTooLong len most else if busy then PortBusy else if full then NoRoom head index else BegunOk told

abbrev pub refusal_says : Bool → Bool → Bool → Bool → Bool → Bool → Bool → ℕ → ℕ → ℕ → ℕ → Option Answer
refusal_says up joined closed long busy stopped full len most head index =
    refuse_if (not up) answer.LinkDown
    (refuse_if (not joined) answer.NotReady
    (refuse_if closed answer.Closed
    (refuse_if long (answer.TooLong len most) (refuse_if busy answer.Busy (refuse_if stopped answer.Stopped (refuse_if full (answer.Again head index) None))))))

-- an answer that says no frame's number
abbrev pub NotOk : Answer → Type 0
NotOk (answer.OkNumber number) = ⊥
NotOk said = Unit {0}

-- An answer that gives no frame's number adds none to a queue's counts of accepted frames.
pub not_accepted : (said : Answer) (session : ℕ) (part : QueuePart) → NotOk said → accepted_where_begun said session part ≡ part
not_accepted (answer.OkNumber number) session part not_ok = absurd not_ok
not_accepted said session part not_ok = refl

pub record Passes (joined busy full : Bool) (said : Answer) (begun : BeginAnswer) (refusal : Option Answer) (told : ℕ) (q : QueueState) (new : PortState) (after : QueueState) : Type 0 where
  pub said_is : said ≡ answer.OkNumber told
  pub begun_is : begun ≡ begin.Ok told
  pub none : refusal ≡ None
  pub after_is : after ≡ with_port q new
  pub is_joined : joined ≡ true
  pub not_busy : busy ≡ false
  pub has_room : full ≡ false

pub record Refuses (stopped : Bool) (said : Answer) (begun : BeginAnswer) (refusal : Option Answer) (q : QueueState) (after : QueueState) : Type 0 where
  pub not_ok : NotOk said
  pub refusal_is : refusal ≡ Some said
  pub after_is : stopped ≡ false → after ≡ q
  pub stays_open : stopped ≡ false → (x : QueueState) → closed_where_begun begun x ≡ x

module _ (len most head index told : ℕ) (q : QueueState) (new : PortState) where
  abbrev pub Gates : Bool → Bool → Bool → Bool → Bool → Bool → Bool → Type 0
  Gates up joined closed long busy stopped full =
      Passes joined busy full (of_xbegin stopped (answer_unless (side_says up joined closed) (port_says long busy full len most head index told))) (answer_unless (side_says up joined closed) (port_says long busy full len most head index told))
      (refusal_says up joined closed long busy stopped full len most head index) told q new (port_unless (side_says up joined closed) q (where_begun q.port new (port_says long busy full len most head index told)))
      ⊎ Refuses stopped (of_xbegin stopped (answer_unless (side_says up joined closed) (port_says long busy full len most head index told))) (answer_unless (side_says up joined closed) (port_says long busy full len most head index told))
      (refusal_says up joined closed long busy stopped full len most head index) q (port_unless (side_says up joined closed) q (where_begun q.port new (port_says long busy full len most head index told)))

  -- a refusal before the test of a stopped device
  refused_by : (stopped : Bool) (said : BeginAnswer) → of_xbegin true said ≡ of_begin said → NotOk (of_begin said) → ((x : QueueState) → closed_where_begun said x ≡ x) → Refuses stopped (of_xbegin stopped said) said (Some (of_begin said)) q q
  refused_by true said same not_ok open_still = record { not_ok = subst NotOk (sym same) not_ok; refusal_is = ap Some (sym same); after_is = λ _. refl; stays_open = λ _. open_still }
  refused_by false said same not_ok open_still = record { not_ok = not_ok; refusal_is = refl; after_is = λ _. refl; stays_open = λ _. open_still }

  pub gates : (up joined closed long busy stopped full : Bool) → Gates up joined closed long busy stopped full
  gates false joined closed long busy stopped full = inr (refused_by stopped begin.LinkDown refl tt (λ x. refl))
  gates true false closed long busy stopped full = inr (refused_by stopped begin.NotReady refl tt (λ x. refl))
  gates true true true long busy stopped full = inr (refused_by stopped begin.Closed refl tt (λ x. refl))
  gates true true false true busy stopped full = inr (refused_by stopped (begin.TooLong len most) refl tt (λ x. refl))
  gates true true false false true stopped full = inr (refused_by stopped begin.Busy refl tt (λ x. refl))
  gates true true false false false true true = inr (record { not_ok = tt; refusal_is = refl; after_is = λ e. cc; stays_open = λ e x. cc })
  gates true true false false false true false = inr (record { not_ok = tt; refusal_is = refl; after_is = λ e. cc; stays_open = λ e x. cc })
  gates true true false false false false true = inr (record { not_ok = tt; refusal_is = refl; after_is = λ _. refl; stays_open = λ _ x. refl })
  gates true true false false false false false = inl (record { said_is = refl; begun_is = refl; none = refl; after_is = refl; is_joined = refl; not_busy = refl; has_room = refl })
