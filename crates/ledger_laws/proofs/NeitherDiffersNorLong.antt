-- On an ordinary pair no step is answered `verdiffers` or `long`.
use Rattle.std.proofs.Common.{◌≡◌, ℕ, ◌==◌, Bool, true, false, not, List, refl, sym, ap, ◌∙◌, subst}
use Rattle.std.specs.Prelude.{if◌then◌else◌}
use Rattle.std.proofs.lemmas.Bool.{false≢true}
use Rattle.step_kinds.specs.Bits.{has_bit}
use Rattle.step_kinds.specs.Subject.{subject_of}
use Rattle.step_kinds.specs.declared.names.Side.{Side}
use Rattle.step_kinds.specs.declared.plan.DevPlan.{DevPlan}
use Rattle.step_kinds.specs.declared.plan.PairPlan.{PairPlan}
use Rattle.step_kinds.specs.declared.steps.Answer.{Answer}
use Rattle.step_kinds.specs.declared.steps.Answer.TheVariants.{NotReady, Closed, OutOfTurn, VerDiffers, Long}
use Rattle.step_kinds.specs.declared.steps.Step.{Step}
use Rattle.step_kinds.specs.declared.steps.Step.TheVariants.{Enable, Train, Break, DropDone, Clean, Offer, Check, Ready, Join, Begin, QpDown, Xbegin, Post, Land, Look, Copy, Clear, Ack, Wake}
use Rattle.lane_model.specs.Lane.{Entry, Carries, GoesDown}
use Rattle.pair_model.specs.Headers.{Bytes, NoEntry}
use Rattle.ledger_model.specs.Ledger.{PairPart, side_of, lane_to, entry_in}
use Rattle.ledger_model.specs.Log.{log_of, ledger_of}
use Rattle.ledger_model.specs.Next.{read_next}
use Rattle.ledger_model.specs.Outcome.{Outcome}
use Rattle.ledger_model.specs.Reading.{Reading, by_bytes, by_ledger, found_entry, found_in_ledger}
use Rattle.ledger_model.specs.Receiving.{is_idle, look_at, look_refusal}
use Rattle.pair_model.specs.Plans.{dev_plan, pair_plan}
use Rattle.pair_model.specs.Sizes.{sizes_of}
use Rattle.ledger_laws.specs.Laws.{is_unlike, NoOrdinaryVerDiffersOrLong}
use Rattle.ledger_laws.proofs.LogGrowth.{answer_of}
use Rattle.ledger_laws.proofs.Outcomes.{Nothing, each_if, each_decided}
use Rattle.ledger_laws.proofs.walk.Cases.{refuses, enable_cases, train_cases, break_cases, drop_cases, clean_cases, offer_cases, check_cases, ready_cases, join_cases, begin_cases, qpdown_cases, xbegin_cases, post_cases, land_cases, copy_cases, clear_cases, ack_cases, wake_cases}

abbrev IsLike : Answer → Type 0
IsLike answer = is_unlike answer ≡ false

refused_like : (r : Answer) → refuses r ≡ true → IsLike r
refused_like (VerDiffers seen own) e = absurd (false≢true e)
refused_like (Long len most) e = absurd (false≢true e)
refused_like r e = refl

-- what a look finds by the ledger
found_like : (pair : PairPart) (side : Side) (queue : ℕ) → IsLike (look_at pair side queue (found_in_ledger (lane_to pair side queue))).answer
found_like pair side queue = go ((lane_to pair side queue).flagged == (lane_to pair side queue).got) (entry_in (lane_to pair side queue) (lane_to pair side queue).got)
  where
    go : (none : Bool) (entry : Entry) → IsLike (look_at pair side queue (if none then NoEntry else found_entry entry)).answer
    go true entry = refl
    go false (Carries bytes left) = refl
    go false GoesDown = refl

module _ (devs : List DevPlan) (plan : PairPlan) (bytes : Bytes) (pair : PairPart) where
  abbrev Read : Reading
  Read = by_ledger plan pair

  abbrev Like : Outcome → Type 0
  Like o = IsLike o.answer

  like_next : (step : Step) → Like (read_next devs plan (by_ledger plan pair) bytes pair step)
  like_next (Enable p side) = enable_cases Like pair side (λ r no. refused_like r no.is) (λ _. refl)
  like_next (Train p) = train_cases Like pair (λ r no. refused_like r no.is) (λ _. refl)
  like_next (Break p) = break_cases Like pair (λ r no. refused_like r no.is) (λ _. refl)
  like_next (DropDone p) = drop_cases Like pair (λ r no. refused_like r no.is) (λ _. refl)
  like_next (Clean p side) = clean_cases Like pair side (λ r no. refused_like r no.is) (λ _. refl)
  like_next (Offer p side) = offer_cases Like plan pair side (λ r no. refused_like r no.is) (λ up more. refl)
  like_next (Check p side) = check_cases Like plan pair side (λ r no. refused_like r no.is) (λ _. refl)
  like_next (Ready p side queue) = ready_cases Like pair side queue (λ r no. refused_like r no.is) (λ up checked. refl)
  like_next (Join p side queue) = join_cases Like pair side queue (λ r no. refused_like r no.is) (λ up ready asked. refl)
  like_next (Begin p side queue frame) = begin_cases Read Like (sizes_of plan side queue) pair side queue frame (λ r no. refused_like r no.is) (λ may. refl)
  like_next (QpDown p side queue) = qpdown_cases Read Like (sizes_of plan side queue) pair side queue (λ r no. refused_like r no.is) (λ may. refl)
  like_next (Xbegin p side queue dev dst kind payload) =
      xbegin_cases Read Like (sizes_of plan side queue) (dev_plan devs dev) pair side queue dst kind payload (λ r no. refused_like r no.is) (λ may. refl)
  like_next (Post p side queue) = post_cases Read Like pair side queue refl (λ label rest e. refl) (λ entry others label rest idle waits e. refl)
  like_next (Land p side place) = land_cases Like plan pair side place (λ r no. refused_like r no.is) (λ label at may. refl)
  like_next (Look p side queue) =
      let found = look_at pair side queue (found_in_ledger (lane_to pair side queue)) in
      each_decided IsLike pair (look_refusal pair side queue) found.answer found.after
      (each_if IsLike (not (has_bit (side_of pair side).joined queue)) NotReady _ refl
      (each_if IsLike (has_bit (side_of pair side).closed queue) Closed _ refl (each_if IsLike (not (is_idle (lane_to pair side queue).phase)) OutOfTurn _ refl Nothing)))
      (found_like pair side queue)
  like_next (Copy p side queue) = copy_cases Read Like pair side queue (λ r no. refused_like r no.is) (λ turn more. refl) (λ turn all others. refl) (λ turn all last. refl)
  like_next (Clear p side queue) = clear_cases Like pair side queue (λ r no. refused_like r no.is) (λ _. refl)
  like_next (Ack p side queue) = ack_cases Read Like pair side queue (λ r no. refused_like r no.is) (λ _. refl)
  like_next (Wake p side queue dev) = wake_cases Like Read (dev_plan devs dev) pair side queue (λ r no. refused_like r no.is) refl
  like_next step = refl

-- On an ordinary pair no step is answered `verdiffers` or `long`.
pub no_ordinary_ver_differs_or_long : NoOrdinaryVerDiffersOrLong
no_ordinary_ver_differs_or_long plan memories steps step answer no_raw goes =
    let k = subject_of step in
    let own = pair_plan plan k in
    let bytes = memories (log_of plan memories steps) k in
    let now = ledger_of plan memories steps k in
    ap is_unlike (answer_of plan memories steps step answer goes)
    ∙ subst (λ raw. IsLike (read_next plan.devs own (if raw then by_bytes own bytes now else by_ledger own now) bytes now step).answer) (sym no_raw)
    (like_next plan.devs own bytes now step)
