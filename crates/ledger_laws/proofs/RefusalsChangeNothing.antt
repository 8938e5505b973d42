-- A step that is refused changes nothing but a device's count of refusals.
use Rattle.std.proofs.Common.{◌≡◌, ℕ, false, List, refl, sym, ap, ◌∙◌, subst, inl, inr}
use Rattle.std.specs.Prelude.{if◌then◌else◌}
use Rattle.std.proofs.lemmas.Bool.{true≢false, eq-eqb, ne_eqb, cases_eq}
use Rattle.step_kinds.specs.Subject.{subject_of}
use Rattle.step_kinds.specs.declared.plan.DevPlan.{DevPlan}
use Rattle.step_kinds.specs.declared.plan.PairPlan.{PairPlan}
use Rattle.step_kinds.specs.declared.steps.Step.{Step}
use Rattle.step_kinds.specs.declared.steps.Step.TheVariants.{Enable, Train, Break, DropDone, Clean, Offer, Check, Ready, Join, Begin, QpDown, Xbegin, Post, Land, Look, Copy, Clear, Ack, Wake, Irq, Mask, Unmask, Spad, Poke}
use Rattle.pair_model.specs.Plans.{dev_plan, pair_plan}
use Rattle.pair_model.specs.Sizes.{sizes_of}
use Rattle.pair_model.specs.Headers.{Bytes}
use Rattle.ledger_model.specs.Ledger.{PairPart}
use Rattle.ledger_model.specs.Log.{log_of, ledger_of}
use Rattle.ledger_model.specs.Next.{Ledger, read_next}
use Rattle.ledger_model.specs.Outcome.{Outcome}
use Rattle.ledger_model.specs.Reading.{Reading, reading_of}
use Rattle.ledger_laws.specs.Laws.{after_refusal, RefusalsChangeNothing}
use Rattle.step_kinds.specs.Answers.{is_made}
use Rattle.ledger_laws.proofs.LogGrowth.{answer_of, left_by, ledger_of-last}
use Rattle.ledger_laws.proofs.walk.Cases.{enable_cases, train_cases, break_cases, drop_cases, clean_cases, offer_cases, check_cases, ready_cases, join_cases, begin_cases, qpdown_cases, xbegin_cases, post_cases, land_cases, look_cases, copy_cases, clear_cases, ack_cases, wake_cases}

module _ (devs : List DevPlan) (plan : PairPlan) (reading : Reading) (bytes : Bytes) (pair : PairPart) where
  -- where a step is refused, its pair is as it was
  abbrev Keeps : Step → Outcome → Type 0
  Keeps step o = is_made o.answer ≡ false → o.after ≡ after_refusal pair step

  refused_next : (step : Step) → Keeps step (read_next devs plan reading bytes pair step)
  refused_next (Enable p side) = enable_cases (Keeps (Enable p side)) pair side (λ r no h. refl) (λ _ h. absurd (true≢false h))
  refused_next (Train p) = train_cases (Keeps (Train p)) pair (λ r no h. refl) (λ _ h. absurd (true≢false h))
  refused_next (Break p) = break_cases (Keeps (Break p)) pair (λ r no h. refl) (λ _ h. absurd (true≢false h))
  refused_next (DropDone p) = drop_cases (Keeps (DropDone p)) pair (λ r no h. refl) (λ _ h. absurd (true≢false h))
  refused_next (Clean p side) = clean_cases (Keeps (Clean p side)) pair side (λ r no h. refl) (λ _ h. absurd (true≢false h))
  refused_next (Offer p side) = offer_cases (Keeps (Offer p side)) plan pair side (λ r no h. refl) (λ up more h. absurd (true≢false h))
  refused_next (Check p side) = check_cases (Keeps (Check p side)) plan pair side (λ r no h. refl) (λ _ h. absurd (true≢false h))
  refused_next (Ready p side queue) = ready_cases (Keeps (Ready p side queue)) pair side queue (λ r no h. refl) (λ up checked h. absurd (true≢false h))
  refused_next (Join p side queue) = join_cases (Keeps (Join p side queue)) pair side queue (λ r no h. refl) (λ up ready asked h. absurd (true≢false h))
  refused_next (Begin p side queue frame) =
      begin_cases reading (Keeps (Begin p side queue frame)) (sizes_of plan side queue) pair side queue frame (λ r no h. refl) (λ may h. absurd (true≢false h))
  refused_next (QpDown p side queue) = qpdown_cases reading (Keeps (QpDown p side queue)) (sizes_of plan side queue) pair side queue (λ r no h. refl) (λ may h. absurd (true≢false h))
  refused_next (Xbegin p side queue dev dst kind payload) =
      xbegin_cases reading (Keeps (Xbegin p side queue dev dst kind payload)) (sizes_of plan side queue) (dev_plan devs dev) pair side queue dst kind payload (λ r no h. refl)
      (λ may h. absurd (true≢false h))
  refused_next (Post p side queue) =
      post_cases reading (Keeps (Post p side queue)) pair side queue (λ h. refl) (λ label rest e h. absurd (true≢false h)) (λ entry others label rest idle waits e h. absurd (true≢false h))
  refused_next (Land p side place) = land_cases (Keeps (Land p side place)) plan pair side place (λ r no h. refl) (λ label at may h. absurd (true≢false h))
  refused_next (Look p side queue) =
      look_cases reading (Keeps (Look p side queue)) pair side queue (λ r no found h. refl) (λ may none h. refl) (λ may len left found h. absurd (true≢false h)) (λ may h. absurd (true≢false h))
  refused_next (Copy p side queue) =
      copy_cases reading (Keeps (Copy p side queue)) pair side queue (λ r no h. refl) (λ turn more h. absurd (true≢false h)) (λ turn all others h. absurd (true≢false h))
      (λ turn all last h. absurd (true≢false h))
  refused_next (Clear p side queue) = clear_cases (Keeps (Clear p side queue)) pair side queue (λ r no h. refl) (λ _ h. absurd (true≢false h))
  refused_next (Ack p side queue) = ack_cases reading (Keeps (Ack p side queue)) pair side queue (λ r no h. refl) (λ _ h. absurd (true≢false h))
  refused_next (Wake p side queue dev) = wake_cases (Keeps (Wake p side queue dev)) reading (dev_plan devs dev) pair side queue (λ r no h. refl) (λ h. absurd (true≢false h))
  refused_next (Irq p side) = λ h. absurd (true≢false h)
  refused_next (Mask p side bits) = λ h. absurd (true≢false h)
  refused_next (Unmask p side bits) = λ h. absurd (true≢false h)
  refused_next (Spad p side i value) = λ h. absurd (true≢false h)
  refused_next (Poke p side window offset poked) = λ h. absurd (true≢false h)
  refused_next step = λ h. refl

-- A step that is refused leaves every pair as it was, but for a device's count of refusals.
pub refusals_change_nothing : RefusalsChangeNothing
refusals_change_nothing plan memories steps step answer pair goes refused =
    ap (λ (ledger : Ledger). ledger pair) (ledger_of-last plan memories steps step)
    ∙ elim (cases_eq pair (subject_of step)) [
      | inl e ↦ ap (λ b. if b then left (subject_of step) else ledger_of plan memories steps pair) (eq-eqb pair (subject_of step) e)
          ∙ subst (λ k. left (subject_of step) ≡ after_refusal (ledger_of plan memories steps k) step) (sym e) same
          ∙ ap (λ b. if b then after_refusal (ledger_of plan memories steps pair) step else ledger_of plan memories steps pair) (sym (eq-eqb pair (subject_of step) e))
      | inr ne ↦ ap (λ b. if b then left (subject_of step) else ledger_of plan memories steps pair) (ne_eqb pair (subject_of step) ne)
          ∙ ap (λ b. if b then after_refusal (ledger_of plan memories steps pair) step else ledger_of plan memories steps pair) (sym (ne_eqb pair (subject_of step) ne))
    ]
  where
    bytes : ℕ → Bytes
    bytes = memories (log_of plan memories steps)

    left : ℕ → PairPart
    left k = left_by plan k (bytes k) (ledger_of plan memories steps k) step

    same : left (subject_of step) ≡ after_refusal (ledger_of plan memories steps (subject_of step)) step
    same =
        let k = subject_of step in
        refused_next plan.devs (pair_plan plan k) (reading_of (pair_plan plan k) (bytes k) (ledger_of plan memories steps k)) (bytes k) (ledger_of plan memories steps k) step
        (ap is_made (sym (answer_of plan memories steps step answer goes)) ∙ refused)
