-- What no step of a pair breaks holds of the pair after every log, on raw pairs too. The laws of one lane of an
-- ordinary pair go by the walk instead.
use Rattle.std.proofs.Common.{◌≡◌, ℕ, ◌==◌, List, [], ◌∷◌, ◌++◌, refl, sym, ap, subst, append_assoc, inl, inr}
use Rattle.std.specs.Prelude.{if◌then◌else◌}
use Rattle.std.specs.List.{AllByRecursion, list_all}
use Rattle.std.proofs.lemmas.Bool.{cases_eq, cond_both, eq-eqb, ne_eqb}
use Rattle.std.proofs.lemmas.List.{append-nil}
use Rattle.step_kinds.specs.Subject.{subject_of}
use Rattle.step_kinds.specs.declared.plan.Plan.{Plan}
use Rattle.step_kinds.specs.declared.steps.Step.{Step}
use Rattle.pair_model.specs.Headers.{Bytes}
use Rattle.ledger_model.specs.Ledger.{LanePart, SidePart, PairPart, link_up, posts, posts_raw}
use Rattle.ledger_model.specs.Reading.{Reading}
use Rattle.ledger_model.specs.Sending.{posts_through}
use Rattle.pair_model.specs.Both.{Both}
use Rattle.step_kinds.specs.declared.names.Side.{Side}
use Rattle.step_kinds.specs.declared.steps.Label.{Label}
use Rattle.ledger_model.specs.Log.{Answered, Memories, answered, log_from, ledger_from, log_of, ledger_of}
use Rattle.ledger_model.specs.Next.{Ledger, fresh_pair, ledger_after, start}
use Rattle.pair_model.specs.Plans.{pair_plan}
use Rattle.ledger_laws.proofs.AtStart.{fresh-lane}
use Rattle.ledger_laws.proofs.LogGrowth.{made_by, left_by}
use Rattle.ledger_laws.proofs.walk.Logs.{OwnTodos, todos_kept}
use Rattle.ledger_laws.proofs.walk.Turn.{on_queue}

-- what holds of a log and of pair k at the start, and is broken neither by a step on it nor by one on another pair. The
-- step on it has to be as it should be, and the writes left to post before it have to be their lanes'.
pub record HoldsOfLog (plan : Plan) (k : ℕ) (Fits : Step → Type 0) (Inv : List Answered → PairPart → Type 0) : Type 0 where
  pub fresh : Inv [] (fresh_pair (pair_plan plan k))
  pub own : (log : List Answered) (bytes : Bytes) (pair : PairPart) (step : Step) → Fits step → subject_of step ≡ k → OwnTodos pair → Inv log pair
      → Inv (log ++ made_by plan k bytes pair step ∷ []) (left_by plan k bytes pair step)
  pub other : (log : List Answered) (pair : PairPart) (made : Answered) → (subject_of made.step ≡ k → ⊥) → Inv log pair → Inv (log ++ made ∷ []) pair

module _ (plan : Plan) (k : ℕ) (Fits : Step → Type 0) (Inv : List Answered → PairPart → Type 0) (holds : HoldsOfLog plan k Fits Inv) (memories : Memories) where
  next : (before : List Answered) (ledger : Ledger) (step : Step) → Fits step → OwnTodos (ledger k) → Inv before (ledger k)
      → Inv (before ++ answered plan (memories before) ledger step ∷ []) (ledger_after plan (memories before) ledger step k)
  next before ledger step fits todos now = elim (cases_eq k (subject_of step)) [
    | inl e ↦
        subst (λ j. Inv (before ++ made_by plan j (memories before j) (ledger j) step ∷ []) (if k == j then left_by plan j (memories before j) (ledger j) step else ledger k)) e
        (subst (λ b. Inv (before ++ made_by plan k (memories before k) (ledger k) step ∷ []) (if b then left_by plan k (memories before k) (ledger k) step else ledger k))
        (sym (eq-eqb k k refl)) (holds.own before (memories before k) (ledger k) step fits (sym e) todos now))
    | inr ne ↦
        subst (λ b. Inv (before ++ answered plan (memories before) ledger step ∷ []) (if b then left_by plan (subject_of step) (memories before (subject_of step)) (ledger (subject_of step)) step else ledger k))
        (sym (ne_eqb k (subject_of step) ne)) (holds.other before (ledger k) (answered plan (memories before) ledger step) (λ e. ne (sym e)) now)
  ]

  from : (before : List Answered) (ledger : Ledger) (steps : List Step) → AllByRecursion Fits steps → OwnTodos (ledger k) → Inv before (ledger k)
      → Inv (before ++ log_from plan memories before ledger steps) (ledger_from plan memories before ledger steps k)
  from before ledger [] fits todos now = subst (λ log. Inv log (ledger k)) (sym (append-nil before)) now
  from before ledger (step ∷ steps) fits todos now =
      let made = answered plan (memories before) ledger step in
      let after = ledger_after plan (memories before) ledger step in
      subst (λ log. Inv log (ledger_from plan memories (before ++ made ∷ []) after steps k)) (append_assoc before (made ∷ []) (log_from plan memories (before ++ made ∷ []) after steps))
      (from (before ++ made ∷ []) after steps fits.1 (todos_kept plan memories before ledger step k todos) (next before ledger step fits.0 todos now))

  pub log_after : (steps : List Step) → AllByRecursion Fits steps → Inv (log_of plan memories steps) (ledger_of plan memories steps k)
  log_after steps fits = from [] (start plan) steps fits todos holds.fresh
    where
      todos : OwnTodos (fresh_pair (pair_plan plan k))
      todos side queue = ap (λ (l : LanePart). list_all (on_queue queue) l.todo) (fresh-lane (pair_plan plan k) side queue)

-- Of all steps

abbrev pub AnyStep : Step → Type 0
AnyStep step = Unit {0}

-- What is read of a pair beside its sides is the same where a side posts a write

-- What is read of a pair beside its sides is the same after a side posts a write.
pub same-posts : {X : Type 0} (read : PairPart → X) (pair : PairPart) (side : Side) (label : Label) → ((part : Both SidePart) → read (record pair { sides = part }) ≡ read pair) → read (posts pair side label) ≡ read pair
same-posts read pair side label kept = cond_both (link_up pair) _ pair (λ (p : PairPart). read p ≡ read pair) (λ _. kept _) (λ _. refl)

-- What is read of a pair beside its sides is the same after a side posts a raw write with its bytes.
pub same-posts_raw : {X : Type 0} (read : PairPart → X) (pair : PairPart) (side : Side) (label : Label) (bytes : List ℕ) → ((part : Both SidePart) → read (record pair { sides = part }) ≡ read pair)
    → read (posts_raw pair side label bytes) ≡ read pair
same-posts_raw read pair side label bytes kept = cond_both (link_up pair) _ pair (λ (p : PairPart). read p ≡ read pair) (λ _. kept _) (λ _. refl)

-- What is read of a pair beside its sides is the same after a write is posted through a window, lost or not.
pub same-through : {X : Type 0} (read : PairPart → X) (reading : Reading) (pair : PairPart) (side : Side) (label : Label) → ((part : Both SidePart) → read (record pair { sides = part }) ≡ read pair)
    → read (posts_through reading pair side label) ≡ read pair
same-through read reading pair side label kept =
    cond_both (reading.reaches side label) (posts pair side label) pair (λ (p : PairPart). read p ≡ read pair) (λ _. same-posts read pair side label kept) (λ _. refl)
