-- Pairs are separate: the log of a pair's steps alone is the part of the whole log that is on the pair.
use Rattle.std.proofs.Common.{◌≡◌, ℕ, ◌==◌, true, false, List, [], ◌∷◌, ◌++◌, refl, sym, ap, ◌∙◌, ⊎_elim, subst}
use Rattle.std.specs.Prelude.{if◌then◌else◌}
use Rattle.std.proofs.lemmas.Bool.{cases_Bool, eqb-true, eqb-false, eq-eqb, ne_eqb}
use Rattle.std.proofs.lemmas.List.{append-nil}
use Rattle.std.proofs.lemmas.List.Elements.{filter-append}
use Rattle.step_kinds.specs.Subject.{subject_of}
use Rattle.step_kinds.specs.declared.plan.Plan.{Plan}
use Rattle.step_kinds.specs.declared.steps.Step.{Step}
use Rattle.ledger_laws.specs.Laws.{steps_on, made_on, KeepsPairsApart, PairsAreSeparate}
use Rattle.ledger_model.specs.Log.{Answered, Memories, answered, log_from}
use Rattle.ledger_model.specs.Next.{Ledger, ledger_after, start}
use Rattle.ledger_laws.proofs.LogGrowth.{made_by, left_by}

-- the whole log and ledger, from a log so far and a ledger on, and those of the pair's steps alone
abbrev Agree : Plan → Memories → ℕ → List Step → Type 0
Agree plan memories k steps = (before : List Answered) (whole alone : Ledger) → whole k ≡ alone k
    → made_on k (log_from plan memories before whole steps) ≡ log_from plan memories (made_on k before) alone (steps_on k steps)

module _ (plan : Plan) (memories : Memories) (apart : KeepsPairsApart memories) (k : ℕ) (step : Step) (steps : List Step) (rest : Agree plan memories k steps) where
  -- a step on the pair is answered in the same way
  same_answer : (before : List Answered) (whole alone : Ledger) → whole k ≡ alone k → subject_of step ≡ k
      → answered plan (memories before) whole step ≡ answered plan (memories (made_on k before)) alone step
  same_answer before whole alone same e =
      subst (λ s. made_by plan s (memories before s) (whole s) step ≡ made_by plan s (memories (made_on k before) s) (alone s) step) (sym e)
      (ap (λ bytes. made_by plan k bytes (whole k) step) (apart before k) ∙ ap (λ pair. made_by plan k (memories (made_on k before) k) pair step) same)

  same_pair : (before : List Answered) (whole alone : Ledger) → whole k ≡ alone k → subject_of step ≡ k
      → ledger_after plan (memories before) whole step k ≡ ledger_after plan (memories (made_on k before)) alone step k
  same_pair before whole alone same e =
      subst
      (λ s. (if k == s then left_by plan s (memories before s) (whole s) step else whole k) ≡ (if k == s then left_by plan s (memories (made_on k before) s) (alone s) step else alone k))
      (sym e)
      (subst (λ b. (if b then left_by plan k (memories before k) (whole k) step else whole k) ≡ (if b then left_by plan k (memories (made_on k before) k) (alone k) step else alone k))
      (sym (eq-eqb k k refl))
      (ap (λ bytes. left_by plan k bytes (whole k) step) (apart before k) ∙ ap (λ pair. left_by plan k (memories (made_on k before) k) pair step) same))

  on_pair : (subject_of step == k) ≡ true → Agree plan memories k (step ∷ steps)
  on_pair on before whole alone same =
      let e = eqb-true (subject_of step) k on in
      let one = answered plan (memories before) whole step in
      let other = answered plan (memories (made_on k before)) alone step in
      let after = ledger_after plan (memories before) whole step in
      let left = ledger_after plan (memories (made_on k before)) alone step in
      subst
      (λ b. (if b then one ∷ made_on k (log_from plan memories (before ++ one ∷ []) after steps) else made_on k (log_from plan memories (before ++ one ∷ []) after steps))
      ≡ log_from plan memories (made_on k before) alone (if b then step ∷ steps_on k steps else steps_on k steps))
      (sym on)
      (ap (λ log. one ∷ log) (rest (before ++ one ∷ []) after left (same_pair before whole alone same e))
      ∙ subst (λ log. one ∷ log_from plan memories log left (steps_on k steps) ≡ other ∷ log_from plan memories (made_on k before ++ other ∷ []) left (steps_on k steps))
      (sym (filter-append _ before (one ∷ [])
      ∙ ap (λ log. made_on k before ++ log) (subst (λ b. (if b then one ∷ [] else []) ≡ one ∷ []) (sym on) refl)))
      (ap (λ made. made ∷ log_from plan memories (made_on k before ++ made ∷ []) left (steps_on k steps)) (same_answer before whole alone same e)))

  off_pair : (subject_of step == k) ≡ false → Agree plan memories k (step ∷ steps)
  off_pair off before whole alone same =
      let one = answered plan (memories before) whole step in
      let after = ledger_after plan (memories before) whole step in
      subst
      (λ b. (if b then one ∷ made_on k (log_from plan memories (before ++ one ∷ []) after steps) else made_on k (log_from plan memories (before ++ one ∷ []) after steps))
      ≡ log_from plan memories (made_on k before) alone (if b then step ∷ steps_on k steps else steps_on k steps))
      (sym off)
      (rest (before ++ one ∷ []) after alone
      (subst (λ b. (if b then left_by plan (subject_of step) (memories before (subject_of step)) (whole (subject_of step)) step else whole k) ≡ alone k)
      (sym (ne_eqb k (subject_of step) (λ e. eqb-false (subject_of step) k off (sym e)))) same)
      ∙ ap (λ log. log_from plan memories log alone (steps_on k steps))
      (filter-append _ before (one ∷ [])
      ∙ ap (λ log. made_on k before ++ log) (subst (λ b. (if b then one ∷ [] else []) ≡ []) (sym off) refl)
      ∙ append-nil (made_on k before)))

separate_from : (plan : Plan) (memories : Memories) → KeepsPairsApart memories → (k : ℕ) (steps : List Step) → Agree plan memories k steps
separate_from plan memories apart k [] = λ before whole alone same. refl
separate_from plan memories apart k (step ∷ steps) =
    ⊎_elim (on_pair plan memories apart k step steps (separate_from plan memories apart k steps)) (off_pair plan memories apart k step steps (separate_from plan memories apart k steps))
    (cases_Bool (subject_of step == k))

-- If memories keep pairs apart, steps on a pair are answered as without the steps on other pairs.
pub pairs_are_separate : PairsAreSeparate
pairs_are_separate plan memories apart steps pair = separate_from plan memories apart pair steps [] (start plan) (start plan) refl
