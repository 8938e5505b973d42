-- The memories of a pair show what the steps on it have stored; so pairs are separate without a premise.
use Rattle.std.proofs.Common.{◌≡◌, ℕ, ◌==◌, List, [], ◌∷◌, map, refl, sym, ap, inl, inr, subst}
use Rattle.std.specs.Prelude.{if◌then◌else◌}
use Rattle.std.proofs.lemmas.Bool.{cases_Bool}
use Rattle.step_kinds.specs.Subject.{subject_of}
use Rattle.step_kinds.specs.declared.plan.DevPlan.{DevPlan}
use Rattle.step_kinds.specs.declared.plan.PairPlan.{PairPlan}
use Rattle.step_kinds.specs.declared.steps.Step.{Step}
use Rattle.pair_model.specs.Plans.{pair_plan}
use Rattle.ledger_model.specs.Log.{Answered}
use Rattle.ledger_laws.specs.Laws.{made_on}
use Rattle.ledger_laws.proofs.PairsAreSeparate.{pairs_are_separate}
use Rattle.ledger_model.specs.Memory.{Site, bytes_of_site, fresh_site, site_next, site_from, memory_of}
use Rattle.ledger_laws.specs.Separate.{MemoriesKeepPairsApart, StoredPairsAreSeparate}

abbrev steps_in : List Answered → List Step
steps_in log = map (λ made. made.step) log

module _ (devs : List DevPlan) (plan : PairPlan) (k : ℕ) where
  -- a site passes over the steps on other pairs
  site_from-on : (log : List Answered) (site : Site) → site_from devs plan k site (steps_in log) ≡ site_from devs plan k site (steps_in (made_on k log))
  site_from-on [] site = refl
  site_from-on (made ∷ log) site = elim (cases_Bool (subject_of made.step == k)) [
    | inl on ↦
        subst
        (λ b. site_from devs plan k (if b then site_next devs plan site made.step else site) (steps_in log) ≡ site_from devs plan k site (steps_in (if b then made ∷ made_on k log else made_on k log)))
        (sym on)
        (subst (λ b. site_from devs plan k (site_next devs plan site made.step) (steps_in log) ≡ site_from devs plan k (if b then site_next devs plan site made.step else site) (steps_in (made_on k log)))
        (sym on) (site_from-on log (site_next devs plan site made.step)))
    | inr off ↦
        subst
        (λ b. site_from devs plan k (if b then site_next devs plan site made.step else site) (steps_in log) ≡ site_from devs plan k site (steps_in (if b then made ∷ made_on k log else made_on k log)))
        (sym off) (site_from-on log site)
  ]

-- What a pair's memories show after a log is what they show after the steps on that pair alone.
pub memories_keep_pairs_apart : MemoriesKeepPairsApart
memories_keep_pairs_apart plan log pair = ap bytes_of_site (site_from-on plan.devs (pair_plan plan pair) pair log (fresh_site (pair_plan plan pair)))

-- If memories show what was stored, a pair's items of the log are the log of the steps on it alone.
pub stored_pairs_are_separate : StoredPairsAreSeparate
stored_pairs_are_separate plan = pairs_are_separate plan (memory_of plan) (memories_keep_pairs_apart plan)
