-- The fold over a pair's steps that keeps what was stored shows the ledger's pair; how it, and the ring of a lane, grow
-- by a step.
use Rattle.std.proofs.Common.{◌≡◌, ℕ, ◌==◌, List, [], ◌∷◌, ◌++◌, map, refl, sym, ap, ◌∙◌, subst, inl, inr, append_assoc}
use Rattle.std.specs.Prelude.{◌≢◌, if◌then◌else◌}
use Rattle.std.specs.List.{AllByRecursion}
use Rattle.std.proofs.lemmas.Bool.{cases_eq, cond-true, cond-false, eq-eqb, ne_eqb}
use Rattle.std.proofs.lemmas.List.{append-nil}
use Rattle.step_kinds.specs.Subject.{subject_of}
use Rattle.step_kinds.specs.declared.names.LaneName.{LaneName}
use Rattle.step_kinds.specs.declared.plan.DevPlan.{DevPlan}
use Rattle.step_kinds.specs.declared.plan.PairPlan.{PairPlan}
use Rattle.step_kinds.specs.declared.plan.Plan.{Plan}
use Rattle.step_kinds.specs.declared.steps.Step.{Step}
use Rattle.pair_model.specs.Plans.{pair_plan}
use Rattle.pair_model.specs.Sizes.{sizes_of}
use Rattle.ledger_model.specs.Ledger.{PairPart, lane_of}
use Rattle.ledger_model.specs.Log.{Answered, Memories, answered, log_from, ledger_from, log_of, ledger_of}
use Rattle.ledger_model.specs.Next.{Ledger, start, outcome_in, pair_next, ledger_after}
use Rattle.ledger_model.specs.Outcome.{Outcome}
use Rattle.ledger_model.specs.Rings.{RingPart, fresh_ring, ring_next, ring_from, ring_of}
use Rattle.ledger_laws.proofs.LogGrowth.{ledger_of-last}
use Rattle.ledger_model.specs.Memory.{Site, bytes_of_site, memory_of, site_next, site_from, site_of}
use Rattle.ledger_laws.specs.Readings.{SitesAreTheLedger}

-- What holds of no step, and of each list with a step more, holds of every list

module _ (Fits : Step → Type 0) (P : List Step → Type 0) (more : (before : List Step) (step : Step) → AllByRecursion Fits before → Fits step → P before → P (before ++ step ∷ [])) where
  all_last : (before : List Step) (step : Step) → AllByRecursion Fits before → Fits step → AllByRecursion Fits (before ++ step ∷ [])
  all_last [] step all last = (last, tt)
  all_last (first ∷ before) step all last = (all.0, all_last before step all.1 last)

  steps_from : (before steps : List Step) → AllByRecursion Fits before → AllByRecursion Fits steps → P before → P (before ++ steps)
  steps_from before [] done all now = subst P (sym (append-nil before)) now
  steps_from before (step ∷ steps) done all now =
      subst P (append_assoc before (step ∷ []) steps) (steps_from (before ++ step ∷ []) steps (all_last before step done all.0) all.1 (more before step done all.0 now))

  pub by_steps : P [] → (steps : List Step) → AllByRecursion Fits steps → P steps
  by_steps none steps all = steps_from [] steps tt all none

-- The steps of a log

steps_of_log_from : (plan : Plan) (memories : Memories) (before : List Answered) (ledger : Ledger) (steps : List Step) → map (λ made. made.step) (log_from plan memories before ledger steps) ≡ steps
steps_of_log_from plan memories before ledger [] = refl
steps_of_log_from plan memories before ledger (step ∷ steps) =
    ap (λ rest. step ∷ rest) (steps_of_log_from plan memories (before ++ answered plan (memories before) ledger step ∷ []) (ledger_after plan (memories before) ledger step) steps)

-- The items of a log have just the steps that were made, in their order.
pub steps_of_log : (plan : Plan) (memories : Memories) (steps : List Step) → map (λ made. made.step) (log_of plan memories steps) ≡ steps
steps_of_log plan memories steps = steps_of_log_from plan memories [] (start plan) steps

-- A site with one step more

site_from-last : (devs : List DevPlan) (plan : PairPlan) (k : ℕ) (site : Site) (steps : List Step) (step : Step)
    → site_from devs plan k site (steps ++ step ∷ []) ≡ (if subject_of step == k then site_next devs plan (site_from devs plan k site steps) step else site_from devs plan k site steps)
site_from-last devs plan k site [] step = refl
site_from-last devs plan k site (first ∷ steps) step = site_from-last devs plan k (if subject_of first == k then site_next devs plan site first else site) steps step

-- A step on a pair takes the pair's site, as the steps before left it, to the next site by that step.
pub site_of-here : (plan : Plan) (k : ℕ) (steps : List Step) (step : Step) → subject_of step ≡ k → site_of plan k (steps ++ step ∷ []) ≡ site_next plan.devs (pair_plan plan k) (site_of plan k steps) step
site_of-here plan k steps step here = site_from-last plan.devs (pair_plan plan k) k _ steps step ∙ cond-true (subject_of step == k) _ _ (eq-eqb (subject_of step) k here)

-- A step on another pair leaves a pair's site, ledger and stores, as it was.
pub site_of-elsewhere : (plan : Plan) (k : ℕ) (steps : List Step) (step : Step) → subject_of step ≢ k → site_of plan k (steps ++ step ∷ []) ≡ site_of plan k steps
site_of-elsewhere plan k steps step apart = site_from-last plan.devs (pair_plan plan k) k _ steps step ∙ cond-false (subject_of step == k) _ _ (ne_eqb (subject_of step) k apart)

-- A ring with one step more

ring_from-last : (plan : Plan) (memories : Memories) (name : LaneName) (before : List Answered) (ledger : Ledger) (now : RingPart) (steps : List Step) (step : Step)
    → ring_from plan memories name before ledger now (steps ++ step ∷ [])
    ≡ ring_next (sizes_of (pair_plan plan name.pair) name.from name.queue) name (lane_of (ledger_from plan memories before ledger steps name.pair) name.from name.queue) (ring_from plan memories name before ledger now steps)
    (answered plan (memories (before ++ log_from plan memories before ledger steps)) (ledger_from plan memories before ledger steps) step)
ring_from-last plan memories name before ledger now [] step =
    ap (λ log. ring_next (sizes_of (pair_plan plan name.pair) name.from name.queue) name (lane_of (ledger name.pair) name.from name.queue) now (answered plan (memories log) ledger step)) (sym (append-nil before))
ring_from-last plan memories name before ledger now (first ∷ steps) step =
    let made = answered plan (memories before) ledger first in
    let after = ledger_after plan (memories before) ledger first in
    let sizes = sizes_of (pair_plan plan name.pair) name.from name.queue in
    let next = ring_next sizes name (lane_of (ledger name.pair) name.from name.queue) now made in
    ring_from-last plan memories name (before ++ made ∷ []) after next steps step
    ∙ ap (λ log. ring_next sizes name (lane_of (ledger_from plan memories (before ++ made ∷ []) after steps name.pair) name.from name.queue) (ring_from plan memories name (before ++ made ∷ []) after next steps)
    (answered plan (memories log) (ledger_from plan memories (before ++ made ∷ []) after steps) step))
    (append_assoc before (made ∷ []) (log_from plan memories (before ++ made ∷ []) after steps))

-- The ring of a log with one step more is the ring before it, taken further by that step and its answer.
pub ring_of-last : (plan : Plan) (memories : Memories) (name : LaneName) (steps : List Step) (step : Step)
    → ring_of plan memories (steps ++ step ∷ []) name
    ≡ ring_next (sizes_of (pair_plan plan name.pair) name.from name.queue) name (lane_of (ledger_of plan memories steps name.pair) name.from name.queue) (ring_of plan memories steps name)
    (answered plan (memories (log_of plan memories steps)) (ledger_of plan memories steps) step)
ring_of-last plan memories name steps step = ring_from-last plan memories name [] (start plan) (fresh_ring (sizes_of (pair_plan plan name.pair) name.from name.queue) (pair_plan plan name.pair).up) steps step

-- The two folds

-- the outcome of a step by what is stored
abbrev pub site_outcome : Plan → ℕ → List Step → Step → Outcome
site_outcome plan k steps step = pair_next plan.devs (pair_plan plan k) (bytes_of_site (site_of plan k steps)) (site_of plan k steps).pair step

-- is the ledger's, if both show one pair
pub same_outcome : (plan : Plan) (steps : List Step) (step : Step) → (site_of plan (subject_of step) steps).pair ≡ ledger_of plan (memory_of plan) steps (subject_of step)
    → site_outcome plan (subject_of step) steps step ≡ outcome_in plan (memory_of plan (log_of plan (memory_of plan) steps)) (ledger_of plan (memory_of plan) steps) step
same_outcome plan steps step same =
    let k : ℕ = subject_of step in
    ap (λ (p : PairPart). pair_next plan.devs (pair_plan plan k) (bytes_of_site (site_of plan k steps)) p step) same
    ∙ ap (λ (xs : List Step). pair_next plan.devs (pair_plan plan k) (bytes_of_site (site_of plan k xs)) (ledger_of plan (memory_of plan) steps k) step) (sym (steps_of_log plan (memory_of plan) steps))

abbrev ArePairs : Plan → List Step → Type 0
ArePairs plan steps = (k : ℕ) → (site_of plan k steps).pair ≡ ledger_of plan (memory_of plan) steps k

one_more : (plan : Plan) (steps : List Step) (step : Step) → ArePairs plan steps → ArePairs plan (steps ++ step ∷ [])
one_more plan steps step same k = elim (cases_eq (subject_of step) k) [
  | inl here ↦
      subst (λ j. (site_of plan j (steps ++ step ∷ [])).pair ≡ ledger_of plan (memory_of plan) (steps ++ step ∷ []) j) here
      (ap (λ (s : Site). s.pair) (site_of-here plan (subject_of step) steps step refl)
      ∙ ap (λ (o : Outcome). o.after) (same_outcome plan steps step (same (subject_of step)))
      ∙ sym (ap (λ (l : Ledger). l (subject_of step)) (ledger_of-last plan (memory_of plan) steps step)
      ∙ cond-true (subject_of step == subject_of step) _ _ (eq-eqb (subject_of step) (subject_of step) refl)))
  | inr apart ↦
      ap (λ (s : Site). s.pair) (site_of-elsewhere plan k steps step apart) ∙ same k
      ∙ sym (ap (λ (l : Ledger). l k) (ledger_of-last plan (memory_of plan) steps step) ∙ cond-false (k == subject_of step) _ _ (ne_eqb k (subject_of step) (λ e. apart (sym e))))
]

any : (steps : List Step) → AllByRecursion (λ step. Unit {0}) steps
any [] = tt
any (step ∷ steps) = (tt, any steps)

-- The pair that a site keeps beside its stores is the ledger's, if memories show what was stored.
pub sites_are_the_ledger : SitesAreTheLedger
sites_are_the_ledger plan steps k =
    by_steps (λ step. Unit {0}) (ArePairs plan) (λ before step done fits same. one_more plan before step same) (λ j. refl) steps (any steps) k
