-- A step that was refused changes nothing, so it is refused again in the same way where it is made again at once.
use Rattle.std.proofs.Common.{◌≡◌, ◌∙◌, ℕ, true, false, Bool, List, [], ◌∷◌, ◌++◌, refl, sym, ap, subst, inl, inr}
use Rattle.std.specs.Prelude.{◌==◌, if◌then◌else◌}
use Rattle.std.specs.List.{AllByRecursion}
use Rattle.std.proofs.lemmas.Bool.{true≢false, cases_eq}
use Rattle.step_kinds.specs.Subject.{subject_of}
use Rattle.step_kinds.specs.declared.names.Side.{Side}
use Rattle.step_kinds.specs.declared.names.Side.TheVariants.{A, B}
use Rattle.step_kinds.specs.declared.plan.PairPlan.{PairPlan}
use Rattle.step_kinds.specs.declared.plan.Plan.{Plan}
use Rattle.step_kinds.specs.declared.steps.Answer.{Answer}
use Rattle.step_kinds.specs.declared.steps.Answer.TheVariants.{Up, Landed, Cleared}
use Rattle.step_kinds.specs.declared.steps.Step.{Step}
use Rattle.step_kinds.specs.declared.steps.Step.TheVariants.{Check, Clear, Land, Xbegin}
use Rattle.pair_model.specs.Both.{Both}
use Rattle.pair_model.specs.DeclaredPlans.{IsPermitted}
use Rattle.pair_model.specs.Plans.{pair_plan}
use Rattle.pair_model.specs.Stores.{Store}
use Rattle.ledger_model.specs.Ledger.{PairPart}
use Rattle.ledger_model.specs.Log.{ledger_of}
use Rattle.ledger_model.specs.Next.{pair_next}
use Rattle.ledger_model.specs.Outcome.{Outcome}
use Rattle.ledger_model.specs.Memory.{Site, bytes_of_site, memory_of, site_of, stores_by}
use Rattle.ledger_laws.specs.Laws.{after_refusal}
use Rattle.step_kinds.specs.Answers.{is_made}
use Rattle.ledger_laws.proofs.Facade.{answer_of, refusals_change_nothing}
use Rattle.ledger_laws.proofs.Facade.{same_outcome, site_of-elsewhere, site_of-here, site_outcome, sites_are_the_ledger}
use Rattle.fabric_rule.specs.StandsFor.{PairStands}
use Rattle.fabric_core.specs.Fabric.{pair_of}
use Rattle.fabric_core.specs.LogClauses.{IsAnswered}
use Rattle.fabric_core.specs.Refusals.{RefusedAgain, counts_refusals}
use Rattle.fabric_core.proofs.StepsOfFabrics.{all_last, goes_on}

-- What a refusal leaves

-- the pair
same_part : (part : PairPart) (step : Step) → counts_refusals step ≡ false → after_refusal part step ≡ part
same_part part (Xbegin p side queue dev dst kind payload) counts = absurd (true≢false counts)
same_part part step counts = refl

-- and what was stored
no_stores : (plan : PairPlan) (part : PairPart) (side : Side) (step : Step) (answer : Answer) → is_made answer ≡ false → stores_by plan part side step answer ≡ []
no_stores plan part side (Land p from place) (Landed label) refused = absurd (true≢false refused)
no_stores plan part side (Check p on) Up refused = absurd (true≢false refused)
no_stores plan part side (Clear p on queue) (Cleared n) refused = absurd (true≢false refused)
no_stores plan part side step answer refused = refl

module _ (plan : Plan) (steps : List Step) (step : Step) (answer : Answer) (goes : IsAnswered plan steps step answer) (refused : is_made answer ≡ false) (counts : counts_refusals step ≡ false) where
  -- the answer by what is stored
  answer_there : answer ≡ (site_outcome plan (subject_of step) steps step).answer
  answer_there =
      answer_of plan (memory_of plan) steps step answer goes
      ∙ ap (λ (made : Outcome). made.answer) (sym (same_outcome plan steps step (sites_are_the_ledger plan steps (subject_of step))))

  same_ledger : (k : ℕ) → ledger_of plan (memory_of plan) (steps ++ step ∷ []) k ≡ ledger_of plan (memory_of plan) steps k
  same_ledger k =
      refusals_change_nothing plan (memory_of plan) steps step answer k goes refused
      ∙ ap (λ (part : PairPart). if k == subject_of step then part else ledger_of plan (memory_of plan) steps k) (same_part (ledger_of plan (memory_of plan) steps k) step counts)
      ∙ both (k == subject_of step)
    where
      both : (here : Bool) → (if here then ledger_of plan (memory_of plan) steps k else ledger_of plan (memory_of plan) steps k) ≡ ledger_of plan (memory_of plan) steps k
      both true = refl
      both false = refl

  same_pair : (k : ℕ) → (site_of plan k (steps ++ step ∷ [])).pair ≡ (site_of plan k steps).pair
  same_pair k = sites_are_the_ledger plan (steps ++ step ∷ []) k ∙ same_ledger k ∙ sym (sites_are_the_ledger plan steps k)

  stored_on : (side : Side) → stores_by (pair_plan plan (subject_of step)) (site_of plan (subject_of step) steps).pair side step (site_outcome plan (subject_of step) steps step).answer ≡ []
  stored_on side =
      ap (stores_by (pair_plan plan (subject_of step)) (site_of plan (subject_of step) steps).pair side step) (sym answer_there)
      ∙ no_stores (pair_plan plan (subject_of step)) (site_of plan (subject_of step) steps).pair side step answer refused

  same_stores : (site_of plan (subject_of step) (steps ++ step ∷ [])).stores ≡ (site_of plan (subject_of step) steps).stores
  same_stores =
      let was : Both (List Store) = (site_of plan (subject_of step) steps).stores in
      ap (λ (site : Site). site.stores) (site_of-here plan (subject_of step) steps step refl)
      ∙ ap (λ (first : List Store). record { a = first ++ was.a; b = stores_by (pair_plan plan (subject_of step)) (site_of plan (subject_of step) steps).pair B step (site_outcome plan (subject_of step) steps step).answer ++ was.b }) (stored_on A)
      ∙ ap (λ (second : List Store). record { a = was.a; b = second ++ was.b }) (stored_on B)

  pub same_site : (k : ℕ) → site_of plan k (steps ++ step ∷ []) ≡ site_of plan k steps
  same_site k = elim (cases_eq (subject_of step) k) [
    | inl here ↦
        subst (λ (k : ℕ). site_of plan k (steps ++ step ∷ []) ≡ site_of plan k steps) here
        (ap (λ (part : PairPart). record { pair = part; stores = (site_of plan (subject_of step) (steps ++ step ∷ [])).stores }) (same_pair (subject_of step))
        ∙ ap (λ (stores : Both (List Store)). record { pair = (site_of plan (subject_of step) steps).pair; stores = stores }) same_stores)
    | inr apart ↦ site_of-elsewhere plan k steps step apart
  ]

  pub answered_again : IsAnswered plan (steps ++ step ∷ []) step answer
  answered_again =
      goes_on plan (steps ++ step ∷ []) step answer
      (answer_there ∙ ap (λ (site : Site). (made_at site).answer) (sym (same_site (subject_of step))))
    where
      made_at : Site → Outcome
      made_at site = pair_next plan.devs (pair_plan plan (subject_of step)) (bytes_of_site site) site.pair step

last_permitted : (P : Step → Type 0) (steps : List Step) (step : Step) → AllByRecursion P (steps ++ step ∷ []) → P step
last_permitted P [] step all = all.0
last_permitted P (first ∷ steps) step all = last_permitted P steps step all.1

-- A refused step that is no device's begin is answered the same once more, and the fabric then has made it twice.
pub refused_again : RefusedAgain
refused_again plan steps step answer fabric goes refused counts made =
    let again = answered_again plan steps step answer goes refused counts in (
      again,
      record {
        declared = made.declared;
        permitted = all_last (IsPermitted plan) (steps ++ step ∷ []) step made.permitted (last_permitted (IsPermitted plan) steps step made.permitted);
        stands = record {
          devs = made.stands.devs;
          all_pairs = made.stands.all_pairs;
          pairs = λ k below.
              subst (λ (site : Site). PairStands plan.devs (pair_plan plan k) k site (pair_of fabric k))
              (sym (same_site plan (steps ++ step ∷ []) step answer again refused counts k)) (made.stands.pairs k below);
        };
      },
    )
