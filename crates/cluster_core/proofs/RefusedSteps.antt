-- A step that was refused is answered the same each further time, without being made.
use Rattle.std.proofs.Common.{◌≡◌, ◌∙◌, ℕ, zero, suc, ◌+◌, ◌-◌, ◌<◌, arith, false, true, List, [], ◌∷◌, ◌++◌, refl, sym, ap, subst, replicate}
use Rattle.std.specs.List.{fold}
use Rattle.std.proofs.lemmas.List.{map-append, replicate-append-replicate}
use Rattle.pair_model.specs.PlanParts.{declared_part, steps_in}
use Rattle.step_kinds.specs.declared.plan.Line.{Line}
use Rattle.step_kinds.specs.declared.plan.Plan.{Plan}
use Rattle.step_kinds.specs.declared.steps.Answer.{Answer}
use Rattle.step_kinds.specs.declared.steps.Step.{Step}
use Rattle.step_kinds.specs.Answers.{is_made}
use Rattle.step_list.specs.Compact.{lines_with, step_again}
use Rattle.step_list.specs.declared.macros.Repeated.{Repeated}
use Rattle.step_list.specs.declared.macros.Repeated.TheVariants.{Post, Land, Look, Copy, Clear, Ack, Offer}
use Rattle.cluster_core.specs.Cluster.{ClusterState, plan_held}
use Rattle.cluster_core.specs.LogClauses.{HasClusterMade, IsClusterAnswered}
use Rattle.cluster_core.specs.Refusals.{ClusterRefusedAgain, is_plain_step}
use Rattle.cluster_core.specs.PlanSteps.{HasKept}
use Rattle.step_kinds.specs.AnsweredSteps.{AnsweredStep}
use Rattle.cluster_core.proofs.StepsMade.{kept_both, kept_none, kept_one, step_in}

-- no step that a line repeats is a device's
pub repeated_counts : (repeated : Repeated) → is_plain_step (step_again repeated) ≡ true
repeated_counts (Post pair side queue) = refl
repeated_counts (Land pair side place) = refl
repeated_counts (Look pair side queue) = refl
repeated_counts (Copy pair side queue) = refl
repeated_counts (Clear pair side queue) = refl
repeated_counts (Ack pair side queue) = refl
repeated_counts (Offer pair side) = refl

module _ (again : ClusterRefusedAgain) {K : Type 0} (with_answer : K → AnsweredStep → K) (plan : Plan) (line : ℕ) (step : Step) (answer : Answer) (cluster : ClusterState) (refused : is_made answer ≡ false)
    (counts : is_plain_step step ≡ true) (kept : plan_held cluster ≡ declared_part plan) where
  abbrev last : Line
  last = record { line = line; step = step }

  pub kept_refused : (count : ℕ) (steps : List Step) (before : List Line) (old : K) → steps_in before ≡ steps ++ step ∷ [] → IsClusterAnswered plan steps step answer → HasClusterMade plan (steps ++ step ∷ []) cluster →
      HasKept with_answer plan before (lines_with line (replicate count step)) cluster old (fold with_answer old (replicate count (record { step = step; made = record { line = line; answer = answer } })))
  kept_refused zero steps before old same answered made =
      kept_none with_answer plan before cluster old (record { made = subst (λ (steps : List Step). HasClusterMade plan steps cluster) (sym same) made; kept = kept })
  kept_refused (suc count) steps before old same answered made =
      let next = again plan steps step answer cluster answered refused counts made in
      let new : K = with_answer old (record { step = step; made = record { line = line; answer = answer } }) in
      let now : HasClusterMade plan (steps_in before) cluster = subst (λ (steps : List Step). HasClusterMade plan steps cluster) (sym same) made in
      let more : HasClusterMade plan (steps_in before ++ step ∷ []) cluster = subst (λ (steps : List Step). HasClusterMade plan (steps ++ step ∷ []) cluster) (sym same) next.1 in
      let goes : IsClusterAnswered plan (steps_in before) step answer = subst (λ (steps : List Step). IsClusterAnswered plan steps step answer) (sym same) next.0 in
      kept_both with_answer plan before (last ∷ []) (lines_with line (replicate count step)) cluster cluster old new
      (fold with_answer new (replicate count (record { step = step; made = record { line = line; answer = answer } })))
      (kept_one with_answer plan before line step answer cluster cluster old new (record { made = now; kept = kept }) more refl goes refl)
      (kept_refused count (steps ++ step ∷ []) (before ++ last ∷ []) new (map-append step_in before (last ∷ []) ∙ ap (λ (steps : List Step). steps ++ step ∷ []) same) next.0 next.1)

-- what a line's steps so far keep, the next one refused, and the rest kept as that one
module _ (again : ClusterRefusedAgain) {K : Type 0} (with_answer : K → AnsweredStep → K) (plan : Plan) (line : ℕ) (step : Step) (answer : Answer) (refused : is_made answer ≡ false)
    (counts : is_plain_step step ≡ true) (before : List Line) where
  abbrev made_by : ℕ → List Line
  made_by count = lines_with line (replicate count step)

  replicated_lines : (made rest : ℕ) → made_by made ++ made_by rest ≡ made_by (made + rest)
  replicated_lines made rest =
      sym (map-append (λ (step : Step). record { line = line; step = step }) (replicate made step) (replicate rest step))
      ∙ ap (lines_with line) (replicate-append-replicate made rest step)

  pub kept_rest : (made count : ℕ) → made < count → (was cluster : ClusterState) (old mid new : K) → HasKept with_answer plan before (made_by made) was old mid →
      HasClusterMade plan (steps_in (before ++ made_by made) ++ step ∷ []) cluster → plan_held cluster ≡ plan_held was → IsClusterAnswered plan (steps_in (before ++ made_by made)) step answer →
      new ≡ fold with_answer mid (replicate (count - made) (record { step = step; made = record { line = line; answer = answer } })) → HasKept with_answer plan before (made_by count) cluster old new
  kept_rest made count few was cluster old mid new so_far stands same answered kept =
      let now : List Line = before ++ made_by made in
      let last : Line = record { line = line; step = step } in
      let told : AnsweredStep = record { step = step; made = record { line = line; answer = answer } } in
      let one = kept_one with_answer plan now line step answer was cluster mid (with_answer mid told) so_far.replayed stands same answered refl in
      let rest = count - made - 1 in
      let all : count - made ≡ suc rest = omega arith in
      let others =
      kept_refused again with_answer plan line step answer cluster refused counts one.replayed.kept rest (steps_in now) (now ++ last ∷ []) (with_answer mid told)
      (map-append step_in now (last ∷ [])) answered stands in
      let sum : made + suc rest ≡ count = omega arith in
      subst (λ (new : K). HasKept with_answer plan before (made_by count) cluster old new) (sym (kept ∙ ap (λ (n : ℕ). fold with_answer mid (replicate n told)) all))
      (subst (λ (lines : List Line). HasKept with_answer plan before lines cluster old (fold with_answer (with_answer mid told) (replicate rest told)))
      (replicated_lines made (suc rest) ∙ ap made_by sum)
      (kept_both with_answer plan before (made_by made) (last ∷ made_by rest) was cluster old mid (fold with_answer (with_answer mid told) (replicate rest told)) so_far
      (kept_both with_answer plan now (last ∷ []) (made_by rest) cluster cluster mid (with_answer mid told) (fold with_answer (with_answer mid told) (replicate rest told)) one others)))
