-- Steps made one after another: the cluster that made them, their answers, and what is kept of these.
use Rattle.std.proofs.Common.{◌≡◌, ◌∙◌, ℕ, suc, ◌+◌, ◌<◌, List, [], ◌∷◌, ◌++◌, length, get_or, take, replicate, refl, sym, ap, subst, arith, append_assoc, append-nil}
use Rattle.std.specs.List.{All, flat_map, fold}
use Rattle.std.proofs.lemmas.List.{length-append, length-map, map-append, replicate-append-replicate, take_more}
use Rattle.std.proofs.lemmas.List.Concat.{flat_map-append, get_or-flat_map}
use Rattle.std.proofs.lemmas.List.Folds.{length-flat_map-take}
use Rattle.std.proofs.lemmas.List.Sums.{fold-append}
use Rattle.pair_model.specs.PlanParts.{steps_in}
use Rattle.step_kinds.specs.declared.plan.Line.{Line}
use Rattle.step_kinds.specs.declared.plan.Plan.{Plan}
use Rattle.step_kinds.specs.declared.steps.Answer.{Answer}
use Rattle.step_kinds.specs.declared.steps.Step.{Step}
use Rattle.ledger_model.specs.Log.{Answered, Memories}
use Rattle.ledger_model.specs.Memory.{memory_of}
use Rattle.ledger_model.specs.Network.{Network, items_from, new_network, next_network}
use Rattle.ledger_model.specs.Origins.{bytes_kept}
use Rattle.cluster_core.specs.Cluster.{ClusterState, plan_held}
use Rattle.cluster_core.specs.LogClauses.{HasClusterMade, IsClusterAnswered, cluster_log_after}
use Rattle.step_list.specs.StepLists.{all_lines, lines_in}
use Rattle.step_list.specs.declared.step_list.Stretch.{Stretch}
use Rattle.step_kinds.specs.AnsweredSteps.{AnsweredStep}
use Rattle.cluster_core.specs.PlanSteps.{HasKept, HasReplayed}
use Rattle.ledger_model.specs.PlanLog.{answered_steps}

abbrev pub step_in : Line → Step
step_in line = line.step

-- A log has an answer for each step

length-items_from : (plan : Plan) (memories : Memories) (net : Network (List ℕ)) (steps : List Step) → length (items_from bytes_kept plan memories net steps) ≡ length steps
length-items_from plan memories net [] = refl
length-items_from plan memories net (step ∷ steps) = ap suc (length-items_from plan memories (next_network bytes_kept plan memories net step) steps)

length-log_after : (plan : Plan) (lines : List Line) → length (cluster_log_after plan (steps_in lines)) ≡ length lines
length-log_after plan lines = length-items_from plan (memory_of plan) (new_network plan) (steps_in lines) ∙ length-map lines step_in

-- so lines after others have as many answers as they are
pub length-answers : (plan : Plan) (before lines : List Line) (answers : List Answered) →
    cluster_log_after plan (steps_in (before ++ lines)) ≡ cluster_log_after plan (steps_in before) ++ answers → length answers ≡ length lines
length-answers plan before lines answers log =
    let all = length-log_after plan (before ++ lines) in
    let first = length-log_after plan before in
    let both : length (cluster_log_after plan (steps_in (before ++ lines))) ≡ length (cluster_log_after plan (steps_in before)) + length answers =
    ap length log ∙ length-append (cluster_log_after plan (steps_in before)) answers in
    let stretches = length-append before lines in
    omega arith

answered_steps-append : (xs ys : List Line) (one two : List Answered) → length one ≡ length xs → answered_steps (xs ++ ys) (one ++ two) ≡ answered_steps xs one ++ answered_steps ys two
answered_steps-append [] ys [] two same = refl
answered_steps-append [] ys (made ∷ one) two same = absurd (omega arith)
answered_steps-append (x ∷ xs) ys [] two same = absurd (omega arith)
answered_steps-append (x ∷ xs) ys (made ∷ one) two same =
    ap (λ (rest : List AnsweredStep). record { step = x.step; made = record { line = x.line; answer = made.answer } } ∷ rest) (answered_steps-append xs ys one two (omega arith))

-- a list of the same item is folded item by item
pub fold_more : {K X : Type 0} (with_item : K → X → K) (old : K) (count : ℕ) (x : X) → fold with_item old (replicate (count + 1) x) ≡ with_item (fold with_item old (replicate count x)) x
fold_more with_item old count x =
    ap (fold with_item old) (sym (replicate-append-replicate count 1 x)) ∙ fold-append with_item old (replicate count x) (replicate 1 x)

-- What is kept, of no lines, of one, and of lines after lines

module _ {K : Type 0} (with_answer : K → AnsweredStep → K) (plan : Plan) (before : List Line) where
  pub kept_none : (cluster : ClusterState) (old : K) → HasReplayed plan before cluster → HasKept with_answer plan before [] cluster old old
  kept_none cluster old replayed = record {
    replayed = subst (λ (lines : List Line). HasReplayed plan lines cluster) (sym (append-nil before)) replayed;
    answers = [];
    log = ap (λ (lines : List Line). cluster_log_after plan (steps_in lines)) (append-nil before) ∙ sym (append-nil (cluster_log_after plan (steps_in before)));
    kept = refl;
  }

  pub kept_one : (line : ℕ) (step : Step) (answer : Answer) (was cluster : ClusterState) (old new : K) → HasReplayed plan before was →
      HasClusterMade plan (steps_in before ++ step ∷ []) cluster → plan_held cluster ≡ plan_held was → IsClusterAnswered plan (steps_in before) step answer →
      new ≡ with_answer old (record { step = step; made = record { line = line; answer = answer } }) → HasKept with_answer plan before (record { line = line; step = step } ∷ []) cluster old new
  kept_one line step answer was cluster old new replayed made same answered kept =
      let last : Line = record { line = line; step = step } in
      let more : steps_in (before ++ last ∷ []) ≡ steps_in before ++ step ∷ [] = map-append step_in before (last ∷ []) in
      record {
        replayed = record {
          made = subst (λ (steps : List Step). HasClusterMade plan steps cluster) (sym more) made;
          kept = same ∙ replayed.kept;
        };
        answers = record { step = answered.stands_as; answer = answer } ∷ [];
        log = ap (cluster_log_after plan) more ∙ answered.goes_on;
        kept = kept;
      }

  pub kept_both : (xs ys : List Line) (one two : ClusterState) (old mid new : K) → HasKept with_answer plan before xs one old mid →
      HasKept with_answer plan (before ++ xs) ys two mid new → HasKept with_answer plan before (xs ++ ys) two old new
  kept_both xs ys one two old mid new first second =
      let log : List Line → List Answered = λ lines. cluster_log_after plan (steps_in lines) in
      let own : List AnsweredStep → K → K = λ answers kept. fold with_answer kept answers in
      let same = length-answers plan before xs first.answers first.log in
      record {
        replayed = subst (λ (lines : List Line). HasReplayed plan lines two) (append_assoc before xs ys) second.replayed;
        answers = first.answers ++ second.answers;
        log =
            ap log (sym (append_assoc before xs ys)) ∙ second.log ∙ ap (λ (answers : List Answered). answers ++ second.answers) first.log
            ∙ append_assoc (log before) first.answers second.answers;
        kept =
            second.kept ∙ ap (own (answered_steps ys second.answers)) first.kept
            ∙ sym (fold-append with_answer old (answered_steps xs first.answers) (answered_steps ys second.answers))
            ∙ ap (λ (answers : List AnsweredStep). fold with_answer old answers) (sym (answered_steps-append xs ys first.answers second.answers same));
      }

-- the steps of one stretch more
pub stretches_more : (stretches : List Stretch) (i : ℕ) (stretch : Stretch) → i < length stretches → stretch ≡ get_or stretches i stretch →
    all_lines (take (i + 1) stretches) ≡ all_lines (take i stretches) ++ lines_in stretch
stretches_more stretches i stretch lt is =
    ap all_lines (take_more stretches i stretch lt) ∙ flat_map-append lines_in (take i stretches) (get_or stretches i stretch ∷ [])
    ∙ ap (λ (last : Stretch). all_lines (take i stretches) ++ (lines_in last ++ [])) (sym is)
    ∙ ap (λ (last : List Line). all_lines (take i stretches) ++ last) (append-nil (lines_in stretch))

-- what holds of all items of lists one after another holds of those of one list
pub all_of_one : {X Y : Type 0} (P : Y → Type 0) (f : X → List Y) (xs : List X) (i : ℕ) (x : X) → i < length xs → x ≡ get_or xs i x → All P (flat_map f xs) → All P (f x)
all_of_one P f xs i x lt is all = λ j d inside.
    let within : j < length (f (get_or xs i x)) = subst (λ y. j < length (f y)) is inside in
    let few = length-flat_map-take f xs i x lt in
    let own : P (get_or (flat_map f xs) (length (flat_map f (take i xs)) + j) d) = all (length (flat_map f (take i xs)) + j) d (omega arith) in
    subst (λ y. P (get_or (f y) j d)) (sym is) (subst P (get_or-flat_map f xs i j x d lt within) own)
