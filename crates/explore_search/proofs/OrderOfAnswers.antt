-- The order of answers with one more answer each.
use Rattle.std.proofs.Common.{◌≡◌, ◌∙◌, ℕ, ◌-◌, ◌<◌, inl, inr, List, [], ◌∷◌, ◌++◌, ap, arith, get_or, length, refl, subst, sym, Ordering, Less, Equal, Greater}
use Rattle.std.specs.Cmp.Lexicographic.{slice_cmp}
use Rattle.std.specs.List.{AllPairs}
use Rattle.std.specs.Ordering.{nat_cmp, ordering_then, ordering_reverse}
use Rattle.std.proofs.lemmas.Bool.{cases_lt}
use Rattle.std.proofs.lemmas.Cmp.{nat_list_cmp_total}
use Rattle.std.proofs.lemmas.List.{get_or_append_left, get_or-append_right, length-append, length_push}
use Rattle.step_kinds.specs.declared.plan.Plan.{Plan}
use Rattle.step_kinds.specs.declared.steps.Step.{Step}
use Rattle.explore_model.specs.Outcomes.{answers_cmp}
use Rattle.explore_model.specs.Schedules.{Runs, begun, goes_on, lands, text_after}
use Rattle.explore_model.specs.declared.outcome.Landing.{Landing}

-- what follows a first comparison
then_less : (first one other : Ordering) → (one ≡ Less → other ≡ Less) → ordering_then first one ≡ Less → ordering_then first other ≡ Less
then_less Less one other so less = refl
then_less Equal one other so less = so less
then_less Greater one other so less = less

-- lists of one length that stand in an order stand in it with one item more
pub longer_less : (xs ys : List (List ℕ)) (t u : List ℕ) → length xs ≡ length ys → answers_cmp xs ys ≡ Less → answers_cmp (xs ++ t ∷ []) (ys ++ u ∷ []) ≡ Less
longer_less [] [] t u same less = absurd (cc)
longer_less [] (y ∷ ys) t u same less = absurd (omega (arith, same))
longer_less (x ∷ xs) [] t u same less = absurd (omega (arith, same))
longer_less (x ∷ xs) (y ∷ ys) t u same less =
    then_less (slice_cmp nat_cmp x y) (answers_cmp xs ys) (answers_cmp (xs ++ t ∷ []) (ys ++ u ∷ [])) (λ rest. longer_less xs ys t u (omega (arith, same)) rest) less

-- what is compared with itself is equal
pub itself_equal : (o : Ordering) → o ≡ ordering_reverse o → o ≡ Equal
itself_equal Less same = absurd (cc)
itself_equal Equal same = refl
itself_equal Greater same = absurd (cc)

-- one list with two items more
pub same_front : (xs : List (List ℕ)) (t u : List ℕ) → slice_cmp nat_cmp t u ≡ Less → answers_cmp (xs ++ t ∷ []) (xs ++ u ∷ []) ≡ Less
same_front [] t u less = ap (λ (o : Ordering). ordering_then o Equal) less
same_front (x ∷ xs) t u less =
    ap (λ (o : Ordering). ordering_then o (answers_cmp (xs ++ t ∷ []) (xs ++ u ∷ []))) (itself_equal (slice_cmp nat_cmp x x) (nat_list_cmp_total.antisymm x x))
    ∙ same_front xs t u less

-- pairs of two lists, one after the other
pub pairs_append : {X : Type 0} (R : X → X → Type 0) (xs ys : List X) → AllPairs R xs → AllPairs R ys →
    ((i j : ℕ) (d : X) → i < length xs → j < length ys → R (get_or xs i d) (get_or ys j d)) → AllPairs R (xs ++ ys)
pairs_append R xs ys first second across i j d lt below =
    let size = length-append xs ys in
    elim (cases_lt j (length xs)) [
      | inl j_in ↦ subst (λ (x : _). R x (get_or (xs ++ ys) j d)) (sym (get_or_append_left xs ys d i (omega arith)))
          (subst (λ (y : _). R (get_or xs i d) y) (sym (get_or_append_left xs ys d j j_in)) (first i j d lt j_in))
      | inr j_after ↦ subst (λ (y : _). R (get_or (xs ++ ys) i d) y) (sym (get_or-append_right xs ys (length xs) j d refl j_after))
          (elim (cases_lt i (length xs)) [
            | inl i_in ↦ subst (λ (x : _). R x (get_or ys (j - length xs) d)) (sym (get_or_append_left xs ys d i i_in)) (across i (j - length xs) d i_in (omega arith))
            | inr i_after ↦ subst (λ (x : _). R x (get_or ys (j - length xs) d)) (sym (get_or-append_right xs ys (length xs) i d refl i_after))
                (second (i - length xs) (j - length xs) d (omega arith) (omega arith))
          ])
    ]

-- a run has an answer for each step of its script
pub as_many_answers : (plan : Plan) {script : List Step} {landings : List Landing} {made : List Step} {answers : List (List ℕ)} → Runs plan script landings made answers → length answers ≡ length script
as_many_answers plan begun = refl
as_many_answers plan (lands landing run at may landed) = as_many_answers plan run
as_many_answers plan (goes_on {script} {landings} {made} {answers} step run) =
    let before = as_many_answers plan run in
    let size = length_push answers (text_after plan made step) in
    let many = length_push script step in
    omega arith
