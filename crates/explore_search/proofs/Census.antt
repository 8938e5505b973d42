-- All states that are reached, counted group by group.
use Rattle.std.proofs.Common.{◌≡◌, ◌∙◌, ℕ, zero, suc, ◌+◌, ◌<◌, ◌≤◌, ◌⊎◌, inl, inr, List, [], ◌∷◌, ◌++◌, ap, arith, drop, get_or, length, refl, subst, sym, take, Less}
use Rattle.std.specs.Cmp.Lexicographic.{lists_total}
use Rattle.std.specs.List.{All, AllPairs, Any}
use Rattle.std.proofs.lemmas.Bool.{cases_lt}
use Rattle.std.proofs.lemmas.Cmp.{nat_list_cmp_total}
use Rattle.std.proofs.lemmas.List.{get_or_default, length-append, length-take-le, take-append-drop, take_all, take_at}
use Rattle.std.proofs.lemmas.List.Elements.{All-append, All-head, All-tail}
use Rattle.std.proofs.lemmas.List.Sums.{fold_more}
use Rattle.step_kinds.specs.declared.plan.Plan.{Plan}
use Rattle.step_kinds.specs.declared.steps.Step.{Step}
use Rattle.explore_model.specs.Outcomes.{answers_cmp}
use Rattle.explore_model.specs.Schedules.{Runs}
use Rattle.explore_model.specs.States.{AreApart, CanHaveMade, HasMoreThan, IsCensus, LeadToOne, Passing}
use Rattle.explore_search.specs.Closing.{states_in}
use Rattle.explore_search.specs.Layers.{IsLayer}
use Rattle.explore_search.specs.Paths.{search_script_of}
use Rattle.explore_search.specs.States.{Covers, HasSearchRun, Reaches, made_to}
use Rattle.explore_search.specs.Whole.{IsCount, IsFull}
use Rattle.explore_search.specs.declared.layers.Group.{Group}
use Rattle.explore_search.specs.declared.states.State.{State}
use Rattle.explore_search.proofs.Lists.{any_longer, any_later}
use Rattle.explore_search.proofs.OrderOfAnswers.{itself_equal, pairs_append}

-- the first item of a list that has one
first_item : {X : Type 0} (xs : List X) → 0 < length xs → X
first_item [] some = absurd (omega arith)
first_item (x ∷ xs) some = x

module _ {M : Type 0} (has_made : M → Plan → List Step → Type 0) (plan : Plan) (done : ℕ) where
  -- the run to a state
  abbrev passing : (below : done < length (search_script_of plan)) (answers : List (List ℕ)) (state : State M) → HasSearchRun plan done answers state → Passing plan (search_script_of plan)
  passing below answers state run =
      record {
        first = take done (search_script_of plan);
        left = drop done (search_script_of plan);
        whole = sym (take-append-drop done (search_script_of plan));
        more = (let size = length-take-le done (search_script_of plan) (omega arith) in omega arith);
        landings = state.landings.items;
        made = made_to plan done state;
        answers = answers;
        run = run;
      }

  -- a run is that to a state
  record IsTo (answers : List (List ℕ)) (state : State M) (run : Passing plan (search_script_of plan)) : Type 0 where
    first : run.first ≡ take done (search_script_of plan)
    answered : run.answers ≡ answers
    made : run.made ≡ made_to plan done state

  -- the runs to states
  abbrev passings : (below : done < length (search_script_of plan)) (answers : List (List ℕ)) (states : List (State M)) → All (HasSearchRun plan done answers) states → List (Passing plan (search_script_of plan))
  passings below answers [] all = []
  passings below answers (state ∷ states) all = passing below answers state (All-head (HasSearchRun plan done answers) state states all) ∷ passings below answers states (All-tail (HasSearchRun plan done answers) state states all)

  -- there are as many
  as_many : (below : done < length (search_script_of plan)) (answers : List (List ℕ)) (states : List (State M)) (all : All (HasSearchRun plan done answers) states) → length (passings below answers states all) ≡ length states
  as_many below answers [] all = refl
  as_many below answers (state ∷ states) all = ap suc (as_many below answers states (All-tail (HasSearchRun plan done answers) state states all))

  -- each is the run to its state
  to_at : (more : done < length (search_script_of plan)) (answers : List (List ℕ)) (states : List (State M)) (all : All (HasSearchRun plan done answers) states) (k : ℕ) (run : Passing plan (search_script_of plan)) (d : State M) → k < length states →
      IsTo answers (get_or states k d) (get_or (passings more answers states all) k run)
  to_at more answers [] all k run d below = absurd (omega arith)
  to_at more answers (state ∷ states) all zero run d below = record { first = refl; answered = refl; made = refl }
  to_at more answers (state ∷ states) all (suc k) run d below = to_at more answers states (All-tail (HasSearchRun plan done answers) state states all) k run d (omega arith)

  -- the counted runs, if the first groups of a layer are among them
  record IsCounting (groups : List (Group M)) (n count : ℕ) : Type 0 where
    seen : List (Passing plan (search_script_of plan))
    counted : length seen ≡ count
    apart : AreApart has_made plan (search_script_of plan) seen
    within : All (λ run. (length run.first < done) ⊎ ((length run.first ≡ done) × ((k : ℕ) × (group : Group M) × (k < n) × (get_or groups k group ≡ group) × (run.answers ≡ group.answers)))) seen
    all : (run : Passing plan (search_script_of plan)) → length run.first < done → Any (λ state. LeadToOne has_made plan (search_script_of plan) state run) seen
    here : (k : ℕ) (d : Group M) → k < n → (run : Passing plan (search_script_of plan)) → run.first ≡ take done (search_script_of plan) → run.answers ≡ (get_or groups k d).answers →
        Covers has_made plan done (get_or groups k d).states run.made → Any (λ state. LeadToOne has_made plan (search_script_of plan) state run) seen

module _ {M : Type 0} (has_made : M → Plan → List Step → Type 0) (plan_held : M → Plan) (key_of : M → List ℕ) (plan : Plan) (done : ℕ) where
  -- no group is counted yet
  counting_none : (groups : List (Group M)) (count : ℕ) → IsCount has_made plan_held key_of plan done count → IsCounting has_made plan done groups 0 count
  counting_none groups count is =
      record {
        seen = is.seen;
        counted = is.counted;
        apart = is.apart;
        within = λ k d below. inl (is.within k d below);
        all = is.all;
        here = λ k d below. absurd (omega arith);
      }

  -- the groups of a layer have different answers
  other_answers : (groups : List (Group M)) (k n : ℕ) (d : Group M) → AllPairs (λ one other. answers_cmp one.answers other.answers ≡ Less) groups → k < n → n < length groups →
      (get_or groups k d).answers ≡ (get_or groups n d).answers → ⊥
  other_answers groups k n d ordered lt below same =
      let less = ordered k n d lt below in
      let twice : answers_cmp (get_or groups n d).answers (get_or groups n d).answers ≡ Less = subst (λ (one : List (List ℕ)). answers_cmp one (get_or groups n d).answers ≡ Less) same less in
      let equal = itself_equal (answers_cmp (get_or groups n d).answers (get_or groups n d).answers) ((lists_total nat_list_cmp_total).antisymm (get_or groups n d).answers (get_or groups n d).answers) in
      cc

  -- one group more is counted
  counting_more : (groups : List (Group M)) (n count : ℕ) (d : Group M) → done < length (search_script_of plan) → n < length groups → IsLayer has_made plan_held key_of plan done groups →
      IsCounting has_made plan done groups n count → IsCounting has_made plan done groups (n + 1) (count + length (get_or groups n d).states)
  counting_more groups n count d within below is before =
      let group : Group M = get_or groups n d in
      let are = is.groups n d below in
      let more = passings has_made plan done within group.answers group.states are.runs in
      let many = as_many has_made plan done within group.answers group.states are.runs in
      let to = to_at has_made plan done within group.answers group.states are.runs in
      record {
        seen = before.seen ++ more;
        counted = length-append before.seen more ∙ ap (λ (n : ℕ). n + length more) before.counted ∙ ap (λ (n : ℕ). count + n) many;
        apart =
            pairs_append (λ (one other : Passing plan (search_script_of plan)). LeadToOne has_made plan (search_script_of plan) one other → ⊥) before.seen more before.apart
            (λ i j run lt j_below one.
            let first = are.begins.first in
            let one_to = to i run first (omega (arith, many)) in
            let other_to = to j run first (omega (arith, many)) in
            are.two i j first lt (omega (arith, many))
            (subst (λ (made : List Step). CanHaveMade has_made plan made (made_to plan done (get_or group.states j first))) one_to.made
            (subst (λ (made : List Step). CanHaveMade has_made plan (get_or more i run).made made) other_to.made one.made)))
            (λ i j run i_below j_below one.
            let first = are.begins.first in
            let other_to = to j run first (omega (arith, many)) in
            let size = length-take-le done (search_script_of plan) (omega (arith, within)) in
            let long = ap length one.first ∙ ap length other_to.first in
            elim (before.within i run i_below) [
              | inl shorter ↦ absurd (omega arith)
              | inr same ↦ (let k = same.1 in
                  other_answers groups k.0 n k.1 is.ordered k.2 below
                  (ap (λ (group : Group M). group.answers) k.3 ∙ sym k.4 ∙ one.answers ∙ other_to.answered ∙ ap (λ (group : Group M). group.answers) (get_or_default groups n d k.1 below)))
            ]);
        within =
            All-append
            (λ (run : Passing plan (search_script_of plan)). (length run.first < done) ⊎ ((length run.first ≡ done) × ((k : ℕ) × (group : Group M) × (k < n + 1) × (get_or groups k group ≡ group) × (run.answers ≡ group.answers))))
            before.seen more
            (λ i run i_below. elim (before.within i run i_below) [ inl shorter ↦ inl shorter | inr same ↦ inr (same.0, (same.1.0, same.1.1, omega (arith, same.1.2), same.1.3, same.1.4)) ])
            (λ i run i_below.
            let run_to = to i run are.begins.first (omega (arith, many)) in
            inr (ap length run_to.first ∙ length-take-le done (search_script_of plan) (omega (arith, within)), (n, group, omega arith, get_or_default groups n group d below, run_to.answered)));
        all = λ run shorter. any_longer (λ (state : Passing plan (search_script_of plan)). LeadToOne has_made plan (search_script_of plan) state run) before.seen more (before.all run shorter);
        here = λ k e lt run first answered covers.
            elim (cases_lt k n) [
              | inl earlier ↦ any_longer (λ (state : Passing plan (search_script_of plan)). LeadToOne has_made plan (search_script_of plan) state run) before.seen more (before.here k e earlier run first answered covers)
              | inr later ↦ (let at : k ≡ n = omega arith in
                  let same : get_or groups k e ≡ group = ap (λ (k : ℕ). get_or groups k e) at ∙ get_or_default groups n e d below in
                  let some : Covers has_made plan done group.states run.made = subst (λ (group : Group M). Covers has_made plan done group.states run.made) same covers in
                  let run_to = to some.0 run some.1 some.2 in
                  any_later (λ (state : Passing plan (search_script_of plan)). LeadToOne has_made plan (search_script_of plan) state run) before.seen more (
                    some.0,
                    get_or more some.0 run,
                    omega (arith, some.2, many),
                    get_or_default more some.0 (get_or more some.0 run) run (omega (arith, some.2, many)),
                    record {
                      first = run_to.first ∙ sym first;
                      answers = run_to.answered ∙ sym (answered ∙ ap (λ (group : Group M). group.answers) same);
                      made =
                          subst (λ (made : List Step). CanHaveMade has_made plan made run.made) (sym run_to.made)
                          (subst (λ (state : State M). Reaches has_made plan done state run.made) (sym some.3) some.4);
                    },
                  ))
            ];
      }

  -- the first groups of a layer
  counting_first : (groups : List (Group M)) (n count : ℕ) → done < length (search_script_of plan) → n ≤ length groups → IsLayer has_made plan_held key_of plan done groups →
      IsCount has_made plan_held key_of plan done count → IsCounting has_made plan done groups n (count + states_in (take n groups))
  counting_first groups zero count within below is before = subst (λ (count : ℕ). IsCounting has_made plan done groups 0 count) (omega arith) (counting_none groups count before)
  counting_first groups (suc n) count within below is before =
      let d : Group M = first_item groups (omega arith) in
      let here = counting_more groups n (count + states_in (take n groups)) d within (omega arith) is (counting_first groups n count within (omega arith) is before) in
      let more = fold_more (λ count (group : Group M). count + length group.states) 0 groups n d (omega arith) in
      subst (λ (n : ℕ). IsCounting has_made plan done groups n (count + states_in (take n groups))) (omega arith)
      (subst (λ (count : ℕ). IsCounting has_made plan done groups (n + 1) count) (omega (arith, more)) here)

  -- a full layer is counted
  pub count_of_layer : (groups : List (Group M)) (count : ℕ) → done < length (search_script_of plan) → IsFull has_made plan_held key_of plan done groups →
      IsCount has_made plan_held key_of plan done count → IsCount has_made plan_held key_of plan (done + 1) (count + states_in groups)
  count_of_layer groups count within full before =
      let whole = counting_first groups (length groups) count within (omega arith) full.ordered before in
      record {
        seen = whole.seen;
        counted = whole.counted ∙ ap (λ (groups : List (Group M)). count + states_in groups) (take_all (length groups) groups (omega arith));
        apart = whole.apart;
        within = λ k run below. elim (whole.within k run below) [ inl shorter ↦ omega arith | inr same ↦ omega (arith, same.0) ];
        all = λ run shorter.
            elim (cases_lt (length run.first) done) [
              | inl before ↦ whole.all run before
              | inr after ↦ (let long : length run.first ≡ done = omega arith in
                  let first : run.first ≡ take done (search_script_of plan) = sym (ap (λ (script : List Step). take done script) run.whole ∙ take_at run.first run.left done long) in
                  let some = full.full run.landings run.made run.answers (subst (λ (script : List Step). Runs plan script run.landings run.made run.answers) first run.run) in
                  whole.here some.0 some.1 some.2 run first (sym (ap (λ (group : Group M). group.answers) some.3 ∙ some.4.0))
                  (subst (λ (group : Group M). Covers has_made plan done group.states run.made) (sym some.3) some.4.1))
            ];
      }

  -- more than a limit
  pub more_than : (groups : List (Group M)) (n count limit : ℕ) → done < length (search_script_of plan) → n < length groups → IsLayer has_made plan_held key_of plan done groups →
      IsCount has_made plan_held key_of plan done count → limit < count + states_in (take (n + 1) groups) → HasMoreThan has_made plan (search_script_of plan) limit
  more_than groups n count limit within below is before past =
      let some = counting_first groups (n + 1) count within (omega arith) is before in
      record { states = some.seen; counted = omega (arith, some.counted); apart = some.apart }

-- nothing was counted yet
module _ {M : Type 0} (has_made : M → Plan → List Step → Type 0) (plan_held : M → Plan) (key_of : M → List ℕ) (plan : Plan) where
  -- no run has fewer steps than none
  pub count_of_none : IsCount has_made plan_held key_of plan 0 0
  count_of_none =
      record { seen = []; counted = refl; apart = λ i j d lt below. absurd (omega arith); within = λ k d below. absurd (omega arith); all = λ run shorter. absurd (omega arith) }

  -- the whole script
  pub census_of_count : (count : ℕ) → IsCount has_made plan_held key_of plan (length (search_script_of plan)) count → IsCensus has_made plan (search_script_of plan) count
  census_of_count count is =
      record {
        states = is.seen;
        counted = is.counted;
        apart = is.apart;
        all = λ run. is.all run run.more;
      }
