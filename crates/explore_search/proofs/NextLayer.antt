-- The layer to which the next step leads.
use Rattle.std.proofs.Common.{◌≡◌, ◌∙◌, ℕ, ◌+◌, ◌<◌, ◌≤◌, List, [], ◌∷◌, ◌++◌, ap, arith, get_or, length, map, subst, sym, Less}
use Rattle.std.specs.List.{All, AllPairs}
use Rattle.std.proofs.lemmas.List.{get_or-map, get_or_default, length-map, length-take-le}
use Rattle.std.proofs.lemmas.List.Elements.{All-append, All-map}
use Rattle.step_kinds.specs.declared.plan.Plan.{Plan}
use Rattle.step_kinds.specs.declared.steps.Step.{Step}
use Rattle.explore_model.specs.Outcomes.{answers_cmp}
use Rattle.explore_model.specs.Schedules.{text_after}
use Rattle.explore_search.specs.Layers.{AreKept, AreStates, GroupsCover, HasGroups, HasNext, HaveBranched, IsLayer, LayerCovers, step_at, with_answers}
use Rattle.explore_search.specs.Paths.{search_script_of}
use Rattle.explore_search.specs.States.{Covers, HasSearchRun}
use Rattle.explore_search.specs.declared.layers.Branch.{Branch}
use Rattle.explore_search.specs.declared.layers.Group.{Group}
use Rattle.explore_search.specs.declared.states.State.{State}
use Rattle.explore_search.proofs.Lists.{any_longer, any_later, each_more}
use Rattle.explore_search.proofs.OrderOfAnswers.{as_many_answers, longer_less, pairs_append, same_front}

module _ {M : Type 0} (has_made : M → Plan → List Step → Type 0) (plan_held : M → Plan) (key_of : M → List ℕ) (plan : Plan) (done : ℕ) where
  -- the groups of branches
  pub groups_of_branches : (answers : List (List ℕ)) (group : Group M) (branches : List (Branch M)) (groups : List (Group M)) → group.answers ≡ answers →
      HaveBranched has_made plan_held key_of plan done group.states branches → groups ≡ map (with_answers answers) branches → HasGroups has_made plan_held key_of plan done group groups
  groups_of_branches answers group branches groups same have is =
      subst (λ (groups : List (Group M)). HasGroups has_made plan_held key_of plan done group groups) (sym is)
      (record {
        kept = All-map (λ (next : Group M). AreKept has_made plan_held key_of plan (done + 1) next.states) (with_answers answers) branches have.kept;
        each = λ are.
            All-map (λ (next : Group M). AreStates has_made plan_held key_of plan (done + 1) next.answers next.states) (with_answers answers) branches
            (have.each answers (subst (λ (answers : List (List ℕ)). All (HasSearchRun plan done answers) group.states) same are.runs));
        ordered = λ i j d lt below.
            let size = length-map branches (with_answers {M = M} answers) in
            let e : Branch M = record { text = []; states = d.states } in
            subst (λ (one : Group M). answers_cmp one.answers (get_or (map (with_answers answers) branches) j d).answers ≡ Less) (sym (get_or-map (with_answers answers) branches i e d (omega arith)))
            (subst (λ (other : Group M). answers_cmp (answers ++ (get_or branches i e).text ∷ []) other.answers ≡ Less) (sym (get_or-map (with_answers answers) branches j e d (omega arith)))
            (same_front answers (get_or branches i e).text (get_or branches j e).text (have.ordered i j e lt (omega arith))));
        named = All-map (λ (next : Group M). (text : List ℕ) × (next.answers ≡ group.answers ++ text ∷ [])) (with_answers answers) branches
            (λ k d below. ((get_or branches k d).text, ap (λ (answers : List (List ℕ)). answers ++ (get_or branches k d).text ∷ []) (sym same)));
      })

  -- what they cover
  pub covers_of_branches : (answers : List (List ℕ)) (group : Group M) (branches : List (Branch M)) (groups : List (Group M)) → group.answers ≡ answers →
      HaveBranched has_made plan_held key_of plan done group.states branches → groups ≡ map (with_answers answers) branches → GroupsCover has_made plan_held key_of plan done group groups
  covers_of_branches answers group branches groups same have is made covers =
      let some = have.taken made covers in
      let size = length-map branches (with_answers {M = M} answers) in
      let named : List (Group M) = map (with_answers answers) branches in
      subst (λ (groups : List (Group M)). LayerCovers has_made plan_held key_of plan (done + 1) groups (group.answers ++ text_after plan made (step_at plan done) ∷ []) (made ++ step_at plan done ∷ [])) (sym is) (
        some.0,
        with_answers answers some.1,
        omega (arith, some.2),
        get_or-map (with_answers answers) branches some.0 some.1 (with_answers answers some.1) some.2 ∙ ap (with_answers answers) some.3,
        (ap (λ (text : List ℕ). answers ++ text ∷ []) some.4.0 ∙ ap (λ (answers : List (List ℕ)). answers ++ text_after plan made (step_at plan done) ∷ []) (sym same), some.4.1),
      )

  -- a group comes from one of the first of a layer
  abbrev pub ComesFrom : List (Group M) → ℕ → Group M → Type 0
  ComesFrom layer count group =
      (j : ℕ) × (from : Group M) × (j < count) × (get_or layer j from ≡ from) × ((text : List ℕ) × (group.answers ≡ from.answers ++ text ∷ []))

  -- the groups to which the step leads from the first of a layer
  pub record IsNextOf (layer : List (Group M)) (count : ℕ) (next : List (Group M)) : Type 0 where
    pub kept : All (λ group. AreKept has_made plan_held key_of plan (done + 1) group.states) next
    pub each : IsLayer has_made plan_held key_of plan done layer → All (λ group. AreStates has_made plan_held key_of plan (done + 1) group.answers group.states) next
    pub from : All (ComesFrom layer count) next
    pub ordered : IsLayer has_made plan_held key_of plan done layer → AllPairs (λ one other. answers_cmp one.answers other.answers ≡ Less) next
    pub covers : (k : ℕ) (d : Group M) → k < count → (made : List Step) → Covers has_made plan done (get_or layer k d).states made →
        LayerCovers has_made plan_held key_of plan (done + 1) next ((get_or layer k d).answers ++ text_after plan made (step_at plan done) ∷ []) (made ++ step_at plan done ∷ [])

  -- no group yet
  pub next_of_none : (layer : List (Group M)) → IsNextOf layer 0 []
  next_of_none layer =
      record {
        kept = λ k d below. absurd (omega arith);
        each = λ is k d below. absurd (omega arith);
        from = λ k d below. absurd (omega arith);
        ordered = λ is i j d lt below. absurd (omega arith);
        covers = λ k d below. absurd (omega arith);
      }

  -- the groups of a layer have as many answers as steps were made
  as_many : (layer : List (Group M)) (k : ℕ) (d : Group M) → done ≤ length (search_script_of plan) → IsLayer has_made plan_held key_of plan done layer → k < length layer → length (get_or layer k d).answers ≡ done
  as_many layer k d within is below =
      let are = is.groups k d below in
      let first = are.begins in
      let size = ap length first.is in
      let run : HasSearchRun plan done (get_or layer k d).answers first.first =
      subst (λ (states : List (State M)). HasSearchRun plan done (get_or layer k d).answers (get_or states 0 first.first)) first.is (are.runs 0 first.first (omega arith)) in
      as_many_answers plan run ∙ length-take-le done (search_script_of plan) within

  -- the groups of one more
  pub next_of_more : (layer : List (Group M)) (count : ℕ) (next groups : List (Group M)) (group : Group M) → done ≤ length (search_script_of plan) → count < length layer → group ≡ get_or layer count group →
      IsNextOf layer count next → HasGroups has_made plan_held key_of plan done group groups → GroupsCover has_made plan_held key_of plan done group groups →
      IsNextOf layer (count + 1) (next ++ groups)
  next_of_more layer count next groups group within below is before have cover =
      record {
        kept = All-append (λ (group : Group M). AreKept has_made plan_held key_of plan (done + 1) group.states) next groups before.kept have.kept;
        each = λ layered.
            All-append (λ (group : Group M). AreStates has_made plan_held key_of plan (done + 1) group.answers group.states) next groups (before.each layered)
            (have.each (subst (λ (group : Group M). AreStates has_made plan_held key_of plan done group.answers group.states) (sym is) (layered.groups count group below)));
        from =
            All-append (ComesFrom layer (count + 1)) next groups
            (λ k d lt. let came = before.from k d lt in (came.0, came.1, omega (arith, came.2), came.3, came.4))
            (λ k d lt. (count, group, omega arith, sym is, have.named k d lt));
        ordered = λ layered.
            pairs_append (λ (one other : Group M). answers_cmp one.answers other.answers ≡ Less) next groups (before.ordered layered) have.ordered
            (λ i j d i_below j_below.
            let came = before.from i d i_below in
            let name = have.named j d j_below in
            let same_long : length came.1.answers ≡ length group.answers =
            ap (λ (group : Group M). length group.answers) (sym came.3) ∙ as_many layer came.0 came.1 within layered (omega (arith, came.2))
            ∙ sym (ap (λ (group : Group M). length group.answers) is ∙ as_many layer count group within layered below) in
            let less : answers_cmp came.1.answers group.answers ≡ Less =
            subst (λ (one : Group M). answers_cmp one.answers group.answers ≡ Less) (get_or_default layer came.0 group came.1 (omega (arith, came.2)) ∙ came.3)
            (subst (λ (other : Group M). answers_cmp (get_or layer came.0 group).answers other.answers ≡ Less) (sym is) (layered.ordered came.0 count group came.2 below)) in
            subst (λ (one : List (List ℕ)). answers_cmp one (get_or groups j d).answers ≡ Less) (sym came.4.1)
            (subst (λ (other : List (List ℕ)). answers_cmp (came.1.answers ++ came.4.0 ∷ []) other ≡ Less) (sym name.1)
            (longer_less came.1.answers group.answers came.4.0 name.0 same_long less)));
        covers = λ k d lt.
            each_more
            (λ (from : Group M). (made : List Step) → Covers has_made plan done from.states made →
            LayerCovers has_made plan_held key_of plan (done + 1) next (from.answers ++ text_after plan made (step_at plan done) ∷ []) (made ++ step_at plan done ∷ []))
            (λ (from : Group M). (made : List Step) → Covers has_made plan done from.states made →
            LayerCovers has_made plan_held key_of plan (done + 1) (next ++ groups) (from.answers ++ text_after plan made (step_at plan done) ∷ []) (made ++ step_at plan done ∷ []))
            layer count group below
            (λ from covers made some. any_longer (λ (group : Group M). (group.answers ≡ from.answers ++ text_after plan made (step_at plan done) ∷ []) × Covers has_made plan (done + 1) group.states (made ++ step_at plan done ∷ [])) next groups (covers made some))
            before.covers
            (subst (λ (from : Group M). (made : List Step) → Covers has_made plan done from.states made →
            LayerCovers has_made plan_held key_of plan (done + 1) (next ++ groups) (from.answers ++ text_after plan made (step_at plan done) ∷ []) (made ++ step_at plan done ∷ [])) is
            (λ made some. any_later (λ (next : Group M). (next.answers ≡ group.answers ++ text_after plan made (step_at plan done) ∷ []) × Covers has_made plan (done + 1) next.states (made ++ step_at plan done ∷ [])) next groups (cover made some)))
            k d lt;
      }

  -- the groups of all are the next layer
  pub next_of_all : (layer : List (Group M)) (count : ℕ) (next : List (Group M)) → length layer ≤ count → IsNextOf layer count next → HasNext has_made plan_held key_of plan done layer next
  next_of_all layer count next all before =
      record {
        kept = before.kept;
        ordered = λ is. record { groups = before.each is; ordered = before.ordered is };
        covers = λ answers made some.
            subst (λ (answers : List (List ℕ)). LayerCovers has_made plan_held key_of plan (done + 1) next (answers ++ text_after plan made (step_at plan done) ∷ []) (made ++ step_at plan done ∷ []))
            (ap (λ (group : Group M). group.answers) some.3 ∙ some.4.0)
            (before.covers some.0 some.1 (omega (arith, some.2)) made (subst (λ (group : Group M). Covers has_made plan done group.states made) (sym some.3) some.4.1));
      }
