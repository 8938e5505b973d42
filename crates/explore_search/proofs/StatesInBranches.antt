-- States that are put into the branches of their texts.
use Rattle.std.proofs.Common.{◌≡◌, ◌∙◌, ℕ, ◌<◌, ◌≤◌, inl, inr, List, [], ◌∷◌, ◌++◌, ap, arith, get_or, length, refl, set, subst, sym, take}
use Rattle.std.specs.Cmp.Lexicographic.{slice_cmp}
use Rattle.std.specs.List.{All, insert}
use Rattle.std.specs.Ordering.{nat_cmp, ordering_reverse}
use Rattle.std.specs.declared.cmp.Ordering.TheVariants.{Less, Greater}
use Rattle.std.proofs.lemmas.Bool.{cases_eq, cases_lt}
use Rattle.std.proofs.lemmas.Cmp.{nat_list_cmp_total}
use Rattle.std.proofs.lemmas.List.{get_or_read, get_or-set_other, get_or-set_same, length-set}
use Rattle.std.proofs.lemmas.List.Elements.{All-push, All-set}
use Rattle.std.proofs.lemmas.List.Quantifiers.{all_pairs_push}
use Rattle.step_kinds.specs.declared.plan.Plan.{Plan}
use Rattle.step_kinds.specs.declared.steps.Step.{Step}
use Rattle.explore_model.specs.Schedules.{Runs}
use Rattle.explore_model.specs.declared.outcome.Landing.{Landing}
use Rattle.explore_search.specs.Layers.{AreKept, AreOrdered, AreStates, HasPlaced}
use Rattle.explore_search.specs.Machines.{HaveSameSteps}
use Rattle.explore_search.specs.Paths.{path, search_script_of}
use Rattle.explore_search.specs.States.{Covers, HasSearchRun, IsState, Joined, Reaches, added, found}
use Rattle.explore_search.specs.declared.layers.Branch.{Branch}
use Rattle.explore_search.specs.declared.states.State.{State}
use Rattle.explore_search.proofs.StatesAdded.{covered_by_join, grown_by_join}
use Rattle.explore_search.proofs.Lists.{all_with_insert, any_at, any_inserted, any_longer, any_none, any_set, any_with_insert, any_with_set, pairs_with_insert}

module _ {M : Type 0} (has_made : M → Plan → List Step → Type 0) (plan_held : M → Plan) (key_of : M → List ℕ) (plan : Plan) (done : ℕ) where
  -- states among which one was to be, with their answers
  pub kept_by_join : (landings : List Landing) (old new : List (State M)) → Joined has_made plan_held key_of plan done landings old new →
      AreKept has_made plan_held key_of plan done old → AreKept has_made plan_held key_of plan done new
  kept_by_join landings old new (found covers) all = all
  kept_by_join landings old new (added state is same none) all = All-push (IsState has_made plan_held key_of plan done) old state all is

  -- what they covered they cover
  pub covers_by_join : (landings : List Landing) (old new : List (State M)) (made : List Step) → Joined has_made plan_held key_of plan done landings old new →
      Covers has_made plan done old made → Covers has_made plan done new made
  covers_by_join landings old new made (found covers) some = some
  covers_by_join landings old new made (added state is same none) some = any_longer (λ (state : State M). Reaches has_made plan done state made) old (state ∷ []) some

  -- they are states with the same answers
  pub states_by_join : (answers : List (List ℕ)) (landings : List Landing) (old new : List (State M)) → Joined has_made plan_held key_of plan done landings old new →
      Runs plan (take done (search_script_of plan)) landings (path (search_script_of plan) landings done) answers →
      AreStates has_made plan_held key_of plan done answers old → AreStates has_made plan_held key_of plan done answers new
  states_by_join answers landings old new (found covers) run are = are
  states_by_join answers landings old new (added state is same none) run are =
      let grown = grown_by_join has_made plan_held key_of plan done landings old (old ++ state ∷ []) (added state is same none) in
      record {
        runs = All-push (HasSearchRun plan done answers) old state are.runs (subst (λ (landings : List Landing). Runs plan (take done (search_script_of plan)) landings (path (search_script_of plan) landings done) answers) (sym same) run);
        two =
            all_pairs_push (λ (one other : State M). Reaches has_made plan done one (path (search_script_of plan) other.landings.items done) → ⊥) old state are.two
            (λ k d below reaches. none
            (any_at (λ (state : State M). Reaches has_made plan done state (path (search_script_of plan) landings done)) old k d below
            (subst (λ (landings : List Landing). Reaches has_made plan done (get_or old k d) (path (search_script_of plan) landings done)) same reaches)));
        begins =
            record { first = are.begins.first; rest = are.begins.rest ++ state ∷ []; is = ap (λ (states : List (State M)). states ++ state ∷ []) are.begins.is; before = are.begins.before };
      }

  -- the first of a branch
  pub one_by_join : (answers : List (List ℕ)) (landings : List Landing) (new : List (State M)) → Joined has_made plan_held key_of plan done landings [] new →
      Runs plan (take done (search_script_of plan)) landings (path (search_script_of plan) landings done) answers → All (λ landing. landing.at < done) landings →
      AreStates has_made plan_held key_of plan done answers new
  one_by_join answers landings new (found covers) run before = absurd (any_none (λ (state : State M). Reaches has_made plan done state (path (search_script_of plan) landings done)) covers)
  one_by_join answers landings new (added state is same none) run before =
      record {
        runs = All-push (HasSearchRun plan done answers) [] state (λ k d below. absurd (omega arith))
            (subst (λ (landings : List Landing). Runs plan (take done (search_script_of plan)) landings (path (search_script_of plan) landings done) answers) (sym same) run);
        two = λ i j d lt below. absurd (omega arith);
        begins = record { first = state; rest = []; is = refl; before = subst (λ (landings : List Landing). All (λ landing. landing.at < done) landings) (sym same) before };
      }

  -- a branch in the place of one with the same text stands in the same order
  ordered_with_set : (old : List (Branch M)) (p : ℕ) (branch now : Branch M) → p < length old → branch ≡ get_or old p branch → now.text ≡ branch.text → AreOrdered old → AreOrdered (set old p now)
  ordered_with_set old p branch now below is same ordered i j d lt within =
      let size = length-set old p now in
      subst (λ (one : List ℕ). slice_cmp nat_cmp one (get_or (set old p now) j d).text ≡ Less) (sym (text_at i (omega arith)))
      (subst (λ (other : List ℕ). slice_cmp nat_cmp (get_or old i d).text other ≡ Less) (sym (text_at j (omega arith))) (ordered i j d lt (omega arith)))
    where
      text_at : (k : ℕ) → k < length old → (get_or (set old p now) k d).text ≡ (get_or old k d).text
      text_at k k_below =
          elim (cases_eq k p) [
            | inl here ↦ ap (λ (k : ℕ). (get_or (set old p now) k d).text) here ∙ ap (λ (branch : Branch M). branch.text) (get_or-set_same old p now d below) ∙ same
                ∙ ap (λ (branch : Branch M). branch.text) (get_or_read old p branch below is d) ∙ ap (λ (k : ℕ). (get_or old k d).text) (sym here)
            | inr other ↦ ap (λ (branch : Branch M). branch.text) (get_or-set_other old p k now d other)
          ]

  -- the branch of the text was there
  pub placed_found : (same : HaveSameSteps has_made) (text : List ℕ) (landings : List Landing) (old : List (Branch M)) (p : ℕ) (branch now : Branch M) → p < length old →
      branch ≡ get_or old p branch → branch.text ≡ text → now.text ≡ branch.text → Joined has_made plan_held key_of plan done landings branch.states now.states →
      All (λ branch. AreKept has_made plan_held key_of plan done branch.states) old → HasPlaced has_made plan_held key_of plan done text landings old (set old p now)
  placed_found same text landings old p branch now below is named named_now joined kept =
      let Kept : Branch M → Type 0 = λ branch. AreKept has_made plan_held key_of plan done branch.states in
      record {
        kept = All-set Kept old p now (kept_by_join landings branch.states now.states joined (subst Kept (sym is) (kept p branch below))) kept;
        each = λ answers run before all.
            let Are : Branch M → Type 0 = λ branch. AreStates has_made plan_held key_of plan done (answers ++ branch.text ∷ []) branch.states in
            let there : Are branch = subst Are (sym is) (all p branch below) in
            All-set Are old p now
            (subst (λ (name : List ℕ). AreStates has_made plan_held key_of plan done (answers ++ name ∷ []) now.states) (sym named_now)
            (states_by_join (answers ++ branch.text ∷ []) landings branch.states now.states joined
            (subst (λ (name : List ℕ). Runs plan (take done (search_script_of plan)) landings (path (search_script_of plan) landings done) (answers ++ name ∷ [])) (sym named) run) there))
            all;
        ordered = ordered_with_set old p branch now below is named_now;
        stays = λ name made.
            any_with_set (λ (branch : Branch M). (branch.text ≡ name) × Covers has_made plan done branch.states made) old p branch now below is
            (λ has. (named_now ∙ has.0, covers_by_join landings branch.states now.states made joined has.1));
        taken = λ machine made at has.
            any_set (λ (branch : Branch M). (branch.text ≡ text) × Covers has_made plan done branch.states made) old p now below
            (named_now ∙ named, covered_by_join has_made plan_held key_of plan done same landings branch.states now.states machine made joined at has);
      }

  -- the branch of the text was put in
  pub placed_new : (same : HaveSameSteps has_made) (text : List ℕ) (landings : List Landing) (old : List (Branch M)) (p : ℕ) (now : Branch M) → p ≤ length old →
      ((k : ℕ) (d : Branch M) → k < p → slice_cmp nat_cmp (get_or old k d).text text ≡ Less) →
      ((d : Branch M) → p < length old → slice_cmp nat_cmp (get_or old p d).text text ≡ Greater) →
      now.text ≡ text → Joined has_made plan_held key_of plan done landings [] now.states →
      All (λ branch. AreKept has_made plan_held key_of plan done branch.states) old → HasPlaced has_made plan_held key_of plan done text landings old (insert old p now)
  placed_new same text landings old p now within before after named joined kept =
      record {
        kept =
            all_with_insert (λ (branch : Branch M). AreKept has_made plan_held key_of plan done branch.states) old p now kept
            (kept_by_join landings [] now.states joined (λ k d below. absurd (omega arith)));
        each = λ answers run first all.
            all_with_insert (λ (branch : Branch M). AreStates has_made plan_held key_of plan done (answers ++ branch.text ∷ []) branch.states) old p now all
            (one_by_join (answers ++ now.text ∷ []) landings now.states joined
            (subst (λ (name : List ℕ). Runs plan (take done (search_script_of plan)) landings (path (search_script_of plan) landings done) (answers ++ name ∷ [])) (sym named) run) first);
        ordered = λ ordered.
            pairs_with_insert (λ (one other : Branch M). slice_cmp nat_cmp one.text other.text ≡ Less) old p now within ordered
            (λ k d lt. subst (λ (name : List ℕ). slice_cmp nat_cmp (get_or old k d).text name ≡ Less) (sym named) (before k d lt))
            (λ k d le below. subst (λ (name : List ℕ). slice_cmp nat_cmp name (get_or old k d).text ≡ Less) (sym named) (beyond ordered k d le below));
        stays = λ name made. any_with_insert (λ (branch : Branch M). (branch.text ≡ name) × Covers has_made plan done branch.states made) old p now within;
        taken = λ machine made at has.
            any_inserted (λ (branch : Branch M). (branch.text ≡ text) × Covers has_made plan done branch.states made) old p now within
            (named, covered_by_join has_made plan_held key_of plan done same landings [] now.states machine made joined at has);
      }
    where
      -- the text stands below that of the branch at its place
      below_at : (d : Branch M) → p < length old → slice_cmp nat_cmp text (get_or old p d).text ≡ Less
      below_at d lt = nat_list_cmp_total.antisymm text (get_or old p d).text ∙ ap ordering_reverse (after d lt)

      -- and so below those after it
      beyond : AreOrdered old → (k : ℕ) (d : Branch M) → p ≤ k → k < length old → slice_cmp nat_cmp text (get_or old k d).text ≡ Less
      beyond ordered k d le lt =
          elim (cases_lt p k) [
            | inl further ↦ nat_list_cmp_total.trans text (get_or old p d).text (get_or old k d).text (below_at d (omega arith)) (ordered p k d further lt)
            | inr here ↦ (let same : p ≡ k = omega arith in
                subst (λ (k : ℕ). slice_cmp nat_cmp text (get_or old k d).text ≡ Less) same (below_at d (omega arith)))
          ]
