-- Layers whose groups are closed one after another.
use Rattle.std.proofs.Common.{◌≡◌, ◌∙◌, ℕ, ◌+◌, ◌<◌, inl, inr, List, Option, Some, None, ap, arith, get_or, length, refl, set, subst, sym, take}
use Rattle.std.specs.Prelude.{MatchOption}
use Rattle.std.proofs.lemmas.Bool.{cases_eq, cases_lt}
use Rattle.std.proofs.lemmas.List.{get_or-set_other, get_or-set_same, get_or_default, length-set, take-set}
use Rattle.std.proofs.lemmas.List.Sums.{fold_more}
use Rattle.step_kinds.specs.declared.plan.Plan.{Plan}
use Rattle.step_kinds.specs.declared.steps.Step.{Step}
use Rattle.explore_search.specs.Closing.{ClosedUpTo, GroupGrown, states_in}
use Rattle.explore_search.specs.Spread.{AreClosed}
use Rattle.explore_search.specs.declared.layers.Group.{Group}
use Rattle.explore_search.proofs.StatesAdded.{grown_more, grown_same}

-- what holds where nothing was found
pub none_found : {P : Type 0} (Q : ℕ → Type 0) (found : Option ℕ) → ((count : ℕ) → found ≡ Some count → ⊥) → MatchOption found P Q → P
none_found Q None not holds = holds
none_found Q (Some count) not holds = absurd (not count (λ i. Some count))

-- one group more is counted
pub states_more : {M : Type 0} (groups : List (Group M)) (p : ℕ) (now : Group M) → p < length groups → states_in (take (p + 1) (set groups p now)) ≡ states_in (take p groups) + length now.states
states_more groups p now below =
    let size = length-set groups p now in
    fold_more (λ count (group : Group _). count + length group.states) 0 (set groups p now) p now (omega arith)
    ∙ ap (λ (first : List (Group _)). states_in first + length (get_or (set groups p now) p now).states) (take-set groups p now)
    ∙ ap (λ (group : Group _). states_in (take p groups) + length group.states) (get_or-set_same groups p now now below)

module _ {M : Type 0} (has_made : M → Plan → List Step → Type 0) (plan_held : M → Plan) (key_of : M → List ℕ) (plan : Plan) (done : ℕ) where
  -- a group to which nothing was added
  pub group_same : (group : Group M) → GroupGrown has_made plan_held key_of plan done group group
  group_same group = record { named = refl; grown = grown_same has_made plan_held key_of plan done group.states }

  -- a group to which more was added
  group_more : (one two three : Group M) → GroupGrown has_made plan_held key_of plan done one two → GroupGrown has_made plan_held key_of plan done two three → GroupGrown has_made plan_held key_of plan done one three
  group_more one two three first second =
      record { named = second.named ∙ first.named; grown = grown_more has_made plan_held key_of plan done one.states two.states three.states first.grown second.grown }

  -- none is closed yet
  pub closed_none : (layer : List (Group M)) → ClosedUpTo has_made plan_held key_of plan done 0 layer layer
  closed_none layer = record { size = refl; grown = λ k d below. group_same (get_or layer k d); closed = λ k d below. absurd (omega arith) }

  -- the next has grown
  pub grown_next : (old now : List (Group M)) (p : ℕ) (d group : Group M) → p < length now → ClosedUpTo has_made plan_held key_of plan done p old now →
      GroupGrown has_made plan_held key_of plan done (get_or now p d) group → ClosedUpTo has_made plan_held key_of plan done p old (set now p group)
  grown_next old now p d group below before grows =
      record {
        size = length-set now p group ∙ before.size;
        grown = λ k e lt.
            elim (cases_eq k p) [
              | inl here ↦
                  subst (λ (k : ℕ). GroupGrown has_made plan_held key_of plan done (get_or old k e) (get_or (set now p group) k e)) (sym here)
                  (subst (λ (new : Group M). GroupGrown has_made plan_held key_of plan done (get_or old p e) new) (sym (get_or-set_same now p group e below))
                  (group_more (get_or old p e) (get_or now p e) group (before.grown p e (let size = before.size in omega arith))
                  (subst (λ (old : Group M). GroupGrown has_made plan_held key_of plan done old group) (get_or_default now p d e below) grows)))
              | inr other ↦ subst (λ (new : Group M). GroupGrown has_made plan_held key_of plan done (get_or old k e) new) (sym (get_or-set_other now p k group e other)) (before.grown k e lt)
            ];
        closed = λ k e lt.
            subst (λ (new : Group M). AreClosed has_made plan done new.states) (sym (get_or-set_other now p k group e (λ same. absurd (omega arith)))) (before.closed k e lt);
      }

  -- and is closed
  pub closed_next : (old now : List (Group M)) (p : ℕ) (d group : Group M) → p < length now → ClosedUpTo has_made plan_held key_of plan done p old now →
      GroupGrown has_made plan_held key_of plan done (get_or now p d) group → AreClosed has_made plan done group.states → ClosedUpTo has_made plan_held key_of plan done (p + 1) old (set now p group)
  closed_next old now p d group below before grows closed =
      let grown = grown_next old now p d group below before grows in
      record {
        size = grown.size;
        grown = grown.grown;
        closed = λ k e lt.
            elim (cases_lt k p) [
              | inl earlier ↦ grown.closed k e earlier
              | inr later ↦ (let here : p ≡ k = omega arith in
                  subst (λ (k : ℕ). AreClosed has_made plan done (get_or (set now p group) k e).states) here
                  (subst (λ (new : Group M). AreClosed has_made plan done new.states) (sym (get_or-set_same now p group e below)) closed))
            ];
      }
