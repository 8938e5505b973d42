-- Landings that are tried: all at which something may land.
use Rattle.std.proofs.Common.{◌≡◌, ℕ, ◌+◌, ◌^◌, ◌<◌, ◌≤◌, ◌⊎◌, inl, inr, List, [], ◌∷◌, ◌++◌, arith, length, min, refl, subst, sym}
use Rattle.std.specs.List.{All, Contains}
use Rattle.std.specs.List.Sorted.{IsPermutation}
use Rattle.std.proofs.lemmas.Bool.{cases_lt}
use Rattle.std.proofs.lemmas.List.Elements.{All-nil, All-push, Contains-append_left, Contains-push}
use Rattle.std.proofs.lemmas.List.Sorted.{All-permutation, Contains-permutation}
use Rattle.step_kinds.specs.declared.names.Side.{Side}
use Rattle.step_kinds.specs.declared.names.Side.TheVariants.{A, B}
use Rattle.step_kinds.specs.declared.plan.Plan.{Plan}
use Rattle.step_kinds.specs.declared.steps.Answer.TheVariants.{Nothing}
use Rattle.step_kinds.specs.declared.steps.Step.{Step}
use Rattle.step_kinds.specs.declared.steps.Step.TheVariants.{Land}
use Rattle.pair_model.specs.DeclaredPlans.{IsPairOf}
use Rattle.ledger_model.specs.Memory.{memory_of}
use Rattle.ledger_model.specs.NetworkLog.{answer_after}
use Rattle.explore_model.specs.declared.outcome.Landing.{Landing}
use Rattle.explore_search.specs.Machines.{HaveSameSteps}
use Rattle.explore_search.specs.Spread.{AreAdded, AreTried, IsNext, IsOfSide}
use Rattle.explore_search.specs.States.{made_to}
use Rattle.explore_search.specs.declared.states.State.{State}

-- a side is one of two
side_is : (side : Side) → (side ≡ A) ⊎ (side ≡ B)
side_is A = inl refl
side_is B = inr refl

module _ {M : Type 0} (has_made : M → Plan → List Step → Type 0) (plan : Plan) (done : ℕ) (machine : M) where
  -- the landings of a side at places below this one
  abbrev IsBelow : ℕ → Side → ℕ → Landing → Type 0
  IsBelow pair side places landing = (landing.pair ≡ pair) × (landing.side ≡ side) × (landing.place < places)

  -- at places below 0 are none
  pub none_below : (pair : ℕ) (side : Side) (landings : List Landing) → AreAdded has_made plan done machine (λ landing. (landing.pair ≡ pair) × (landing.side ≡ side) × (landing.place < 0)) landings landings
  none_below pair side landings = record { each = λ all. all; kept = λ landing has. has; all = λ landing next below. absurd (omega (arith, below.2)) }

  -- one place more
  pub one_more : (pair : ℕ) (side : Side) (place : ℕ) (old now new : List Landing) → IsPairOf plan pair → place < 2 ^ 32 →
      new ≡ now ++ record { at = done; pair = pair; side = side; place = place } ∷ [] →
      AreAdded has_made plan done machine (λ landing. (landing.pair ≡ pair) × (landing.side ≡ side) × (landing.place < place)) old now →
      AreAdded has_made plan done machine (λ landing. (landing.pair ≡ pair) × (landing.side ≡ side) × (landing.place < place + 1)) old new
  one_more pair side place old now new declared fits is before =
      let last : Landing = record { at = done; pair = pair; side = side; place = place } in
      record {
        each = λ all.
            subst (λ (landings : List Landing). All (IsNext plan done) landings) (sym is)
            (All-push (IsNext plan done) now last (before.each all) (record { may = record { pair = declared; place = fits }; at = refl }));
        kept = λ landing has. subst (λ (landings : List Landing). Contains landings landing) (sym is) (Contains-append_left now (last ∷ []) landing (before.kept landing has));
        all = λ landing next below.
            elim (cases_lt landing.place place) [
              | inl earlier ↦ elim (before.all landing next (below.0, below.1, earlier)) [
                | inl has ↦ inl (subst (λ (landings : List Landing). Contains landings landing) (sym is) (Contains-append_left now (last ∷ []) landing has))
                | inr idle ↦ inr idle
              ]
              | inr later ↦ (let here : place ≡ landing.place = omega (arith, below.2) in
                  let same : last ≡ landing = λ i. record { at = sym next.at i; pair = sym below.0 i; side = sym below.1 i; place = here i } in
                  inl (subst (λ (landings : List Landing). Contains landings landing) (sym is) (subst (λ (landing : Landing). Contains (now ++ last ∷ []) landing) same (Contains-push now last))))
            ];
      }

  -- from the number of writes in flight on nothing lands
  pub all_of_side : (pair : ℕ) (side : Side) (count places : ℕ) (old now : List Landing) → min count 4294967296 ≤ places →
      ((steps : List Step) (place : ℕ) → has_made machine plan steps → count ≤ place → answer_after plan (memory_of plan) steps (Land pair side place) ≡ Nothing) →
      AreAdded has_made plan done machine (λ landing. (landing.pair ≡ pair) × (landing.side ≡ side) × (landing.place < places)) old now →
      AreAdded has_made plan done machine (IsOfSide pair side) old now
  all_of_side pair side count places old now past idle before =
      record {
        each = before.each;
        kept = before.kept;
        all = λ landing next of.
            elim (cases_lt landing.place places) [
              | inl below ↦ before.all landing next (of.0, of.1, below)
              | inr beyond ↦ inr (λ made has.
                  subst (λ (pair : ℕ). answer_after plan (memory_of plan) made (Land pair landing.side landing.place) ≡ Nothing) (sym of.0)
                  (subst (λ (side : Side). answer_after plan (memory_of plan) made (Land pair side landing.place) ≡ Nothing) (sym of.1)
                  (idle made landing.place has (omega (arith, next.may.place)))))
            ];
      }

  -- no pair yet
  pub none_of_pairs : (landings : List Landing) → AreAdded has_made plan done machine (λ landing. landing.pair < 0) landings landings
  none_of_pairs landings = record { each = λ all. all; kept = λ landing has. has; all = λ landing next below. absurd (omega (arith, below)) }

  -- one pair more
  pub pair_more : (pair : ℕ) (old now mid new : List Landing) → AreAdded has_made plan done machine (λ landing. landing.pair < pair) old now →
      AreAdded has_made plan done machine (IsOfSide pair A) now mid → AreAdded has_made plan done machine (IsOfSide pair B) mid new →
      AreAdded has_made plan done machine (λ landing. landing.pair < pair + 1) old new
  pair_more pair old now mid new before first second =
      record {
        each = λ all. second.each (first.each (before.each all));
        kept = λ landing has. second.kept landing (first.kept landing (before.kept landing has));
        all = λ landing next below.
            elim (cases_lt landing.pair pair) [
              | inl earlier ↦ elim (before.all landing next earlier) [ inl has ↦ inl (second.kept landing (first.kept landing has)) | inr idle ↦ inr idle ]
              | inr later ↦ (let here : landing.pair ≡ pair = omega arith in
                  elim (side_is landing.side) [
                    | inl a ↦ elim (first.all landing next (here, a)) [ inl has ↦ inl (second.kept landing has) | inr idle ↦ inr idle ]
                    | inr b ↦ second.all landing next (here, b)
                  ])
            ];
      }

  -- all pairs
  pub all_pairs : (pairs : ℕ) (old now : List Landing) → length plan.pairs ≤ pairs → AreAdded has_made plan done machine (λ landing. landing.pair < pairs) old now →
      AreAdded has_made plan done machine (λ landing. Unit {0}) old now
  all_pairs pairs old now all before =
      record { each = before.each; kept = before.kept; all = λ landing next _. before.all landing next (let pair = next.may.pair in omega arith) }

  -- in another order they are added all the same
  pub added_in_order : (kind : Landing → Type 0) (landings others : List Landing) → IsPermutation landings others → AreAdded has_made plan done machine kind [] landings →
      AreAdded has_made plan done machine kind [] others
  added_in_order kind landings others same are =
      record {
        each = λ all. All-permutation (IsNext plan done) landings others same (are.each all);
        kept = λ landing has. Contains-permutation landings others landing same (are.kept landing has);
        all = λ landing next of. elim (are.all landing next of) [ inl has ↦ inl (Contains-permutation landings others landing same has) | inr idle ↦ inr idle ];
      }

  -- the landings after a state at which the machine is
  pub all_tried : (same : HaveSameSteps has_made) (state : State M) (landings : List Landing) → has_made machine plan (made_to plan done state) →
      AreAdded has_made plan done machine (λ landing. Unit {0}) [] landings → AreTried has_made plan done state landings
  all_tried same state landings at are =
      record {
        each = are.each (All-nil (IsNext plan done));
        all = λ landing next.
            elim (are.all landing next tt) [
              | inl has ↦ inl has
              | inr idle ↦ inr (λ made reaches. idle made (same plan (made_to plan done state) made reaches.0 machine reaches.1 at reaches.2))
            ];
      }
