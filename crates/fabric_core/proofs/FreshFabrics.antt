-- A fabric of fresh pairs represents no steps.
use Rattle.std.proofs.Common.{◌≡◌, ℕ, ◌+◌, ◌<◌, ◌≢◌, ◌⊎◌, List, [], ◌∷◌, ◌++◌, get_or, inl, inr, length, refl, sym, subst, arith}
use Rattle.std.proofs.lemmas.Bool.{cases_eq}
use Rattle.std.proofs.lemmas.List.{get_or_append_left, get_or_push, length_push}
use Rattle.step_kinds.specs.declared.names.Side.TheVariants.{A, B}
use Rattle.step_kinds.specs.declared.plan.DevPlan.{DevPlan}
use Rattle.step_kinds.specs.declared.plan.PairPlan.{PairPlan}
use Rattle.step_kinds.specs.declared.plan.Plan.{Plan}
use Rattle.pair_model.specs.DeclaredPlans.{IsDeclared}
use Rattle.pair_model.specs.Plans.{pair_plan}
use Rattle.bridge_pair.specs.Bridge.{pages_of}
use Rattle.fabric_rule.specs.Laws.{IsFreshPair}
use Rattle.fabric_rule.specs.Parts.{PairState}
use Rattle.fabric_rule.proofs.Facade.{fresh_pair_stands}
use Rattle.fabric_core.specs.Fabric.{FabricState, no_state, pair_of, plan_kept}
use Rattle.fabric_core.specs.Parts.{AreAlone}
use Rattle.fabric_core.specs.LogClauses.{HasMade}
use Rattle.fabric_core.proofs.StepsOfFabrics.{MadeSome, declared_bare, plan_of_standing}

-- a pair before any step, with what is promised of its memories
abbrev pub IsFresh : List DevPlan → PairPlan → ℕ → PairState → Type 0
IsFresh devs plan k pair = IsFreshPair devs plan k (record { a = pages_of pair.bridge A; b = pages_of pair.bridge B }) pair

-- the first pairs of a plan, this many of them
pub record AreFresh (plan : Plan) (devs : List DevPlan) (pairs : List PairState) (count : ℕ) : Type 0 where
  pub all_pairs : length pairs ≡ count
  pub fresh : (k : ℕ) → k < count → IsFresh devs (pair_plan plan k) k (get_or pairs k no_state)

-- The empty list is that of a plan's first 0 pairs, each as before any step.
pub none_fresh : (plan : Plan) (devs : List DevPlan) → AreFresh plan devs [] 0
none_fresh plan devs = record { all_pairs = refl; fresh = λ k below. absurd (omega (arith, below)) }

-- The first pairs of a plan, all as before any step, stay so where the next one is added as before any step.
pub one_more_fresh : (plan : Plan) (devs : List DevPlan) (pairs : List PairState) (count : ℕ) (pair : PairState) → AreFresh plan devs pairs count → IsFresh devs (pair_plan plan count) count pair
    → AreFresh plan devs (pairs ++ pair ∷ []) (count + 1)
one_more_fresh plan devs pairs count pair are is =
    record { all_pairs = omega (arith, length_push pairs pair, are.all_pairs); fresh = at_k }
  where
    last : (k : ℕ) → k ≡ count → IsFresh devs (pair_plan plan k) k (get_or (pairs ++ pair ∷ []) k no_state)
    last k e =
        subst (λ k. IsFresh devs (pair_plan plan k) k (get_or (pairs ++ pair ∷ []) k no_state)) (sym e)
        (subst (IsFresh devs (pair_plan plan count) count) (sym (get_or_push pairs pair no_state count are.all_pairs)) is)

    earlier : (k : ℕ) → k < count → IsFresh devs (pair_plan plan k) k (get_or (pairs ++ pair ∷ []) k no_state)
    earlier k below = subst (IsFresh devs (pair_plan plan k) k) (sym (get_or_append_left pairs (pair ∷ []) no_state k (omega (arith, below, are.all_pairs)))) (are.fresh k below)

    at_k : (k : ℕ) → k < count + 1 → IsFresh devs (pair_plan plan k) k (get_or (pairs ++ pair ∷ []) k no_state)
    at_k k below = choose (cases_eq k count) where
      choose : ((k ≡ count) ⊎ (k ≢ count)) → IsFresh devs (pair_plan plan k) k (get_or (pairs ++ pair ∷ []) k no_state)
      choose (inl same) = last k same
      choose (inr other) = earlier k (omega (arith, below, other))

-- In a plan that a script can declare, no two devices of a pair are on one queue.
pub alone : (plan : Plan) (k : ℕ) → IsDeclared plan → AreAlone plan.devs k
alone plan k declared = λ i j first second on same. declared.one_on_a_queue i j first second same

-- A fabric with a declared plan's devices, and all its pairs as before any step, has made no steps of that plan.
pub fresh_made : (plan : Plan) (fabric : FabricState) → IsDeclared plan → fabric.devs ≡ plan.devs → AreFresh plan fabric.devs fabric.pairs (length plan.pairs) → HasMade plan [] fabric
fresh_made plan fabric declared same are =
    record {
      declared = declared;
      permitted = tt;
      stands = record {
        devs = same;
        all_pairs = are.all_pairs;
        pairs = λ k below.
            fresh_pair_stands plan.devs (pair_plan plan k) k (record { a = pages_of (pair_of fabric k).bridge A; b = pages_of (pair_of fabric k).bridge B }) (pair_of fabric k) (declared.pairs k below)
            (subst (λ devs. IsFresh devs (pair_plan plan k) k (pair_of fabric k)) same (are.fresh k below));
      };
    }

-- A fabric that has made no steps of a plan has made a list of steps, the empty one, of the plan that it keeps.
pub fresh_itself : (plan : Plan) (fabric : FabricState) → HasMade plan [] fabric → MadeSome (plan_kept fabric) fabric
fresh_itself plan fabric made =
    subst (λ plan. MadeSome plan fabric) (sym (plan_of_standing plan [] fabric made.stands))
    (record {
      steps = [];
      made = record {
        declared = declared_bare plan made.declared;
        permitted = tt;
        stands = record { devs = made.stands.devs; all_pairs = made.stands.all_pairs; pairs = made.stands.pairs };
      };
    })
