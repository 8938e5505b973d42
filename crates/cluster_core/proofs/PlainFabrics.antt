-- Fabrics that differ in promises of room and pages alone have made the same steps.
use Rattle.std.proofs.Common.{◌≡◌, ◌∙◌, ℕ, ◌<◌, List, [], ◌∷◌, ap, arith, length, sym}
use Rattle.std.proofs.lemmas.List.{get_or-map, length-map}
use Rattle.step_kinds.specs.declared.plan.Plan.{Plan}
use Rattle.step_kinds.specs.declared.steps.Step.{Step}
use Rattle.fabric_core.specs.Fabric.{FabricState, no_state, pair_of, plain}
use Rattle.fabric_core.specs.LogClauses.{HasMade}

module _ (old new : FabricState) (same : plain new ≡ plain old) where
  all_pairs : length new.pairs ≡ length old.pairs
  all_pairs = sym (length-map new.pairs _) ∙ ap (λ (fabric : FabricState). length fabric.pairs) same ∙ length-map old.pairs _

  -- the fabric of one of its pairs
  abbrev of_one : FabricState → ℕ → FabricState
  of_one fabric k = record fabric { pairs = pair_of fabric k ∷ [] }

  pair_plain : (fabric : FabricState) (k : ℕ) → k < length fabric.pairs → pair_of (plain fabric) k ≡ pair_of (plain (of_one fabric k)) 0
  pair_plain fabric k below = get_or-map _ fabric.pairs k no_state no_state below

  same_pair : (k : ℕ) → k < length old.pairs → pair_of (plain (of_one new k)) 0 ≡ pair_of (plain (of_one old k)) 0
  same_pair k below = sym (pair_plain new k (omega (arith, all_pairs, below))) ∙ ap (λ (fabric : FabricState). pair_of fabric k) same ∙ pair_plain old k below

  -- what the one has made, the other has made too
  pub plain_has_made : (plan : Plan) (steps : List Step) → HasMade plan steps old → HasMade plan steps new
  plain_has_made plan steps made =
      record {
        declared = made.declared;
        permitted = made.permitted;
        stands = record {
          devs = ap (λ (fabric : FabricState). fabric.devs) same ∙ made.stands.devs;
          all_pairs = all_pairs ∙ made.stands.all_pairs;
          pairs = λ k below.
              let its = made.stands.pairs k below in
              let pair = same_pair k (omega (arith, below, made.stands.all_pairs)) in
              record {
                bridge = ap (λ pair. pair.bridge) pair ∙ its.bridge;
                link = its.link;
                sides = λ side. rw (ap (λ pair. pair.queues) pair) (its.sides side);
              };
        };
      }
