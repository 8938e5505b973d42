use Rattle.std.proofs.Common.{◌≡◌, ◌∙◌, ◌<◌, get_or, ℕ, [], List, sym, ap, subst, length, rules, ◌+◌}
use Rattle.std.proofs.lemmas.List.{get_or_default}
use Rattle.step_kinds.specs.declared.plan.DevPlan.{DevPlan}
use Rattle.step_kinds.specs.declared.plan.PairPlan.{PairPlan}
use Rattle.fabric_rule.specs.Parts.{PairState}
use Rattle.step_kinds.specs.declared.plan.Plan.{Plan}
use Rattle.pair_model.specs.DeclaredPlans.{IsDeclared}
use Rattle.pair_model.specs.Plans.{no_pair, pair_plan}
use Rattle.fabric_core.specs.Fabric.{FabricState}
use Rattle.fabric_core.specs.LogClauses.{HasMade}
use Rattle.fabric_core.proofs.FreshFabrics.{AreFresh, IsFresh, fresh_itself, fresh_made, one_more_fresh}
use Rattle.fabric_core.proofs.StepsOfFabrics.{from_some, plan_of_standing}
use Rattle.fabric_core.proofs.fabric.Fabric.new.Goals as goal

-- all pairs of the plan are there
all_made : (plan : Plan) (fabric : FabricState) (k : ℕ) → IsDeclared plan → fabric.devs ≡ plan.devs → AreFresh plan fabric.devs fabric.pairs k → k ≡ length plan.pairs → HasMade plan [] fabric
all_made plan fabric k declared same are all = fresh_made plan fabric declared same (subst (AreFresh plan fabric.devs fabric.pairs) all are)

pub loop-k-preserved : goal.loop-k-preserved
loop-k-preserved c =
    let devs = c.in_ok-devs.devs.items in
    let there : c.pair-item.result ≡ pair_plan c.args.plan.now c.loop-k.k =
    c.pair-item.is ∙ ap (λ pairs. get_or pairs c.loop-k.k c.pair-item.result) c.as_slice-pair-items.ensures
    ∙ get_or_default c.args.plan.now.pairs c.loop-k.k c.pair-item.result no_pair (subst (λ (pairs : List PairPlan). c.loop-k.k < length pairs) c.as_slice-pair-items.ensures c.loop-k-test.true) in
    let is : IsFresh devs (pair_plan c.args.plan.now c.loop-k.k) c.loop-k.k c.in_ok-kept.kept =
    subst (λ (pair : PairPlan). IsFresh devs pair c.loop-k.k c.in_ok-kept.kept) there
    (subst (λ (devs : List DevPlan). IsFresh devs c.pair-item.result c.loop-k.k c.in_ok-kept.kept) c.deref.ensures.value c.in_ok-kept.ensures) in
    subst (λ (pairs : List PairState). AreFresh c.args.plan.now devs pairs (c.loop-k.k + 1)) (sym c.in_ok-push.ensures.items)
    (one_more_fresh c.args.plan.now devs c.loop-k.pairs.items c.loop-k.k c.in_ok-kept.kept c.loop-k.invariant is)

pub invariant_of-result : goal.invariant_of-result
invariant_of-result c =
    let fabric : FabricState = record { devs = c.in_ok-devs.devs.items; pairs = c.loop-k.pairs.items } in
    from_some _ (fresh_itself c.args.plan.now fabric (all_made c.args.plan.now fabric c.loop-k.k c.requires (c.in_ok-devs.ensures ∙ c.as_slice.ensures) c.loop-k.invariant (search rules)))

pub returns-clause-stands : goal.returns-clause-stands
returns-clause-stands c =
    let fabric : FabricState = record { devs = c.in_ok-devs.devs.items; pairs = c.loop-k.pairs.items } in
    (all_made c.args.plan.now fabric c.loop-k.k c.requires (c.in_ok-devs.ensures ∙ c.as_slice.ensures) c.loop-k.invariant (search rules)).stands

pub returns-clause-plan : goal.returns-clause-plan
returns-clause-plan c =
    let fabric : FabricState = record { devs = c.in_ok-devs.devs.items; pairs = c.loop-k.pairs.items } in
    plan_of_standing c.args.plan.now [] fabric (all_made c.args.plan.now fabric c.loop-k.k c.requires (c.in_ok-devs.ensures ∙ c.as_slice.ensures) c.loop-k.invariant (search rules)).stands
