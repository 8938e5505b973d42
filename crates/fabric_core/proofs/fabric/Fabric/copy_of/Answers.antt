use Rattle.std.proofs.Common.{◌≡◌, ◌∙◌, List, ap, sym, subst}
use Rattle.step_kinds.specs.declared.plan.DevPlan.{DevPlan}
use Rattle.fabric_rule.specs.Parts.{PairState}
use Rattle.fabric_core.specs.Fabric.{FabricState, plan_kept}
use Rattle.fabric_core.specs.Fabrics.{fabric_seen}
use Rattle.fabric_core.proofs.StepsOfFabrics.{MadeSome, from_some, some}
use Rattle.fabric_core.proofs.fabric.Fabric.copy_of.Goals as goal

-- a fabric has made some steps that has the parts of one that has
some_by_parts : (fabric copy : FabricState) → copy.devs ≡ fabric.devs → copy.pairs ≡ fabric.pairs → MadeSome (plan_kept fabric) fabric → MadeSome (plan_kept copy) copy
some_by_parts fabric copy devs pairs made =
    let same : copy ≡ fabric = ap (λ (devs : List DevPlan). record { devs = devs; pairs = copy.pairs }) devs ∙ ap (λ (pairs : List PairState). record { devs = fabric.devs; pairs = pairs }) pairs in
    subst (λ (fabric : FabricState). MadeSome (plan_kept fabric) fabric) (sym same) made

pub invariant_of-result : goal.invariant_of-result
invariant_of-result c =
    let copy : FabricState = record { devs = c.in_ok-copies.field-0.items; pairs = c.in_ok-pair_copies.field-0.items } in
    from_some _
    (some_by_parts (fabric_seen c.self.inside) copy (c.in_ok-copies.ensures ∙ c.deref.ensures.value) (c.in_ok-pair_copies.ensures ∙ c.deref-2.ensures.value) (some c.self.inside c.self.invariant))
