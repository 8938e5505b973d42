use Rattle.std.proofs.Common.{◌∙◌, List, ap, subst, sym}
use Rattle.fabric_rule.specs.Parts.{PairState}
use Rattle.fabric_core.specs.Fabric.{FabricState, plan_kept}
use Rattle.fabric_core.specs.Same.{AreSamePairs}
use Rattle.fabric_core.proofs.SameFabrics.{merged, one_list_makes_same}
use Rattle.fabric_core.proofs.StepsOfFabrics.{MadeSome, some}
use Rattle.fabric_core.proofs.fabric.Fabric.is_same.Goals as goal

pub returns-clause-merges : goal.returns-clause-merges
returns-clause-merges c = λ yes.
    let one = c.deref.ensures.value ∙ ap (λ (fabric : FabricState). fabric.pairs) c.self.view_is in
    let other = c.deref-2.ensures.value ∙ ap (λ (fabric : FabricState). fabric.pairs) c.other.view_is in
    merged c.args.self.now c.args.other.now c.requires (subst (λ (fabric : FabricState). MadeSome (plan_kept fabric) fabric) c.other.view_is (some c.other.inside c.other.invariant))
    (subst (λ (pairs : List PairState). AreSamePairs pairs c.args.other.now.pairs) one
    (subst (λ (pairs : List PairState). AreSamePairs c.deref.result.now pairs) other (c.are_same_pairs.ensures.0 yes)))

pub returns-clause-apart : goal.returns-clause-apart
returns-clause-apart c = λ plan steps made owns.
    let one = c.deref.ensures.value ∙ ap (λ (fabric : FabricState). fabric.pairs) c.self.view_is in
    let other = c.deref-2.ensures.value ∙ ap (λ (fabric : FabricState). fabric.pairs) c.other.view_is in
    c.are_same_pairs.ensures.1
    (subst (λ (pairs : List PairState). AreSamePairs pairs c.deref-2.result.now) (sym one)
    (subst (λ (pairs : List PairState). AreSamePairs c.args.self.now.pairs pairs) (sym other) (one_list_makes_same plan steps c.args.self.now c.args.other.now made owns).pairs))
