use Rattle.std.proofs.Common.{◌∙◌, List, ap, subst, sym}
use Rattle.fabric_rule.specs.Parts.{PairState}
use Rattle.fabric_core.specs.Fabric.{FabricState, pair_of, plan_kept}
use Rattle.fabric_core.specs.Same.{AreSameBut, LandsAsPair, plan_at}
use Rattle.fabric_core.proofs.LandedFabrics.{landed_apart, landed_merges, others_apart, plans_at_pair}
use Rattle.fabric_core.proofs.StepsOfFabrics.{MadeSome, some}
use Rattle.fabric_core.proofs.fabric.Fabric.lands_as.Goals as goal

pub lands_as-requires : goal.lands_as-requires
lands_as-requires c =
    ap plan_at c.pair.ensures ∙ plans_at_pair c.args.self.now c.args.other.now c.args.pair c.args.side c.args.place c.requires.plans c.requires.pair ∙ sym (ap plan_at c.pair-2.ensures)

pub returns-then-lands_as-clause-merges : goal.returns-then-lands_as-clause-merges
returns-then-lands_as-clause-merges c = λ yes.
    let one = c.deref.ensures.value ∙ ap (λ (fabric : FabricState). fabric.pairs) c.self.view_is in
    let other = c.deref-then-lands_as.ensures.value ∙ ap (λ (fabric : FabricState). fabric.pairs) c.other.view_is in
    landed_merges c.args.self.now c.args.other.now c.args.pair c.args.side c.args.place c.requires.plans c.requires.pair
    (subst (λ (fabric : FabricState). MadeSome (plan_kept fabric) fabric) c.self.view_is (some c.self.inside c.self.invariant))
    (subst (λ (fabric : FabricState). MadeSome (plan_kept fabric) fabric) c.other.view_is (some c.other.inside c.other.invariant))
    (subst (λ (pair : PairState). LandsAsPair pair c.args.side c.args.place (pair_of c.args.other.now c.args.pair)) c.pair.ensures
    (subst (λ (pair : PairState). LandsAsPair c.pair.result.now c.args.side c.args.place pair) c.pair-2.ensures (c.lands_as.ensures.0 c.if-lands_as.true)))
    (subst (λ (pairs : List PairState). AreSameBut pairs c.args.other.now.pairs c.args.pair) one
    (subst (λ (pairs : List PairState). AreSameBut c.deref.result.now pairs c.args.pair) other (c.are_same_but.ensures.0 yes)))

pub returns-then-lands_as-clause-apart : goal.returns-then-lands_as-clause-apart
returns-then-lands_as-clause-apart c = λ plan steps label made answered owns.
    let one = c.deref.ensures.value ∙ ap (λ (fabric : FabricState). fabric.pairs) c.self.view_is in
    let other = c.deref-then-lands_as.ensures.value ∙ ap (λ (fabric : FabricState). fabric.pairs) c.other.view_is in
    c.are_same_but.ensures.1
    (subst (λ (pairs : List PairState). AreSameBut pairs c.deref-then-lands_as.result.now c.args.pair) (sym one)
    (subst (λ (pairs : List PairState). AreSameBut c.args.self.now.pairs pairs c.args.pair) (sym other)
    (others_apart c.args.self.now c.args.other.now c.args.pair c.args.side c.args.place c.requires.plans c.requires.pair plan steps made owns)))

pub returns-else-lands_as-clause-apart : goal.returns-else-lands_as-clause-apart
returns-else-lands_as-clause-apart c = λ plan steps label made answered owns.
    c.lands_as.ensures.1
    (subst (λ (pair : PairState). LandsAsPair pair c.args.side c.args.place c.pair-2.result.now) (sym c.pair.ensures)
    (subst (λ (pair : PairState). LandsAsPair (pair_of c.args.self.now c.args.pair) c.args.side c.args.place pair) (sym c.pair-2.ensures)
    (landed_apart c.args.self.now c.args.other.now c.args.pair c.args.side c.args.place c.requires.plans c.requires.pair plan steps label made answered owns)))
