use Rattle.std.proofs.Common.{◌≡◌, ◌∙◌, ℕ, List, Result, refl, sym, ap, subst, get_or}
use Rattle.std.proofs.lemmas.List.{get_or_default}
use Rattle.step_kinds.specs.Subject.{subject_of}
use Rattle.step_kinds.specs.declared.plan.DevPlan.{DevPlan}
use Rattle.step_kinds.specs.declared.steps.Answer.{Answer}
use Rattle.step_kinds.specs.declared.steps.Step.{Step}
use Rattle.pair_model.specs.DeclaredPlans.{IsPermitted}
use Rattle.fabric_rule.specs.Parts.{PairState}
use Rattle.fabric_core.specs.Fabric.{FabricState, no_state, pair_of, plan_kept}
use Rattle.fabric_core.specs.Fabrics.{IsFabric, fabric_seen}
use Rattle.fabric_core.specs.Parts.{BridgeAgrees, CanMake}
use Rattle.fabric_core.specs.FabricStep.{HasStepped}
use Rattle.fabric_core.specs.StepCalls.{HasMadeStep}
use Rattle.fabric_core.specs.declared.fabric.Fabric.TheInside.{Inside}
use Rattle.fabric_core.proofs.StepsOfFabrics.{among_pairs, fabric_moved, from_some, made_itself, pair_agrees, pair_can, some, some_made, with_pair}
use Rattle.fabric_core.proofs.fabric.Fabric.step.Goals as goal

-- the pair at the step's place is the fabric's
found : (fabric : FabricState) (step : Step) (k : ℕ) (pair : PairState) → IsPermitted (plan_kept fabric) step → k ≡ subject_of step → pair ≡ get_or fabric.pairs k pair → pair ≡ pair_of fabric (subject_of step)
found fabric step k pair may is there =
    there ∙ ap (λ k. get_or fabric.pairs k pair) is ∙ get_or_default fabric.pairs (subject_of step) pair no_state (among_pairs fabric step pair may)

outcome : {E : Type 0} (kept : Inside) (fabric : FabricState) (step : Step) (k : ℕ) (devs : List DevPlan) (pair new : PairState) (result : Result Answer E) → fabric_seen kept ≡ fabric → IsFabric kept
    → IsPermitted (plan_kept fabric) step → k ≡ subject_of step → devs ≡ kept.devs.items → pair ≡ get_or kept.pairs.items k pair → HasMadeStep devs step pair new result
    → HasStepped fabric (with_pair (fabric_seen kept) k new) step result
outcome kept fabric step k devs pair new result seen is may at_k same there moved =
    let own = fabric_seen kept in
    let may_own : IsPermitted (plan_kept own) step = subst (λ fabric. IsPermitted (plan_kept fabric) step) (sym seen) may in
    subst (λ fabric. HasStepped fabric (with_pair own k new) step result) seen
    (subst (λ k. HasStepped own (with_pair own k new) step result) (sym at_k)
    (fabric_moved own step new may_own result (some kept is)
    (subst (λ devs. HasMadeStep devs step (pair_of own (subject_of step)) new result) same
    (subst (λ pair. HasMadeStep devs step pair new result) (found own step k pair may_own at_k there) moved))))

pub make-requires-clause-agrees : goal.make-requires-clause-agrees
make-requires-clause-agrees c =
    let kept = fabric_seen c.self.inside in
    let may : IsPermitted (plan_kept kept) c.args.step.now = subst (λ fabric. IsPermitted (plan_kept fabric) c.args.step.now) (sym c.self.view_is) c.requires in
    subst (λ (pair : PairState). BridgeAgrees pair.bridge) (sym (found kept c.args.step.now c.subject-k.result c.index_mut-pair.result.now may c.subject-k.ensures c.index_mut-pair.ensures.value))
    (pair_agrees kept (subject_of c.args.step.now) (some c.self.inside c.self.invariant) (among_pairs kept c.args.step.now c.index_mut-pair.result.now may))

pub make-requires-clause-can : goal.make-requires-clause-can
make-requires-clause-can c =
    let kept = fabric_seen c.self.inside in
    let may : IsPermitted (plan_kept kept) c.args.step.now = subst (λ fabric. IsPermitted (plan_kept fabric) c.args.step.now) (sym c.self.view_is) c.requires in
    subst (λ devs. CanMake devs c.index_mut-pair.result.now.bridge c.args.step.now) (sym c.deref.ensures.value)
    (subst (λ (pair : PairState). CanMake kept.devs pair.bridge c.args.step.now) (sym (found kept c.args.step.now c.subject-k.result c.index_mut-pair.result.now may c.subject-k.ensures c.index_mut-pair.ensures.value))
    (pair_can kept c.args.step.now (some c.self.inside c.self.invariant) may))

pub invariant_of-self : goal.invariant_of-self
invariant_of-self c =
    let kept = fabric_seen c.self.inside in
    let new = with_pair kept c.subject-k.result c.make.new.self in
    from_some _
    (made_itself kept new
    (some_made kept new c.args.step.now c.make.result (plan_kept kept) (some c.self.inside c.self.invariant)
    (outcome c.self.inside kept c.args.step.now c.subject-k.result c.deref.result.now c.index_mut-pair.result.now c.make.new.self c.make.result refl c.self.invariant
    (subst (λ fabric. IsPermitted (plan_kept fabric) c.args.step.now) (sym c.self.view_is) c.requires) c.subject-k.ensures c.deref.ensures.value c.index_mut-pair.ensures.value c.make.ensures)))

pub returns : goal.returns
returns c =
    outcome c.self.inside c.args.self.now c.args.step.now c.subject-k.result c.deref.result.now c.index_mut-pair.result.now c.make.new.self c.make.result c.self.view_is c.self.invariant c.requires c.subject-k.ensures
    c.deref.ensures.value c.index_mut-pair.ensures.value c.make.ensures
