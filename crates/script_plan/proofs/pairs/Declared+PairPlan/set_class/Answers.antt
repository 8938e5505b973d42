use Rattle.std.proofs.Common.{◌<◌, List, length, sym, subst}
use Rattle.step_kinds.specs.declared.plan.PairPlan.{PairPlan}
use Rattle.script_plan.proofs.Classes.{class-matches}
use Rattle.script_plan.proofs.pairs.Declared+PairPlan.set_class.Goals as goal

pub invariant_of-self : goal.invariant_of-self
invariant_of-self c =
    let P : List PairPlan → Type 0 = λ pairs. c.args.number < length pairs in
    class-matches c.self.inside.names c.self.inside.items.items c.args.number c.index_mut.result.now c.set_class.new.pair c.args.side c.args.queue c.args.class (subst P (sym c.self.view_is) c.requires.number)
    c.self.invariant c.index_mut.ensures.value c.set_class.ensures
