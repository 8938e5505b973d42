use Rattle.std.proofs.Common.{◌<◌, length, sym, subst}
use Rattle.pair_model.specs.DeclaredPlans.{IsPair}
use Rattle.pair_model.specs.Plans.{no_pair}
use Rattle.script_words.specs.Before.{Before}
use Rattle.script_plan.proofs.reader.Reader.pair.Goals as goal

pub returns-clause-declared : goal.returns-clause-declared
returns-clause-declared c =
    let P : Before → Type 0 = λ before. c.args.number < length before.plan.pairs in
    subst IsPair (sym (c.get.ensures no_pair)) (c.self.invariant.sound.pairs c.args.number no_pair (subst P (sym c.self.view_is) c.requires))
