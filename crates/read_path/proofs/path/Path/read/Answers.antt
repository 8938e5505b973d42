use Rattle.std.proofs.Common.{sym, subst}
use Rattle.read_path.specs.Ends.{AreEnds, asks}
use Rattle.read_path.specs.declared.end.End.{End}
use Rattle.read_path.proofs.EndLemmas.{asks_kept, swapped}
use Rattle.read_path.proofs.path.Path.read.Goals as goal

pub invariant_of-self-in-A : goal.invariant_of-self-in-A
invariant_of-self-in-A c =
    subst (λ (a : End). AreEnds a c.ask.new.to) (sym c.in_ok-number-in-A.ensures.asked)
    (subst (λ (b : End). AreEnds (asks c.self.inside.a c.args.at c.args.len) b) (sym c.in_ok-number-in-A.ensures.promised)
    (asks_kept c.self.inside.a c.self.inside.b c.args.at c.args.len c.self.invariant c.requires.some c.requires.few c.requires.within))

pub invariant_of-self-in-B : goal.invariant_of-self-in-B
invariant_of-self-in-B c =
    swapped _ _
    (subst (λ (b : End). AreEnds b c.ask-in-B.new.to) (sym c.in_ok-number-in-B.ensures.asked)
    (subst (λ (a : End). AreEnds (asks c.self.inside.b c.args.at c.args.len) a) (sym c.in_ok-number-in-B.ensures.promised)
    (asks_kept c.self.inside.b c.self.inside.a c.args.at c.args.len (swapped _ _ c.self.invariant) c.requires.some c.requires.few c.requires.within)))
