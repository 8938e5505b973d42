use Rattle.std.proofs.Common.{sym, subst}
use Rattle.read_path.specs.Ends.{AreEnds}
use Rattle.read_path.specs.declared.end.End.{End}
use Rattle.read_path.proofs.EndLemmas.{posts_kept, swapped}
use Rattle.read_path.proofs.path.Path.write.Goals as goal

pub invariant_of-self : goal.invariant_of-self
invariant_of-self c =
    subst (λ (a : End). AreEnds a c.self.inside.b) (sym c.in_ok-post-in-A.ensures.ok) (posts_kept c.self.inside.a c.self.inside.b c.args.at c.args.bytes.now c.args.relaxed c.self.invariant c.requires.within)

pub invariant_of-self-in-Continue-branch-2 : goal.invariant_of-self-in-Continue-branch-2
invariant_of-self-in-Continue-branch-2 c =
    subst (λ (b : End). AreEnds c.self.inside.a b) (sym c.in_ok-post-in-B.ensures.ok)
    (swapped _ _ (posts_kept c.self.inside.b c.self.inside.a c.args.at c.args.bytes.now c.args.relaxed (swapped _ _ c.self.invariant) c.requires.within))
