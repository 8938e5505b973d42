use Rattle.std.proofs.Common.{◌∙◌, ℕ, List, Option, length, subst, sym}
use Rattle.explore_search.specs.Chains.{IsLast}
use Rattle.explore_search.specs.declared.states.State.{State}
use Rattle.explore_search.proofs.states.States.last_with.Goals as goal

pub returns-clause-last : goal.returns-clause-last
returns-clause-last g c =
    subst (λ (states : List (State g.row.M.Denot)). IsLast states c.args.key.now.items (length states) c.copied.result) c.self.view_is
    (subst (λ (found : Option ℕ). IsLast c.self.inside.list.items c.args.key.now.items (length c.self.inside.list.items) found) (sym (c.copied.ensures ∙ c.get.ensures.value))
    (c.self.invariant.last c.args.key.now))
