use Rattle.std.proofs.Common.{List, refl, subst, sym}
use Rattle.std.proofs.lemmas.Result.{IfOk-weaker}
use Rattle.explore_search.specs.Layers.{AreKept, HaveBranched}
use Rattle.explore_search.specs.declared.states.State.{State}
use Rattle.explore_search.proofs.NextLayer.{covers_of_branches, groups_of_branches}
use Rattle.explore_search.proofs.groups.step_group.Goals as goal

pub branches_of-requires-clause-states : goal.branches_of-requires-clause-states
branches_of-requires-clause-states g c =
    subst (λ (states : List (State g.row.M.Denot)). AreKept g.M.Machine.has_made g.M.Machine.plan_held g.M.Machine.key_of c.args.plan.now c.args.done states) (sym c.into_vec.ensures) c.requires.group

pub returns : goal.returns
returns g c =
    let branched =
    subst (λ (states : List (State g.row.M.Denot)). HaveBranched g.M.Machine.has_made g.M.Machine.plan_held g.M.Machine.key_of c.args.plan.now c.args.done states c.in_ok-branches.branches.items)
    c.into_vec.ensures c.in_ok-branches.ensures in
    record {
      groups =
          IfOk-weaker c.named.result _ _
          (λ groups is.
          groups_of_branches g.M.Machine.has_made g.M.Machine.plan_held g.M.Machine.key_of c.args.plan.now c.args.done c.args.group.answers c.args.group c.in_ok-branches.branches.items groups.items refl branched is)
          c.named.ensures;
      covers =
          IfOk-weaker c.named.result _ _
          (λ groups is.
          covers_of_branches g.M.Machine.has_made g.M.Machine.plan_held g.M.Machine.key_of c.args.plan.now c.args.done c.args.group.answers c.args.group c.in_ok-branches.branches.items groups.items refl branched is)
          c.named.ensures;
    }
