use Rattle.std.proofs.Common.{◌∙◌, ℕ, [], ◌∷◌, ◌++◌, List, ap, append_assoc, map, sym}
use Rattle.std.proofs.lemmas.Iterator.Adapters.{YieldsList-from_vec}
use Rattle.std.proofs.lemmas.Iterator.Consumers.{YieldsList-end}
use Rattle.std.proofs.lemmas.List.{map-id, map_push}
use Rattle.explore_search.specs.Layers.{with_answers}
use Rattle.explore_search.specs.declared.layers.Branch.{Branch}
use Rattle.explore_search.specs.declared.layers.Group.{Group}
use Rattle.explore_search.proofs.layers.push_each.Goals as goal

pub loop-branch-preserved : goal.loop-branch-preserved
loop-branch-preserved g c =
    let named = with_answers {M = g.row.M.Denot} c.args.answers.now in
    let before = c.args.groups.now.items in
    let branch = c.in-Some.branch in
    c.in_ok-push_group.ensures
    ∙ ap (λ (answers : List (List ℕ)). c.loop-branch.groups.items ++ with_answers answers branch ∷ []) c.in_ok-copy_of.ensures
    ∙ ap (λ (groups : List (Group g.row.M.Denot)). groups ++ named branch ∷ []) c.loop-branch.invariant
    ∙ append_assoc before (map named c.loop-branch.yielded) (named branch ∷ [])
    ∙ ap (λ (groups : List (Group g.row.M.Denot)). before ++ groups) (sym (map_push named c.loop-branch.yielded branch))

pub returns : goal.returns
returns g c =
    let named = with_answers {M = g.row.M.Denot} c.args.answers.now in
    let all = YieldsList-end (YieldsList-from_vec c.args.branches.items c.into_iter-branch-iterator.ensures.into_iter_gives.0 (c.into_iter-branch-iterator.ensures.into_iter_gives.1 ∙ c.args.branches.ok.0)) c.loop-branch.yielded c.loop-branch.branch-iterator c.loop-branch.yielded_by _ c.next.new.self c.in-None.is c.next.ensures.steps in
    c.loop-branch.invariant
    ∙ ap (λ (branches : List (Branch g.row.M.Denot)). c.args.groups.now.items ++ map named branches) (sym (map-id c.loop-branch.yielded) ∙ all.0)
