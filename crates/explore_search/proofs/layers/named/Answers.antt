use Rattle.std.proofs.Common.{◌∙◌, ℕ, [], ◌∷◌, ◌++◌, List, ap, map, sym}
use Rattle.std.proofs.lemmas.List.{map_push}
use Rattle.explore_search.specs.Layers.{with_answers}
use Rattle.explore_search.specs.declared.layers.Branch.{Branch}
use Rattle.explore_search.specs.declared.layers.Group.{Group}
use Rattle.explore_search.proofs.layers.named.Goals as goal

pub returns : goal.returns
returns g c =
    let named = with_answers {M = g.row.M.Denot} c.args.answers in
    let rest = c.pop.new.self.items in
    let last = c.in-Some.last in
    c.in_ok-push_group.ensures
    ∙ ap (λ (groups : List (Group g.row.M.Denot)). groups ++ named last ∷ [])
    (c.in_ok-push_each.ensures
    ∙ ap (λ (groups : List (Group g.row.M.Denot)). groups ++ map (with_answers c.as_slice.result.now) rest) c.new-groups.ensures.items
    ∙ ap (λ (answers : List (List ℕ)). map (with_answers answers) rest) c.as_slice.ensures)
    ∙ sym (map_push named rest last) ∙ ap (λ (branches : List (Branch g.row.M.Denot)). map named branches) (sym c.in-Some.ensures.items)
