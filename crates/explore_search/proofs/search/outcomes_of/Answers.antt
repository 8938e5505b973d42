use Rattle.std.proofs.Common.{◌∙◌, ◌<◌, [], ◌∷◌, ◌++◌, List, ap, length, map, subst, sym}
use Rattle.std.proofs.lemmas.Iterator.Adapters.{YieldsList-from_vec}
use Rattle.std.proofs.lemmas.Iterator.Consumers.{YieldsList-end, YieldsList-turn}
use Rattle.std.proofs.lemmas.List.{map-id, map_push}
use Rattle.explore_model.specs.declared.outcome.Landing.{Landing}
use Rattle.explore_model.specs.declared.outcome.Outcome.{Outcome}
use Rattle.explore_search.specs.Results.{first_landings, outcome_of}
use Rattle.explore_search.specs.declared.layers.Group.{Group}
use Rattle.explore_search.specs.declared.states.State.{State}
use Rattle.explore_search.proofs.search.outcomes_of.Goals as goal

pub first_path-requires : goal.first_path-requires
first_path-requires g c =
    let turn = YieldsList-turn (YieldsList-from_vec c.args.layer.items c.into_iter-group-iterator.ensures.into_iter_gives.0 (c.into_iter-group-iterator.ensures.into_iter_gives.1 ∙ c.args.layer.ok.0)) c.loop-group.yielded c.loop-group.group-iterator c.loop-group.yielded_by _ c.next.new.self c.in-Some.group c.in-Some.is c.next.ensures.steps in
    subst (λ (states : List (State g.row.M.Denot)). 0 < length states) (sym c.into_vec.ensures)
    (subst (λ (group : Group g.row.M.Denot). 0 < length group.states) (sym turn.1) (c.requires (length c.loop-group.yielded) c.in-Some.group turn.0))

pub loop-group-preserved : goal.loop-group-preserved
loop-group-preserved g c =
    let group : Group g.row.M.Denot = c.in-Some.group in
    let outcome : Outcome = record { answers = group.answers; landings = c.first_path.result } in
    c.in_ok-push.ensures.items ∙ ap (λ (outcomes : List Outcome). outcomes ++ outcome ∷ []) c.loop-group.invariant
    ∙ ap (λ (landings : List Landing). map (outcome_of {M = g.row.M.Denot}) c.loop-group.yielded ++ record { answers = group.answers; landings = landings } ∷ []) (c.first_path.ensures ∙ ap first_landings c.into_vec.ensures)
    ∙ sym (map_push (outcome_of {M = g.row.M.Denot}) c.loop-group.yielded group)

pub returns : goal.returns
returns g c =
    let all = YieldsList-end (YieldsList-from_vec c.args.layer.items c.into_iter-group-iterator.ensures.into_iter_gives.0 (c.into_iter-group-iterator.ensures.into_iter_gives.1 ∙ c.args.layer.ok.0)) c.loop-group.yielded c.loop-group.group-iterator c.loop-group.yielded_by _ c.next.new.self c.in-None.is c.next.ensures.steps in
    c.loop-group.invariant ∙ ap (λ (layer : List (Group g.row.M.Denot)). map (outcome_of {M = g.row.M.Denot}) layer) (sym (map-id c.loop-group.yielded) ∙ all.0)
