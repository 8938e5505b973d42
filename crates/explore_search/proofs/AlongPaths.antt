-- The steps along a path: one landing more, and one step of the script more.
use Rattle.std.proofs.Common.{inl, inr, ◌≡◌, ◌∙◌, ℕ, ◌+◌, ◌-◌, ◌<◌, ◌≤◌, List, [], ◌∷◌, ◌++◌, append_assoc, append-nil, ap, arith, drop, get_or, length, length-drop, refl, sym, take}
use Rattle.std.specs.List.{All, fold}
use Rattle.std.proofs.lemmas.List.{get_or-drop, get_or-map, length-map, take_all, take_more}
use Rattle.std.proofs.lemmas.List.Elements.{All-head, All-tail}
use Rattle.std.proofs.lemmas.List.Sums.{fold_more, fold_push}
use Rattle.std.proofs.lemmas.Bool.{cases_lt}
use Rattle.pair_model.specs.PlanParts.{steps_in}
use Rattle.step_kinds.specs.declared.plan.Line.{Line}
use Rattle.step_kinds.specs.declared.plan.Plan.{Plan}
use Rattle.step_kinds.specs.declared.steps.Step.{Step}
use Rattle.explore_model.specs.Schedules.{landing_step}
use Rattle.explore_model.specs.declared.outcome.Landing.{Landing}
use Rattle.explore_search.specs.Paths.{IsLandingBy, Walked, between, landed_then, path, walked}

-- from a place up to it or to an earlier one are no steps
pub between_none : (script : List Step) (from to : ℕ) → to ≤ from → between script from to ≡ []
between_none script from to none =
    let zero_of : to - from ≡ 0 = omega arith in
    ap (λ (n : ℕ). take n (drop from script)) zero_of

-- one step more
pub between_more : (script : List Step) (from to : ℕ) (d : Step) → from ≤ to → to < length script →
    between script from (to + 1) ≡ between script from to ++ get_or script to d ∷ []
between_more script from to d up below =
    let size = length-drop from script in
    let more : (to + 1) - from ≡ (to - from) + 1 = omega arith in
    let place : from + (to - from) ≡ to = omega arith in
    ap (λ (n : ℕ). take n (drop from script)) more
    ∙ take_more (drop from script) (to - from) d (omega arith)
    ∙ ap (λ (step : Step). between script from to ++ step ∷ []) (get_or-drop from script (to - from) d ∙ ap (λ (n : ℕ). get_or script n d) place)

-- the same of lines
pub lines_more : (lines : List Line) (from to : ℕ) (line : Line) → from ≤ to → to < length lines →
    between (steps_in lines) from (to + 1) ≡ between (steps_in lines) from to ++ (get_or lines to line).step ∷ []
lines_more lines from to line up below =
    let size = length-map lines (λ (line : Line). line.step) in
    between_more (steps_in lines) from to line.step up (omega arith)
    ∙ ap (λ (step : Step). between (steps_in lines) from to ++ step ∷ []) (get_or-map (λ (line : Line). line.step) lines to line line.step below)

-- no landing was made
pub path_none : (script : List Step) (done : ℕ) → path script [] done ≡ between script 0 done
unfolding path
path_none script done = refl

-- a path begins with nothing
pub path_begins : (script : List Step) → path script [] 0 ≡ []
path_begins script = path_none script 0 ∙ between_none script 0 0 (omega arith)

-- what was made up to the last landing, and then of the script
pub path_is : (script : List Step) (landings : List Landing) (done : ℕ) → path script landings done ≡ (walked script landings).made ++ between script (walked script landings).at done
unfolding path
path_is script landings done = refl

-- one landing more
pub path_lands : (script : List Step) (landings : List Landing) (landing : Landing) (done : ℕ) → landing.at ≡ done →
    path script (landings ++ landing ∷ []) done ≡ path script landings done ++ landing_step landing ∷ []
unfolding path
path_lands script landings landing done at =
    let start : Walked = record { at = 0; made = [] } in
    ap (λ (now : Walked). now.made ++ between script now.at done) (fold_push (landed_then script) start landings landing)
    ∙ ap (λ (steps : List Step). (((walked script landings).made ++ between script (walked script landings).at landing.at) ++ landing_step landing ∷ []) ++ steps)
    (between_none script landing.at done (omega arith))
    ∙ append-nil _
    ∙ ap (λ (n : ℕ). ((walked script landings).made ++ between script (walked script landings).at n) ++ landing_step landing ∷ []) at

-- the last landing stands where some step isn't made yet
walked_by : (script : List Step) (plan : Plan) (done : ℕ) (landings : List Landing) (start : Walked) → start.at ≤ done → All (IsLandingBy plan done) landings →
    (fold (landed_then script) start landings).at ≤ done
walked_by script plan done [] start by all = by
walked_by script plan done (landing ∷ landings) start by all =
    walked_by script plan done landings (landed_then script start landing) (All-head (IsLandingBy plan done) landing landings all).at (All-tail (IsLandingBy plan done) landing landings all)

-- one step of the script more
pub path_goes_on : (script : List Step) (plan : Plan) (landings : List Landing) (done : ℕ) (d : Step) → All (IsLandingBy plan done) landings → done < length script →
    path script landings (done + 1) ≡ path script landings done ++ get_or script done d ∷ []
unfolding path
path_goes_on script plan landings done d all below =
    let now : Walked = walked script landings in
    let by : now.at ≤ done = walked_by script plan done landings (record { at = 0; made = [] }) (omega arith) all in
    ap (λ (steps : List Step). now.made ++ steps) (between_more script now.at done d by below)
    ∙ sym (append_assoc now.made (between script now.at done) (get_or script done d ∷ []))

-- steps that were counted up to an end
pub between_end : (script : List Step) (from place to : ℕ) → from ≤ place → to ≤ place → (to ≤ from → place ≡ from) → (from ≤ to → place ≤ to) →
    between script from place ≡ between script from to
between_end script from place to up past none within =
    let same : place - from ≡ to - from =
    elim (cases_lt from to) [
      | inl before ↦ (let at : place ≤ to = within (omega arith) in omega arith)
      | inr after ↦ (let at : place ≡ from = none after in omega arith)
    ] in
    ap (λ (n : ℕ). take n (drop from script)) same

-- the script up to the next landing, and the landing
pub walked_more : (script : List Step) (landings : List Landing) (i : ℕ) (landing : Landing) → i < length landings →
    walked script (take (i + 1) landings) ≡ landed_then script (walked script (take i landings)) (get_or landings i landing)
walked_more script landings i landing below = fold_more (landed_then script) (record { at = 0; made = [] }) landings i landing below

-- the script after the last landing
pub path_of_walked : (lines : List Line) (script : List Step) (landings : List Landing) (i at done : ℕ) → steps_in lines ≡ script → length landings ≤ i →
    at ≡ (walked script (take i landings)).at → (walked script (take i landings)).made ++ between (steps_in lines) at done ≡ path script landings done
path_of_walked lines script landings i at done same all here =
    ap (λ (steps : List Step). (walked script (take i landings)).made ++ between steps at done) same
    ∙ ap (λ (at : ℕ). (walked script (take i landings)).made ++ between script at done) here
    ∙ ap (λ (landings : List Landing). (walked script landings).made ++ between script (walked script landings).at done) (take_all i landings all)
    ∙ sym (path_is script landings done)
