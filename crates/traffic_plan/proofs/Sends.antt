-- The frames on a lane, item by item.
use Rattle.std.proofs.Common.{◌≡◌, ℕ, ◌+◌, ◌<◌, List, [], ◌∷◌, ◌++◌, length, take, get_or, sym, ◌∙◌, ap}
use Rattle.std.proofs.lemmas.List.{take_more}
use Rattle.std.proofs.lemmas.List.Elements.{filter_map-append}
use Rattle.step_kinds.specs.declared.names.LaneName.{LaneName}
use Rattle.step_kinds.specs.declared.plan.Traffic.{Traffic}
use Rattle.traffic_plan.specs.Lanes.{frame_on, frames_on}

-- The frames on a lane of the first i+1 items of traffic are those of the first i and then those of item i alone.
pub frames_on_more : (lane : LaneName) (items : List Traffic) (i : ℕ) (item : Traffic) → i < length items → item ≡ get_or items i item
    → frames_on lane (take (i + 1) items) ≡ frames_on lane (take i items) ++ frames_on lane (item ∷ [])
frames_on_more lane items i item h is =
    ap (frames_on lane) (take_more items i item h)
    ∙ (filter_map-append (frame_on lane) (take i items) (get_or items i item ∷ []) ∙ ap (λ x. frames_on lane (take i items) ++ frames_on lane (x ∷ [])) (sym is))
