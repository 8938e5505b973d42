-- What holds of the paths of frames over lanes that are joined by switches.
use Rattle.std.specs.Prelude.{◌≡◌, ◌<◌, ◌⊎◌, List, [], ◌∷◌, map}
use Rattle.std.specs.List.{AllByRecursion, IsDistinct}
use Rattle.step_kinds.specs.declared.names.LaneName.{LaneName}
use Rattle.step_kinds.specs.declared.plan.Plan.{Plan}
use Rattle.step_kinds.specs.declared.steps.Step.{Step}
use Rattle.ledger_model.specs.Log.{Answered, Memories, Numbered, accepted, delivered}
use Rattle.ledger_laws.specs.Laws.{IsOrdinaryPair}
use Rattle.ledger_model.specs.NetworkLog.{switch_log}
use Rattle.ledger_model.specs.Origins.{Carried, Origin}
use Rattle.ledger_model.specs.Paths.{path_frames, same_origin}

-- an item stands in a list
abbrev pub StandsIn : {A : Type 0} → A → List A → Type 0
StandsIn x [] = ⊥
StandsIn x (y ∷ ys) = (x ≡ y) ⊎ StandsIn x ys

-- each item is before all later ones
abbrev pub Rises : {A : Type 0} → (A → A → Type 0) → List A → Type 0
Rises R [] = Unit {0}
Rises R (x ∷ xs) = AllByRecursion (R x) xs × Rises R xs

-- an origin on a lane is before another one there: in an earlier session, or in the same one with a lower number
abbrev pub IsBefore : Origin → Origin → Type 0
IsBefore one other = (one.session < other.session) ⊎ ((one.session ≡ other.session) × (one.number < other.number))

-- the frame of an origin, with its number
abbrev pub numbered : Carried → Numbered
numbered frame = record { number = frame.origin.number; bytes = frame.bytes }

-- a frame has its origin on a lane, and the bytes that were accepted and delivered there
pub record IsFrom (plan : Plan) (log : List Answered) (lane : LaneName) (frame : Carried) : Type 0 where
  pub on_lane : frame.origin.lane ≡ lane
  pub delivered_there : StandsIn (numbered frame) (delivered plan log lane frame.origin.session)
  pub accepted_there : StandsIn (numbered frame) (accepted plan log lane frame.origin.session)

-- The frames of a path have the bytes of their origins, in no origin twice, and the origins rise by session and number.
pub record KeepsOrder (plan : Plan) (log : List Answered) (lane : LaneName) (path : List Carried) : Type 0 where
  pub whole : AllByRecursion (IsFrom plan log lane) path
  pub once : IsDistinct same_origin (map (λ frame. frame.origin) path)
  pub in_order : Rises IsBefore (map (λ frame. frame.origin) path)

-- the pairs of these lanes aren't raw
abbrev pub AreOrdinary : Plan → List LaneName → Type 0
AreOrdinary plan lanes = AllByRecursion (λ lane. IsOrdinaryPair plan lane.pair) lanes

-- over each list of lanes of ordinary pairs, in every log
abbrev pub PathsKeepOrder : Type 0
PathsKeepOrder = (plan : Plan) (memories : Memories) (steps : List Step) (first : LaneName) (others : List LaneName) →
    AreOrdinary plan (first ∷ others) → KeepsOrder plan (switch_log plan memories steps) first (path_frames plan memories steps first others)
