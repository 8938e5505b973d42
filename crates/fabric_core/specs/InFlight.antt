-- What is in flight: from which place on nothing lands, and a key by which few fabrics are looked at.
use Rattle.std.specs.Prelude.{◌≡◌, ℕ, ◌+◌, ◌%◌, ◌≤◌, List, [], ◌∷◌, ◌++◌, drop, remove, take}
use Rattle.std.specs.List.{flat_map}
use Rattle.step_kinds.specs.declared.names.Side.{Side}
use Rattle.step_kinds.specs.declared.names.Side.TheVariants.{A, B}
use Rattle.step_kinds.specs.declared.plan.Plan.{Plan}
use Rattle.step_kinds.specs.declared.steps.Answer.TheVariants.{Landed, Nothing}
use Rattle.step_kinds.specs.declared.steps.Label.{Label}
use Rattle.step_kinds.specs.declared.steps.Label.TheVariants.{Chunk, Len, Ver, Flag, Down, Bell, Index, Pad, Raw}
use Rattle.step_kinds.specs.declared.steps.Step.{Step}
use Rattle.step_kinds.specs.declared.steps.Step.TheVariants.{Land}
use Rattle.bridge_pair.specs.Bridge.{Bridge, flight_of}
use Rattle.bridge_pair.specs.Flights.{Flying}
use Rattle.fabric_rule.specs.Parts.{PairState}
use Rattle.fabric_core.specs.Fabric.{FabricState, pair_of}
use Rattle.fabric_core.specs.LogClauses.{HasMade, IsAnswered}

-- whatever steps a fabric represents, a landing of that side at this place or a later one is answered `nothing` after
-- them
abbrev pub LandsNoneFrom : FabricState → ℕ → Side → ℕ → Type 0
LandsNoneFrom fabric pair side count =
    (plan : Plan) (steps : List Step) → HasMade plan steps fabric → (place : ℕ) → count ≤ place → IsAnswered plan steps (Land pair side place) Nothing

-- The key: of each write in flight what its label is, and up to three of its numbers, each modulo 256

abbrev pub low_byte : ℕ → ℕ
low_byte n = n % 256

abbrev pub label_key : Label → List ℕ
label_key (Chunk queue n part) = 1 ∷ low_byte queue ∷ low_byte n ∷ low_byte part ∷ []
label_key (Len queue n) = 2 ∷ low_byte queue ∷ low_byte n ∷ 0 ∷ []
label_key (Ver queue n) = 3 ∷ low_byte queue ∷ low_byte n ∷ 0 ∷ []
label_key (Flag queue n) = 4 ∷ low_byte queue ∷ low_byte n ∷ 0 ∷ []
label_key (Down queue n) = 5 ∷ low_byte queue ∷ low_byte n ∷ 0 ∷ []
label_key (Bell queue) = 6 ∷ low_byte queue ∷ 0 ∷ 0 ∷ []
label_key (Index queue n) = 7 ∷ low_byte queue ∷ low_byte n ∷ 0 ∷ []
label_key (Pad i value) = 8 ∷ low_byte i ∷ low_byte value ∷ 0 ∷ []
label_key (Raw window offset len) = 9 ∷ low_byte window ∷ low_byte offset ∷ low_byte len ∷ []

-- of some writes in their order
abbrev pub labels_key : List Flying → List ℕ
labels_key writes = flat_map (λ (flying : Flying). label_key flying.label) writes

-- of all writes of a side in the order in which they were posted, and a zero after them
abbrev pub flight_key : Bridge → Side → List ℕ
flight_key bridge side = labels_key (flight_of bridge side).writes ++ 0 ∷ []

abbrev pub pair_key : PairState → List ℕ
pair_key pair = flight_key pair.bridge A ++ flight_key pair.bridge B

abbrev pub fabric_key : FabricState → List ℕ
fabric_key fabric = flat_map pair_key fabric.pairs

-- The key without a write: that of the fabric once the write has landed

abbrev pub flight_key_without : Bridge → Side → ℕ → List ℕ
flight_key_without bridge side place = labels_key (remove (flight_of bridge side).writes place) ++ 0 ∷ []

abbrev pub pair_key_without : PairState → Side → ℕ → List ℕ
pair_key_without pair A place = flight_key_without pair.bridge A place ++ flight_key pair.bridge B
pair_key_without pair B place = flight_key pair.bridge A ++ flight_key_without pair.bridge B place

abbrev pub fabric_key_without : FabricState → ℕ → Side → ℕ → List ℕ
fabric_key_without fabric k side place =
    flat_map pair_key (take k fabric.pairs) ++ pair_key_without (pair_of fabric k) side place ++ flat_map pair_key (drop (k + 1) fabric.pairs)

-- Fabrics that have made one list of steps have the same key.
abbrev pub SameKeys : Type 0
SameKeys = (plan : Plan) (steps : List Step) (fabric other : FabricState) →
    HasMade plan steps fabric → HasMade plan steps other → fabric_key fabric ≡ fabric_key other

-- If a landing is answered `landed`, the key without that write is the key of each fabric that has made the same steps
-- and the landing after them.
abbrev pub KeyOnceLanded : Type 0
KeyOnceLanded = (plan : Plan) (steps : List Step) (pair : ℕ) (side : Side) (place : ℕ) (label : Label) (fabric other : FabricState) →
    HasMade plan steps fabric → IsAnswered plan steps (Land pair side place) (Landed label) → HasMade plan (steps ++ Land pair side place ∷ []) other →
    fabric_key_without fabric pair side place ≡ fabric_key other
