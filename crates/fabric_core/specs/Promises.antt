-- What is promised of a bridge stays so through steps, and a bridge that differs in promised pages alone.
use Rattle.std.specs.Prelude.{◌≡◌, ℕ, ◌<◌, Contains, List}
use Rattle.step_kinds.specs.declared.names.Side.{Side}
use Rattle.step_kinds.specs.declared.places.BridgeStep.{BridgeStep}
use Rattle.step_kinds.specs.declared.places.BridgeStep.TheVariants.{Ready, Join, Check, Spad, Poke, ShowMem, ShowPad}
use Rattle.pair_model.specs.DeclaredPlans.{IsPoke, IsShown}
use Rattle.pair_model.specs.Plans.{side_plan}
use Rattle.bridge_pair.specs.Bridge.{Bridge, pages_of, flight_of}
use Rattle.plan_numbers.specs.Memories.{WindowsFit}
use Rattle.hand_shake.specs.Checks.{check_answer}
use Rattle.hand_shake.specs.declared.CheckAnswer.TheVariants.{Up}

-- the plan, each page that was promised, and each side's room
pub record KeepsPromised (old new : Bridge) : Type 0 where
  pub plan : new.plan ≡ old.plan
  pub pages : (side : Side) (page : ℕ) → Contains (pages_of old side) page → Contains (pages_of new side) page
  pub spare : (side : Side) → (flight_of new side).spare ≡ (flight_of old side).spare

-- the same bridge with these pages promised at its sides
abbrev pub with_promised : Bridge → List ℕ → List ℕ → Bridge
with_promised bridge a b =
    record bridge { memories = record { a = record { bytes = bridge.memories.a.bytes; promised = a }; b = record { bytes = bridge.memories.b.bytes; promised = b } } }

-- further pages may be promised, and all else is the same
pub record HasMorePages (old new : Bridge) : Type 0 where
  pub rest : new ≡ with_promised old new.memories.a.promised new.memories.b.promised
  pub stay : (side : Side) (page : ℕ) → Contains (pages_of old side) page → Contains (pages_of new side) page

-- what a step on the bridge needs of its numbers, and where a side would come up, of the plan
abbrev pub CanTurn : Bridge → BridgeStep → Type 0
CanTurn bridge (Check side) = check_answer bridge side ≡ Up → WindowsFit bridge.plan side
CanTurn bridge (Ready side queue) = queue < (side_plan bridge.plan side).queues
CanTurn bridge (Join side queue) = queue < (side_plan bridge.plan side).queues
CanTurn bridge (Spad side i value) = i < 16
CanTurn bridge (Poke side window offset bytes) = IsPoke bridge.plan side window offset bytes.now
CanTurn bridge (ShowMem side at len) = IsShown (side_plan bridge.plan side) at len
CanTurn bridge (ShowPad side i) = i < 16
CanTurn bridge step = Unit {0}
