-- Landing a write changes none of the entries that the sender began.
use Rattle.std.proofs.Common.{◌≡◌, ℕ, Bool, true, false, cond, List, Option, Some, None, refl}
use Rattle.lane_model.specs.Lane.{Entry, Lane}
use Rattle.lane_model.specs.Steps.{after_landing}
use Rattle.lane_model.specs.declared.Write.{Write}
use Rattle.lane_model.specs.declared.Write.TheVariants.{Data, Flag, Bell}
use Rattle.lane_core.specs.Calls.{LaneValue, core_after_land, after_found}

-- a choice between two lanes that have the same entries
sent-either : (b : Bool) (lane other : Lane) (sent : List Entry) → lane.sent ≡ sent → other.sent ≡ sent → (cond b lane other).sent ≡ sent
sent-either true lane other sent e f = e
sent-either false lane other sent e f = f

sent-landing : (lane : Lane) (mark : Write) (rest : List Write) → (after_landing lane mark rest).sent ≡ lane.sent
sent-landing lane (Data n field) rest = refl
sent-landing lane (Flag n) rest = refl
sent-landing lane Bell rest = refl

-- A landing at any place in flight leaves the entries that the sender began as they were.
pub sent-land : (value : LaneValue) (place : ℕ) → (core_after_land value place).sent ≡ value.lane.sent
sent-land value place = go _
  where
    go : (found : Option Write) → (after_found value place found).sent ≡ value.lane.sent
    go None = refl
    go (Some mark) = sent-either _ (after_landing value.lane mark _) value.lane value.lane.sent (sent-landing value.lane mark _) refl
