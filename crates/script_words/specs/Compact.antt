-- What one line gives beside steps, as the code keeps it: a flood by its count and length.
use Rattle.std.specs.Prelude.{ℕ, List, [], ◌∷◌, map}
use Rattle.step_kinds.specs.declared.names.LaneName.{LaneName}
use Rattle.step_kinds.specs.declared.plan.Traffic.{Traffic}
use Rattle.step_kinds.specs.declared.plan.Traffic.TheVariants.{Send, Break as LinkLoss}
use Rattle.lane_model.specs.Lane.{count_from}
use Rattle.script_words.specs.Before.{Given, Nothing, Host, APair, ADevice, AClass, ASwitch, StepsBegin, TrafficBegins, MoreTraffic}
use Rattle.script_words.specs.TrafficLines.{flood_frame}
use Rattle.script_words.specs.declared.line_gives.Given.{Given as Compact}
use Rattle.script_words.specs.declared.line_gives.Given.TheVariants.{Nothing as GivesNothing, Host as GivesHost, Pair as GivesPair, Device as GivesDevice, Class as GivesClass, Switch as GivesSwitch, StepsBegin as BeginsSteps, TrafficBegins as BeginsTraffic, Frame as GivesFrame, Flood as GivesFlood, Break as GivesBreak}

-- the frames of a flood
abbrev pub flood_of : LaneName → ℕ → ℕ → List Traffic
flood_of lane count len = map (λ i. Send lane (flood_frame len i)) (count_from 0 count)

-- what the line gives
abbrev pub given_of : Compact → Given
given_of GivesNothing = Nothing
given_of (GivesHost name) = Host name
given_of (GivesPair pair hosts) = APair pair.value hosts
given_of (GivesDevice dev) = ADevice dev
given_of (GivesClass queue class) = AClass queue class
given_of (GivesSwitch switch) = ASwitch switch
given_of BeginsSteps = StepsBegin
given_of BeginsTraffic = TrafficBegins
given_of (GivesFrame lane frame) = MoreTraffic (Send lane frame ∷ [])
given_of (GivesFlood lane count len) = MoreTraffic (flood_of lane count len)
given_of (GivesBreak pair) = MoreTraffic (LinkLoss pair ∷ [])
