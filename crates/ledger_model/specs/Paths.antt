-- The paths of frames over lanes that are joined by switches.
use Rattle.std.specs.Prelude.{ℕ, ◌+◌, ◌==◌, Bool, ◌&&◌, List, [], ◌∷◌, ◌++◌, Option, map, option_map, if◌then◌else◌}
use Rattle.std.specs.List.{filter_map, find}
use Rattle.step_kinds.specs.Sides.{same_lane}
use Rattle.step_kinds.specs.declared.names.LaneName.{LaneName}
use Rattle.step_kinds.specs.declared.plan.Plan.{Plan}
use Rattle.step_kinds.specs.declared.steps.Step.{Step}
use Rattle.ledger_model.specs.Log.{Answered, Memories, Numbered, delivers, first_session, trains}
use Rattle.ledger_model.specs.NetworkLog.{switch_log, traced_network}
use Rattle.ledger_model.specs.Origins.{Carried, Origin, Passage}

-- a frame on a lane in a session
abbrev pub placed : LaneName → ℕ → Numbered → Carried
placed lane session frame = record { bytes = frame.bytes; origin = record { lane = lane; session = session; number = frame.number } }

-- the frames that a reading finds on a lane, each with its session, if the lane's pair is in session `now`
abbrev pub placed_from : (Answered → List Numbered) → LaneName → ℕ → List Answered → List Carried
placed_from read lane now [] = []
placed_from read lane now (made ∷ log) = map (placed lane now) (read made) ++ placed_from read lane (if trains lane.pair made then now + 1 else now) log

-- the frames that were delivered on a lane, in all sessions
abbrev pub deliveries : Plan → List Answered → LaneName → List Carried
deliveries plan log lane = placed_from (delivers lane) lane (first_session plan lane.pair) log

abbrev pub same_origin : Origin → Origin → Bool
same_origin one other = same_lane one.lane other.lane && (one.session == other.session && (one.number == other.number))

-- whether this is the passage of a frame from a lane to where it was begun
abbrev pub leads : LaneName → Origin → Passage Carried → Bool
leads lane begun passage = same_lane passage.frame.origin.lane lane && same_origin passage.begun begun

-- a frame goes back by its passage to its origin on a lane, if it came from there
abbrev pub gone_back : List (Passage Carried) → LaneName → Carried → Option Carried
gone_back passages lane frame = option_map (λ passage. record frame { origin = passage.frame.origin }) (find (leads lane frame.origin) passages)

-- the frames delivered on the last of these lanes whose origins go back through just these to the first, each with its
-- origin there
abbrev pub path_back : (LaneName → List Carried) → List (Passage Carried) → LaneName → List LaneName → List Carried
path_back delivered passages lane [] = delivered lane
path_back delivered passages lane (next ∷ others) = filter_map (gone_back passages lane) (path_back delivered passages next others)

abbrev pub path_frames : Plan → Memories → List Step → LaneName → List LaneName → List Carried
path_frames plan memories steps lane others = path_back (deliveries plan (switch_log plan memories steps)) (traced_network plan memories steps).passages lane others
