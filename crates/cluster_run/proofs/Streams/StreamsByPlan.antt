-- Records of streams that come to the keys of the plan's lanes make the record resumed.
use Rattle.std.proofs.Common.{ℕ, ◌+◌, List, [], ◌∷◌, sym, ◌∙◌, ap, subst}
use Rattle.step_kinds.specs.declared.names.LaneName.{LaneName}
use Rattle.step_kinds.specs.declared.plan.Plan.{Plan}
use Rattle.table_lane.specs.EndOfLane.{Shown}
use Rattle.traffic_plan.specs.Lanes.{frames_on}
use Rattle.stream_model.specs.Resumed.{IsResumed}
use Rattle.cluster_run.specs.Lanes.{traffic_lanes, entries_on, losses_on}
use Rattle.cluster_run.specs.LaneKeys.{key_of, keys_from, ComeTo}
use Rattle.cluster_run.proofs.Facade.{all_keys, names_of}
use Rattle.cluster_run.specs.stream.Keys.{StreamComesTo}
use Rattle.cluster_run.specs.stream.Streams.{AreResumed, AreStreams, IsStream, StreamShown, stream_proofs}

-- streams that come to the keys of these names
is_stream : (plan : Plan) (number : ℕ) (name : LaneName) (lane : StreamShown) (proofs : List Shown) → StreamComesTo (key_of plan number name) lane proofs → IsStream plan lane proofs
is_stream plan number name lane proofs come = record {
  sessions = come.sessions;
  counted = come.counted;
  losses = come.losses ∙ ap (λ (n : LaneName). 1 + losses_on plan n) (sym come.name);
  shown = come.shown ∙ ap (λ (n : LaneName). stream_proofs (entries_on plan n) come.sessions) (sym come.name);
  in_order = come.in_order;
  resumed = subst (λ (n : LaneName). IsResumed (frames_on n plan.traffic) come.sessions lane.items) (sym come.name) come.resumed;
}

are_streams : (plan : Plan) (number : ℕ) (names : List LaneName) (run : List StreamShown) (proofs : List Shown) → ComeTo StreamComesTo (keys_from plan number names) run proofs → AreStreams plan run proofs
are_streams plan number [] [] proofs come = come
are_streams plan number [] (lane ∷ run) proofs come = absurd come
are_streams plan number (name ∷ names) [] proofs come = absurd come
are_streams plan number (name ∷ names) (lane ∷ run) proofs come = (come.0, come.1, come.2, is_stream plan number name lane come.0 come.3, are_streams plan (number + 1) names run come.1 come.4)

-- A record of streams that comes to the keys of all the plan's lanes with traffic is resumed by its proofs.
pub are_resumed : (plan : Plan) (run : List StreamShown) (proofs : List Shown) → ComeTo StreamComesTo (all_keys plan) run proofs → AreResumed plan run proofs
are_resumed plan run proofs come = record { lanes = names_of StreamComesTo (λ (lane : StreamShown). lane.name) (λ key lane proofs come. come.name) plan 0 (traffic_lanes plan) run proofs come; each = are_streams plan 0 (traffic_lanes plan) run proofs come }
