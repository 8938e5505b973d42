-- The laws of pairs and of paths, in the log of a plan with switches.
use Rattle.std.proofs.Common.{◌≡◌, ℕ, ◌<◌, false, List, [], ◌∷◌, Option, Some, None, refl, sym, ap, ◌∙◌, subst}
use Rattle.std.specs.Prelude.{◌&&◌, nat_lt, not}
use Rattle.std.specs.List.{filter_map}
use Rattle.step_kinds.specs.Subject.{subject_of}
use Rattle.step_kinds.specs.declared.names.LaneName.{LaneName}
use Rattle.step_kinds.specs.declared.names.Side.{Side}
use Rattle.step_kinds.specs.declared.plan.Plan.{Plan}
use Rattle.step_kinds.specs.declared.steps.Answer.TheVariants.{Nothing}
use Rattle.step_kinds.specs.declared.steps.Step.{Step}
use Rattle.step_kinds.specs.declared.steps.Step.TheVariants.{Relay, Xnext}
use Rattle.ledger_model.specs.Log.{Answered, Memories, accepted, delivered, ledger_of, log_of, room_in, up_at}
use Rattle.ledger_laws.specs.Laws.{LogBegins, NumberedFrom, entries_needed, is_again, is_link_down, lane_begun_by, needs_link, refused_earlier, times_of}
use Rattle.ledger_laws.proofs.AgainWhereNoRoom.{again_where_no_room}
use Rattle.ledger_laws.proofs.FramesInOrder.{every_frame_comes_once, every_log_is_in_order}
use Rattle.ledger_laws.proofs.LinkDownWhereNotUp.{link_down_where_not_up}
use Rattle.ledger_laws.proofs.LogGrowth.{log_of-last}
use Rattle.pair_model.specs.Switch.{first, relay_answer}
use Rattle.pair_model.specs.declared.RelayAnswer.{RelayAnswer}
use Rattle.pair_model.specs.declared.RelayAnswer.TheVariants.{Nothing as NoFrame, Short as TooShort, Filtered as Dropped, To as ToPort, Flood as ToOthers}
use Rattle.ledger_model.specs.NetworkLog.{bridge_steps, network_of, on_bridges, switch_log, traced_network}
use Rattle.ledger_model.specs.Network.{Network, answer_of, begin_on, item_of, made_after, next_item, sends_first, sends_from}
use Rattle.ledger_model.specs.Origins.{Carried, Passage, bytes_kept}
use Rattle.ledger_model.specs.Paths.{deliveries, gone_back, path_back}
use Rattle.ledger_model.specs.Ports.{Port, port_on, switch_of}
use Rattle.ledger_laws.specs.NetworkLaws.{FramesComeInOrder, FramesComeOnce, ItemsAgainWhereNoRoom, ItemsLinkDownWhereNotUp, ReadsAlike}
use Rattle.ledger_laws.specs.Paths.{IsFrom, KeepsOrder, PathsKeepOrder, StandsIn, numbered}
use Rattle.ledger_laws.proofs.Bridges.{bridges_have_a_log}
use Rattle.ledger_laws.proofs.ErasedOrigins.{origins_change_nothing}
use Rattle.ledger_laws.proofs.PathOrder.{bridge_paths_keep_order}
use Rattle.ledger_laws.proofs.Readings.{deliveries_on_bridges, log_reads_as_bridges}
use Rattle.ledger_laws.proofs.Subsequences.{all-weaker}

-- the log reads as that of the bridges
reads_as : (plan : Plan) (memories : Memories) (steps : List Step) → ReadsAlike plan (switch_log plan memories steps) (log_of plan memories (bridge_steps plan memories steps))
reads_as plan memories steps = subst (ReadsAlike plan (switch_log plan memories steps)) (bridges_have_a_log plan memories steps) (log_reads_as_bridges plan (switch_log plan memories steps))

-- On a lane of an ordinary pair a session's delivered frames are a prefix of those accepted, numbered from 0.
pub frames_come_in_order : FramesComeInOrder
frames_come_in_order plan memories steps lane session ordinary =
    let same = reads_as plan memories steps in
    let known = every_log_is_in_order plan memories (bridge_steps plan memories steps) lane session ordinary in
    let given = same.same_delivered lane session in
    let taken = same.same_accepted lane session in
    record {
      prefix =
          subst (λ xs. LogBegins xs (accepted plan (switch_log plan memories steps) lane session)) (sym given)
          (subst (λ ys. LogBegins (delivered plan (log_of plan memories (bridge_steps plan memories steps)) lane session) ys) (sym taken) known.prefix);
      accepted_numbers = subst (NumberedFrom 0) (sym taken) known.accepted_numbers;
      delivered_numbers = subst (NumberedFrom 0) (sym given) known.delivered_numbers;
    }

-- On a lane of an ordinary pair no frame number is delivered twice in a session, switches in the plan or not.
pub frames_come_once : FramesComeOnce
frames_come_once plan memories steps lane session n ordinary =
    subst (λ xs. times_of n xs < 2) (sym ((reads_as plan memories steps).same_delivered lane session)) (every_frame_comes_once plan memories (bridge_steps plan memories steps) lane session n ordinary)

-- What an item of the log is

module _ (plan : Plan) (memories : Memories) (net : Network (List ℕ)) (Q : Answered → Type 0)
    (of_relay : (pair : ℕ) (side : Side) (queue switch port : ℕ) (answer : RelayAnswer) → Q (record { step = Relay pair side queue switch port; answer = answer_of answer }))
    (of_rest : (pair : ℕ) (side : Side) (queue dev : ℕ) → Q (record { step = Xnext pair side queue dev; answer = Nothing }))
    (of_bridge : (step : Step) → Q (made_after plan memories net.steps step)) where
  first_item : (pair : ℕ) (side : Side) (queue dev : ℕ) (port : Port) (lane : LaneName) (o : Option (List ℕ)) → Q (item_of bytes_kept plan memories net (Xnext pair side queue dev) (sends_first port lane o))
  first_item pair side queue dev port lane None = of_rest pair side queue dev
  first_item pair side queue dev port lane (Some frame) = of_bridge (begin_on lane frame)

  xnext_item : (pair : ℕ) (side : Side) (queue dev : ℕ) (lane : LaneName) (o : Option Port) → Q (item_of bytes_kept plan memories net (Xnext pair side queue dev) (sends_from net.switches lane o))
  xnext_item pair side queue dev lane None = of_rest pair side queue dev
  xnext_item pair side queue dev lane (Some port) = first_item pair side queue dev port lane (first (switch_of net.switches port) port.place)

  each_item : (step : Step) → Q (next_item bytes_kept plan memories net step)
  each_item (Relay pair side queue switch port) =
      let at : Port = record { switch = switch; place = port } in
      of_relay pair side queue switch port (relay_answer (λ bytes. bytes) (switch_of net.switches at) port)
  each_item (Xnext pair side queue dev) =
      let lane : LaneName = record { pair = pair; from = side; queue = queue } in
      xnext_item pair side queue dev lane (port_on plan lane)
  each_item step = of_bridge step

none_some : (lane : LaneName) → None ≡ Some lane → ⊥
none_some lane e = cc

-- On an ordinary pair a begin is `again` if and only if it isn't refused earlier and its ring has too little room.
pub items_again_where_no_room : ItemsAgainWhereNoRoom
items_again_where_no_room plan memories steps step lane ordinary =
    each_item plan memories (network_of plan memories steps) IsRight (λ pair side queue switch port answer e. absurd (none_some lane e)) (λ pair side queue dev e. absurd (none_some lane e))
    (λ made e. again_where_no_room plan memories own made (made_after plan memories own made).answer lane ordinary e (log_of-last plan memories own made)
    ∙ ap (λ room. not (refused_earlier plan (ledger_of plan memories own lane.pair) made) && nat_lt room (entries_needed plan lane made)) (sym ((reads_as plan memories steps).same_room lane))) step
  where
    own : List Step
    own = bridge_steps plan memories steps

    IsRight : Answered → Type 0
    IsRight made =
        lane_begun_by made.step ≡ Some lane → is_again made.answer
        ≡ (not (refused_earlier plan (ledger_of plan memories (bridge_steps plan memories steps) lane.pair) made.step)
        && nat_lt (room_in plan (switch_log plan memories steps) lane) (entries_needed plan lane made.step))

no_link_down : (answer : RelayAnswer) → is_link_down (answer_of answer) ≡ false
no_link_down NoFrame = refl
no_link_down (TooShort len) = refl
no_link_down Dropped = refl
no_link_down (ToPort port) = refl
no_link_down (ToOthers count) = refl

-- A step is answered `linkdown` if and only if it needs a link that isn't up, by the last link step of its pair that
-- wasn't refused, or by the plan.
pub items_link_down_where_not_up : ItemsLinkDownWhereNotUp
items_link_down_where_not_up plan memories steps step =
    each_item plan memories (network_of plan memories steps) IsRight (λ pair side queue switch port answer. no_link_down answer) (λ pair side queue dev. refl)
    (λ made. link_down_where_not_up plan memories own made (made_after plan memories own made).answer (log_of-last plan memories own made)
    ∙ ap (λ up. needs_link made && not up) (sym ((reads_as plan memories steps).same_up (subject_of made)))) step
  where
    own : List Step
    own = bridge_steps plan memories steps

    IsRight : Answered → Type 0
    IsRight made = is_link_down made.answer ≡ (needs_link made.step && not (up_at plan (subject_of made.step) (switch_log plan memories steps)))

-- Paths

same_path : (one other : LaneName → List Carried) (passages : List (Passage Carried)) → ((lane : LaneName) → one lane ≡ other lane) → (lane : LaneName) (others : List LaneName)
    → path_back one passages lane others ≡ path_back other passages lane others
same_path one other passages same lane [] = same lane
same_path one other passages same lane (next ∷ others) = ap (filter_map (gone_back passages lane)) (same_path one other passages same next others)

keeps_alike : (plan : Plan) (log other : List Answered) (lane : LaneName) (path : List Carried) → ReadsAlike plan log other → KeepsOrder plan other lane path → KeepsOrder plan log lane path
keeps_alike plan log other lane path same keeps = record {
  whole =
      all-weaker (IsFrom plan other lane) (IsFrom plan log lane)
      (λ frame known. record {
        on_lane = known.on_lane;
        delivered_there = subst (StandsIn (numbered frame)) (sym (same.same_delivered lane frame.origin.session)) known.delivered_there;
        accepted_there = subst (StandsIn (numbered frame)) (sym (same.same_accepted lane frame.origin.session)) known.accepted_there;
      }) path keeps.whole;
  once = keeps.once;
  in_order = keeps.in_order;
}

-- Over lanes of ordinary pairs joined by switches, frames keep their bytes and order, and none comes twice.
pub paths_keep_order : PathsKeepOrder
paths_keep_order plan memories steps first others ordinary =
    let net = traced_network plan memories steps in
    let made : net.steps ≡ bridge_steps plan memories steps = ap (λ (n : Network (List ℕ)). n.steps) (origins_change_nothing plan memories steps).1 in
    let own = log_of plan memories net.steps in
    let is : on_bridges (switch_log plan memories steps) ≡ own = bridges_have_a_log plan memories steps ∙ ap (log_of plan memories) (sym made) in
    subst (KeepsOrder plan (switch_log plan memories steps) first)
    (sym (same_path (deliveries plan (switch_log plan memories steps)) (deliveries plan own) net.passages
    (λ lane. deliveries_on_bridges plan (switch_log plan memories steps) lane ∙ ap (λ log. deliveries plan log lane) is) first others))
    (keeps_alike plan (switch_log plan memories steps) own first (path_back (deliveries plan own) net.passages first others)
    (subst (ReadsAlike plan (switch_log plan memories steps)) is (log_reads_as_bridges plan (switch_log plan memories steps)))
    (bridge_paths_keep_order plan memories steps first others ordinary))
