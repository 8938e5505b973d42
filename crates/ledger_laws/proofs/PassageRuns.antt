-- What a network has of the frames between two lanes, after every list of steps.
use Rattle.std.proofs.Common.{◌≡◌, ℕ, zero, suc, Bool, true, false, List, [], ◌∷◌, ◌++◌, Option, Some, None, length, map, refl, sym, ap, ◌∙◌, subst}
use Rattle.std.specs.Prelude.{if◌then◌else◌, replicate, slice_get}
use Rattle.std.specs.List.{AllByRecursion}
use Rattle.step_kinds.specs.Sides.{other_side}
use Rattle.step_kinds.specs.declared.names.LaneName.{LaneName}
use Rattle.step_kinds.specs.declared.names.Side.{Side}
use Rattle.step_kinds.specs.declared.plan.Plan.{Plan}
use Rattle.step_kinds.specs.declared.plan.SwitchPlan.{SwitchPlan}
use Rattle.step_kinds.specs.declared.steps.Answer.{Answer}
use Rattle.step_kinds.specs.declared.steps.Answer.TheVariants.{Delivered}
use Rattle.step_kinds.specs.declared.steps.Step.{Step}
use Rattle.step_kinds.specs.declared.steps.Step.TheVariants.{Copy, Relay, Xnext}
use Rattle.ledger_model.specs.Log.{Memories, accepts, delivers, first_session, is_on, log_of}
use Rattle.ledger_laws.proofs.LogGrowth.{log_of-last}
use Rattle.pair_model.specs.Switch.{Switch, first, list_of, new_switch}
use Rattle.ledger_model.specs.Network.{Network, OnBridge, Sends, begin_on, made_after, network_after, network_from, new_network, next_network, sends_first, sends_from, session_after, switches_reached}
use Rattle.ledger_model.specs.Origins.{Carried, origins_kept}
use Rattle.ledger_model.specs.Paths.{deliveries, placed}
use Rattle.ledger_model.specs.Ports.{Port, new_switches, port_on, receiver_of, switch_of}
use Rattle.ledger_laws.proofs.Passages.{AllLead, LeadsTo, Routed, arrival_keeps, relay_keeps, send_keeps}
use Rattle.ledger_laws.proofs.PlacedFrames.{placed_from-last, session_from, session_from-count}
use Rattle.ledger_laws.proofs.Places.{lane_is, receiver-towards}
use Rattle.ledger_laws.proofs.PortLists.{first_first}
use Rattle.ledger_laws.proofs.Routes.{acceptances, begun_on, from_lane, inbox, part-more, queue, where_port}
use Rattle.ledger_laws.proofs.Subsequences.{IsPartOf, Ends, Takes}
use Rattle.ledger_laws.proofs.WaitingHeaders.{all-get}

module _ (plan : Plan) (memories : Memories) (one other : LaneName) where
  pub record Kept (net : Network Carried) : Type 0 where
    pub leads : AllLead plan one other net.switches
    pub routed : Routed plan one other net.passages net.switches (deliveries plan (log_of plan memories net.steps) one)
    pub begun : IsPartOf (begun_on other net.passages) (acceptances plan (log_of plan memories net.steps) other)

  -- the log's session of a pair
  now_of : (lane : LaneName) (steps : List Step) → session_after plan memories steps lane.pair ≡ session_from lane.pair (first_session plan lane.pair) (log_of plan memories steps)
  now_of lane steps = sym (session_from-count lane.pair (first_session plan lane.pair) (log_of plan memories steps))

  abbrev now : LaneName → List Step → ℕ
  now lane steps = session_from lane.pair (first_session plan lane.pair) (log_of plan memories steps)

  deliveries-last : (steps : List Step) (step : Step) → deliveries plan (log_of plan memories (steps ++ step ∷ [])) one
      ≡ deliveries plan (log_of plan memories steps) one ++ map (placed one (now one steps)) (delivers one (made_after plan memories steps step))
  deliveries-last steps step =
      ap (λ log. deliveries plan log one) (log_of-last plan memories steps step)
      ∙ placed_from-last (delivers one) one (first_session plan one.pair) (log_of plan memories steps) (made_after plan memories steps step)

  acceptances-last : (steps : List Step) (step : Step) → acceptances plan (log_of plan memories (steps ++ step ∷ [])) other
      ≡ acceptances plan (log_of plan memories steps) other ++ map (placed other (now other steps)) (accepts plan other (made_after plan memories steps step))
  acceptances-last steps step =
      ap (λ log. acceptances plan log other) (log_of-last plan memories steps step)
      ∙ placed_from-last (accepts plan other) other (first_session plan other.pair) (log_of plan memories steps) (made_after plan memories steps step)

  -- a step on a bridge
  module _ (net : Network Carried) (kept : Kept net) where
    abbrev all : List Carried
    all = deliveries plan (log_of plan memories net.steps) one

    own_delivery : (pair : ℕ) (side : Side) (queue number : ℕ) (frame : List ℕ)
        → IsPartOf
        (from_lane one (record { bytes = frame; origin = record { lane = record { pair = pair; from = other_side side; queue = queue }; session = session_after plan memories net.steps pair; number = number } } ∷ []))
        (map (placed one (now one net.steps)) (delivers one (record { step = Copy pair side queue; answer = Delivered number frame })))
    own_delivery pair side queue number frame = by (is_on one pair (other_side side) queue) refl
      where
        lane : LaneName
        lane = record { pair = pair; from = other_side side; queue = queue }

        here : Carried
        here = record { bytes = frame; origin = record { lane = lane; session = session_after plan memories net.steps pair; number = number } }

        by : (b : Bool) → is_on one pair (other_side side) queue ≡ b
            → IsPartOf (if b then here ∷ [] else []) (map (placed one (now one net.steps)) (if b then record { number = number; bytes = frame } ∷ [] else []))
        by true e =
            let is : lane ≡ one = lane_is one pair (other_side side) queue e in
            let same : here ≡ placed one (now one net.steps) (record { number = number; bytes = frame }) =
            ap (λ (l : LaneName). record { bytes = frame; origin = record { lane = l; session = session_after plan memories net.steps l.pair; number = number } }) is
            ∙ ap (λ n. record { bytes = frame; origin = record { lane = one; session = n; number = number } }) (now_of one net.steps) in
            subst (λ c. IsPartOf (here ∷ []) (c ∷ [])) same (Takes here Ends)
        by false e = Ends

    bridge_reached : (step : Step) (answer : Answer)
        → AllLead plan one other (switches_reached origins_kept plan memories net.switches (session_after plan memories net.steps) step answer)
        × Routed plan one other net.passages (switches_reached origins_kept plan memories net.switches (session_after plan memories net.steps) step answer)
        (all ++ map (placed one (now one net.steps)) (delivers one (record { step = step; answer = answer })))
    bridge_reached (Copy pair side queue) (Delivered number frame) =
        let lane : LaneName = record { pair = pair; from = other_side side; queue = queue } in
        let here : Carried = record { bytes = frame; origin = record { lane = lane; session = session_after plan memories net.steps pair; number = number } } in
        arrival_keeps plan one other net.passages net.switches all (map (placed one (now one net.steps)) (delivers one (record { step = Copy pair side queue; answer = Delivered number frame })))
        here kept.leads kept.routed (own_delivery pair side queue number frame) (port_on plan (record { pair = pair; from = side; queue = queue })) (ap (port_on plan) (receiver-towards pair side queue))
    bridge_reached step answer = (kept.leads, part-more (map (placed one (now one net.steps)) (delivers one (record { step = step; answer = answer }))) kept.routed)

    bridge_kept : (step : Step) → Kept (network_after origins_kept plan memories net step OnBridge)
    bridge_kept step =
        let reached = bridge_reached step (made_after plan memories net.steps step).answer in
        let switches = switches_reached origins_kept plan memories net.switches (session_after plan memories net.steps) step (made_after plan memories net.steps step).answer in
        record {
          leads = reached.0;
          routed = subst (Routed plan one other net.passages switches) (sym (deliveries-last net.steps step)) reached.1;
          begun = subst (IsPartOf (begun_on other net.passages)) (sym (acceptances-last net.steps step))
              (part-more (map (placed other (now other net.steps)) (accepts plan other (made_after plan memories net.steps step))) kept.begun);
        }

    -- a frame that waits is sent
    sent_kept : (step : Step) (port : Port) (lane : LaneName) → port_on plan lane ≡ Some port → (o : Option Carried) → first (switch_of net.switches port) port.place ≡ o
        → Kept (network_after origins_kept plan memories net step (sends_first port lane o))
    sent_kept step port lane at_port None e = kept
    sent_kept step port lane at_port (Some frame) e =
        let begin = begin_on lane frame.bytes in
        let sent = send_keeps plan one other net.passages net.switches all (acceptances plan (log_of plan memories net.steps) other) port frame lane (session_after plan memories net.steps lane.pair)
        (now other net.steps) kept.leads kept.routed kept.begun at_port (first_first (queue net.switches port) frame e)
        (λ is. ap (λ (l : LaneName). session_after plan memories net.steps l.pair) is ∙ now_of other net.steps) (made_after plan memories net.steps begin).answer in
        record {
          leads = sent.0;
          routed = subst (Routed plan one other (network_after origins_kept plan memories net step (Sends port lane frame)).passages (network_after origins_kept plan memories net step (Sends port lane frame)).switches)
              (sym (deliveries-last net.steps begin)) (part-more (map (placed one (now one net.steps)) (delivers one (made_after plan memories net.steps begin))) sent.1);
          begun = subst (IsPartOf (begun_on other (network_after origins_kept plan memories net step (Sends port lane frame)).passages)) (sym (acceptances-last net.steps begin)) sent.2;
        }

    xnext_kept : (step : Step) (lane : LaneName) (o : Option Port) → port_on plan lane ≡ o → Kept (network_after origins_kept plan memories net step (sends_from net.switches lane o))
    xnext_kept step lane None e = kept
    xnext_kept step lane (Some port) e = sent_kept step port lane e (first (switch_of net.switches port) port.place) refl

  kept_next : (net : Network Carried) → Kept net → (step : Step) → Kept (next_network origins_kept plan memories net step)
  kept_next net kept (Relay pair side queue switch port) =
      let at : Port = record { switch = switch; place = port } in
      let relayed = relay_keeps plan one other net.passages net.switches (deliveries plan (log_of plan memories net.steps) one) at kept.leads kept.routed (slice_get (inbox net.switches at) 0) refl in
      record { leads = relayed.0; routed = relayed.1; begun = kept.begun }
  kept_next net kept (Xnext pair side queue dev) =
      let lane : LaneName = record { pair = pair; from = side; queue = queue } in
      xnext_kept net kept (Xnext pair side queue dev) lane (port_on plan lane) refl
  kept_next net kept step = bridge_kept net kept step

  pub kept_from : (net : Network Carried) → Kept net → (steps : List Step) → Kept (network_from origins_kept plan memories net steps)
  kept_from net kept [] = kept
  kept_from net kept (step ∷ steps) = kept_from (next_network origins_kept plan memories net step) (kept_next net kept step) steps

  -- before any step
  no_frames : (n place : ℕ) → list_of {F = Carried} (replicate n []) place ≡ []
  no_frames zero place = refl
  no_frames (suc n) zero = refl
  no_frames (suc n) (suc place) = no_frames n place

  abbrev IsEmpty : Switch Carried → Type 0
  IsEmpty switch = (place : ℕ) → (list_of switch.inboxes place ≡ []) × (list_of switch.waiting place ≡ [])

  new_empty : (switches : List SwitchPlan) → AllByRecursion IsEmpty (map (λ switch. new_switch (length switch.ports)) switches)
  new_empty [] = tt
  new_empty (switch ∷ switches) = (λ place. (no_frames (length switch.ports) place, no_frames (length switch.ports) place), new_empty switches)

  empty_at : (port : Port) → (inbox (new_switches plan) port ≡ []) × (queue (new_switches plan) port ≡ [])
  empty_at port = all-get IsEmpty (new_switches plan) port.switch (new_switch 0) (new_empty plan.switches) (λ place. (refl, refl)) port.place

  none_anywhere : (list : Port → List Carried) → ((port : Port) → list port ≡ []) → (o : Option Port) → where_port list o ≡ []
  none_anywhere list none None = refl
  none_anywhere list none (Some port) = none port

  pub kept_new : Kept (new_network plan)
  kept_new = record {
    leads = λ port. subst (AllByRecursion (LeadsTo plan one other port)) (sym (empty_at port).0) tt;
    routed =
        subst (λ xs. IsPartOf (from_lane one xs ++ from_lane one (where_port (inbox (new_switches plan)) (port_on plan (receiver_of one)))) [])
        (sym (none_anywhere (queue (new_switches plan)) (λ port. (empty_at port).1) (port_on plan other)))
        (subst (λ xs. IsPartOf (from_lane one xs) []) (sym (none_anywhere (inbox (new_switches plan)) (λ port. (empty_at port).0) (port_on plan (receiver_of one)))) Ends);
    begun = Ends;
  }

-- After any steps the frames that passed, wait and arrived between two lanes are a subsequence of the deliveries.
pub passages_kept : (plan : Plan) (memories : Memories) (steps : List Step) (one other : LaneName) → Kept plan memories one other (network_from origins_kept plan memories (new_network plan) steps)
passages_kept plan memories steps one other = kept_from plan memories one other (new_network plan) (kept_new plan memories one other) steps
