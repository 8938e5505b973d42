-- Each switch keeps the ports that are declared.
use Rattle.std.proofs.Common.{◌≡◌, ◌∙◌, ℕ, zero, suc, ◌<◌, List, [], ◌∷◌, ◌++◌, Option, Some, None, length, map, get_or, set, slice_get, refl, sym, ap, subst, arith, inl, inr, ◌⊎◌}
use Rattle.std.proofs.lemmas.List.{get_or_default, length-map, length-replicate, length-set}
use Rattle.step_kinds.specs.declared.plan.SwitchPlan.{SwitchPlan}
use Rattle.pair_model.specs.Plans.{no_switch}
use Rattle.pair_model.specs.Switch.{after, arrived, flooded, forwarded, frame_answer, list_of, new_switch, sent}
use Rattle.pair_model.specs.declared.RelayAnswer.{RelayAnswer}
use Rattle.pair_model.specs.declared.RelayAnswer.TheVariants.{Nothing, Short, Filtered, To, Flood}
use Rattle.learn_switch.specs.Frames.{SwitchBytes, bytes_after_relay}
use Rattle.cluster_core.specs.Clusters.{HasPorts, HavePorts}
use Rattle.cluster_core.specs.Parts.{IsPortAmong}

-- One switch

length-flooded : (lists : List (List (List ℕ))) (port : ℕ) (frame : List ℕ) → length (flooded lists port frame) ≡ length lists
length-flooded [] port frame = refl
length-flooded (list ∷ lists) zero frame = ap suc (length-map lists (λ other. other ++ frame ∷ []))
length-flooded (list ∷ lists) (suc port) frame = ap suc (length-flooded lists port frame)

length-forwarded : (lists : List (List (List ℕ))) (port : ℕ) (frame : List ℕ) (answer : RelayAnswer) → length (forwarded lists port frame answer) ≡ length lists
length-forwarded lists port frame Nothing = refl
length-forwarded lists port frame (Short len) = refl
length-forwarded lists port frame Filtered = refl
length-forwarded lists port frame (To target) = length-set lists target _
length-forwarded lists port frame (Flood count) = length-flooded lists port frame

-- A switch that has its declared ports has them still when a frame, or none, was relayed from a port.
pub ports_after : (plan : SwitchPlan) (switch : SwitchBytes) (port : ℕ) (frame : Option (List ℕ)) → HasPorts plan switch → HasPorts plan (after (λ bytes. bytes) switch port frame)
ports_after plan switch port None has = has
ports_after plan switch port (Some frame) has = record {
  inboxes = length-set switch.inboxes port _ ∙ has.inboxes;
  waiting = length-forwarded switch.waiting port frame (frame_answer (length switch.waiting) switch.fdb port frame) ∙ has.waiting;
}

-- A switch that has its declared ports has them still when a frame has arrived on a port.
pub ports_arrived : (plan : SwitchPlan) (switch : SwitchBytes) (port : ℕ) (frame : List ℕ) → HasPorts plan switch → HasPorts plan (arrived switch port frame)
ports_arrived plan switch port frame has = record { inboxes = length-set switch.inboxes port _ ∙ has.inboxes; waiting = has.waiting }

-- A switch that has its declared ports has them still when the first frame that waits at a port was sent.
pub ports_sent : (plan : SwitchPlan) (switch : SwitchBytes) (port : ℕ) → HasPorts plan switch → HasPorts plan (sent switch port)
ports_sent plan switch port has = record { inboxes = has.inboxes; waiting = length-set switch.waiting port _ ∙ has.waiting }

-- All switches

-- New switches, made with as many ports as their plans declare, have their declared ports.
pub have_new : (plans : List SwitchPlan) → HavePorts plans (map (λ plan. new_switch (length plan.ports)) plans)
have_new [] = tt
have_new (plan ∷ plans) = (record { inboxes = length-replicate (length plan.ports) []; waiting = length-replicate (length plan.ports) [] }, have_new plans)

-- If each switch has its declared ports, there are as many switches as plans of switches.
pub have_length : (plans : List SwitchPlan) (switches : List SwitchBytes) → HavePorts plans switches → length switches ≡ length plans
have_length [] [] have = refl
have_length [] (switch ∷ switches) have = absurd have
have_length (plan ∷ plans) [] have = absurd have
have_length (plan ∷ plans) (switch ∷ switches) have = ap suc (have_length plans switches have.1)

-- If each switch has its declared ports, the switch at a declared number has the ports of the plan at that number.
pub have_at : (plans : List SwitchPlan) (switches : List SwitchBytes) (k : ℕ) → HavePorts plans switches → k < length plans → HasPorts (get_or plans k no_switch) (get_or switches k (new_switch 0))
have_at [] switches k have lt = absurd (omega arith)
have_at (plan ∷ plans) [] k have lt = absurd have
have_at (plan ∷ plans) (switch ∷ switches) zero have lt = have.0
have_at (plan ∷ plans) (switch ∷ switches) (suc k) have lt = have_at plans switches k have.1 (omega arith)

-- Each switch has its declared ports after one was replaced by another switch that has the ports declared there.
pub have_with : (plans : List SwitchPlan) (switches : List SwitchBytes) (k : ℕ) (new : SwitchBytes) → HavePorts plans switches → k < length plans → HasPorts (get_or plans k no_switch) new → HavePorts plans (set switches k new)
have_with [] switches k new have lt own = absurd (omega arith)
have_with (plan ∷ plans) [] k new have lt own = absurd have
have_with (plan ∷ plans) (switch ∷ switches) zero new have lt own = (own, have.1)
have_with (plan ∷ plans) (switch ∷ switches) (suc k) new have lt own = (have.0, have_with plans switches k new have.1 (omega arith) own)

-- Ports of the cluster

-- If each switch has its declared ports, the switch of a declared port is within the list of switches.
pub switch_within : (plans : List SwitchPlan) (switches : List SwitchBytes) (k port : ℕ) → HavePorts plans switches → IsPortAmong plans k port → k < length switches
switch_within plans switches k port have among = omega (arith, have_length plans switches have, among.declared)

-- the switch of a port, as it is found in the list
pub switch_found : (plans : List SwitchPlan) (switches : List SwitchBytes) (k port : ℕ) (switch : SwitchBytes) → HavePorts plans switches → IsPortAmong plans k port → switch ≡ get_or switches k switch →
    switch ≡ get_or switches k (new_switch 0)
switch_found plans switches k port switch have among is = is ∙ get_or_default switches k switch (new_switch 0) (switch_within plans switches k port have among)

ports_found : (plans : List SwitchPlan) (switches : List SwitchBytes) (k port : ℕ) (switch : SwitchBytes) → HavePorts plans switches → IsPortAmong plans k port → switch ≡ get_or switches k switch →
    HasPorts (get_or plans k no_switch) switch
ports_found plans switches k port switch have among is =
    subst (HasPorts (get_or plans k no_switch)) (sym (switch_found plans switches k port switch have among is)) (have_at plans switches k have among.declared)

-- If each switch has its declared ports, a declared port has an inbox in its switch.
pub inbox_within : (plans : List SwitchPlan) (switches : List SwitchBytes) (k port : ℕ) (switch : SwitchBytes) → HavePorts plans switches → IsPortAmong plans k port → switch ≡ get_or switches k switch → port < length switch.inboxes
inbox_within plans switches k port switch have among is = let own = ports_found plans switches k port switch have among is in omega (arith, own.inboxes, among.among)

-- If each switch has its declared ports, a declared port has a list of waiting frames in its switch.
pub waiting_within : (plans : List SwitchPlan) (switches : List SwitchBytes) (k port : ℕ) (switch : SwitchBytes) → HavePorts plans switches → IsPortAmong plans k port → switch ≡ get_or switches k switch → port < length switch.waiting
waiting_within plans switches k port switch have among is = let own = ports_found plans switches k port switch have among is in omega (arith, own.waiting, among.among)

-- what a call leaves of the switch of a port

-- Each switch has its declared ports after one of them has relayed from a declared port.
pub have_relayed : (plans : List SwitchPlan) (switches : List SwitchBytes) (k port : ℕ) (switch new : SwitchBytes) → HavePorts plans switches → IsPortAmong plans k port → switch ≡ get_or switches k switch →
    new ≡ bytes_after_relay switch port → HavePorts plans (set switches k new)
have_relayed plans switches k port switch new have among is after =
    have_with plans switches k new have among.declared
    (subst (HasPorts (get_or plans k no_switch)) (sym after) (ports_after (get_or plans k no_switch) switch port (slice_get (list_of switch.inboxes port) 0) (ports_found plans switches k port switch have among is)))

-- Each switch has its declared ports after a frame has arrived on a declared port, or the switch stayed as it was.
pub have_arrived : (plans : List SwitchPlan) (switches : List SwitchBytes) (k port : ℕ) (frame : List ℕ) (switch new : SwitchBytes) → HavePorts plans switches → IsPortAmong plans k port → switch ≡ get_or switches k switch →
    (new ≡ arrived switch port frame) ⊎ (new ≡ switch) → HavePorts plans (set switches k new)
have_arrived plans switches k port frame switch new have among is (inl after) =
    have_with plans switches k new have among.declared
    (subst (HasPorts (get_or plans k no_switch)) (sym after) (ports_arrived (get_or plans k no_switch) switch port frame (ports_found plans switches k port switch have among is)))
have_arrived plans switches k port frame switch new have among is (inr after) =
    have_with plans switches k new have among.declared (subst (HasPorts (get_or plans k no_switch)) (sym after) (ports_found plans switches k port switch have among is))

-- Each switch has its declared ports after the first frame that waits at a declared port was sent.
pub have_sent : (plans : List SwitchPlan) (switches : List SwitchBytes) (k port : ℕ) (switch new : SwitchBytes) → HavePorts plans switches → IsPortAmong plans k port → switch ≡ get_or switches k switch →
    new ≡ sent switch port → HavePorts plans (set switches k new)
have_sent plans switches k port switch new have among is after =
    have_with plans switches k new have among.declared
    (subst (HasPorts (get_or plans k no_switch)) (sym after) (ports_sent (get_or plans k no_switch) switch port (ports_found plans switches k port switch have among is)))
