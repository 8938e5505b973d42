-- Each frame that waits at a port has an Ethernet header: a switch drops what is shorter.
use Rattle.std.proofs.Common.{◌≡◌, ℕ, zero, suc, ◌≤◌, Bool, true, false, List, [], ◌∷◌, ◌++◌, Option, Some, None, length, map, drop, refl}
use Rattle.std.specs.Prelude.{if◌then◌else◌, nat_lt, replicate, slice_get, slice_index_or, slice_set}
use Rattle.std.specs.List.{AllByRecursion}
use Rattle.std.proofs.lemmas.Bool.{ltb-false}
use Rattle.step_kinds.specs.declared.plan.Plan.{Plan}
use Rattle.step_kinds.specs.declared.plan.SwitchPlan.{SwitchPlan}
use Rattle.step_kinds.specs.declared.steps.Answer.{Answer}
use Rattle.step_kinds.specs.declared.steps.Answer.TheVariants.{OkNumber, Delivered}
use Rattle.step_kinds.specs.declared.steps.Step.{Step}
use Rattle.step_kinds.specs.declared.steps.Step.TheVariants.{Copy}
use Rattle.ledger_model.specs.Log.{Memories}
use Rattle.pair_model.specs.Fdb.{source, destination, learned_source}
use Rattle.pair_model.specs.Ethernet.{ethernet_header}
use Rattle.pair_model.specs.Switch.{Switch, after, after_relay, arrived, flooded, forward_answer, forwarded, list_of, new_switch, sent}
use Rattle.pair_model.specs.declared.RelayAnswer.{RelayAnswer}
use Rattle.pair_model.specs.declared.RelayAnswer.TheVariants.{Nothing, Short, Filtered, To, Flood}
use Rattle.ledger_model.specs.Network.{Action, Relays, Rests, Sends, OnBridge, Network, action_of, arrived_at, begin_on, made_after, network_after, network_from, new_network, next_network, session_after, switches_reached, switches_sent}
use Rattle.ledger_model.specs.Origins.{bytes_kept}
use Rattle.ledger_model.specs.Ports.{Port, port_on, switch_of, with_switch}
use Rattle.ledger_laws.specs.NetworkLaws.{HaveHeaders, HeadersStay, WaitingHaveHeaders}
use Rattle.ledger_laws.proofs.Subsequences.{all-append}

-- items by their places
module _ {A : Type 0} (P : A → Type 0) where
  pub all-get : (xs : List A) (i : ℕ) (d : A) → AllByRecursion P xs → P d → P (slice_index_or xs i d)
  all-get [] i d h p = p
  all-get (x ∷ xs) zero d h p = h.0
  all-get (x ∷ xs) (suc i) d h p = all-get xs i d h.1 p

  pub all-set : (xs : List A) (i : ℕ) (x : A) → AllByRecursion P xs → P x → AllByRecursion P (slice_set xs i x)
  all-set [] i x h p = tt
  all-set (y ∷ xs) zero x h p = (p, h.1)
  all-set (y ∷ xs) (suc i) x h p = (h.0, all-set xs i x h.1 p)

  pub all-drop_one : (xs : List A) → AllByRecursion P xs → AllByRecursion P (drop 1 xs)
  all-drop_one [] h = tt
  all-drop_one (x ∷ xs) h = h.1

abbrev IsLong : List ℕ → Type 0
IsLong frame = ethernet_header ≤ length frame

abbrev AreLong : List (List ℕ) → Type 0
AreLong = AllByRecursion IsLong

abbrev LongLists : List (List (List ℕ)) → Type 0
LongLists = AllByRecursion AreLong

abbrev LongSwitch : Switch (List ℕ) → Type 0
LongSwitch switch = LongLists switch.waiting

long_list : (lists : List (List (List ℕ))) (port : ℕ) → LongLists lists → AreLong (list_of lists port)
long_list lists port h = all-get AreLong lists port [] h tt

long_more : (list : List (List ℕ)) (frame : List ℕ) → AreLong list → IsLong frame → AreLong (list ++ frame ∷ [])
long_more list frame h k = all-append IsLong list (frame ∷ []) h (k, tt)

each_long : (lists : List (List (List ℕ))) (frame : List ℕ) → IsLong frame → LongLists lists → LongLists (map (λ list. list ++ frame ∷ []) lists)
each_long [] frame k h = tt
each_long (list ∷ lists) frame k h = (long_more list frame h.0 k, each_long lists frame k h.1)

long_flooded : (lists : List (List (List ℕ))) (port : ℕ) (frame : List ℕ) → IsLong frame → LongLists lists → LongLists (flooded lists port frame)
long_flooded [] port frame k h = tt
long_flooded (list ∷ lists) zero frame k h = (h.0, each_long lists frame k h.1)
long_flooded (list ∷ lists) (suc port) frame k h = (long_more list frame h.0 k, long_flooded lists port frame k h.1)

long_forwarded : (lists : List (List (List ℕ))) (port : ℕ) (frame : List ℕ) (answer : RelayAnswer) → IsLong frame → LongLists lists → LongLists (forwarded lists port frame answer)
long_forwarded lists port frame Nothing k h = h
long_forwarded lists port frame (Short len) k h = h
long_forwarded lists port frame Filtered k h = h
long_forwarded lists port frame (To target) k h = all-set AreLong lists target (list_of lists target ++ frame ∷ []) h (long_more (list_of lists target) frame (long_list lists target h) k)
long_forwarded lists port frame (Flood count) k h = long_flooded lists port frame k h

-- a frame that is too short is dropped
long_relayed : (switch : Switch (List ℕ)) (port : ℕ) (o : Option (List ℕ)) → LongSwitch switch → LongSwitch (after (λ bytes. bytes) switch port o)
long_relayed switch port None h = h
long_relayed switch port (Some frame) h = by (nat_lt (length frame) ethernet_header) refl
  where
    by : (b : Bool) → nat_lt (length frame) ethernet_header ≡ b
        → LongLists (forwarded switch.waiting port frame
        (if b then Short (length frame) else forward_answer (length switch.waiting) (learned_source switch.fdb port (source frame)) port (destination frame)))
    by true e = h
    by false e =
        long_forwarded switch.waiting port frame (forward_answer (length switch.waiting) (learned_source switch.fdb port (source frame)) port (destination frame))
        (ltb-false (length frame) ethernet_header e) h

no_lists : (n : ℕ) → LongLists (replicate n [])
no_lists zero = tt
no_lists (suc n) = (tt, no_lists n)

long_new : (plans : List SwitchPlan) → HaveHeaders (map (λ switch. new_switch (length switch.ports)) plans)
long_new [] = tt
long_new (plan ∷ plans) = (no_lists (length plan.ports), long_new plans)

long_at : (switches : List (Switch (List ℕ))) (port : Port) → HaveHeaders switches → LongSwitch (switch_of switches port)
long_at switches port h = all-get LongSwitch switches port.switch (new_switch 0) h tt

long_with : (switches : List (Switch (List ℕ))) (port : Port) (switch : Switch (List ℕ)) → HaveHeaders switches → LongSwitch switch → HaveHeaders (with_switch switches port switch)
long_with switches port switch h k = all-set LongSwitch switches port.switch switch h k

long_sent : (switches : List (Switch (List ℕ))) (port : Port) (answer : Answer) → HaveHeaders switches → HaveHeaders (switches_sent switches port answer)
long_sent switches port (OkNumber n) h =
    let switch = switch_of switches port in
    long_with switches port (sent switch port.place) h
    (all-set AreLong switch.waiting port.place (drop 1 (list_of switch.waiting port.place)) (long_at switches port h)
    (all-drop_one IsLong (list_of switch.waiting port.place) (long_list switch.waiting port.place (long_at switches port h))))
long_sent switches port answer h = h

long_arrived : (switches : List (Switch (List ℕ))) (o : Option Port) (frame : List ℕ) → HaveHeaders switches → HaveHeaders (arrived_at switches o frame)
long_arrived switches None frame h = h
long_arrived switches (Some port) frame h = long_with switches port (arrived (switch_of switches port) port.place frame) h (long_at switches port h)

module _ (plan : Plan) (memories : Memories) where
  long_reached : (switches : List (Switch (List ℕ))) (session : ℕ → ℕ) (step : Step) (answer : Answer) → HaveHeaders switches
      → HaveHeaders (switches_reached bytes_kept plan memories switches session step answer)
  long_reached switches session (Copy pair side queue) (Delivered number frame) h = long_arrived switches (port_on plan (record { pair = pair; from = side; queue = queue })) frame h
  long_reached switches session step answer h = h

  long_after : (net : Network (List ℕ)) (step : Step) (action : Action (List ℕ)) → HaveHeaders net.switches → HaveHeaders (network_after bytes_kept plan memories net step action).switches
  long_after net step (Relays port) h =
      let switch = switch_of net.switches port in
      long_with net.switches port (after_relay (λ bytes. bytes) switch port.place) h
      (long_relayed switch port.place (slice_get (list_of switch.inboxes port.place) 0) (long_at net.switches port h))
  long_after net step Rests h = h
  long_after net step (Sends port lane frame) h = long_sent net.switches port (made_after plan memories net.steps (begin_on lane frame)).answer h
  long_after net step OnBridge h = long_reached net.switches (session_after plan memories net.steps) step (made_after plan memories net.steps step).answer h

  long_from : (net : Network (List ℕ)) (steps : List Step) → HaveHeaders net.switches → HaveHeaders (network_from bytes_kept plan memories net steps).switches
  long_from net [] h = h
  long_from net (step ∷ steps) h = long_from (next_network bytes_kept plan memories net step) steps (long_after net step (action_of plan net.switches step) h)

-- If each frame that waits in a switch has an Ethernet header, each does after any further step.
pub headers_stay : HeadersStay
headers_stay plan memories net step h = long_after plan memories net step (action_of plan net.switches step) h

-- After any steps each frame that waits at a port of a switch has an Ethernet header, of 14 bytes at least.
pub waiting_have_headers : WaitingHaveHeaders
waiting_have_headers plan memories steps port =
    let net = network_from bytes_kept plan memories (new_network plan) steps in
    long_list (switch_of net.switches port).waiting port.place
    (long_at net.switches port (long_from plan memories (new_network plan) steps (long_new plan.switches)))
