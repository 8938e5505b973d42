-- Each step keeps what a network has of the frames between two lanes.
use Rattle.std.proofs.Common.{◌≡◌, ℕ, Bool, true, false, List, [], ◌∷◌, ◌++◌, Option, Some, None, length, map, drop, refl, sym, ap, ◌∙◌, subst, inl, inr, ◌⊎◌}
use Rattle.std.specs.Prelude.{if◌then◌else◌, slice_get}
use Rattle.std.specs.List.{AllByRecursion, filter}
use Rattle.std.proofs.lemmas.Bool.{and_parts}
use Rattle.std.proofs.lemmas.List.{append-nil, map-append}
use Rattle.std.proofs.lemmas.List.Elements.{filter-append}
use Rattle.step_kinds.specs.Sides.{same_lane}
use Rattle.step_kinds.specs.declared.names.LaneName.{LaneName}
use Rattle.step_kinds.specs.declared.plan.Plan.{Plan}
use Rattle.step_kinds.specs.declared.steps.Answer.{Answer}
use Rattle.step_kinds.specs.declared.steps.Answer.TheVariants.{OkNumber}
use Rattle.ledger_model.specs.Log.{accepts}
use Rattle.pair_model.specs.Switch.{Switch, after, arrived, frame_answer, sent}
use Rattle.ledger_model.specs.Network.{arrived_at, begin_on, passed, switches_sent}
use Rattle.ledger_model.specs.Origins.{Carried, Origin, Passage}
use Rattle.ledger_model.specs.Paths.{placed}
use Rattle.ledger_model.specs.Ports.{Port, port_on, receiver_of, switch_of, with_switch}
use Rattle.ledger_laws.proofs.Places.{same_lane-true}
use Rattle.ledger_laws.proofs.PortLists.{MayJoin, first_first, list-kept, list-set, list-there, waiting-forwarded}
use Rattle.ledger_laws.proofs.Routes.{begun_as, begun_on, fewer_wait, from_lane, goes, gone, inbox, moved, moved_other, one_came, part-more, passes_on, queue, where_port}
use Rattle.ledger_laws.proofs.Subsequences.{IsPartOf, Ends, Drops, all-append, part-append, part-of_part, part-whole}
use Rattle.ledger_laws.proofs.WaitingHeaders.{all-drop_one}

abbrev bytes_in : Carried → List ℕ
bytes_in frame = frame.bytes

-- the lists of a port, if there is one
where_same : (f g : Port → List Carried) → ((port : Port) → f port ≡ g port) → (o : Option Port) → where_port f o ≡ where_port g o
where_same f g same None = refl
where_same f g same (Some port) = same port

where_part : (f g : Port → List Carried) → ((port : Port) → IsPartOf (f port) (g port)) → (o : Option Port) → IsPartOf (where_port f o) (where_port g o)
where_part f g parts None = Ends
where_part f g parts (Some port) = parts port

where_joins : (frame : Carried) (f g : Port → List Carried) → ((port : Port) → MayJoin frame (g port) (f port)) → (o : Option Port) → MayJoin frame (where_port g o) (where_port f o)
where_joins frame f g joins None = inl refl
where_joins frame f g joins (Some port) = joins port

part-one_less : {A : Type 0} (xs : List A) → IsPartOf (drop 1 xs) xs
part-one_less [] = Ends
part-one_less (x ∷ xs) = Drops x (part-whole xs)

part_of_same : {A : Type 0} (xs ys : List A) → xs ≡ ys → IsPartOf xs ys
part_of_same xs ys e = subst (λ zs. IsPartOf xs zs) e (part-whole xs)

module _ (plan : Plan) (one other : LaneName) where
  -- a frame that arrived at a port came on a lane that is received there
  abbrev pub LeadsTo : Port → Carried → Type 0
  LeadsTo port frame = port_on plan (receiver_of frame.origin.lane) ≡ Some port

  abbrev pub AllLead : List (Switch Carried) → Type 0
  AllLead switches = (port : Port) → AllByRecursion (LeadsTo port) (inbox switches port)

  -- the frames between the lanes, whose ports are these, are a part of all deliveries
  abbrev pub RoutedAt : Option Port → Option Port → List (Passage Carried) → List (Switch Carried) → List Carried → Type 0
  RoutedAt came goes passages switches all = IsPartOf (gone one other passages ++ (from_lane one (where_port (queue switches) goes) ++ from_lane one (where_port (inbox switches) came))) all

  abbrev pub Routed : List (Passage Carried) → List (Switch Carried) → List Carried → Type 0
  Routed = RoutedAt (port_on plan (receiver_of one)) (port_on plan other)

  -- the same lists
  routed_same : (passages : List (Passage Carried)) (switches switches' : List (Switch Carried)) (all : List Carried) → ((port : Port) → inbox switches' port ≡ inbox switches port)
      → ((port : Port) → queue switches' port ≡ queue switches port) → (came goes : Option Port) → RoutedAt came goes passages switches all → RoutedAt came goes passages switches' all
  routed_same passages switches switches' all inboxes queues came goes h =
      subst (λ xs. IsPartOf (gone one other passages ++ (xs ++ from_lane one (where_port (inbox switches') came))) all) (ap (from_lane one) (sym (where_same (queue switches') (queue switches) queues goes)))
      (subst (λ xs. IsPartOf (gone one other passages ++ (from_lane one (where_port (queue switches) goes) ++ xs)) all) (ap (from_lane one) (sym (where_same (inbox switches') (inbox switches) inboxes came))) h)

  lead_same : (switches switches' : List (Switch Carried)) → ((port : Port) → inbox switches' port ≡ inbox switches port) → AllLead switches → AllLead switches'
  lead_same switches switches' inboxes h port = subst (AllByRecursion (LeadsTo port)) (sym (inboxes port)) (h port)

  -- A relay

  module _ (passages : List (Passage Carried)) (switches : List (Switch Carried)) (all : List Carried) (port : Port) (leads : AllLead switches) (routed : Routed passages switches all) where
    abbrev relayed : Option Carried → List (Switch Carried)
    relayed o = with_switch switches port (after bytes_in (switch_of switches port) port.place o)

    module _ (frame : Carried) (is_first : inbox switches port ≡ frame ∷ drop 1 (inbox switches port)) where
      inbox_after : (c : Port) → (inbox (relayed (Some frame)) c ≡ inbox switches c) ⊎ ((c ≡ port) × (inbox (relayed (Some frame)) c ≡ drop 1 (inbox switches port)))
      inbox_after c = list-set (λ s. s.inboxes) switches port (after bytes_in (switch_of switches port) port.place (Some frame)) (drop 1 (inbox switches port)) refl c

      inbox_there : inbox (relayed (Some frame)) port ≡ drop 1 (inbox switches port)
      inbox_there =
          list-there (λ s. s.inboxes) switches port (after bytes_in (switch_of switches port) port.place (Some frame)) (drop 1 (inbox switches port)) refl frame (drop 1 (inbox switches port)) is_first refl

      inbox_less : (c : Port) → IsPartOf (inbox (relayed (Some frame)) c) (inbox switches c)
      inbox_less c = elim (inbox_after c) [
        | inl same ↦ part_of_same (inbox (relayed (Some frame)) c) (inbox switches c) same
        | inr here ↦
            subst (λ xs. IsPartOf xs (inbox switches c)) (sym here.1)
            (subst (λ p. IsPartOf (drop 1 (inbox switches port)) (inbox switches p)) (sym here.0) (part-one_less (inbox switches port)))
      ]

      queue_after : (c : Port) → MayJoin frame (queue switches c) (queue (relayed (Some frame)) c)
      queue_after c =
          waiting-forwarded frame switches port (after bytes_in (switch_of switches port) port.place (Some frame))
          (frame_answer (length (switch_of switches port).waiting) (switch_of switches port).fdb port.place frame.bytes) refl c

      lead_relayed : AllLead (relayed (Some frame))
      lead_relayed c = elim (inbox_after c) [
        | inl same ↦ subst (AllByRecursion (LeadsTo c)) (sym same) (leads c)
        | inr here ↦
            subst (AllByRecursion (LeadsTo c)) (sym here.1)
            (subst (λ p. AllByRecursion (LeadsTo p) (drop 1 (inbox switches port))) (sym here.0) (all-drop_one (LeadsTo port) (inbox switches port) (leads port)))
      ]

      its_port : LeadsTo port frame
      its_port = (subst (AllByRecursion (LeadsTo port)) is_first (leads port)).0

      routed_here : (came goes : Option Port) → came ≡ Some port → RoutedAt came goes passages switches all → RoutedAt came goes passages (relayed (Some frame)) all
      routed_here came goes e h =
          subst (λ o. RoutedAt o goes passages switches all → RoutedAt o goes passages (relayed (Some frame)) all) (sym e)
          (λ k. part-of_part k _
          (subst (λ xs. IsPartOf (gone one other passages ++ (from_lane one (where_port (queue (relayed (Some frame))) goes) ++ from_lane one xs))
          (gone one other passages ++ (from_lane one (where_port (queue switches) goes) ++ from_lane one (inbox switches port)))) (sym inbox_there)
          (moved one (gone one other passages) (where_port (queue switches) goes) (inbox switches port) (where_port (queue (relayed (Some frame))) goes) frame (drop 1 (inbox switches port)) is_first
          (where_joins frame (queue (relayed (Some frame))) (queue switches) queue_after goes)))) h

      routed_elsewhere : (came goes : Option Port) → same_lane frame.origin.lane one ≡ false → RoutedAt came goes passages switches all → RoutedAt came goes passages (relayed (Some frame)) all
      routed_elsewhere came goes e h =
          part-of_part h _
          (moved_other one (gone one other passages) (where_port (queue switches) goes) (where_port (inbox switches) came) (where_port (queue (relayed (Some frame))) goes)
          (where_port (inbox (relayed (Some frame))) came) frame e (where_joins frame (queue (relayed (Some frame))) (queue switches) queue_after goes)
          (where_part (inbox (relayed (Some frame))) (inbox switches) inbox_less came))

      routed_relayed : Routed passages (relayed (Some frame)) all
      routed_relayed = by (same_lane frame.origin.lane one) refl
        where
          by : (b : Bool) → same_lane frame.origin.lane one ≡ b → Routed passages (relayed (Some frame)) all
          by true e =
              routed_here (port_on plan (receiver_of one)) (port_on plan other)
              (subst (λ l. port_on plan (receiver_of l) ≡ Some port) (same_lane-true frame.origin.lane one e) its_port) routed
          by false e = routed_elsewhere (port_on plan (receiver_of one)) (port_on plan other) e routed

    pub relay_keeps : (o : Option Carried) → slice_get (inbox switches port) 0 ≡ o → AllLead (relayed o) × Routed passages (relayed o) all
    relay_keeps None e =
        let kept = switch_of switches port in (
          lead_same switches (relayed None) (list-kept (λ s. s.inboxes) switches port kept refl) leads,
          routed_same passages switches (relayed None) all (list-kept (λ s. s.inboxes) switches port kept refl) (list-kept (λ s. s.waiting) switches port kept refl)
              (port_on plan (receiver_of one)) (port_on plan other) routed,
        )
    relay_keeps (Some frame) e =
        let is_first = first_first (inbox switches port) frame e in
        (lead_relayed frame is_first, routed_relayed frame is_first)

  -- A frame that waits is sent

  gone-more : (passages : List (Passage Carried)) (passage : Passage Carried) → gone one other (passages ++ passage ∷ []) ≡ gone one other passages ++ gone one other (passage ∷ [])
  gone-more passages passage =
      ap (map (λ (p : Passage Carried). p.frame)) (filter-append (goes one other) passages (passage ∷ []))
      ∙ map-append (λ (p : Passage Carried). p.frame) (filter (goes one other) passages) (filter (goes one other) (passage ∷ []))

  begun-more : (passages : List (Passage Carried)) (passage : Passage Carried) → begun_on other (passages ++ passage ∷ []) ≡ begun_on other passages ++ begun_on other (passage ∷ [])
  begun-more passages passage =
      ap (map begun_as) (filter-append (λ (p : Passage Carried). same_lane p.begun.lane other) passages (passage ∷ []))
      ∙ map-append begun_as (filter (λ p. same_lane p.begun.lane other) passages) (filter (λ p. same_lane p.begun.lane other) (passage ∷ []))

  module _ (passages : List (Passage Carried)) (switches : List (Switch Carried)) (all : List Carried) (port : Port) (frame : Carried) (begun : Origin) (routed : Routed passages switches all)
      (at_port : port_on plan begun.lane ≡ Some port) (is_first : queue switches port ≡ frame ∷ drop 1 (queue switches port)) where
    abbrev gone_out : List (Switch Carried)
    gone_out = with_switch switches port (sent (switch_of switches port) port.place)

    abbrev this : Passage Carried
    this = record { frame = frame; begun = begun }

    inbox_sent : (c : Port) → inbox gone_out c ≡ inbox switches c
    inbox_sent c = list-kept (λ s. s.inboxes) switches port (sent (switch_of switches port) port.place) refl c

    queue_there : queue gone_out port ≡ drop 1 (queue switches port)
    queue_there =
        list-there (λ s. s.waiting) switches port (sent (switch_of switches port) port.place) (drop 1 (queue switches port)) refl frame (drop 1 (queue switches port)) is_first refl

    queue_less : (c : Port) → IsPartOf (queue gone_out c) (queue switches c)
    queue_less c = elim (list-set (λ s. s.waiting) switches port (sent (switch_of switches port) port.place) (drop 1 (queue switches port)) refl c) [
      | inl same ↦ part_of_same (queue gone_out c) (queue switches c) same
      | inr here ↦
          subst (λ xs. IsPartOf xs (queue switches c)) (sym here.1)
          (subst (λ p. IsPartOf (drop 1 (queue switches port)) (queue switches p)) (sym here.0) (part-one_less (queue switches port)))
    ]

    -- the inboxes are as they were
    routed_inboxes : (came goes : Option Port) (past : List Carried)
        → IsPartOf (past ++ (from_lane one (where_port (queue gone_out) goes) ++ from_lane one (where_port (inbox switches) came))) all
        → IsPartOf (past ++ (from_lane one (where_port (queue gone_out) goes) ++ from_lane one (where_port (inbox gone_out) came))) all
    routed_inboxes came goes past h =
        subst (λ xs. IsPartOf (past ++ (from_lane one (where_port (queue gone_out) goes) ++ from_lane one xs)) all) (sym (where_same (inbox gone_out) (inbox switches) inbox_sent came)) h

    passes_here : (came goes' : Option Port) → goes' ≡ Some port → same_lane frame.origin.lane one ≡ true → RoutedAt came goes' passages switches all
        → IsPartOf ((gone one other passages ++ frame ∷ []) ++ (from_lane one (where_port (queue gone_out) goes') ++ from_lane one (where_port (inbox switches) came))) all
    passes_here came goes' e is h =
        subst (λ o. RoutedAt came o passages switches all
        → IsPartOf ((gone one other passages ++ frame ∷ []) ++ (from_lane one (where_port (queue gone_out) o) ++ from_lane one (where_port (inbox switches) came))) all) (sym e)
        (λ k. subst (λ xs. IsPartOf ((gone one other passages ++ frame ∷ []) ++ (from_lane one xs ++ from_lane one (where_port (inbox switches) came))) all) (sym queue_there)
        (subst (λ xs. IsPartOf xs all)
        (sym (passes_on one (gone one other passages) (queue switches port) (where_port (inbox switches) came) frame (drop 1 (queue switches port)) is_first is)) k)) h

    routed_sent : Routed (passages ++ this ∷ []) gone_out all
    routed_sent =
        subst (λ past. IsPartOf (past ++ (from_lane one (where_port (queue gone_out) (port_on plan other)) ++ from_lane one (where_port (inbox gone_out) (port_on plan (receiver_of one))))) all)
        (sym (gone-more passages this))
        (by (goes one other this) refl)
      where
        by : (b : Bool) → goes one other this ≡ b
            → IsPartOf ((gone one other passages ++ map (λ p. p.frame) (if b then this ∷ [] else []))
            ++ (from_lane one (where_port (queue gone_out) (port_on plan other)) ++ from_lane one (where_port (inbox gone_out) (port_on plan (receiver_of one))))) all
        by true e =
            let parts = and_parts (same_lane frame.origin.lane one) (same_lane begun.lane other) e in
            routed_inboxes (port_on plan (receiver_of one)) (port_on plan other) (gone one other passages ++ frame ∷ [])
            (passes_here (port_on plan (receiver_of one)) (port_on plan other) (subst (λ l. port_on plan l ≡ Some port) (same_lane-true begun.lane other parts.1) at_port) parts.0 routed)
        by false e =
            subst (λ past. IsPartOf (past ++ (from_lane one (where_port (queue gone_out) (port_on plan other)) ++ from_lane one (where_port (inbox gone_out) (port_on plan (receiver_of one))))) all)
            (sym (append-nil (gone one other passages)))
            (routed_inboxes (port_on plan (receiver_of one)) (port_on plan other) (gone one other passages)
            (part-of_part routed _
            (fewer_wait one (gone one other passages) (where_port (queue switches) (port_on plan other)) (where_port (inbox switches) (port_on plan (receiver_of one)))
            (where_port (queue gone_out) (port_on plan other)) (where_part (queue gone_out) (queue switches) queue_less (port_on plan other)))))

  -- what is begun is accepted
  begun_accepted : (frame : Carried) (lane : LaneName) (session number now : ℕ) → (lane ≡ other → session ≡ now)
      → IsPartOf (begun_on other (record { frame = frame; begun = record { lane = lane; session = session; number = number } } ∷ []))
      (map (placed other now) (accepts plan other (record { step = begin_on lane frame.bytes; answer = OkNumber number })))
  begun_accepted frame lane session number now same = by (same_lane lane other) refl
    where
      started : Origin
      started = record { lane = lane; session = session; number = number }

      by : (b : Bool) → same_lane lane other ≡ b
          → IsPartOf (map begun_as (if b then record { frame = frame; begun = started } ∷ [] else [])) (map (placed other now) (if b then record { number = number; bytes = frame.bytes } ∷ [] else []))
      by true e =
          let is = same_lane-true lane other e in
          part_of_same (record { bytes = frame.bytes; origin = started } ∷ []) (placed other now (record { number = number; bytes = frame.bytes }) ∷ [])
          (ap (λ n. record { bytes = frame.bytes; origin = record { lane = lane; session = n; number = number } } ∷ []) (same is)
          ∙ ap (λ l. record { bytes = frame.bytes; origin = record { lane = l; session = now; number = number } } ∷ []) is)
      by false e = Ends

  -- a sent frame and what was accepted
  module _ (passages : List (Passage Carried)) (switches : List (Switch Carried)) (all taken : List Carried) (port : Port) (frame : Carried) (lane : LaneName) (session now : ℕ)
      (leads : AllLead switches) (routed : Routed passages switches all) (begun : IsPartOf (begun_on other passages) taken)
      (at_port : port_on plan lane ≡ Some port) (is_first : queue switches port ≡ frame ∷ drop 1 (queue switches port)) (same : lane ≡ other → session ≡ now) where
    pub send_keeps : (answer : Answer) → AllLead (switches_sent switches port answer) × Routed (passages ++ passed frame lane session answer) (switches_sent switches port answer) all
        × IsPartOf (begun_on other (passages ++ passed frame lane session answer)) (taken ++ map (placed other now) (accepts plan other (record { step = begin_on lane frame.bytes; answer = answer })))
    send_keeps (OkNumber number) =
        let begun_now : Origin = record { lane = lane; session = session; number = number } in (
          lead_same switches (switches_sent switches port (OkNumber number)) (inbox_sent passages switches all port frame begun_now routed at_port is_first) leads,
          routed_sent passages switches all port frame begun_now routed at_port is_first,
          subst (λ xs. IsPartOf xs (taken ++ map (placed other now) (accepts plan other (record { step = begin_on lane frame.bytes; answer = OkNumber number }))))
              (sym (begun-more passages (record { frame = frame; begun = begun_now })))
              (part-append begun (begun_accepted frame lane session number now same)),
        )
    send_keeps answer = (
      leads,
      subst (λ ps. Routed ps switches all) (sym (append-nil passages)) routed,
      subst (λ ps. IsPartOf (begun_on other ps) (taken ++ map (placed other now) (accepts plan other (record { step = begin_on lane frame.bytes; answer = answer })))) (sym (append-nil passages))
          (part-more (map (placed other now) (accepts plan other (record { step = begin_on lane frame.bytes; answer = answer }))) begun),
    )

  -- A frame arrives

  module _ (passages : List (Passage Carried)) (switches : List (Switch Carried)) (all more : List Carried) (frame : Carried)
      (leads : AllLead switches) (routed : Routed passages switches all) (new : IsPartOf (from_lane one (frame ∷ [])) more) where
    abbrev reached : Port → List (Switch Carried)
    reached port = with_switch switches port (arrived (switch_of switches port) port.place frame)

    inbox_reached : (port c : Port) → (inbox (reached port) c ≡ inbox switches c) ⊎ ((c ≡ port) × (inbox (reached port) c ≡ inbox switches port ++ frame ∷ []))
    inbox_reached port c = list-set (λ s. s.inboxes) switches port (arrived (switch_of switches port) port.place frame) (inbox switches port ++ frame ∷ []) refl c

    inbox_joins : (port c : Port) → MayJoin frame (inbox switches c) (inbox (reached port) c)
    inbox_joins port c = elim (inbox_reached port c) [
      | inl same ↦ inl same
      | inr here ↦ inr (here.1 ∙ ap (λ p. inbox switches p ++ frame ∷ []) (sym here.0))
    ]

    lead_reached : (port : Port) → LeadsTo port frame → AllLead (reached port)
    lead_reached port its_port c = elim (inbox_reached port c) [
      | inl same ↦ subst (AllByRecursion (LeadsTo c)) (sym same) (leads c)
      | inr here ↦
          subst (AllByRecursion (LeadsTo c)) (sym here.1)
          (subst (λ p. AllByRecursion (LeadsTo p) (inbox switches port ++ frame ∷ [])) (sym here.0)
          (all-append (LeadsTo port) (inbox switches port) (frame ∷ []) (leads port) (its_port, tt)))
    ]

    came_more : (came goes' : Option Port) (came' : List Carried) → MayJoin frame (where_port (inbox switches) came) came' → RoutedAt came goes' passages switches all
        → IsPartOf (gone one other passages ++ (from_lane one (where_port (queue switches) goes') ++ from_lane one came')) (all ++ more)
    came_more came goes' came' (inl same) h =
        subst (λ xs. IsPartOf (gone one other passages ++ (from_lane one (where_port (queue switches) goes') ++ from_lane one xs)) (all ++ more)) (sym same) (part-more more h)
    came_more came goes' came' (inr joins) h =
        subst (λ xs. IsPartOf (gone one other passages ++ (from_lane one (where_port (queue switches) goes') ++ from_lane one xs)) (all ++ more)) (sym joins)
        (one_came one (gone one other passages) (where_port (queue switches) goes') (where_port (inbox switches) came) frame all more h new)

    routed_reached : (port : Port) (came goes' : Option Port) → RoutedAt came goes' passages switches all → RoutedAt came goes' passages (reached port) (all ++ more)
    routed_reached port came goes' h =
        subst (λ xs. IsPartOf (gone one other passages ++ (from_lane one xs ++ from_lane one (where_port (inbox (reached port)) came))) (all ++ more))
        (sym (where_same (queue (reached port)) (queue switches) (list-kept (λ s. s.waiting) switches port (arrived (switch_of switches port) port.place frame) refl) goes'))
        (came_more came goes' (where_port (inbox (reached port)) came) (where_joins frame (inbox (reached port)) (inbox switches) (inbox_joins port) came) h)

    pub arrival_keeps : (o : Option Port) → port_on plan (receiver_of frame.origin.lane) ≡ o → AllLead (arrived_at switches o frame) × Routed passages (arrived_at switches o frame) (all ++ more)
    arrival_keeps None e = (leads, part-more more routed)
    arrival_keeps (Some port) e = (lead_reached port e, routed_reached port (port_on plan (receiver_of one)) (port_on plan other) routed)
