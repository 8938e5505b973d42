-- The steps of the link.
use Rattle.std.proofs.Common.{◌≡◌, ℕ, ◌+◌, ◌<◌, ◌==◌, ◌&&◌, Bool, true, false, Option, Some, None, List, [], length, map, refl, sym, ap, ◌∙◌, subst, inl, arith}
use Rattle.std.specs.Prelude.{not, slice_index_or}
use Rattle.std.proofs.lemmas.Bool.{true≢false, false≢true}
use Rattle.std.proofs.lemmas.List.{get_or-map, length-map}
use Rattle.std.proofs.lemmas.Nat.Bits.{bit_at-zero}
use Rattle.step_kinds.specs.Bits.{has_bit}
use Rattle.step_kinds.specs.declared.names.Side.{Side}
use Rattle.step_kinds.specs.declared.names.Side.TheVariants.{A, B}
use Rattle.step_kinds.specs.declared.plan.DevPlan.{DevPlan}
use Rattle.step_kinds.specs.declared.plan.PairPlan.{PairPlan}
use Rattle.step_kinds.specs.declared.steps.Answer.TheVariants.{Ok as Done, OkSession}
use Rattle.step_kinds.specs.declared.steps.Step.TheVariants.{Enable, Train, Break, DropDone, Clean}
use Rattle.pair_model.specs.Both.{Both, at_side, both_of, with_side}
use Rattle.pair_model.specs.Link.{Link, is_down, is_up, is_closing, refused_where, enable_refusal, train_refusal, cut_refusal, drop_refusal, clean_refusal, enabled_link, trained_link, cut_link, dropped_link, cleaned_link}
use Rattle.pair_model.specs.declared.LinkRefusal.{LinkRefusal}
use Rattle.pair_model.specs.declared.LinkRefusal.TheVariants.{NotDown, Dirty, NotEnabled, NotUp, NotClosing}
use Rattle.pair_model.specs.declared.LinkState.{LinkState}
use Rattle.pair_model.specs.declared.LinkState.TheVariants.{Down, Up, Closing}
use Rattle.ledger_model.specs.LinkSteps.{answer_of_refusal, cleaned_side, emptied_side, forgotten_lanes, fresh_lane, started_dev, enable_step, train_step, break_step, drop_step, clean_step, refusal_answer}
use Rattle.ledger_model.specs.Outcome.{decided}
use Rattle.ledger_model.specs.Ledger.{PairPart, SidePart, side_of}
use Rattle.lane_model.specs.Lane.{Entry}
use Rattle.lane_model.specs.declared.Phase.TheVariants.{Idle}
use Rattle.pair_model.specs.Stores.{Store}
use Rattle.step_kinds.specs.declared.steps.Answer.{Answer}
use Rattle.step_kinds.specs.declared.steps.Label.{Label}
use Rattle.frame_ring.specs.Port.{PortState, fresh_port}
use Rattle.bridge_pair.specs.Flights.{Flying}
use Rattle.ledger_model.specs.Memory.{Site}
use Rattle.bridge_pair.specs.Bridge.{Bridge, with_link}
use Rattle.bridge_pair.specs.Links.{after_step, cleaned, dropped}
use Rattle.fabric_rule.specs.Answers.{of_link, of_refusal}
use Rattle.fabric_rule.specs.InPlace.{FlightInPlace, LinkInPlace, fabric_receiver_of, fabric_sender_of}
use Rattle.fabric_rule.specs.StandsFor.{QueueStands, QueueView, SideStands, all_sent, bridge_with, sent_of, has_link_forgotten, port_for, sent_in, view_of, writes_labelled}
use Rattle.fabric_rule.specs.Parts.{QueuePart, PairState, no_queue, with_bridge}
use Rattle.fabric_rule.proofs.Follows.{AllSides, Follows, by_side, state_for}
use Rattle.fabric_rule.specs.Moves.{Move, forgotten, forgotten_queue, move_of}

-- a refusal has its own answer
pub same_refusal : (refusal : LinkRefusal) → of_refusal refusal ≡ refusal_answer refusal
same_refusal NotDown = refl
same_refusal refusal = refl

-- what passed where nothing was refused
passed_enable : (down clean : Bool) → refused_where (not down) NotDown (refused_where (not clean) Dirty None) ≡ None → clean ≡ true
passed_enable true true passed = refl
passed_enable true false passed = cc
passed_enable false clean passed = cc

passed_train : (down a b : Bool) (later : Option LinkRefusal) → refused_where (not down) NotDown (refused_where (not (a && b)) NotEnabled later) ≡ None → (down ≡ true) × (a ≡ true) × (b ≡ true)
passed_train true true true later passed = (refl, refl, refl)
passed_train true true false later passed = cc
passed_train true false b later passed = cc
passed_train false a b later passed = cc

passed_where : (holds : Bool) (refusal : LinkRefusal) → refused_where (not holds) refusal None ≡ None → holds ≡ true
passed_where true refusal passed = refl
passed_where false refusal passed = cc

-- a link that is up or closing isn't down
pub not_down_up : (state : LinkState) → is_up state ≡ true → is_down state ≡ false
not_down_up Down up = absurd (false≢true up)
not_down_up Up up = refl
not_down_up Closing up = absurd (false≢true up)

not_down_closing : (state : LinkState) → is_closing state ≡ true → is_down state ≡ false
not_down_closing Down up = absurd (false≢true up)
not_down_closing Up up = absurd (false≢true up)
not_down_closing Closing up = refl

-- what forgotten is comes by the link
pub side_by : (devs : List DevPlan) (plan : PairPlan) (k : ℕ) (side : Side) (down down' forgotten forgotten' : Bool) (joined : ℕ) (flight : List Label) (poked : List (List ℕ)) (view : ℕ → QueueView) (parts : List QueuePart)
    → down ≡ down' → forgotten ≡ forgotten' → SideStands devs plan k side down forgotten joined flight poked view parts → SideStands devs plan k side down' forgotten' joined flight poked view parts
side_by devs plan k side down down' forgotten forgotten' joined flight poked view parts same also stands =
    subst (λ f. SideStands devs plan k side down' f joined flight poked view parts) also (subst (λ d. SideStands devs plan k side d forgotten joined flight poked view parts) same stands)

-- the bridges whose writes in flight are the same
pub bridge_same : (plan : PairPlan) (link : Link) (sides : Both SidePart) (sent sent' : Both (ℕ → List Entry)) (stores : Both (List Store))
    → writes_labelled plan A sent.a sides.a.flight sides.a.poked ≡ writes_labelled plan A sent'.a sides.a.flight sides.a.poked
    → writes_labelled plan B sent.b sides.b.flight sides.b.poked ≡ writes_labelled plan B sent'.b sides.b.flight sides.b.poked
    → bridge_with plan link sides sent stores ≡ bridge_with plan link sides sent' stores
bridge_same plan link sides sent sent' stores same_a same_b = ap (λ a. with_writes a (writes_labelled plan B sent.b sides.b.flight sides.b.poked)) same_a ∙ ap (λ b. with_writes (writes_labelled plan A sent'.a sides.a.flight sides.a.poked) b) same_b
  where
    with_writes : List Flying → List Flying → Bridge
    with_writes a b = record (bridge_with plan link sides sent stores) { flights = record { a = record { writes = a; spare = 0 }; b = record { writes = b; spare = 0 } } }

-- with nothing in flight the entries don't matter
no_writes : (plan : PairPlan) (side : Side) (sent sent' : ℕ → List Entry) (flight : List Label) (poked : List (List ℕ)) → flight ≡ [] → poked ≡ []
    → writes_labelled plan side sent flight poked ≡ writes_labelled plan side sent' flight poked
no_writes plan side sent sent' flight poked none kept = ap (λ flight. writes_labelled plan side sent flight poked) none ∙ sym (ap (λ flight. writes_labelled plan side sent' flight poked) none)

-- An empty flight has all its writes in place, whatever was sent and whether the link is down or not.
pub none_in_flight : (plan : PairPlan) (side : Side) (down : Bool) (sent : ℕ → List Entry) → FlightInPlace plan side down sent [] [] []
none_in_flight plan side down sent = record { begun = tt; raws = tt; places = tt; none = λ _. (refl, refl) }

-- a queue in a fresh session
pub fresh_queue_stands : (devs : List DevPlan) (plan : PairPlan) (k : ℕ) (side : Side) (queue : ℕ) (view : QueueView) (part : QueuePart) → QueueStands devs plan k side queue true view part
    → QueueStands devs plan k side queue false (record view { sends = fabric_sender_of fresh_lane; receives = fabric_receiver_of fresh_lane }) part
fresh_queue_stands devs plan k side queue view part h =
    record {
      port = h.port ∙ ap port_at (sym (ap (λ (port : PortState). port.sending.entry) h.port));
      entry = λ _ left. absurd (false≢true left);
      closed = h.closed;
      stopped = h.stopped;
      limits = h.limits;
      counters = h.counters;
      accepted = h.accepted;
      delivered = h.delivered;
      sending = record { todo = tt; last = omega arith; waiting = tt; todo_fits = inl refl; waiting_fits = inl refl };
      receiving = record { counts = λ _. (refl, refl); fits = inl refl; len = λ copying. absurd (false≢true copying) };
      forgets = λ forgotten. absurd (false≢true forgotten);
      stops = h.stops;
    }
  where
    port_at : Entry → PortState
    port_at entry = port_for plan side queue false (record view { sends = fabric_sender_of fresh_lane; receives = fabric_receiver_of fresh_lane }) entry

-- a port is of its queue
port_plan : (plan : PairPlan) (side : Side) (queue : ℕ) (forgotten : Bool) (view : QueueView) (entry : Entry) (port : PortState) → port ≡ port_for plan side queue forgotten view entry
    → fresh_port port.plan port.side port.queue ≡ fresh_port plan side queue
port_plan plan side queue true view entry port is = ap (λ (port : PortState). fresh_port port.plan port.side port.queue) is
port_plan plan side queue false view entry port is = ap (λ (port : PortState). fresh_port port.plan port.side port.queue) is

-- The number 0 has no bit.
pub no_bits : (queue : ℕ) → has_bit 0 queue ≡ false
no_bits queue = ap (λ b. b == 1) (bit_at-zero queue)

-- the lanes of a queue whose side forgets the session
abbrev forgets_view : QueueView → QueueView
forgets_view view =
    record {
      sends = record view.sends { waiting = []; todo = [] };
      receives = record view.receives { port = record view.receives.port { phase = Idle; part = 0; gathered = [] } };
      dev = record view.dev { stopped = false };
      accepted = view.accepted;
      delivered = view.delivered;
      closed = has_bit 0 0;
    }

forgotten_queue_stands : (devs : List DevPlan) (plan : PairPlan) (k : ℕ) (side : Side) (queue : ℕ) (forgotten : Bool) (view : QueueView) (part : QueuePart) → QueueStands devs plan k side queue forgotten view part
    → QueueStands devs plan k side queue true (record (forgets_view view) { closed = has_bit 0 queue }) (forgotten_queue part)
forgotten_queue_stands devs plan k side queue forgotten view part h =
    record {
      port = port_plan plan side queue forgotten view part.queue.port.sending.entry part.queue.port h.port;
      entry = λ no _. absurd (true≢false no);
      closed = sym (no_bits queue);
      stopped = refl;
      limits = h.limits;
      counters = h.counters;
      accepted = h.accepted;
      delivered = h.delivered;
      sending = record { todo = tt; last = h.sending.last; waiting = tt; todo_fits = inl refl; waiting_fits = inl refl };
      receiving = record { counts = λ no. absurd (true≢false no); fits = inl refl; len = λ copying. absurd (false≢true copying) };
      forgets = λ _. record { todo = refl; waiting = refl; phase = refl; goes_on = refl };
      stops = inl refl;
    }

-- the pair in which a side has forgotten its session
abbrev cleaned_pair : PairPart → Side → PairPart
cleaned_pair pair side =
    record pair {
      link = cleaned_link pair.link side;
      sides = with_side pair.sides side (cleaned_side (side_of pair side));
      lanes = forgotten_lanes pair.lanes side;
      devs = with_side pair.devs side (λ queue. started_dev (at_side pair.devs side queue));
    }

module _ (devs : List DevPlan) (plan : PairPlan) (k : ℕ) (site : Site) (pages : Both (List ℕ)) (spare : Both ℕ) (queues : Both (List QueuePart))
    (link : LinkInPlace site.pair.link) (sides : AllSides devs plan k site.pair queues) where
  abbrev state : PairState
  state = state_for plan site pages spare queues

  -- the move to another bridge, if the link doesn't refuse it
  abbrev moved : Option LinkRefusal → Answer → Bridge → Move
  moved refusal answer bridge = record { answer = of_link refusal answer; after = record state { bridge = after_step refusal state.bridge bridge } }

  -- Enable

  enabled_in_place : (side : Side) → at_side site.pair.link.clean side ≡ true → LinkInPlace (enabled_link site.pair.link side)
  enabled_in_place A clean A down enabled = clean
  enabled_in_place A clean B down enabled = link B down enabled
  enabled_in_place B clean A down enabled = link A down enabled
  enabled_in_place B clean B down enabled = clean

  enabled : (side : Side) (refusal : Option LinkRefusal) → enable_refusal site.pair.link side ≡ refusal
      → Follows devs plan k site (Enable k side) (decided site.pair (answer_of_refusal refusal) Done (record site.pair { link = enabled_link site.pair.link side }))
      (moved refusal Done (with_link state.bridge (enabled_link site.pair.link side)))
  enabled A None passed = (refl, record { bridge = refl; link = enabled_in_place A (passed_enable (is_down site.pair.link.state) site.pair.link.clean.a passed); sides = by_side _ (sides A) (sides B) })
  enabled B None passed = (refl, record { bridge = refl; link = enabled_in_place B (passed_enable (is_down site.pair.link.state) site.pair.link.clean.b passed); sides = by_side _ (sides A) (sides B) })
  enabled side (Some refusal) passed = (same_refusal refusal, record { bridge = refl; link = link; sides = sides })

  pub enable_follows : (side : Side) → Follows devs plan k site (Enable k side) (enable_step site.pair side) (move_of devs state (Enable k side))
  enable_follows side = enabled side (enable_refusal site.pair.link side) refl

  -- Train

  trained_side : (side : Side) → is_down site.pair.link.state ≡ true → has_link_forgotten site.pair.link side ≡ true
      → SideStands devs plan k side false false (side_of site.pair side).joined (side_of site.pair side).flight (side_of site.pair side).poked
      (λ queue. record (view_of site.pair side queue) { sends = fabric_sender_of fresh_lane; receives = fabric_receiver_of fresh_lane }) (at_side queues side)
  trained_side side down forgotten =
      let stands : SideStands devs plan k side true true (side_of site.pair side).joined (side_of site.pair side).flight (side_of site.pair side).poked (view_of site.pair side) (at_side queues side) =
      side_by devs plan k side _ true _ true _ _ _ _ _ down forgotten (sides side) in
      record {
        none_joined = λ no. absurd (false≢true no);
        in_flight = none_at (side_of site.pair side).flight (side_of site.pair side).poked (stands.in_flight.none refl).0 (stands.in_flight.none refl).1;
        all_queues = stands.all_queues;
        queues = λ queue among. fresh_queue_stands devs plan k side queue (view_of site.pair side queue) (slice_index_or (at_side queues side) queue no_queue) (stands.queues queue among);
      }
    where
      none_at : (flight : List Label) (poked : List (List ℕ)) → flight ≡ [] → poked ≡ [] → FlightInPlace plan side false (λ queue. []) flight poked (writes_labelled plan side (λ queue. []) flight poked)
      none_at flight poked none kept =
          subst (λ flight. FlightInPlace plan side false (λ queue. []) flight poked (writes_labelled plan side (λ queue. []) flight poked)) (sym none)
          (subst (λ poked. FlightInPlace plan side false (λ queue. []) [] poked []) (sym kept) (none_in_flight plan side false (λ queue. [])))

  trained : (refusal : Option LinkRefusal) → train_refusal site.pair.link ≡ refusal
      → Follows devs plan k site (Train k) (decided site.pair (answer_of_refusal refusal) (OkSession (site.pair.link.session + 1)) (record site.pair { link = trained_link site.pair.link; lanes = both_of (λ queue. fresh_lane) }))
      (moved refusal (OkSession (site.pair.link.session + 1)) (with_link state.bridge (trained_link site.pair.link)))
  trained None passed = (refl, record { bridge = same; link = λ side down. absurd (false≢true down); sides = by_side _ (trained_side A down (forgot A enabled.1)) (trained_side B down (forgot B enabled.2)) })
    where
      enabled : (is_down site.pair.link.state ≡ true) × (site.pair.link.enabled.a ≡ true) × (site.pair.link.enabled.b ≡ true)
      enabled = passed_train (is_down site.pair.link.state) site.pair.link.enabled.a site.pair.link.enabled.b _ passed

      down : is_down site.pair.link.state ≡ true
      down = enabled.0

      forgot : (side : Side) → at_side site.pair.link.enabled side ≡ true → has_link_forgotten site.pair.link side ≡ true
      forgot side agreed = ap (λ b. b && at_side site.pair.link.clean side) down ∙ link side down agreed

      none : (side : Side) → ((side_of site.pair side).flight ≡ []) × ((side_of site.pair side).poked ≡ [])
      none side = (sides side).in_flight.none down

      same : bridge_with plan (trained_link site.pair.link) site.pair.sides (all_sent site.pair.lanes) site.stores
          ≡ bridge_with plan (trained_link site.pair.link) site.pair.sides (all_sent (both_of (λ queue. fresh_lane))) site.stores
      same =
          bridge_same plan (trained_link site.pair.link) site.pair.sides (all_sent site.pair.lanes) (all_sent (both_of (λ queue. fresh_lane))) site.stores
          (no_writes plan A (sent_of site.pair.lanes.a) (λ queue. []) site.pair.sides.a.flight site.pair.sides.a.poked (none A).0 (none A).1) (no_writes plan B (sent_of site.pair.lanes.b) (λ queue. []) site.pair.sides.b.flight site.pair.sides.b.poked (none B).0 (none B).1)
  trained (Some refusal) passed = (same_refusal refusal, record { bridge = refl; link = link; sides = sides })

  pub train_follows : Follows devs plan k site (Train k) (train_step site.pair) (move_of devs state (Train k))
  train_follows = trained (train_refusal site.pair.link) refl

  -- Break

  not_forgotten : (side : Side) → is_down site.pair.link.state ≡ false → has_link_forgotten site.pair.link side ≡ false
  not_forgotten side down = ap (λ b. b && at_side site.pair.link.clean side) down

  not_forgetting : (side : Side) → is_down site.pair.link.state ≡ false
      → SideStands devs plan k side false false (side_of site.pair side).joined (side_of site.pair side).flight (side_of site.pair side).poked (view_of site.pair side) (at_side queues side)
  not_forgetting side down = side_by devs plan k side _ false _ false _ _ _ _ _ down (not_forgotten side down) (sides side)

  broken : (refusal : Option LinkRefusal) → cut_refusal site.pair.link ≡ refusal
      → Follows devs plan k site (Break k) (decided site.pair (answer_of_refusal refusal) Done (record site.pair { link = cut_link site.pair.link })) (moved refusal Done (with_link state.bridge (cut_link site.pair.link)))
  broken None passed =
      let up = not_down_up site.pair.link.state (passed_where (is_up site.pair.link.state) NotUp passed) in
      (refl, record { bridge = refl; link = λ side down. absurd (false≢true down); sides = by_side _ (not_forgetting A up) (not_forgetting B up) })
  broken (Some refusal) passed = (same_refusal refusal, record { bridge = refl; link = link; sides = sides })

  pub break_follows : Follows devs plan k site (Break k) (break_step site.pair) (move_of devs state (Break k))
  break_follows = broken (cut_refusal site.pair.link) refl

  -- Drop

  emptied : (side : Side) (view : ℕ → QueueView) → SideStands devs plan k side false false (side_of site.pair side).joined (side_of site.pair side).flight (side_of site.pair side).poked view (at_side queues side)
      → SideStands devs plan k side true false (side_of site.pair side).joined [] [] view (at_side queues side)
  emptied side view h = record { none_joined = h.none_joined; in_flight = none_in_flight plan side true (sent_in view); all_queues = h.all_queues; queues = h.queues }

  all_dropped : (refusal : Option LinkRefusal) → drop_refusal site.pair.link ≡ refusal
      → Follows devs plan k site (DropDone k)
      (decided site.pair (answer_of_refusal refusal) Done (record site.pair { link = dropped_link site.pair.link; sides = record { a = emptied_side site.pair.sides.a; b = emptied_side site.pair.sides.b } }))
      (moved refusal Done (dropped state.bridge))
  all_dropped None passed =
      let closing = not_down_closing site.pair.link.state (passed_where (is_closing site.pair.link.state) NotClosing passed) in
      (refl, record { bridge = refl; link = by_side _ (λ down no. absurd (false≢true no)) (λ down no. absurd (false≢true no)); sides = by_side _ (emptied A (view_of site.pair A) (not_forgetting A closing)) (emptied B (view_of site.pair B) (not_forgetting B closing)) })
  all_dropped (Some refusal) passed = (same_refusal refusal, record { bridge = refl; link = link; sides = sides })

  pub drop_follows : Follows devs plan k site (DropDone k) (drop_step site.pair) (move_of devs state (DropDone k))
  drop_follows = all_dropped (drop_refusal site.pair.link) refl

  -- Clean

  cleaned_end : (side : Side) → is_down site.pair.link.state ≡ true
      → SideStands devs plan k side (is_down site.pair.link.state) (is_down site.pair.link.state && true) 0 (side_of site.pair side).flight (side_of site.pair side).poked
      (λ queue. record (forgets_view (view_of site.pair side queue)) { closed = has_bit 0 queue }) (map forgotten_queue (at_side queues side))
  cleaned_end side down =
      side_by devs plan k side (is_down site.pair.link.state) _ true _ _ _ _ _ _ refl (sym (ap (λ b. b && true) down))
      (record {
        none_joined = λ _. refl;
        in_flight = (sides side).in_flight;
        all_queues = length-map (at_side queues side) forgotten_queue ∙ (sides side).all_queues;
        queues = λ queue among.
            let within : queue < length (at_side queues side) = subst (λ n. queue < n) (sym (sides side).all_queues) among in
            subst (QueueStands devs plan k side queue true (record (forgets_view (view_of site.pair side queue)) { closed = has_bit 0 queue })) (sym (get_or-map forgotten_queue (at_side queues side) queue no_queue no_queue within))
            (forgotten_queue_stands devs plan k side queue (has_link_forgotten site.pair.link side) (view_of site.pair side queue) (slice_index_or (at_side queues side) queue no_queue) ((sides side).queues queue among));
      })

  cleaned_in_place : (side : Side) → LinkInPlace (cleaned_link site.pair.link side)
  cleaned_in_place A A down enabled = refl
  cleaned_in_place A B down enabled = link B down enabled
  cleaned_in_place B A down enabled = link A down enabled
  cleaned_in_place B B down enabled = refl

  cleans : (side : Side) (refusal : Option LinkRefusal) → clean_refusal site.pair.link ≡ refusal
      → Follows devs plan k site (Clean k side) (decided site.pair (answer_of_refusal refusal) Done (cleaned_pair site.pair side))
      (record { answer = of_link refusal Done; after = with_bridge (forgotten refusal state side) (after_step refusal state.bridge (cleaned state.bridge side)) })
  cleans A None passed = (refl, record { bridge = refl; link = cleaned_in_place A; sides = by_side _ (cleaned_end A (passed_where (is_down site.pair.link.state) NotDown passed)) (sides B) })
  cleans B None passed = (refl, record { bridge = refl; link = cleaned_in_place B; sides = by_side _ (sides A) (cleaned_end B (passed_where (is_down site.pair.link.state) NotDown passed)) })
  cleans side (Some refusal) passed = (same_refusal refusal, record { bridge = refl; link = link; sides = sides })

  pub clean_follows : (side : Side) → Follows devs plan k site (Clean k side) (clean_step site.pair side) (move_of devs state (Clean k side))
  clean_follows side = cleans side (clean_refusal site.pair.link) refl
