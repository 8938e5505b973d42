-- What a refused step leaves of its pair.
use Rattle.std.proofs.Common.{◌≡◌, ◌∙◌, ℕ, Bool, true, false, ◌&&◌, Option, Some, None, List, [], ◌∷◌, ◌++◌, map, length, refl, sym, ap, set}
use Rattle.std.specs.Prelude.{◌+◌, if◌then◌else◌, nat_lt, option_map, remove, slice_get, take}
use Rattle.std.proofs.lemmas.Bool.{and_parts, both_ways, true≢false}
use Rattle.std.proofs.lemmas.List.{map-set, set-get_or}
use Rattle.std.proofs.lemmas.Option.{none-some, slice_get-map}
use Rattle.step_kinds.specs.Sides.{other_side}
use Rattle.step_kinds.specs.Subject.{subject_of}
use Rattle.step_kinds.specs.declared.lanes.Begun.{Begun}
use Rattle.step_kinds.specs.declared.lanes.Begun.TheVariants.{Ok as BegunOk, TooLong as FrameTooLong, Busy as PortBusy, NoRoom as RingFull}
use Rattle.step_kinds.specs.declared.lanes.LaneCopy.TheVariants.{Part, Whole, OutOfTurn as NotCopying}
use Rattle.step_kinds.specs.declared.names.Side.{Side}
use Rattle.step_kinds.specs.declared.names.Side.TheVariants.{A, B}
use Rattle.step_kinds.specs.declared.plan.DevPlan.{DevPlan}
use Rattle.step_kinds.specs.declared.steps.Answer.{Answer}
use Rattle.step_kinds.specs.declared.steps.Answer.TheVariants.{Ok as Done, OkSession, OkNumber, Stopped, Awake}
use Rattle.step_kinds.specs.declared.steps.Label.{Label}
use Rattle.step_kinds.specs.declared.steps.Step.{Step}
use Rattle.step_kinds.specs.declared.steps.Step.TheVariants.{Enable, Train, Break, DropDone, Clean, Offer, Check, Ready, Join, Begin, QpDown, Xbegin, Post, Land, Look, Copy, Clear, Ack, Wake, Relay, Xnext}
use Rattle.lane_model.specs.Lane.{Entry, data_of}
use Rattle.lane_model.specs.Tests.{is_cleared, is_copied, is_copying}
use Rattle.lane_model.specs.declared.Phase.TheVariants.{Cleared, Idle}
use Rattle.lane_model.specs.declared.Write.{Write}
use Rattle.lane_model.specs.declared.Write.TheVariants.{Flag as EntryFlag, Bell as QueueBell}
use Rattle.pair_model.specs.Ethernet.{ethernet_frame}
use Rattle.pair_model.specs.Labels.{label_of}
use Rattle.pair_model.specs.Link.{clean_refusal, cut_link, cut_refusal, drop_refusal, enable_refusal, enabled_link, train_refusal, trained_link}
use Rattle.pair_model.specs.Plans.{dev_plan}
use Rattle.pair_model.specs.declared.LinkRefusal.{LinkRefusal}
use Rattle.order_rules.specs.Order.{lands_behind, may_land}
use Rattle.posted_queue.specs.Landing.{answer_for}
use Rattle.bridge_pair.specs.Bridge.{Bridge, flight_of, with_flight, with_link}
use Rattle.bridge_pair.specs.Calls.{after_land, after_landed, landing}
use Rattle.bridge_pair.specs.Ends.{label_landed}
use Rattle.bridge_pair.specs.Flights.{Flying, flying_order}
use Rattle.bridge_pair.specs.Links.{after_step, cleaned, dropped}
use Rattle.hand_shake.specs.Checks.{check_answer, after_check_answer}
use Rattle.hand_shake.specs.Offers.{offer_answer, after_offer_answer}
use Rattle.hand_shake.specs.Queues.{after_join_answer, after_ready_answer, join_answer, ready_answer}
use Rattle.hand_shake.specs.declared.CheckAnswer.{CheckAnswer}
use Rattle.hand_shake.specs.declared.CheckAnswer.TheVariants as check
use Rattle.hand_shake.specs.declared.JoinAnswer.{JoinAnswer}
use Rattle.hand_shake.specs.declared.JoinAnswer.TheVariants as join
use Rattle.hand_shake.specs.declared.OfferAnswer.{OfferAnswer}
use Rattle.hand_shake.specs.declared.OfferAnswer.TheVariants as offer
use Rattle.hand_shake.specs.declared.ReadyAnswer.{ReadyAnswer}
use Rattle.hand_shake.specs.declared.ReadyAnswer.TheVariants as ready
use Rattle.frame_ring.specs.Calls.{port_after_look, port_begin_answer, port_down_answer, down_begun, first_label, first_posted, port_frame_begun, free_answer, gathered_next, last_got, let_go, more_entries, more_parts, port_next_begun, part_copied, rest_of, where_begun}
use Rattle.frame_ring.specs.Port.{PortState, Sending, with_receiving, with_sending}
use Rattle.frame_ring.specs.PortView.{flags_cleared, index_posted}
use Rattle.queue_pair.specs.Gates.{after_look_answer, answer_unless, begin_answer, closed_where_begun, look_answer, port_unless, sender_refusal}
use Rattle.queue_pair.specs.Queue.{QueueState, with_port}
use Rattle.queue_pair.specs.declared.BeginAnswer.{BeginAnswer}
use Rattle.queue_pair.specs.declared.BeginAnswer.TheVariants as begin
use Rattle.queue_pair.specs.declared.LookAnswer.{LookAnswer}
use Rattle.queue_pair.specs.declared.LookAnswer.TheVariants as look
use Rattle.fabric_rule.specs.Answers.{of_ack, of_begin, of_check, of_clear, of_copy, of_join, of_land, of_link, of_look, of_offer, of_post, of_ready, of_xbegin}
use Rattle.fabric_rule.specs.Parts.{PairState, QueuePart, no_queue, plain_pair, queue_of, with_bridge, with_queue}
use Rattle.step_kinds.specs.Answers.{is_made}
use Rattle.fabric_core.specs.Fabric.{FabricState, no_state, pair_of, plain}
use Rattle.fabric_core.specs.Refusals.{entry_let_go, queue_changed, refusal_counted, refused_in}
use Rattle.fabric_rule.specs.Turns.{accepted_where_begun, delivered_where_whole, xbegun}
use Rattle.fabric_rule.specs.Moves.{forgotten, move_of}

-- The link

link_kept : (done : Answer) → is_made done ≡ true → (pair : PairState) (new : Bridge) (refusal : Option LinkRefusal) → is_made (of_link refusal done) ≡ false
    → with_bridge pair (after_step refusal pair.bridge new) ≡ pair
link_kept done makes pair new None e = absurd (both_ways (is_made done) e makes)
link_kept done makes pair new (Some refusal) e = refl

clean_kept : (pair : PairState) (side : Side) (new : Bridge) (refusal : Option LinkRefusal) → is_made (of_link refusal Done) ≡ false
    → with_bridge (forgotten refusal pair side) (after_step refusal pair.bridge new) ≡ pair
clean_kept pair side new None e = absurd (true≢false e)
clean_kept pair side new (Some refusal) e = refl

-- The handshake

offer_kept : (pair : PairState) (side : Side) (answer : OfferAnswer) → is_made (of_offer answer) ≡ false → with_bridge pair (after_offer_answer pair.bridge side answer) ≡ pair
offer_kept pair side offer.LinkDown e = refl
offer_kept pair side offer.Already e = refl
offer_kept pair side (offer.Offered index) e = absurd (true≢false e)

check_kept : (pair : PairState) (side : Side) (answer : CheckAnswer) → is_made (of_check answer) ≡ false → with_bridge pair (after_check_answer pair.bridge side answer) ≡ pair
check_kept pair side check.LinkDown e = refl
check_kept pair side check.Already e = refl
check_kept pair side check.NotYet e = refl
check_kept pair side (check.Version seen own) e = refl
check_kept pair side (check.Queues seen own) e = refl
check_kept pair side (check.Windows seen own) e = refl
check_kept pair side (check.Size seen cap) e = refl
check_kept pair side check.Up e = absurd (true≢false e)

ready_kept : (pair : PairState) (side : Side) (queue : ℕ) (answer : ReadyAnswer) → is_made (of_ready answer) ≡ false
    → with_bridge pair (after_ready_answer pair.bridge side queue answer) ≡ pair
ready_kept pair side queue ready.LinkDown e = refl
ready_kept pair side queue ready.NotChecked e = refl
ready_kept pair side queue ready.Already e = refl
ready_kept pair side queue ready.Ok e = absurd (true≢false e)

join_kept : (pair : PairState) (side : Side) (queue : ℕ) (answer : JoinAnswer) → is_made (of_join answer) ≡ false
    → with_bridge pair (after_join_answer pair.bridge side queue answer) ≡ pair
join_kept pair side queue join.LinkDown e = refl
join_kept pair side queue join.NotReady e = refl
join_kept pair side queue join.Already e = refl
join_kept pair side queue join.NotYet e = refl
join_kept pair side queue join.Joined e = absurd (true≢false e)

-- A queue

-- what a queue was put in the place of itself
set_again : (pair : PairState) (side : Side) (queue : ℕ) → with_queue pair side queue (queue_of pair side queue) ≡ pair
set_again pair A queue = ap (λ parts. record pair { queues = record { a = parts; b = pair.queues.b } }) (set-get_or pair.queues.a queue no_queue)
set_again pair B queue = ap (λ parts. record pair { queues = record { a = pair.queues.a; b = parts } }) (set-get_or pair.queues.b queue no_queue)

queue_kept : (pair : PairState) (side : Side) (queue : ℕ) (part : QueuePart) → part ≡ queue_of pair side queue → with_queue pair side queue part ≡ pair
queue_kept pair side queue part same = ap (with_queue pair side queue) same ∙ set_again pair side queue

begin_kept : (session : ℕ) (part : QueuePart) (new : PortState) (refusal : Option BeginAnswer) (begun : Begun)
    → is_made (of_begin (answer_unless refusal begun)) ≡ false
    → accepted_where_begun (of_begin (answer_unless refusal begun)) session (record part { queue = port_unless refusal part.queue (where_begun part.queue.port new begun) }) ≡ part
begin_kept session part new None (BegunOk number) e = absurd (true≢false e)
begin_kept session part new None (FrameTooLong len most) e = refl
begin_kept session part new None PortBusy e = refl
begin_kept session part new None (RingFull head tail) e = refl
begin_kept session part new (Some (begin.Ok number)) begun e = absurd (true≢false e)
begin_kept session part new (Some begin.LinkDown) begun e = refl
begin_kept session part new (Some begin.NotReady) begun e = refl
begin_kept session part new (Some begin.Closed) begun e = refl
begin_kept session part new (Some (begin.TooLong len most)) begun e = refl
begin_kept session part new (Some begin.Busy) begun e = refl
begin_kept session part new (Some (begin.NoRoom head tail)) begun e = refl

down_kept : (own : QueueState) (new : PortState) (refusal : Option BeginAnswer) (begun : Begun)
    → is_made (of_begin (answer_unless refusal begun)) ≡ false
    → closed_where_begun (answer_unless refusal begun) (port_unless refusal own (where_begun own.port new begun)) ≡ own
down_kept own new None (BegunOk number) e = absurd (true≢false e)
down_kept own new None (FrameTooLong len most) e = refl
down_kept own new None PortBusy e = refl
down_kept own new None (RingFull head tail) e = refl
down_kept own new (Some (begin.Ok number)) begun e = absurd (true≢false e)
down_kept own new (Some begin.LinkDown) begun e = refl
down_kept own new (Some begin.NotReady) begun e = refl
down_kept own new (Some begin.Closed) begun e = refl
down_kept own new (Some (begin.TooLong len most)) begun e = refl
down_kept own new (Some begin.Busy) begun e = refl
down_kept own new (Some (begin.NoRoom head tail)) begun e = refl

xbegin_kept : (pair : PairState) (part : QueuePart) (frame : List ℕ) (answer : Answer)
    → is_made answer ≡ false → xbegun answer pair.bridge part frame ≡ refusal_counted part
xbegin_kept pair part frame (OkNumber number) e = absurd (true≢false e)
xbegin_kept pair part frame answer e = refl

look_kept : (own : QueueState) (new : PortState) (answer : LookAnswer) → is_made (of_look answer) ≡ false → after_look_answer answer own new ≡ own
look_kept own new (look.Ready number len) e = absurd (true≢false e)
look_kept own new look.Empty e = refl
look_kept own new look.PeerDown e = absurd (true≢false e)
look_kept own new (look.VerDiffers seen mine) e = refl
look_kept own new (look.Long len most) e = refl
look_kept own new look.OutOfTurn e = refl
look_kept own new look.NotReady e = refl
look_kept own new look.Closed e = refl

-- a copy is refused where nothing is copied; more parts and more entries say which answer it has else
copy_kept : (session : ℕ) (part : QueuePart) (new : PortState) (copying parts entries : Bool) (number place done : ℕ) (frame : List ℕ)
    → is_made (of_copy (if copying then (if parts then Part number place else if entries then Part number place else Whole done frame) else NotCopying)) ≡ false
    → delivered_where_whole (if copying then (if parts then Part number place else if entries then Part number place else Whole done frame) else NotCopying) session
    (record part { queue = with_port part.queue (if copying then new else part.queue.port) }) ≡ part
copy_kept session part new true true entries number place done frame e = absurd (true≢false e)
copy_kept session part new true false true number place done frame e = absurd (true≢false e)
copy_kept session part new true false false number place done frame e = absurd (true≢false e)
copy_kept session part new false parts entries number place done frame e = refl

-- a wake is refused where the device stays stopped
stays : (b : Bool) → is_made (if b then Stopped else Awake) ≡ false → b ≡ true
stays true e = refl
stays false e = absurd (true≢false e)

wake_kept : (part : QueuePart) (low : Bool) → (part.flow.stopped && low) ≡ true → record part { flow = record part.flow { stopped = part.flow.stopped && low } } ≡ part
wake_kept part low both = ap (λ stopped. record part { flow = record part.flow { stopped = stopped } }) (both ∙ sym (and_parts part.flow.stopped low both).0)

-- Posting

not_posted : (found : Option Label) → is_made (of_post found) ≡ false → found ≡ None
not_posted None e = refl
not_posted (Some label) e = absurd (true≢false e)

-- an entry has writes
some_write : (f : Write → Label) (writes : List Write) (write : Write) (others : List Write) → first_label (map f (writes ++ write ∷ others)) ≡ None → ⊥
some_write f [] write others e = none-some (f write) (sym e)
some_write f (first ∷ writes) write others e = none-some (f first) (sym e)

record IsIdle (next sending : Sending) : Type 0 where
  same : next ≡ sending
  none : sending.todo ≡ []

is_idle : (queue begun told : ℕ) (entry : Entry) (todo : List Label) (waiting : List Entry)
    → first_label (port_next_begun queue (record { begun = begun; told = told; entry = entry; todo = todo; waiting = waiting })).todo ≡ None
    → IsIdle (port_next_begun queue (record { begun = begun; told = told; entry = entry; todo = todo; waiting = waiting })) (record { begun = begun; told = told; entry = entry; todo = todo; waiting = waiting })
is_idle queue begun told entry [] [] e = record { same = refl; none = refl }
is_idle queue begun told entry [] (first ∷ others) e = absurd (some_write (label_of queue first) (data_of begun first) (EntryFlag begun) (QueueBell ∷ []) e)
is_idle queue begun told entry (label ∷ labels) waiting e = absurd (none-some label (sym e))

module _ (pair : PairState) (side : Side) (queue : ℕ) where
  abbrev Own : QueuePart
  Own = queue_of pair side queue

  abbrev Sends : Sending
  Sends = (queue_of pair side queue).queue.port.sending

  -- the pair where the port goes on from here
  abbrev PostedFrom : Sending → PairState
  PostedFrom next =
      with_bridge (with_queue pair side queue (record Own { queue = with_port Own.queue (with_sending Own.queue.port (let_go (record next { todo = rest_of next.todo }))) }))
      (first_posted pair.bridge Own.queue.port.side next.entry next.todo)

  abbrev PostedOf : List Label → List Label → PairState
  PostedOf todo rest =
      with_bridge (with_queue pair side queue (record Own { queue = with_port Own.queue (with_sending Own.queue.port (let_go (record Sends { todo = rest }))) }))
      (first_posted pair.bridge Own.queue.port.side Sends.entry todo)

  post_kept : IsIdle (port_next_begun Own.queue.port.queue Sends) Sends → PostedFrom (port_next_begun Own.queue.port.queue Sends) ≡ queue_changed pair side queue entry_let_go
  post_kept idle = ap PostedFrom idle.same ∙ ap (λ todo. PostedOf todo (rest_of todo)) idle.none ∙ ap (λ rest. PostedOf [] rest) (sym idle.none)

-- Landing

no_landing : (found : Option Flying) (may : Bool) → is_made (of_land (label_landed (answer_for found may))) ≡ false → (found ≡ None → may ≡ false) → may ≡ false
no_landing None may e none = none refl
no_landing (Some flying) true e none = absurd (true≢false e)
no_landing (Some flying) false e none = refl

flight_again : (bridge : Bridge) (side : Side) → with_flight bridge side (flight_of bridge side) ≡ bridge
flight_again bridge A = refl
flight_again bridge B = refl

not_landed : (bridge : Bridge) (side : Side) (found : Option Flying) → after_landed bridge side (answer_for found false) ≡ bridge
not_landed bridge side None = refl
not_landed bridge side (Some flying) = refl

land_kept : (pair : PairState) (side : Side) (place : ℕ) → is_made (of_land (label_landed (landing pair.bridge side place))) ≡ false → with_bridge pair (after_land pair.bridge side place) ≡ pair
land_kept pair side place e =
    ap (with_bridge pair)
    (ap Lands (no_landing (slice_get Writes place) (may_land (map flying_order Writes) place) e none_may)
    ∙ not_landed (with_flight pair.bridge side (flight_of pair.bridge side)) (other_side side) (slice_get Writes place)
    ∙ flight_again pair.bridge side)
  where
    Writes : List Flying
    Writes = (flight_of pair.bridge side).writes

    none_may : slice_get Writes place ≡ None → may_land (map flying_order Writes) place ≡ false
    none_may none = ap (λ found. lands_behind found (take place (map flying_order Writes))) (slice_get-map flying_order Writes place ∙ ap (option_map flying_order) none)

    -- the bridge where the write may land, or may not
    Lands : Bool → Bridge
    Lands may =
        after_landed
        (with_flight pair.bridge side (if may then record { writes = remove (flight_of pair.bridge side).writes place; spare = (flight_of pair.bridge side).spare } else flight_of pair.bridge side))
        (other_side side) (answer_for (slice_get (flight_of pair.bridge side).writes place) may)

-- Giving back

not_cleared : (turn : Bool) (number : ℕ) → is_made (of_clear (if turn then Some number else None)) ≡ false → turn ≡ false
not_cleared true number e = absurd (true≢false e)
not_cleared false number e = refl

not_acked : (turn : Bool) (number : ℕ) → is_made (of_ack (if turn then Some number else None)) ≡ false → turn ≡ false
not_acked true number e = absurd (true≢false e)
not_acked false number e = refl

turn_kept : (pair : PairState) (side : Side) (queue : ℕ) (new : PortState) (bridge : Bridge) (turn : Bool) → turn ≡ false
    → with_bridge (with_queue pair side queue (record (queue_of pair side queue) { queue = with_port (queue_of pair side queue).queue (if turn then new else (queue_of pair side queue).queue.port) }))
    (if turn then bridge else pair.bridge)
    ≡ pair
turn_kept pair side queue new bridge true e = absurd (true≢false e)
turn_kept pair side queue new bridge false e = set_again pair side queue

-- Each step

abbrev refused_pair : PairState → Step → PairState
refused_pair pair (Xbegin p side queue dev dst kind payload) = queue_changed pair side queue refusal_counted
refused_pair pair (Post p side queue) = queue_changed pair side queue entry_let_go
refused_pair pair step = pair

refused_move : (devs : List DevPlan) (pair : PairState) (step : Step) → is_made (move_of devs pair step).answer ≡ false → (move_of devs pair step).after ≡ refused_pair pair step
refused_move devs pair (Enable p side) e = link_kept Done refl pair (with_link pair.bridge (enabled_link pair.bridge.link side)) (enable_refusal pair.bridge.link side) e
refused_move devs pair (Train p) e = link_kept (OkSession (pair.bridge.link.session + 1)) refl pair (with_link pair.bridge (trained_link pair.bridge.link)) (train_refusal pair.bridge.link) e
refused_move devs pair (Break p) e = link_kept Done refl pair (with_link pair.bridge (cut_link pair.bridge.link)) (cut_refusal pair.bridge.link) e
refused_move devs pair (DropDone p) e = link_kept Done refl pair (dropped pair.bridge) (drop_refusal pair.bridge.link) e
refused_move devs pair (Clean p side) e = clean_kept pair side (cleaned pair.bridge side) (clean_refusal pair.bridge.link) e
refused_move devs pair (Offer p side) e = offer_kept pair side (offer_answer pair.bridge side) e
refused_move devs pair (Check p side) e = check_kept pair side (check_answer pair.bridge side) e
refused_move devs pair (Ready p side queue) e = ready_kept pair side queue (ready_answer pair.bridge side queue) e
refused_move devs pair (Join p side queue) e = join_kept pair side queue (join_answer pair.bridge side queue) e
refused_move devs pair (Begin p side queue frame) e =
    let part = queue_of pair side queue in
    queue_kept pair side queue _
    (begin_kept pair.bridge.link.session part (port_frame_begun part.queue.port frame) (sender_refusal part.queue pair.bridge) (port_begin_answer part.queue.port pair.bridge (length frame)) e)
refused_move devs pair (QpDown p side queue) e =
    let part = queue_of pair side queue in
    queue_kept pair side queue _
    (ap (λ (own : QueueState). record part { queue = own })
    (down_kept part.queue (down_begun part.queue.port) (sender_refusal part.queue pair.bridge) (port_down_answer part.queue.port pair.bridge) e))
refused_move devs pair (Xbegin p side queue dev dst kind payload) e =
    let part = queue_of pair side queue in
    let frame = ethernet_frame dst (dev_plan devs dev).address kind payload in
    ap (with_queue pair side queue)
    (xbegin_kept pair part frame (of_xbegin part.flow.stopped (begin_answer part.queue pair.bridge (length frame))) e)
refused_move devs pair (Post p side queue) e =
    let sending = (queue_of pair side queue).queue.port.sending in
    post_kept pair side queue
    (is_idle (queue_of pair side queue).queue.port.queue sending.begun sending.told sending.entry sending.todo sending.waiting
    (not_posted (first_label (port_next_begun (queue_of pair side queue).queue.port.queue sending).todo) e))
refused_move devs pair (Land p side place) e = land_kept pair side place e
refused_move devs pair (Look p side queue) e =
    let part = queue_of pair side queue in
    queue_kept pair side queue _
    (ap (λ (own : QueueState). record part { queue = own }) (look_kept part.queue (port_after_look part.queue.port pair.bridge) (look_answer part.queue pair.bridge) e))
refused_move devs pair (Copy p side queue) e =
    let part = queue_of pair side queue in
    let receiving = part.queue.port.receiving in
    let gathered = gathered_next part.queue.port pair.bridge in
    queue_kept pair side queue _
    (copy_kept pair.bridge.link.session part (with_receiving part.queue.port (part_copied receiving gathered)) (is_copying receiving.phase) (more_parts receiving) (more_entries receiving) receiving.got
    receiving.part receiving.done gathered e)
refused_move devs pair (Clear p side queue) e =
    let port = (queue_of pair side queue).queue.port in
    turn_kept pair side queue (with_receiving port (record port.receiving { phase = Cleared })) (flags_cleared pair.bridge port.side port.queue (last_got port.receiving)) (is_copied port.receiving.phase)
    (not_cleared (is_copied port.receiving.phase) (last_got port.receiving) e)
refused_move devs pair (Ack p side queue) e =
    let port = (queue_of pair side queue).queue.port in
    turn_kept pair side queue (with_receiving port (record port.receiving { phase = Idle })) (index_posted pair.bridge port.side port.queue (last_got port.receiving)) (is_cleared port.receiving.phase)
    (not_acked (is_cleared port.receiving.phase) (last_got port.receiving) e)
refused_move devs pair (Wake p side queue dev) e =
    let part = queue_of pair side queue in
    let low = nat_lt (free_answer part.queue.port pair.bridge) part.flow.start in
    queue_kept pair side queue _ (wake_kept part low (stays (part.flow.stopped && low) e))
refused_move devs pair (Relay p side queue switch port) e = refl
refused_move devs pair (Xnext p side queue dev) e = refl
refused_move devs pair step e = absurd (true≢false e)

-- The fabric

-- with pairs that are the same, promises aside, at one place
plain_same : (fabric : FabricState) (k : ℕ) (one other : PairState) → plain_pair one ≡ plain_pair other
    → plain (record fabric { pairs = set fabric.pairs k one }) ≡ plain (record fabric { pairs = set fabric.pairs k other })
plain_same fabric k one other same =
    ap (λ pairs. record { devs = fabric.devs; pairs = pairs })
    (map-set plain_pair fabric.pairs k one ∙ ap (set (map plain_pair fabric.pairs) k) same ∙ sym (map-set plain_pair fabric.pairs k other))

refused_there : (fabric : FabricState) (step : Step)
    → record fabric { pairs = set fabric.pairs (subject_of step) (refused_pair (pair_of fabric (subject_of step)) step) } ≡ refused_in fabric step
refused_there fabric (Xbegin p side queue dev dst kind payload) = refl
refused_there fabric (Post p side queue) = refl
refused_there fabric step = ap (λ pairs. record fabric { pairs = pairs }) (set-get_or fabric.pairs (subject_of step) no_state)

-- Setting a pair to what a refused step leaves of it gives what the step leaves of the fabric, promises aside.
pub refused_left : (fabric : FabricState) (step : Step) (pair : PairState) → is_made (move_of fabric.devs (pair_of fabric (subject_of step)) step).answer ≡ false
    → plain_pair pair ≡ plain_pair (move_of fabric.devs (pair_of fabric (subject_of step)) step).after
    → plain (record fabric { pairs = set fabric.pairs (subject_of step) pair }) ≡ plain (refused_in fabric step)
refused_left fabric step pair refused moved =
    plain_same fabric (subject_of step) pair (refused_pair (pair_of fabric (subject_of step)) step)
    (moved ∙ ap plain_pair (refused_move fabric.devs (pair_of fabric (subject_of step)) step refused))
    ∙ ap plain (refused_there fabric step)
