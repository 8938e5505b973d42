-- What a call of a queue keeps of all that was promised.
use Rattle.std.proofs.Common.{◌≡◌, ◌∙◌, ℕ, ◌+◌, ◌-◌, ◌≤◌, Contains, List, Option, Some, None, length, refl, sym, ap, subst, arith}
use Rattle.std.proofs.lemmas.List.Elements.{All-weaker}
use Rattle.step_kinds.specs.Sides.{other_side}
use Rattle.step_kinds.specs.declared.lanes.Begun.{Begun}
use Rattle.step_kinds.specs.declared.lanes.Begun.TheVariants.{Ok as BegunOk}
use Rattle.step_kinds.specs.declared.names.Side.{Side}
use Rattle.step_kinds.specs.declared.names.Side.TheVariants.{A, B}
use Rattle.step_kinds.specs.declared.plan.PairPlan.{PairPlan}
use Rattle.pair_model.specs.RingWrites.{WindowWrite, entry_write}
use Rattle.bridge_pair.specs.Bridge.{Bridge, flight_of, pages_of, with_pages}
use Rattle.bridge_pair.specs.Pages.{PagesGrow}
use Rattle.fabric_rule.specs.Parts.{QueuePart, plain_bridge}
use Rattle.frame_ring.specs.Calls.{port_begin_answer, port_down_answer, down_begun, port_frame_begun, where_begun}
use Rattle.frame_ring.specs.Port.{Left, PortState, unused_of, writes_left}
use Rattle.frame_ring.specs.PortCalls.{IsGrown, IsGrownBoth}
use Rattle.frame_ring.specs.PortView.{HasPortPages, HasPagesIn, IsLeftReady, IsPortReady, with_room}
use Rattle.queue_pair.specs.Gates.{queue_after_begin, after_qpdown, closed_where_begun, port_unless, qpdown_answer, sender_refusal}
use Rattle.queue_pair.specs.Queue.{QueueState}
use Rattle.queue_pair.specs.declared.BeginAnswer.{BeginAnswer}
use Rattle.queue_pair.specs.declared.BeginAnswer.TheVariants.{Ok as IsBegun}
use Rattle.fabric_core.specs.Parts.{KeepsPort}

-- Pages that were promised stay so

Stay : List ℕ → List ℕ → Type 0
Stay old new = (page : ℕ) → Contains old page → Contains new page

still_ready : (plan : PairPlan) (side : Side) (old new : List ℕ) (write : Option WindowWrite) → ((page : ℕ) → Contains old page → Contains new page) → IsPortReady plan side old write
    → IsPortReady plan side new write
still_ready plan side old new None stay ready = tt
still_ready plan side old new (Some write) stay ready = λ reach page touches. stay page (ready reach page touches)

-- A port keeps its promised pages where no page that was promised in either memory is lost.
pub pages_stay : (port : PortState) (own peer own_new peer_new : List ℕ) → ((page : ℕ) → Contains own page → Contains own_new page) → ((page : ℕ) → Contains peer page → Contains peer_new page)
    → HasPortPages port own peer → HasPortPages port own_new peer_new
pages_stay port own peer own_new peer_new stay peer_stay ready =
    record {
      writes =
          All-weaker (IsLeftReady port.plan port.side peer) (IsLeftReady port.plan port.side peer_new)
          (λ (left : Left) (h : IsLeftReady port.plan port.side peer left). still_ready port.plan port.side peer peer_new (entry_write port.plan port.side left.entry left.label) peer_stay h) (writes_left port)
          ready.writes;
      flags = λ busy page touches. stay page (ready.flags busy page touches);
      index_word = λ busy reach page touches. peer_stay page (ready.index_word busy reach page touches);
    }

-- A call that grew pages and room

grown_own : (bridge : Bridge) (side : Side) (pages : List ℕ) (more : ℕ) → pages_of (with_room (with_pages bridge (other_side side) pages) side more) side ≡ pages_of bridge side
grown_own bridge A pages more = refl
grown_own bridge B pages more = refl

grown_spare : (bridge : Bridge) (side : Side) (pages : List ℕ) (more : ℕ) → (flight_of (with_room (with_pages bridge (other_side side) pages) side more) side).spare ≡ (flight_of bridge side).spare + more
grown_spare bridge A pages more = refl
grown_spare bridge B pages more = refl

grown_peer : (bridge : Bridge) (side : Side) (pages : List ℕ) (more : ℕ) → (flight_of (with_room (with_pages bridge (other_side side) pages) side more) (other_side side)).spare ≡ (flight_of bridge (other_side side)).spare
grown_peer bridge A pages more = refl
grown_peer bridge B pages more = refl

grown_plain : (bridge : Bridge) (side : Side) (pages : List ℕ) (more : ℕ) → plain_bridge (with_room (with_pages bridge (other_side side) pages) side more) ≡ plain_bridge bridge
grown_plain bridge A pages more = refl
grown_plain bridge B pages more = refl

-- of numbers alone
more_room : (spare spare_after unused unused_after : ℕ) → unused ≤ unused_after → spare_after ≡ spare + (unused_after - unused) → spare_after + unused ≡ spare + unused_after
more_room spare spare_after unused unused_after grows e = omega (arith, grows, e)

no_less : (n : ℕ) → n ≤ n
no_less n = omega arith

either_side : (P : Side → Type 0) (side : Side) → P side → P (other_side side) → (any : Side) → P any
either_side P A own peer A = own
either_side P A own peer B = peer
either_side P B own peer A = peer
either_side P B own peer B = own

-- a port of the same queue
pub record SamePlace (new old : PortState) : Type 0 where
  pub same_plan : new.plan ≡ old.plan
  pub same_side : new.side ≡ old.side
  pub same_queue : new.queue ≡ old.queue

-- Each port has the same plan, side and queue as itself.
pub same_place : (port : PortState) → SamePlace port port
same_place port = record { same_plan = refl; same_side = refl; same_queue = refl }

-- Promising pages at the peer and room at the side leaves a bridge the same, promises aside.
pub plain_grown : (old new : PortState) (before after : Bridge) → IsGrown old new before after → plain_bridge after ≡ plain_bridge before
plain_grown old new before after rest = ap plain_bridge rest ∙ grown_plain before old.side (pages_of after (other_side old.side)) (unused_of new - unused_of old)

keeps_grown : (old new : PortState) (before after : Bridge) (touched : ℕ → Type 0) → SamePlace new old → unused_of old ≤ unused_of new
    → IsGrown old new before after
    → PagesGrow touched (pages_of before (other_side old.side)) (pages_of after (other_side old.side)) → HasPagesIn new after → KeepsPort old new before after
keeps_grown old new before after touched same grows rest grow ready =
    let side = old.side in
    let pages = pages_of after (other_side side) in
    let more = unused_of new - unused_of old in
    let own : pages_of after side ≡ pages_of before side = ap (λ (bridge : Bridge). pages_of bridge side) rest ∙ grown_own before side pages more in
    let spare : (flight_of after side).spare ≡ (flight_of before side).spare + more = ap (λ (bridge : Bridge). (flight_of bridge side).spare) rest ∙ grown_spare before side pages more in
    let peer : (flight_of after (other_side side)).spare ≡ (flight_of before (other_side side)).spare =
    ap (λ (bridge : Bridge). (flight_of bridge (other_side side)).spare) rest ∙ grown_peer before side pages more in
    record {
      same_plan = same.same_plan;
      same_side = same.same_side;
      same_queue = same.same_queue;
      plan = ap (λ (bridge : Bridge). bridge.plan) rest;
      pages =
          either_side (λ any. (page : ℕ) → Contains (pages_of before any) page → Contains (pages_of after any) page) side
          (λ page had. subst (λ pages. Contains pages page) (sym own) had) grow.stay;
      room = more_room (flight_of before side).spare (flight_of after side).spare (unused_of old) (unused_of new) grows spare;
      peer_room = peer;
      ready = ready;
    }

-- where the call answered out of memory, the port is as it was
ready_after : (old new : PortState) (before after : Bridge) (touched : ℕ → Type 0)
    → IsGrown old new before after
    → PagesGrow touched (pages_of before (other_side old.side)) (pages_of after (other_side old.side)) → HasPagesIn old before
    → new ≡ old → HasPagesIn new after
ready_after old new before after touched rest grow ready same =
    let own : pages_of after old.side ≡ pages_of before old.side =
    ap (λ (bridge : Bridge). pages_of bridge old.side) rest ∙ grown_own before old.side (pages_of after (other_side old.side)) (unused_of new - unused_of old) in
    subst (λ (port : PortState). HasPagesIn port after) (sym same)
    (pages_stay old (pages_of before old.side) (pages_of before (other_side old.side)) (pages_of after old.side) (pages_of after (other_side old.side))
    (λ page had. subst (λ pages. Contains pages page) (sym own) had) grow.stay ready)

-- A look, which grows the pages of both sides

both_own : (bridge : Bridge) (side : Side) (peer own : List ℕ) (more : ℕ)
    → pages_of (with_room (with_pages (with_pages bridge (other_side side) peer) side own) side more) side ≡ own
both_own bridge A peer own more = refl
both_own bridge B peer own more = refl

both_peer : (bridge : Bridge) (side : Side) (peer own : List ℕ) (more : ℕ)
    → (flight_of (with_room (with_pages (with_pages bridge (other_side side) peer) side own) side more) (other_side side)).spare ≡ (flight_of bridge (other_side side)).spare
both_peer bridge A peer own more = refl
both_peer bridge B peer own more = refl

both_spare : (bridge : Bridge) (side : Side) (peer own : List ℕ) (more : ℕ)
    → (flight_of (with_room (with_pages (with_pages bridge (other_side side) peer) side own) side more) side).spare ≡ (flight_of bridge side).spare + more
both_spare bridge A peer own more = refl
both_spare bridge B peer own more = refl

both_plain : (bridge : Bridge) (side : Side) (peer own : List ℕ) (more : ℕ)
    → plain_bridge (with_room (with_pages (with_pages bridge (other_side side) peer) side own) side more) ≡ plain_bridge bridge
both_plain bridge A peer own more = refl
both_plain bridge B peer own more = refl

-- Promising pages in both memories and room at the side leaves a bridge the same, promises aside.
pub plain_grown_both : (old new : PortState) (before after : Bridge) → IsGrownBoth old new before after → plain_bridge after ≡ plain_bridge before
plain_grown_both old new before after rest =
    ap plain_bridge rest ∙ both_plain before old.side (pages_of after (other_side old.side)) (pages_of after old.side) (unused_of new - unused_of old)

keeps_both : (old new : PortState) (before after : Bridge) (touched flags : ℕ → Type 0) → SamePlace new old → unused_of old ≤ unused_of new
    → IsGrownBoth old new before after
    → PagesGrow touched (pages_of before (other_side old.side)) (pages_of after (other_side old.side)) → PagesGrow flags (pages_of before old.side) (pages_of after old.side)
    → HasPagesIn new after → KeepsPort old new before after
keeps_both old new before after touched flags same grows rest grow own_grow ready =
    let side = old.side in
    let peer = pages_of after (other_side side) in
    let own = pages_of after side in
    let more = unused_of new - unused_of old in
    let spare : (flight_of after side).spare ≡ (flight_of before side).spare + more = ap (λ (bridge : Bridge). (flight_of bridge side).spare) rest ∙ both_spare before side peer own more in
    let peer_spare : (flight_of after (other_side side)).spare ≡ (flight_of before (other_side side)).spare =
    ap (λ (bridge : Bridge). (flight_of bridge (other_side side)).spare) rest ∙ both_peer before side peer own more in
    record {
      same_plan = same.same_plan;
      same_side = same.same_side;
      same_queue = same.same_queue;
      plan = ap (λ (bridge : Bridge). bridge.plan) rest;
      pages = either_side (λ any. (page : ℕ) → Contains (pages_of before any) page → Contains (pages_of after any) page) side own_grow.stay grow.stay;
      room = more_room (flight_of before side).spare (flight_of after side).spare (unused_of old) (unused_of new) grows spare;
      peer_room = peer_spare;
      ready = ready;
    }

-- where the look answered out of memory, the port is as it was
ready_both : (old new : PortState) (before after : Bridge) (touched flags : ℕ → Type 0)
    → PagesGrow touched (pages_of before (other_side old.side)) (pages_of after (other_side old.side)) → PagesGrow flags (pages_of before old.side) (pages_of after old.side)
    → HasPagesIn old before → new ≡ old → HasPagesIn new after
ready_both old new before after touched flags grow own_grow ready same =
    subst (λ (port : PortState). HasPagesIn port after) (sym same)
    (pages_stay old (pages_of before old.side) (pages_of before (other_side old.side)) (pages_of after old.side) (pages_of after (other_side old.side)) own_grow.stay grow.stay ready)

-- A call that changed no promise but those that it used

-- A call keeps what was promised where its port has its pages, all pages stay, and room goes with unused promises.
pub keeps_exact : (old new : PortState) (before after : Bridge) → SamePlace new old → after.plan ≡ before.plan → ((any : Side) → pages_of after any ≡ pages_of before any)
    → (flight_of after old.side).spare + unused_of old ≡ (flight_of before old.side).spare + unused_of new
    → (flight_of after (other_side old.side)).spare ≡ (flight_of before (other_side old.side)).spare → HasPagesIn new after → KeepsPort old new before after
keeps_exact old new before after same plan pages room peer ready =
    record {
      same_plan = same.same_plan;
      same_side = same.same_side;
      same_queue = same.same_queue;
      plan = plan;
      pages = λ any page had. subst (λ pages. Contains pages page) (sym (pages any)) had;
      room = room;
      peer_room = peer;
      ready = ready;
    }

-- A queue's call keeps what its port's does, as the part is seen
pub keeps_seen : (seen part : QueuePart) (new next : QueueState) (before after : Bridge) → seen ≡ part → new ≡ next → SamePlace next.port seen.queue.port
    → (SamePlace new.port seen.queue.port → HasPagesIn new.port after → KeepsPort seen.queue.port new.port before after)
    → (HasPagesIn seen.queue.port before → HasPagesIn new.port after) → HasPagesIn part.queue.port before → KeepsPort part.queue.port new.port before after
keeps_seen seen part new next before after view is place keeps ready had =
    let old = seen.queue.port in
    let same : SamePlace new.port old = subst (λ (queue : QueueState). SamePlace queue.port old) (sym is) place in
    let here : HasPagesIn old before = subst (λ (part : QueuePart). HasPagesIn part.queue.port before) (sym view) had in
    subst (λ (part : QueuePart). KeepsPort part.queue.port new.port before after) view (keeps same (ready here))

-- the same of a call that grew the pages at the peer, and where it answered out of memory
pub begun_keeps : (seen part : QueuePart) (new next : QueueState) (before after : Bridge) (touched : ℕ → Type 0) → seen ≡ part → new ≡ next → SamePlace next.port seen.queue.port
    → unused_of seen.queue.port ≤ unused_of next.port
    → IsGrown seen.queue.port new.port before after
    → PagesGrow touched (pages_of before (other_side seen.queue.port.side)) (pages_of after (other_side seen.queue.port.side))
    → (HasPagesIn seen.queue.port before → HasPagesIn new.port after) → HasPagesIn part.queue.port before → KeepsPort part.queue.port new.port before after
begun_keeps seen part new next before after touched view is place grows rest grow =
    keeps_seen seen part new next before after view is place
    (λ same. keeps_grown seen.queue.port new.port before after touched same (subst (λ (queue : QueueState). unused_of seen.queue.port ≤ unused_of queue.port) (sym is) grows) rest grow)

-- A queue's call that is out of memory, after pages at the peer grew, keeps all that was promised.
pub wanted_keeps : (seen part : QueuePart) (new : QueueState) (before after : Bridge) (touched : ℕ → Type 0) → seen ≡ part → new ≡ seen.queue
    → IsGrown seen.queue.port new.port before after
    → PagesGrow touched (pages_of before (other_side seen.queue.port.side)) (pages_of after (other_side seen.queue.port.side))
    → HasPagesIn part.queue.port before → KeepsPort part.queue.port new.port before after
wanted_keeps seen part new before after touched view is rest grow =
    begun_keeps seen part new seen.queue before after touched view is (same_place seen.queue.port) (no_less (unused_of seen.queue.port)) rest grow
    (λ had. ready_after seen.queue.port new.port before after touched rest grow had (ap (λ (queue : QueueState). queue.port) is))

-- and of a look
pub looked_keeps : (seen part : QueuePart) (new next : QueueState) (before after : Bridge) (touched flags : ℕ → Type 0) → seen ≡ part → new ≡ next → SamePlace next.port seen.queue.port
    → unused_of seen.queue.port ≤ unused_of next.port
    → IsGrownBoth seen.queue.port new.port before after
    → PagesGrow touched (pages_of before (other_side seen.queue.port.side)) (pages_of after (other_side seen.queue.port.side))
    → PagesGrow flags (pages_of before seen.queue.port.side) (pages_of after seen.queue.port.side)
    → (HasPagesIn seen.queue.port before → HasPagesIn new.port after) → HasPagesIn part.queue.port before → KeepsPort part.queue.port new.port before after
looked_keeps seen part new next before after touched flags view is place grows rest grow own_grow =
    keeps_seen seen part new next before after view is place
    (λ same. keeps_both seen.queue.port new.port before after touched flags same (subst (λ (queue : QueueState). unused_of seen.queue.port ≤ unused_of queue.port) (sym is) grows) rest grow own_grow)

-- A queue's look that is out of memory, after pages in both memories grew, keeps all that was promised.
pub look_wanted_keeps : (seen part : QueuePart) (new : QueueState) (before after : Bridge) (touched flags : ℕ → Type 0) → seen ≡ part → new ≡ seen.queue
    → IsGrownBoth seen.queue.port new.port before after
    → PagesGrow touched (pages_of before (other_side seen.queue.port.side)) (pages_of after (other_side seen.queue.port.side))
    → PagesGrow flags (pages_of before seen.queue.port.side) (pages_of after seen.queue.port.side)
    → HasPagesIn part.queue.port before → KeepsPort part.queue.port new.port before after
look_wanted_keeps seen part new before after touched flags view is rest grow own_grow =
    looked_keeps seen part new seen.queue before after touched flags view is (same_place seen.queue.port) (no_less (unused_of seen.queue.port)) rest grow own_grow
    (λ had. ready_both seen.queue.port new.port before after touched flags grow own_grow had (ap (λ (queue : QueueState). queue.port) is))

-- The port after each call is of the same queue, and but for a look and a copy it receives as before

begun_place : (queue : QueueState) (begun_port : PortState) (refusal : Option BeginAnswer) (begun : Begun) → SamePlace begun_port queue.port
    → SamePlace (port_unless refusal queue (where_begun queue.port begun_port begun)).port queue.port
begun_place queue port (Some refusal) begun same = same_place queue.port
begun_place queue port None (BegunOk number) same = same
begun_place queue port None begun same = same_place queue.port

begun_receives : (queue : QueueState) (port : PortState) (refusal : Option BeginAnswer) (begun : Begun) → port.receiving ≡ queue.port.receiving
    → (port_unless refusal queue (where_begun queue.port port begun)).port.receiving ≡ queue.port.receiving
begun_receives queue port (Some refusal) begun same = refl
begun_receives queue port None (BegunOk number) same = same
begun_receives queue port None begun same = refl

closed_port : (answer : BeginAnswer) (queue : QueueState) → (closed_where_begun answer queue).port ≡ queue.port
closed_port (IsBegun number) queue = refl
closed_port answer queue = refl

-- A begin leaves the port of a queue with the plan, side and queue that it had.
pub begin_place : (queue : QueueState) (bridge : Bridge) (frame : List ℕ) → SamePlace (queue_after_begin queue bridge frame).port queue.port
begin_place queue bridge frame =
    begun_place queue (port_frame_begun queue.port frame) (sender_refusal queue bridge) (port_begin_answer queue.port bridge (length frame)) (record { same_plan = refl; same_side = refl; same_queue = refl })

-- A begin leaves the receiver of a queue's port as it was.
pub begin_receives : (queue : QueueState) (bridge : Bridge) (frame : List ℕ) → (queue_after_begin queue bridge frame).port.receiving ≡ queue.port.receiving
begin_receives queue bridge frame = begun_receives queue (port_frame_begun queue.port frame) (sender_refusal queue bridge) (port_begin_answer queue.port bridge (length frame)) refl

down_unless : QueueState → Bridge → QueueState
down_unless queue bridge = port_unless (sender_refusal queue bridge) queue (where_begun queue.port (down_begun queue.port) (port_down_answer queue.port bridge))

-- A going down leaves the port of a queue with the plan, side and queue that it had.
pub down_place : (queue : QueueState) (bridge : Bridge) → SamePlace (after_qpdown queue bridge).port queue.port
unfolding down_unless
down_place queue bridge =
    subst (λ port. SamePlace port queue.port) (sym (closed_port (qpdown_answer queue bridge) (down_unless queue bridge)))
    (begun_place queue (down_begun queue.port) (sender_refusal queue bridge) (port_down_answer queue.port bridge) (record { same_plan = refl; same_side = refl; same_queue = refl }))

-- A going down leaves the receiver of a queue's port as it was.
pub down_receives : (queue : QueueState) (bridge : Bridge) → (after_qpdown queue bridge).port.receiving ≡ queue.port.receiving
unfolding down_unless
down_receives queue bridge =
    ap (λ (port : PortState). port.receiving) (closed_port (qpdown_answer queue bridge) (down_unless queue bridge))
    ∙ begun_receives queue (down_begun queue.port) (sender_refusal queue bridge) (port_down_answer queue.port bridge) refl
