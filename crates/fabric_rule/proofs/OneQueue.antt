-- One queue of one side, as a fabric keeps it and as a site has it.
use Rattle.std.proofs.Common.{◌≡◌, ℕ, ◌<◌, Bool, true, false, List, refl, sym, ap, ◌∙◌, subst}
use Rattle.std.specs.Prelude.{slice_index_or, ◌⊎◌, ◌++◌, [], slice_set}
use Rattle.std.proofs.lemmas.Bool.{false≢true}
use Rattle.step_kinds.specs.Bits.{has_bit}
use Rattle.step_kinds.specs.Sides.{other_side}
use Rattle.step_kinds.specs.declared.names.Side.{Side}
use Rattle.step_kinds.specs.declared.names.Side.TheVariants.{A, B}
use Rattle.step_kinds.specs.declared.plan.DevPlan.{DevPlan}
use Rattle.step_kinds.specs.declared.plan.PairPlan.{PairPlan}
use Rattle.pair_model.specs.Both.{Both, at_side}
use Rattle.pair_model.specs.DeclaredPlans.{IsPair, SizesFit}
use Rattle.pair_model.specs.Plans.{side_plan}
use Rattle.ledger_model.specs.Ledger.{LanePart, lane_to, side_of, with_lane, DevPart, PairPart, SidePart, Tally, dev_of, lane_of, tally_of, with_dev}
use Rattle.ledger_model.specs.Memory.{Site, bytes_of_site}
use Rattle.pair_model.specs.Headers.{index_word_in}
use Rattle.ledger_model.specs.Reading.{Reading, by_bytes}
use Rattle.frame_ring.specs.PortView.{bytes_seen}
use Rattle.queue_pair.specs.Queue.{QueueState, with_port}
use Rattle.lane_model.specs.Lane.{Entry}
use Rattle.bridge_pair.specs.Bridge.{Bridge, book_of}
use Rattle.fabric_rule.specs.InPlace.{LinkInPlace, SendingEnd, fabric_receiver_of, fabric_sender_of, ReceivingInPlace, SendingInPlace, last_entry}
use Rattle.fabric_rule.specs.Parts.{PairState, QueuePart, no_queue, with_queue, SessionCount, count_in}
use Rattle.fabric_rule.specs.StandsFor.{PairStands, QueueStands, bridge_with, has_link_forgotten, port_for, sent_of, view_of, QueueView, SideStands, all_sent, bridge_for, is_left, sending_for, writes_labelled}
use Rattle.fabric_rule.proofs.Follows.{with_promises, AllSides, state_for, by_end, by_side, same_at, two_same}
use Rattle.fabric_rule.proofs.Links.{no_bits, bridge_same}
use Rattle.fabric_rule.proofs.Queues.{queue_is, set_again, other_dev, side_at, side_same}
use Rattle.std.proofs.lemmas.List.{append-nil}
use Rattle.step_kinds.specs.declared.plan.Counters.{Counters}
use Rattle.pair_model.specs.Device.{Flow}
use Rattle.pair_model.specs.Link.{is_down}
use Rattle.frame_ring.specs.Port.{Sending, with_receiving, with_sending}
use Rattle.fabric_rule.proofs.Changes.{OneChanges, OneCloses, changes, grows_at, none_closes, peer_changes, peer_grows, same_read, stays}
use Rattle.fabric_rule.proofs.Flights.{SentGrows, flight_grows, writes_grow}

-- a site, and what is kept of it
pub record Standing (devs : List DevPlan) (plan : PairPlan) (k : ℕ) : Type 0 where
  pub site : Site
  pub pages : Both (List ℕ)
  pub spare : Both ℕ
  pub queues : Both (List QueuePart)
  pub link : LinkInPlace site.pair.link
  pub sides : AllSides devs plan k site.pair queues
  pub declared : IsPair plan

module _ {devs : List DevPlan} {plan : PairPlan} {k : ℕ} (now : Standing devs plan k) where
  -- what is kept of the pair, and of a queue
  abbrev pub kept : PairState
  kept = state_for plan now.site now.pages now.spare now.queues

  abbrev pub part : Side → ℕ → QueuePart
  part side queue = slice_index_or (at_side now.queues side) queue no_queue

  -- its queue pair, if the side has forgotten its session or has not
  abbrev pub port_queue : Side → ℕ → Bool → QueueState
  port_queue side queue forgotten = record { port = port_for plan side queue forgotten (view_of now.site.pair side queue) (part side queue).queue.port.sending.entry; closed = has_bit (side_of now.site.pair side).closed queue }

  -- the part with another queue pair
  abbrev pub part_with : Side → ℕ → QueueState → QueuePart
  part_with side queue q = record (part side queue) { queue = q }

  -- what the bytes say
  abbrev pub reads : Reading
  reads = by_bytes plan (bytes_of_site now.site) now.site.pair

  -- the index word that a port sees
  abbrev pub seen_word : Side → ℕ → ℕ
  seen_word side queue = index_word_in plan (bytes_seen kept.bridge) side queue

  pub is_queue : (side : Side) (queue : ℕ) (forgotten : Bool) → queue < (side_plan plan side).queues → has_link_forgotten now.site.pair.link side ≡ forgotten → (part side queue).queue ≡ port_queue side queue forgotten
  is_queue side queue forgotten among is = queue_is devs plan k side queue (has_link_forgotten now.site.pair.link side) forgotten (view_of now.site.pair side queue) (part side queue) is ((now.sides side).queues queue among)

  pub stands_by : (side : Side) (queue : ℕ) (forgotten : Bool) → queue < (side_plan plan side).queues → has_link_forgotten now.site.pair.link side ≡ forgotten → QueueStands devs plan k side queue forgotten (view_of now.site.pair side queue) (part side queue)
  stands_by side queue forgotten among is = subst (λ f. QueueStands devs plan k side queue f (view_of now.site.pair side queue) (part side queue)) is ((now.sides side).queues queue among)

  -- the bridge's book has the queues that the side joined
  pub joined_is : (side : Side) (queue : ℕ) → has_bit (book_of kept.bridge side).joined queue ≡ has_bit (side_of now.site.pair side).joined queue
  joined_is A queue = refl
  joined_is B queue = refl

  -- what is kept represents the site
  pub stands_now : PairStands devs plan k now.site kept
  stands_now = record { bridge = refl; link = now.link; sides = now.sides }

  -- nothing changed
  pub unchanged : (side : Side) (queue : ℕ) (q : QueueState) → (part side queue).queue ≡ q → PairStands devs plan k now.site (with_queue kept side queue (part_with side queue q))
  unchanged side queue q is =
      subst (λ (q : QueueState). PairStands devs plan k now.site (with_queue kept side queue (part_with side queue q))) is
      (subst (PairStands devs plan k now.site) (sym (set_again kept side queue)) stands_now)

  pub as_it_was : (side : Side) (queue : ℕ) (forgotten : Bool) → queue < (side_plan plan side).queues → has_link_forgotten now.site.pair.link side ≡ forgotten → PairStands devs plan k now.site (with_queue kept side queue (part_with side queue (port_queue side queue forgotten)))
  as_it_was side queue forgotten among is = unchanged side queue (port_queue side queue forgotten) (is_queue side queue forgotten among is)

  -- what holds by the queue pair, whether its side has forgotten its session or not
  pub by_queue : (side : Side) (queue : ℕ) (P : QueueState → Type 0) → queue < (side_plan plan side).queues → ((forgotten : Bool) → has_link_forgotten now.site.pair.link side ≡ forgotten → P (port_queue side queue forgotten)) → P (part side queue).queue
  by_queue side queue P among holds = subst P (sym (is_queue side queue (has_link_forgotten now.site.pair.link side) among refl)) (holds (has_link_forgotten now.site.pair.link side) refl)

  -- the pair after a step that left the bridge's bytes, and what holds of its bridge
  abbrev pub then_standing : (pair : PairPart) (queues : Both (List QueuePart)) → PairStands devs plan k (record now.site { pair = pair }) (record kept { queues = queues }) → Standing devs plan k
  then_standing pair queues stands = record { site = record now.site { pair = pair }; pages = now.pages; spare = now.spare; queues = queues; link = stands.link; sides = stands.sides; declared = now.declared }

  pub by_bridge : (pair : PairPart) (queues : Both (List QueuePart)) (P : Bridge → Type 0) → PairStands devs plan k (record now.site { pair = pair }) (record kept { queues = queues }) → P (with_promises (bridge_for plan (record now.site { pair = pair })) now.pages now.spare) → P kept.bridge
  by_bridge pair queues P stands holds = subst P (sym (ap (λ (bridge : Bridge). with_promises bridge now.pages now.spare) stands.bridge)) holds

  -- a side that has forgotten its session has no queue joined
  pub no_joined : (side : Side) (queue : ℕ) → has_link_forgotten now.site.pair.link side ≡ true → has_bit (side_of now.site.pair side).joined queue ≡ false
  no_joined side queue forgot = ap (λ bits. has_bit bits queue) ((now.sides side).none_joined forgot) ∙ no_bits queue

  -- What a step on one queue of one side changes: that queue, and nothing that the peer sees of others

  -- the pair with other lanes, devices and tallies, and with other queues closed
  abbrev pub pair_with : Both SidePart → Both (ℕ → LanePart) → Both (ℕ → DevPart) → Both (ℕ → ℕ → Tally) → PairPart
  pair_with sides lanes devices tallies = record now.site.pair { sides = sides; lanes = lanes; devs = devices; tallies = tallies }

  -- what a side sees of a queue, by the parts of a pair
  abbrev view_by : Side → Side → Both SidePart → Both (ℕ → LanePart) → Both (ℕ → DevPart) → Both (ℕ → ℕ → Tally) → ℕ → QueueView
  view_by side peer sides lanes devices tallies queue =
      record {
        sends = fabric_sender_of (at_side lanes side queue);
        receives = fabric_receiver_of (at_side lanes peer queue);
        dev = at_side devices side queue;
        accepted = λ session. (at_side tallies side queue session).accepted;
        delivered = λ session. (at_side tallies peer queue session).delivered;
        closed = has_bit (at_side sides side).closed queue;
      }

  abbrev view_now : Side → Side → ℕ → QueueView
  view_now side peer queue = view_by side peer now.site.pair.sides now.site.pair.lanes now.site.pair.devs now.site.pair.tallies queue

  module _ (sides : Both SidePart) (lanes : Both (ℕ → LanePart)) (devices : Both (ℕ → DevPart)) (tallies : Both (ℕ → ℕ → Tally)) (alike : (s : Side) → record (at_side sides s) { closed = 0 } ≡ record (side_of now.site.pair s) { closed = 0 })
      (grows : (s : Side) → SentGrows (sent_of (at_side now.site.pair.lanes s)) (sent_of (at_side lanes s))) where
    -- the writes in flight are the same
    bridge_then : bridge_for plan now.site ≡ bridge_for plan (record now.site { pair = pair_with sides lanes devices tallies })
    bridge_then =
        sym (two_same (λ (a b : SidePart). bridge_with plan now.site.pair.link (record { a = a; b = b }) (all_sent lanes) now.site.stores) (alike A) (alike B)
        ∙ bridge_same plan now.site.pair.link now.site.pair.sides (all_sent lanes) (all_sent now.site.pair.lanes) now.site.stores (writes A) (writes B))
      where
        writes : (s : Side) → writes_labelled plan s (sent_of (at_side lanes s)) (side_of now.site.pair s).flight (side_of now.site.pair s).poked ≡ writes_labelled plan s (sent_of (at_side now.site.pair.lanes s)) (side_of now.site.pair s).flight (side_of now.site.pair s).poked
        writes s = writes_grow plan s (sent_of (at_side now.site.pair.lanes s)) (sent_of (at_side lanes s)) (grows s) (side_of now.site.pair s).flight (side_of now.site.pair s).poked (now.sides s).in_flight.begun

    -- a side by the parts of the pair that was
    abbrev StandsThen : Side → SidePart → List QueuePart → Type 0
    StandsThen s own parts =
        SideStands devs plan k s (is_down now.site.pair.link.state) (has_link_forgotten now.site.pair.link s) own.joined own.flight own.poked (view_of (pair_with sides lanes devices tallies) s) parts

    -- a side that sees all its queues as they were, and one that sees all but this
    sees : (s : Side) → ((other : ℕ) → view_of (pair_with sides lanes devices tallies) s other ≡ view_of now.site.pair s other) → StandsThen s (at_side sides s) (at_side now.queues s)
    sees s same = subst (λ (own : SidePart). StandsThen s own (at_side now.queues s)) (sym (alike s)) (side_same devs plan k s _ _ _ _ _ (view_of now.site.pair s) _ (at_side now.queues s) same (now.sides s))

    sees_but : (s : Side) (queue : ℕ) (new : QueuePart) → queue < (side_plan plan s).queues → ((other : ℕ) → (other ≡ queue → ⊥) → view_of (pair_with sides lanes devices tallies) s other ≡ view_of now.site.pair s other)
        → QueueStands devs plan k s queue (has_link_forgotten now.site.pair.link s) (view_of (pair_with sides lanes devices tallies) s queue) new → StandsThen s (at_side sides s) (slice_set (at_side now.queues s) queue new)
    sees_but s queue new among others own =
        subst (λ (own : SidePart). StandsThen s own (slice_set (at_side now.queues s) queue new)) (sym (alike s))
        (side_at devs plan k s _ _ _ _ _ _ _ (view_of now.site.pair s) _ (at_side now.queues s) queue new among others
        (flight_grows plan s (sent_of (at_side now.site.pair.lanes s)) (sent_of (at_side lanes s)) (grows s) (side_of now.site.pair s).flight (side_of now.site.pair s).poked (is_down now.site.pair.link.state) (now.sides s).in_flight) own (now.sides s))

    -- one queue of a side is another, and what the peer sees is as it was
    one_changes : (side : Side) (queue : ℕ) (new : QueuePart) → queue < (side_plan plan side).queues
        → ((other : ℕ) → (other ≡ queue → ⊥) → view_by side (other_side side) sides lanes devices tallies other ≡ view_now side (other_side side) other)
        → ((other : ℕ) → view_by (other_side side) side sides lanes devices tallies other ≡ view_now (other_side side) side other)
        → QueueStands devs plan k side queue (has_link_forgotten now.site.pair.link side) (view_by side (other_side side) sides lanes devices tallies queue) new
        → PairStands devs plan k (record now.site { pair = pair_with sides lanes devices tallies }) (with_queue kept side queue new)
    one_changes A queue new among others peers own = record { bridge = bridge_then; link = now.link; sides = by_side _ (sees_but A queue new among others own) (sees B peers) }
    one_changes B queue new among others peers own = record { bridge = bridge_then; link = now.link; sides = by_side _ (sees A peers) (sees_but B queue new among others own) }

  -- a queue's sender, its device, the frames accepted, or whether it is closed
  pub sender_changes : {sides : Both SidePart} {lanes : Both (ℕ → LanePart)} {devices : Both (ℕ → DevPart)} {tallies : Both (ℕ → ℕ → Tally)} {closed : Bool} {lane : LanePart} {dev : DevPart} {tally : ℕ → Tally}
      (side : Side) (queue : ℕ) (more : List Entry) (new : QueuePart) → queue < (side_plan plan side).queues
      → OneCloses side (other_side side) queue now.site.pair.sides sides closed → OneChanges side (other_side side) queue now.site.pair.lanes lanes lane
      → OneChanges side (other_side side) queue now.site.pair.devs devices dev → OneChanges side (other_side side) queue now.site.pair.tallies tallies tally
      → lane.sent ≡ (lane_of now.site.pair side queue).sent ++ more → fabric_receiver_of lane ≡ fabric_receiver_of (lane_of now.site.pair side queue)
      → ((session : ℕ) → (tally session).delivered ≡ (tally_of now.site.pair side queue session).delivered)
      → QueueStands devs plan k side queue (has_link_forgotten now.site.pair.link side) (record (view_of now.site.pair side queue) { sends = fabric_sender_of lane; dev = dev; accepted = λ session. (tally session).accepted; closed = closed }) new
      → PairStands devs plan k (record now.site { pair = pair_with sides lanes devices tallies }) (with_queue kept side queue new)
  sender_changes {sides = sides} {lanes = lanes} {devices = devices} {tallies = tallies} side queue more new among closes of_lane of_dev of_tally grown receives delivered own =
      one_changes sides lanes devices tallies closes.alike
      (by_end (λ s. SentGrows (sent_of (at_side now.site.pair.lanes s)) (sent_of (at_side lanes s))) side (grows_at more of_lane grown) (peer_grows of_lane)) side queue new among
      (λ other ne i. record {
        sends = fabric_sender_of (of_lane.others other ne i);
        receives = fabric_receiver_of (of_lane.peers other i);
        dev = of_dev.others other ne i;
        accepted = λ session. (of_tally.others other ne i session).accepted;
        delivered = λ session. (of_tally.peers other i session).delivered;
        closed = closes.others other ne i;
      })
      (λ other i. record {
        sends = fabric_sender_of (of_lane.peers other i);
        receives = same_read fabric_receiver_of of_lane receives other i;
        dev = of_dev.peers other i;
        accepted = λ session. (of_tally.peers other i session).accepted;
        delivered = same_read (λ (tally : ℕ → Tally). λ session. (tally session).delivered) of_tally (same_at delivered) other i;
        closed = closes.peers other i;
      })
      (subst (λ (view : QueueView). QueueStands devs plan k side queue (has_link_forgotten now.site.pair.link side) view new)
      (λ i. record {
        sends = fabric_sender_of (sym of_lane.here i);
        receives = fabric_receiver_of (sym (of_lane.peers queue) i);
        dev = sym of_dev.here i;
        accepted = λ session. (sym of_tally.here i session).accepted;
        delivered = λ session. (sym (of_tally.peers queue) i session).delivered;
        closed = sym closes.here i;
      }) own)

  -- its receiver, its device, or the frames delivered
  pub receiver_changes : {lanes : Both (ℕ → LanePart)} {devices : Both (ℕ → DevPart)} {tallies : Both (ℕ → ℕ → Tally)} {lane : LanePart} {dev : DevPart} {tally : ℕ → Tally}
      (side : Side) (queue : ℕ) (new : QueuePart) → queue < (side_plan plan side).queues
      → OneChanges (other_side side) side queue now.site.pair.lanes lanes lane → OneChanges side (other_side side) queue now.site.pair.devs devices dev → OneChanges (other_side side) side queue now.site.pair.tallies tallies tally
      → fabric_sender_of lane ≡ fabric_sender_of (lane_to now.site.pair side queue) → ((session : ℕ) → (tally session).accepted ≡ (tally_of now.site.pair (other_side side) queue session).accepted)
      → QueueStands devs plan k side queue (has_link_forgotten now.site.pair.link side) (record (view_of now.site.pair side queue) { receives = fabric_receiver_of lane; dev = dev; delivered = λ session. (tally session).delivered }) new
      → PairStands devs plan k (record now.site { pair = pair_with now.site.pair.sides lanes devices tallies }) (with_queue kept side queue new)
  receiver_changes {lanes = lanes} {devices = devices} {tallies = tallies} side queue new among of_lane of_dev of_tally sends accepted own =
      one_changes now.site.pair.sides lanes devices tallies (λ s. refl)
      (by_end (λ s. SentGrows (sent_of (at_side now.site.pair.lanes s)) (sent_of (at_side lanes s))) side (peer_grows of_lane) (grows_at [] of_lane (ap (λ (s : SendingEnd). s.sent) sends ∙ sym (append-nil (lane_to now.site.pair side queue).sent)))) side queue new among
      (λ other ne i. record {
        sends = fabric_sender_of (of_lane.peers other i);
        receives = fabric_receiver_of (of_lane.others other ne i);
        dev = of_dev.others other ne i;
        accepted = λ session. (of_tally.peers other i session).accepted;
        delivered = λ session. (of_tally.others other ne i session).delivered;
        closed = has_bit (side_of now.site.pair side).closed other;
      })
      (λ other i. record {
        sends = same_read fabric_sender_of of_lane sends other i;
        receives = fabric_receiver_of (of_lane.peers other i);
        dev = of_dev.peers other i;
        accepted = same_read (λ (tally : ℕ → Tally). λ session. (tally session).accepted) of_tally (same_at accepted) other i;
        delivered = λ session. (of_tally.peers other i session).delivered;
        closed = has_bit (at_side now.site.pair.sides (other_side side)).closed other;
      })
      (subst (λ (view : QueueView). QueueStands devs plan k side queue (has_link_forgotten now.site.pair.link side) view new)
      (λ i. record {
        sends = fabric_sender_of (sym (of_lane.peers queue) i);
        receives = fabric_receiver_of (sym of_lane.here i);
        dev = sym of_dev.here i;
        accepted = λ session. (sym (of_tally.peers queue) i session).accepted;
        delivered = λ session. (sym of_tally.here i session).delivered;
        closed = has_bit (side_of now.site.pair side).closed queue;
      }) own)

  -- What a queue represents then

  -- its receiver is at another place
  abbrev pub received_part : Side → ℕ → LanePart → QueuePart
  received_part side queue lane = part_with side queue (with_port (port_queue side queue false) (with_receiving (port_queue side queue false).port (fabric_receiver_of lane).port))

  pub received_stands : (side : Side) (queue : ℕ) (lane : LanePart) (dev : DevPart) (counters : Counters) (delivered : List SessionCount) (seen_delivered : ℕ → ℕ) → queue < (side_plan plan side).queues → has_link_forgotten now.site.pair.link side ≡ false
      → dev.stopped ≡ (dev_of now.site.pair side queue).stopped → counters ≡ dev.counters → ((session : ℕ) → count_in delivered session ≡ seen_delivered session) → ReceivingInPlace plan side queue false (fabric_receiver_of lane)
      → QueueStands devs plan k side queue (has_link_forgotten now.site.pair.link side) (record (view_of now.site.pair side queue) { receives = fabric_receiver_of lane; dev = dev; delivered = seen_delivered }) (record (received_part side queue lane) { counters = counters; delivered = delivered })
  received_stands side queue lane dev counters delivered seen_delivered among fresh goes counted counts in_place =
      subst (λ f. QueueStands devs plan k side queue f (record (view_of now.site.pair side queue) { receives = fabric_receiver_of lane; dev = dev; delivered = seen_delivered }) (record (received_part side queue lane) { counters = counters; delivered = delivered })) (sym fresh)
      (let old = stands_by side queue false among fresh in
      record {
        port = refl;
        entry = old.entry;
        closed = refl;
        stopped = old.stopped ∙ sym goes;
        limits = old.limits;
        counters = counted;
        accepted = old.accepted;
        delivered = counts;
        sending = old.sending;
        receiving = in_place;
        forgets = λ forgot. absurd (false≢true forgot);
        stops = subst (λ stopped. (stopped ≡ false) ⊎ SizesFit plan) (sym goes) old.stops;
      })

  pub receives : (side : Side) (queue : ℕ) (lane : LanePart) → queue < (side_plan plan side).queues → has_link_forgotten now.site.pair.link side ≡ false → fabric_sender_of lane ≡ fabric_sender_of (lane_to now.site.pair side queue)
      → ReceivingInPlace plan side queue false (fabric_receiver_of lane) → PairStands devs plan k (record now.site { pair = with_lane now.site.pair (other_side side) queue lane }) (with_queue kept side queue (received_part side queue lane))
  receives side queue lane among fresh sends in_place =
      let old = stands_by side queue false among fresh in
      receiver_changes side queue (received_part side queue lane) among (peer_changes now.site.pair.lanes side queue lane) (stays now.site.pair.devs side (other_side side) queue) (stays now.site.pair.tallies (other_side side) side queue) sends (λ session. refl)
      (received_stands side queue lane (dev_of now.site.pair side queue) (part side queue).counters (part side queue).delivered (λ session. (tally_of now.site.pair (other_side side) queue session).delivered) among fresh refl old.counters old.delivered in_place)

  -- its sender is at another place
  abbrev pub sent_part : Side → ℕ → Sending → Bool → QueuePart
  sent_part side queue sending closed = part_with side queue (record { port = with_sending (port_queue side queue false).port sending; closed = closed })

  pub sent_stands : (side : Side) (queue : ℕ) (lane : LanePart) (sending : Sending) (closed seen_closed : Bool) (flow : Flow) (counters : Counters) (accepted : List SessionCount) (dev : DevPart) (seen_accepted : ℕ → ℕ)
      → queue < (side_plan plan side).queues → has_link_forgotten now.site.pair.link side ≡ false → sending ≡ sending_for (fabric_sender_of lane) sending.entry → (is_left (fabric_sender_of lane) ≡ true → sending.entry ≡ last_entry (fabric_sender_of lane)) → SendingInPlace plan side queue (fabric_sender_of lane)
      → closed ≡ seen_closed → flow.stopped ≡ dev.stopped → flow.stop ≡ (part side queue).flow.stop → flow.start ≡ (part side queue).flow.start → counters ≡ dev.counters → ((session : ℕ) → count_in accepted session ≡ seen_accepted session) → (dev.stopped ≡ false) ⊎ SizesFit plan
      → QueueStands devs plan k side queue (has_link_forgotten now.site.pair.link side) (record (view_of now.site.pair side queue) { sends = fabric_sender_of lane; dev = dev; accepted = seen_accepted; closed = seen_closed })
      (record (sent_part side queue sending closed) { flow = flow; counters = counters; accepted = accepted })
  sent_stands side queue lane sending closed seen_closed flow counters accepted dev seen_accepted among fresh is last in_place same_closed stopped stop start counted counts stops =
      subst (λ f. QueueStands devs plan k side queue f (record (view_of now.site.pair side queue) { sends = fabric_sender_of lane; dev = dev; accepted = seen_accepted; closed = seen_closed })
      (record (sent_part side queue sending closed) { flow = flow; counters = counters; accepted = accepted })) (sym fresh)
      (let old = stands_by side queue false among fresh in
      record {
        port = ap (with_sending (port_queue side queue false).port) is;
        entry = λ _ left. last left;
        closed = same_closed;
        stopped = stopped;
        limits = λ d among on. (stop ∙ (old.limits d among on).0, start ∙ (old.limits d among on).1);
        counters = counted;
        accepted = counts;
        delivered = old.delivered;
        sending = in_place;
        receiving = old.receiving;
        forgets = λ forgot. absurd (false≢true forgot);
        stops = stops;
      })

  -- its device is another
  abbrev pub part_with_device : Side → ℕ → Bool → Counters → QueuePart
  part_with_device side queue stopped counters = record (part side queue) { flow = record (part side queue).flow { stopped = stopped }; counters = counters }

  pub device_changes : (side : Side) (queue : ℕ) (stopped : Bool) (counters : Counters) (dev : DevPart) → queue < (side_plan plan side).queues → stopped ≡ dev.stopped → counters ≡ dev.counters
      → (has_link_forgotten now.site.pair.link side ≡ true → dev.stopped ≡ false) → (dev.stopped ≡ false) ⊎ SizesFit plan
      → PairStands devs plan k (record now.site { pair = with_dev now.site.pair side queue dev }) (with_queue kept side queue (part_with_device side queue stopped counters))
  device_changes side queue stopped counters dev among goes counted forgets stops =
      let old = (now.sides side).queues queue among in
      sender_changes side queue [] (part_with_device side queue stopped counters) among (none_closes now.site.pair.sides side (other_side side) queue) (stays now.site.pair.lanes side (other_side side) queue) (changes now.site.pair.devs side queue dev)
      (stays now.site.pair.tallies side (other_side side) queue) (sym (append-nil (lane_of now.site.pair side queue).sent)) refl (λ session. refl)
      (record {
        port = old.port ∙ other_dev plan side queue (has_link_forgotten now.site.pair.link side) (view_of now.site.pair side queue) dev (part side queue).queue.port.sending.entry;
        entry = old.entry;
        closed = old.closed;
        stopped = goes;
        limits = old.limits;
        counters = counted;
        accepted = old.accepted;
        delivered = old.delivered;
        sending = old.sending;
        receiving = old.receiving;
        forgets = λ forgot. let gone = old.forgets forgot in record { todo = gone.todo; waiting = gone.waiting; phase = gone.phase; goes_on = forgets forgot };
        stops = stops;
      })
