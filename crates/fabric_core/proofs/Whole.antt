-- What is so of every pair stays so: through calls of one of its queues, through steps on its bridge, and where a side
-- forgets its session.
use Rattle.std.proofs.Common.{◌≡◌, ◌∙◌, ℕ, suc, ◌+◌, ◌<◌, ◌⊎◌, Contains, List, [], ◌∷◌, length, get_or, map, set, rules, inl, inr, refl, sym, ap, subst, arith}
use Rattle.std.proofs.lemmas.Bool.{cases_eq}
use Rattle.std.proofs.lemmas.List.{get_or-map, get_or-set_other, get_or-set_same, length-map, length-set}
use Rattle.std.proofs.lemmas.List.Sums.{sum_by-cons, sum_by-set}
use Rattle.step_kinds.specs.Sides.{other_side}
use Rattle.step_kinds.specs.declared.names.Side.{Side}
use Rattle.step_kinds.specs.declared.names.Side.TheVariants.{A, B}
use Rattle.step_kinds.specs.declared.plan.PairPlan.{PairPlan}
use Rattle.pair_model.specs.Plans.{side_plan}
use Rattle.bridge_pair.specs.Bridge.{Bridge, flight_of, pages_of}
use Rattle.fabric_rule.specs.Parts.{PairState, QueuePart, no_queue, queue_of, queues_of, with_bridge}
use Rattle.frame_ring.specs.Port.{PortState, fresh_port, unused_of}
use Rattle.frame_ring.specs.PortView.{HasPagesIn}
use Rattle.fabric_core.specs.Parts.{IsInPlace, IsPairWhole, KeepsPort, all_unused}
use Rattle.fabric_core.specs.Promises.{KeepsPromised}
use Rattle.fabric_core.proofs.PromisesOfQueues.{pages_stay}
use Rattle.fabric_rule.specs.Moves.{forgotten_queue}

-- Pages that were promised stay so

abbrev PagesStay : Bridge → Bridge → Type 0
PagesStay old new = (side : Side) (page : ℕ) → Contains (pages_of old side) page → Contains (pages_of new side) page

place_kept : (old new : Bridge) (side : Side) (queue : ℕ) (part : QueuePart) → new.plan ≡ old.plan → PagesStay old new → IsInPlace old side queue part → IsInPlace new side queue part
place_kept old new side queue part plan stay is =
    let port = part.queue.port in
    record {
      its_plan = is.its_plan ∙ sym plan;
      its_side = is.its_side;
      its_queue = is.its_queue;
      ready =
          pages_stay port (pages_of old port.side) (pages_of old (other_side port.side)) (pages_of new port.side) (pages_of new (other_side port.side)) (stay port.side) (stay (other_side port.side)) is.ready;
    }

-- One side of a pair

pub record SideIsWhole (bridge : Bridge) (side : Side) (parts : List QueuePart) : Type 0 where
  pub all_queues : length parts ≡ (side_plan bridge.plan side).queues
  pub queues : (queue : ℕ) → queue < (side_plan bridge.plan side).queues → IsInPlace bridge side queue (get_or parts queue no_queue)
  pub room : (flight_of bridge side).spare ≡ all_unused parts

by_side : (P : Side → Type 0) → P A → P B → (side : Side) → P side
by_side P a b A = a
by_side P a b B = b

-- A pair is whole, its queues in place with just the room that they haven't used, if both of its sides are.
pub both_whole : (bridge : Bridge) (a b : List QueuePart) → SideIsWhole bridge A a → SideIsWhole bridge B b → IsPairWhole (record { bridge = bridge; queues = record { a = a; b = b } })
both_whole bridge a b whole_a whole_b =
    let state : PairState = record { bridge = bridge; queues = record { a = a; b = b } } in
    record {
      all_queues = by_side (λ side. length (queues_of state side) ≡ (side_plan bridge.plan side).queues) whole_a.all_queues whole_b.all_queues;
      queues = by_side (λ side. (queue : ℕ) → queue < (side_plan bridge.plan side).queues → IsInPlace bridge side queue (queue_of state side queue)) whole_a.queues whole_b.queues;
      room = by_side (λ side. (flight_of bridge side).spare ≡ all_unused (queues_of state side)) whole_a.room whole_b.room;
    }

-- Each side of a whole pair is whole.
pub side_whole : (state : PairState) (side : Side) → IsPairWhole state → SideIsWhole state.bridge side (queues_of state side)
side_whole state side whole = record { all_queues = whole.all_queues side; queues = whole.queues side; room = whole.room side }

-- A side that has the same room, on a bridge whose pages stay

-- A side stays whole on a bridge of the same plan and the same room for it, if no promised page is lost.
pub side_kept : (old new : Bridge) (side : Side) (parts : List QueuePart) → new.plan ≡ old.plan → PagesStay old new → (flight_of new side).spare ≡ (flight_of old side).spare
    → SideIsWhole old side parts → SideIsWhole new side parts
side_kept old new side parts plan stay same whole =
    record {
      all_queues = whole.all_queues ∙ ap (λ (plan : PairPlan). (side_plan plan side).queues) (sym plan);
      queues = λ queue below.
          place_kept old new side queue (get_or parts queue no_queue) plan stay (whole.queues queue (subst (λ (plan : PairPlan). queue < (side_plan plan side).queues) plan below));
      room = same ∙ whole.room;
    }

-- A pair stays whole with another bridge that keeps the plan, all promised pages and each side's room.
pub whole_kept : (state : PairState) (new : Bridge) → IsPairWhole state → KeepsPromised state.bridge new → IsPairWhole (with_bridge state new)
whole_kept state new whole keeps =
    both_whole new state.queues.a state.queues.b (side_kept state.bridge new A state.queues.a keeps.plan keeps.pages (keeps.spare A) (side_whole state A whole))
    (side_kept state.bridge new B state.queues.b keeps.plan keeps.pages (keeps.spare B) (side_whole state B whole))

-- A call of one of a side's queues

-- of numbers alone
room_after : (spare spare_after sum sum_after unused unused_after : ℕ) → sum_after + unused ≡ sum + unused_after → spare ≡ sum → spare_after + unused ≡ spare + unused_after
    → spare_after ≡ sum_after
room_after spare spare_after sum sum_after unused unused_after sums room keeps = omega (arith, sums, room, keeps)

-- A side stays whole through a call of one of its queues that keeps what was promised.
pub side_turned : (old new : Bridge) (side : Side) (parts : List QueuePart) (queue : ℕ) (part : QueuePart) → queue < length parts
    → KeepsPort (get_or parts queue no_queue).queue.port part.queue.port old new → SideIsWhole old side parts → SideIsWhole new side (set parts queue part)
side_turned old new side parts queue part within keeps whole =
    let before = (get_or parts queue no_queue).queue.port in
    let is = whole.queues queue (subst (λ n. queue < n) whole.all_queues within) in
    let room = subst (λ side. (flight_of new side).spare + unused_of before ≡ (flight_of old side).spare + unused_of part.queue.port) is.its_side keeps.room in
    record {
      all_queues = length-set parts queue part ∙ whole.all_queues ∙ ap (λ (plan : PairPlan). (side_plan plan side).queues) (sym keeps.plan);
      queues = λ k below. by_place k (subst (λ (plan : PairPlan). k < (side_plan plan side).queues) keeps.plan below) (cases_eq k queue);
      room =
          room_after (flight_of old side).spare (flight_of new side).spare (all_unused parts) (all_unused (set parts queue part)) (unused_of before) (unused_of part.queue.port)
          (sum_by-set (λ (part : QueuePart). unused_of part.queue.port) parts queue part no_queue within) whole.room room;
    } where
      its_place : IsInPlace old side queue (get_or parts queue no_queue) → IsInPlace new side queue part
      its_place is =
          record {
            its_plan = keeps.same_plan ∙ is.its_plan ∙ sym keeps.plan;
            its_side = keeps.same_side ∙ is.its_side;
            its_queue = keeps.same_queue ∙ is.its_queue;
            ready = keeps.ready;
          }

      by_place : (k : ℕ) → k < (side_plan old.plan side).queues → (k ≡ queue) ⊎ (k ≡ queue → ⊥) → IsInPlace new side k (get_or (set parts queue part) k no_queue)
      by_place k below (inl e) =
          subst (λ k. IsInPlace new side k (get_or (set parts queue part) k no_queue)) (sym e)
          (subst (λ (part : QueuePart). IsInPlace new side queue part) (sym (get_or-set_same parts queue part no_queue within)) (its_place (whole.queues queue (subst (λ n. queue < n) whole.all_queues within))))
      by_place k below (inr differs) =
          subst (λ (part : QueuePart). IsInPlace new side k part) (sym (get_or-set_other parts queue k part no_queue differs))
          (place_kept old new side k (get_or parts k no_queue) keeps.plan keeps.pages (whole.queues k below))

-- the peer of that side, whose queues stay
pub peer_kept : (old new : Bridge) (side : Side) (parts peer_parts : List QueuePart) (queue : ℕ) (part : QueuePart) → queue < length parts
    → KeepsPort (get_or parts queue no_queue).queue.port part.queue.port old new → SideIsWhole old side parts → SideIsWhole old (other_side side) peer_parts
    → SideIsWhole new (other_side side) peer_parts
peer_kept old new side parts peer_parts queue part within keeps whole peer =
    let is = whole.queues queue (subst (λ n. queue < n) whole.all_queues within) in
    side_kept old new (other_side side) peer_parts keeps.plan keeps.pages
    (subst (λ side. (flight_of new (other_side side)).spare ≡ (flight_of old (other_side side)).spare) is.its_side keeps.peer_room) peer

-- A side that forgets its session

forgets : (bridge : Bridge) (plan : PairPlan) (side : Side) (queue : ℕ) → HasPagesIn (fresh_port plan side queue) bridge
forgets bridge plan side queue = record { writes = search rules; flags = λ busy. absurd (cc busy); index_word = λ busy. absurd (cc busy) }

-- If no port of some queues has an unused promise, they have none together.
pub none_unused : (parts : List QueuePart) → ((k : ℕ) → k < length parts → unused_of (get_or parts k no_queue).queue.port ≡ 0) → all_unused parts ≡ 0
none_unused [] none = refl
none_unused (part ∷ parts) none =
    let first : unused_of part.queue.port ≡ 0 = none 0 (omega arith) in
    let others : all_unused parts ≡ 0 = none_unused parts (λ k below. none (suc k) (omega (arith, below))) in
    sum_by-cons (λ (part : QueuePart). unused_of part.queue.port) part parts ∙ nothing_more (unused_of part.queue.port) (all_unused parts) first others
  where
    nothing_more : (n m : ℕ) → n ≡ 0 → m ≡ 0 → n + m ≡ 0
    nothing_more n m none nor = omega (arith, none, nor)

-- a queue on which nothing was begun or found
place_fresh : (bridge : Bridge) (side : Side) (queue : ℕ) (part : QueuePart) → part.queue.port ≡ fresh_port bridge.plan side queue → IsInPlace bridge side queue part
place_fresh bridge side queue part fresh =
    record {
      its_plan = ap (λ (port : PortState). port.plan) fresh;
      its_side = ap (λ (port : PortState). port.side) fresh;
      its_queue = ap (λ (port : PortState). port.queue) fresh;
      ready = subst (λ (port : PortState). HasPagesIn port bridge) (sym fresh) (forgets bridge bridge.plan side queue);
    }

-- A side at which no room is promised is whole where it has all its queues and each has a fresh port.
pub side_fresh : (bridge : Bridge) (side : Side) (parts : List QueuePart) → (flight_of bridge side).spare ≡ 0 → length parts ≡ (side_plan bridge.plan side).queues
    → ((k : ℕ) → k < length parts → (get_or parts k no_queue).queue.port ≡ fresh_port bridge.plan side k) → SideIsWhole bridge side parts
side_fresh bridge side parts none all fresh =
    record {
      all_queues = all;
      queues = λ queue below. place_fresh bridge side queue (get_or parts queue no_queue) (fresh queue (subst (λ n. queue < n) (sym all) below));
      room = none ∙ sym (none_unused parts (λ k below. ap unused_of (fresh k below)));
    }

-- A side stays whole where all its queues forget their session and no room stays promised at it.
pub side_forgotten : (old new : Bridge) (side : Side) (parts : List QueuePart) → new.plan ≡ old.plan → (flight_of new side).spare ≡ 0 → SideIsWhole old side parts → SideIsWhole new side (map forgotten_queue parts)
side_forgotten old new side parts plan none whole =
    side_fresh new side (map forgotten_queue parts) none (length-map parts forgotten_queue ∙ whole.all_queues ∙ ap (λ (plan : PairPlan). (side_plan plan side).queues) (sym plan))
    (λ k below. at k (subst (λ n. k < n) (length-map parts forgotten_queue) below))
  where
    at : (k : ℕ) → k < length parts → (get_or (map forgotten_queue parts) k no_queue).queue.port ≡ fresh_port new.plan side k
    at k below =
        let is = whole.queues k (subst (λ n. k < n) whole.all_queues below) in
        ap (λ (part : QueuePart). part.queue.port) (get_or-map forgotten_queue parts k no_queue no_queue below)
        ∙ ap (λ plan. fresh_port plan (get_or parts k no_queue).queue.port.side (get_or parts k no_queue).queue.port.queue) (is.its_plan ∙ sym plan)
        ∙ ap (λ side. fresh_port new.plan side (get_or parts k no_queue).queue.port.queue) is.its_side
        ∙ ap (λ queue. fresh_port new.plan side queue) is.its_queue
