-- A pair before any step.
use Rattle.std.proofs.Common.{◌≡◌, ℕ, ◌<◌, ◌≤◌, Bool, true, false, List, [], ◌∷◌, ◌++◌, length, replicate, refl, sym, ap, ◌∙◌, inl, arith}
use Rattle.std.specs.List.{AllByRecursion}
use Rattle.std.proofs.lemmas.Bool.{true≢false, false≢true}
use Rattle.std.proofs.lemmas.List.{append-nil}
use Rattle.step_kinds.specs.Bits.{all_below, has_bit}
use Rattle.step_kinds.specs.Sides.{other_side}
use Rattle.step_kinds.specs.declared.names.Side.{Side}
use Rattle.step_kinds.specs.declared.names.Side.TheVariants.{A, B}
use Rattle.step_kinds.specs.declared.plan.DevPlan.{DevPlan}
use Rattle.step_kinds.specs.declared.plan.PairPlan.{PairPlan}
use Rattle.pair_model.specs.Both.{Both, both_of}
use Rattle.pair_model.specs.DeclaredPlans.{IsPair}
use Rattle.pair_model.specs.Link.{fresh_link}
use Rattle.pair_model.specs.Pads.{agreed_pads, offers}
use Rattle.pair_model.specs.Plans.{side_plan}
use Rattle.pair_model.specs.FreshRings.{fresh_index_words, zeroed_headers}
use Rattle.pair_model.specs.Stores.{Store, bytes_in}
use Rattle.pair_model.proofs.Facade.{nothing_stored}
use Rattle.ledger_model.specs.LinkSteps.{fresh_lane}
use Rattle.ledger_model.specs.Memory.{fresh_site}
use Rattle.bridge_regs.specs.Doorbell.{quiet}
use Rattle.plan_numbers.specs.Memories.{memory_size}
use Rattle.bridge_pair.specs.Bridge.{Bridge, offer_length}
use Rattle.bridge_pair.specs.Ends.{bytes_after}
use Rattle.bridge_pair.specs.Fresh.{fresh_bridge}
use Rattle.hand_shake.proofs.Facade.{own_length}
use Rattle.std.specs.Prelude.{slice_index_or}
use Rattle.ledger_model.specs.Next.{fresh_dev}
use Rattle.queue_pair.specs.Queue.{QueueState}
use Rattle.fabric_rule.specs.InPlace.{fabric_receiver_of, fabric_sender_of}
use Rattle.fabric_rule.specs.Laws.{FreshPairStands, IsFreshPair, IsFreshQueue}
use Rattle.fabric_rule.specs.Parts.{PairState, QueuePart, count_in, no_queue, plain_bridge}
use Rattle.fabric_rule.specs.StandsFor.{PairStands, QueueStands, QueueView, SideStands, bridge_for}
use Rattle.fabric_rule.proofs.Follows.{by_side}
use Rattle.fabric_rule.proofs.Links.{fresh_queue_stands, no_bits, none_in_flight}
use Rattle.fabric_rule.proofs.RingPlaces.{rings_inside}
use Rattle.fabric_rule.proofs.StoredBytes.{IsInside, all_stored}

-- the same plan, of a pair that starts up or down
abbrev plan_with : PairPlan → Bool → PairPlan
plan_with plan up = record plan { up = up }

-- the index words of a side that starts up
words_stored : (plan : PairPlan) (side : Side) → IsPair plan → (side_plan plan (other_side side)).size ≤ (side_plan plan side).cap
    → bytes_after (fresh_index_words plan side) (replicate (memory_size plan side) 0) ≡ bytes_in (fresh_index_words plan side) 0 (memory_size plan side)
words_stored plan side declared fits =
    ap (bytes_after (fresh_index_words plan side)) (sym (nothing_stored 0 (memory_size plan side)))
    ∙ all_stored (fresh_index_words plan side) [] (memory_size plan side) (first (fresh_index_words plan side) (rings_inside plan side declared fits))
    ∙ ap (λ stores. bytes_in stores 0 (memory_size plan side)) (append-nil (fresh_index_words plan side))
  where
    first : (words : List Store) → AllByRecursion (IsInside (memory_size plan side)) (words ++ zeroed_headers plan side) → AllByRecursion (IsInside (memory_size plan side)) words
    first [] all = tt
    first (word ∷ words) all = (all.0, first words all.1)

-- the bridge, by what its plan makes of bytes and offers
abbrev bridge_up : PairPlan → List ℕ → List ℕ → ℕ → ℕ → Bridge
bridge_up plan bytes_a bytes_b offered_a offered_b =
    record {
      plan = plan;
      link = fresh_link true;
      books =
          record {
            a = record { up = true; ready = all_below plan.a.queues; joined = all_below plan.a.queues; offered = offered_a };
            b = record { up = true; ready = all_below plan.b.queues; joined = all_below plan.b.queues; offered = offered_b };
          };
      pads = record { a = agreed_pads plan.b; b = agreed_pads plan.a };
      bells = both_of quiet;
      memories = record { a = record { bytes = bytes_a; promised = [] }; b = record { bytes = bytes_b; promised = [] } };
      flights = both_of (record { writes = []; spare = 0 });
    }

abbrev bridge_down : PairPlan → List ℕ → List ℕ → Bridge
bridge_down plan bytes_a bytes_b =
    record {
      plan = plan;
      link = fresh_link false;
      books = both_of (record { up = false; ready = 0; joined = 0; offered = 0 });
      pads = both_of (replicate 16 0);
      bells = both_of quiet;
      memories = record { a = record { bytes = bytes_a; promised = [] }; b = record { bytes = bytes_b; promised = [] } };
      flights = both_of (record { writes = []; spare = 0 });
    }

fresh_bridge_is : (plan : PairPlan) (up : Bool) (pages : Both (List ℕ)) → IsPair (plan_with plan up) → plain_bridge (fresh_bridge (plan_with plan up) pages) ≡ bridge_for (plan_with plan up) (fresh_site (plan_with plan up))
fresh_bridge_is plan true pages declared =
    ap (λ bytes. bridge_up (plan_with plan true) bytes (bytes_after (fresh_index_words (plan_with plan true) B) (replicate (memory_size plan B) 0)) (offer_length plan A) (offer_length plan B)) (words_stored (plan_with plan true) A declared (declared.up refl).sizes.1)
    ∙ ap (λ bytes. bridge_up (plan_with plan true) (bytes_in (fresh_index_words (plan_with plan true) A) 0 (memory_size plan A)) bytes (offer_length plan A) (offer_length plan B)) (words_stored (plan_with plan true) B declared (declared.up refl).sizes.0)
    ∙ ap (λ n. bridge_up (plan_with plan true) (bytes_in (fresh_index_words (plan_with plan true) A) 0 (memory_size plan A)) (bytes_in (fresh_index_words (plan_with plan true) B) 0 (memory_size plan B)) n (offer_length plan B)) (sym (own_length (plan_with plan true) A declared))
    ∙ ap (λ n. bridge_up (plan_with plan true) (bytes_in (fresh_index_words (plan_with plan true) A) 0 (memory_size plan A)) (bytes_in (fresh_index_words (plan_with plan true) B) 0 (memory_size plan B)) (length (offers plan.a)) n) (sym (own_length (plan_with plan true) B declared))
fresh_bridge_is plan false pages declared =
    ap (λ bytes. bridge_down (plan_with plan false) bytes (replicate (memory_size plan B) 0)) (sym (nothing_stored 0 (memory_size plan A)))
    ∙ ap (bridge_down (plan_with plan false) (bytes_in [] 0 (memory_size plan A))) (sym (nothing_stored 0 (memory_size plan B)))

-- a queue of which nothing is known yet
abbrev no_view : ℕ → QueueView
no_view queue =
    record {
      sends = fabric_sender_of fresh_lane;
      receives = fabric_receiver_of fresh_lane;
      dev = fresh_dev;
      accepted = λ session. 0;
      delivered = λ session. 0;
      closed = has_bit 0 queue;
    }

fresh_stands : (devs : List DevPlan) (plan : PairPlan) (k : ℕ) (side : Side) (queue : ℕ) (part : QueuePart) → IsFreshQueue devs plan k side queue part → QueueStands devs plan k side queue true (no_view queue) part
fresh_stands devs plan k side queue part h =
    record {
      port = ap (λ (q : QueueState). q.port) h.queue_is;
      entry = λ no_more _. absurd (true≢false no_more);
      closed = ap (λ (q : QueueState). q.closed) h.queue_is ∙ sym (no_bits queue);
      stopped = h.goes_on;
      limits = h.limits;
      counters = h.counters;
      accepted = λ session. ap (λ counts. count_in counts session) h.accepted;
      delivered = λ session. ap (λ counts. count_in counts session) h.delivered;
      sending = record { todo = tt; last = omega arith; waiting = tt; todo_fits = inl refl; waiting_fits = inl refl };
      receiving = record { counts = λ _. (refl, refl); fits = inl refl; len = λ copying. absurd (false≢true copying) };
      forgets = λ _. record { todo = refl; waiting = refl; phase = refl; goes_on = refl };
      stops = inl refl;
    }

side_down : (devs : List DevPlan) (plan : PairPlan) (k : ℕ) (side : Side) (parts : List QueuePart) → length parts ≡ (side_plan plan side).queues
    → ((queue : ℕ) → queue < (side_plan plan side).queues → IsFreshQueue devs plan k side queue (slice_index_or parts queue no_queue)) → SideStands devs plan k side true true 0 [] [] no_view parts
side_down devs plan k side parts all each =
    record {
      none_joined = λ _. refl;
      in_flight = none_in_flight plan side true (λ queue. []);
      all_queues = all;
      queues = λ queue among. fresh_stands devs plan k side queue (slice_index_or parts queue no_queue) (each queue among);
    }

side_up : (devs : List DevPlan) (plan : PairPlan) (k : ℕ) (side : Side) (joined : ℕ) (parts : List QueuePart) → length parts ≡ (side_plan plan side).queues
    → ((queue : ℕ) → queue < (side_plan plan side).queues → IsFreshQueue devs plan k side queue (slice_index_or parts queue no_queue)) → SideStands devs plan k side false false joined [] [] no_view parts
side_up devs plan k side joined parts all each =
    record {
      none_joined = λ forgot. absurd (false≢true forgot);
      in_flight = none_in_flight plan side false (λ queue. []);
      all_queues = all;
      queues = λ queue among. fresh_queue_stands devs plan k side queue (no_view queue) (slice_index_or parts queue no_queue) (fresh_stands devs plan k side queue (slice_index_or parts queue no_queue) (each queue among));
    }

fresh_pair_at : (devs : List DevPlan) (plan : PairPlan) (up : Bool) (k : ℕ) (pages : Both (List ℕ)) (state : PairState) → IsPair (plan_with plan up) → IsFreshPair devs (plan_with plan up) k pages state
    → PairStands devs (plan_with plan up) k (fresh_site (plan_with plan up)) state
fresh_pair_at devs plan true k pages state declared h =
    record {
      bridge = ap plain_bridge h.bridge ∙ fresh_bridge_is plan true pages declared;
      link = λ side down. absurd (false≢true down);
      sides = by_side _ (side_up devs (plan_with plan true) k A (all_below plan.a.queues) state.queues.a (h.all_queues A) (h.queues A)) (side_up devs (plan_with plan true) k B (all_below plan.b.queues) state.queues.b (h.all_queues B) (h.queues B));
    }
fresh_pair_at devs plan false k pages state declared h =
    record {
      bridge = ap plain_bridge h.bridge ∙ fresh_bridge_is plan false pages declared;
      link = by_side _ (λ down agreed. refl) (λ down agreed. refl);
      sides = by_side _ (side_down devs (plan_with plan false) k A state.queues.a (h.all_queues A) (h.queues A)) (side_down devs (plan_with plan false) k B state.queues.b (h.all_queues B) (h.queues B));
    }

-- A pair of a fabric before any step represents no steps, if a script can declare its plan.
pub fresh_pair_stands : FreshPairStands
fresh_pair_stands devs plan k pages state declared h = fresh_pair_at devs plan plan.up k pages state declared h
