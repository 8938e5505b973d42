-- What a fabric keeps of a pair: the pair in bytes, and of each side's queues the queue pair, the device's flow and
-- counts, and the frames by session.
use Rattle.std.specs.Prelude.{ℕ, ◌+◌, ◌==◌, List, [], ◌∷◌, false, if◌then◌else◌, slice_index_or, slice_set}
use Rattle.step_kinds.specs.declared.names.Side.{Side}
use Rattle.step_kinds.specs.declared.names.Side.TheVariants.{A}
use Rattle.step_kinds.specs.declared.plan.Counters.{Counters}
use Rattle.pair_model.specs.Both.{Both, at_side, with_side}
use Rattle.pair_model.specs.Device.{Flow, no_counts}
use Rattle.pair_model.specs.Plans.{no_pair}
use Rattle.bridge_pair.specs.Bridge.{Bridge}
use Rattle.queue_pair.specs.Queue.{QueueState, fresh_queue}

-- how many frames there were in a session
pub record SessionCount : Type 0 where
  pub session : ℕ
  pub count : ℕ

-- how many there were in this session; a session without frames has no count
abbrev pub count_in : List SessionCount → ℕ → ℕ
count_in [] session = 0
count_in (one ∷ counts) session = (if one.session == session then one.count else 0) + count_in counts session

-- one more in this session
abbrev pub one_more : List SessionCount → ℕ → List SessionCount
one_more [] session = record { session = session; count = 1 } ∷ []
one_more (one ∷ counts) session =
    if one.session == session then record { session = session; count = one.count + 1 } ∷ counts else one ∷ one_more counts session

pub record QueuePart : Type 0 where
  pub queue : QueueState
  -- of the device on the queue, if there is one; the counts are kept of each queue
  pub flow : Flow
  pub counters : Counters
  -- the frames accepted on the lane that the side sends on the queue, and those delivered on the lane that it receives
  pub accepted : List SessionCount
  pub delivered : List SessionCount

pub record PairState : Type 0 where
  pub bridge : Bridge
  pub queues : Both (List QueuePart)

-- stands where there is no queue
abbrev pub no_queue : QueuePart
no_queue = record {
  queue = fresh_queue no_pair A 0;
  flow = record { stop = 0; start = 0; stopped = false };
  counters = no_counts;
  accepted = [];
  delivered = [];
}

abbrev pub queues_of : PairState → Side → List QueuePart
queues_of pair side = at_side pair.queues side

abbrev pub queue_of : PairState → Side → ℕ → QueuePart
queue_of pair side queue = slice_index_or (queues_of pair side) queue no_queue

-- the same pair with one thing else
abbrev pub with_bridge : PairState → Bridge → PairState
with_bridge pair bridge = record pair { bridge = bridge }

abbrev pub with_queues : PairState → Side → List QueuePart → PairState
with_queues pair side queues = record pair { queues = with_side pair.queues side queues }

abbrev pub with_queue : PairState → Side → ℕ → QueuePart → PairState
with_queue pair side queue part = with_queues pair side (slice_set (queues_of pair side) queue part)

-- Room and pages that are promised are no part of what a pair answers.

abbrev pub plain_bridge : Bridge → Bridge
plain_bridge bridge =
    record bridge {
      memories = record { a = record bridge.memories.a { promised = [] }; b = record bridge.memories.b { promised = [] } };
      flights = record { a = record bridge.flights.a { spare = 0 }; b = record bridge.flights.b { spare = 0 } };
    }

abbrev pub plain_pair : PairState → PairState
plain_pair pair = record pair { bridge = plain_bridge pair.bridge }
