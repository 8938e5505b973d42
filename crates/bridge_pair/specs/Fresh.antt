-- A pair before any step: down and forgotten, or, if its plan says so, up as after a whole handshake.
use Rattle.std.specs.Prelude.{ℕ, true, List, [], replicate, if◌then◌else◌}
use Rattle.step_kinds.specs.Bits.{all_below}
use Rattle.step_kinds.specs.Sides.{other_side}
use Rattle.step_kinds.specs.declared.names.Side.{Side}
use Rattle.step_kinds.specs.declared.names.Side.TheVariants.{A, B}
use Rattle.step_kinds.specs.declared.plan.PairPlan.{PairPlan}
use Rattle.bridge_regs.specs.Doorbell.{quiet}
use Rattle.pair_model.specs.Stores.{Store}
use Rattle.host_memory.specs.Memory.{Contents}
use Rattle.pair_model.specs.Both.{Both, both_of}
use Rattle.pair_model.specs.Link.{fresh_link}
use Rattle.pair_model.specs.Pads.{agreed_pads}
use Rattle.pair_model.specs.FreshRings.{fresh_index_words}
use Rattle.pair_model.specs.Plans.{side_plan}
use Rattle.posted_queue.specs.Flight.{nothing_in_flight}
use Rattle.plan_numbers.specs.Memories.{memory_size}
use Rattle.bridge_pair.specs.Bridge.{Bridge, bridge_bytes_of, offer_length}
use Rattle.bridge_pair.specs.Ends.{bytes_after}
use Rattle.bridge_pair.specs.Links.{no_book}
use Rattle.bridge_pair.specs.declared.book.SideBook.{SideBook}

-- a side that is up and has posted its whole offer, and on which all queues are ready and joined
abbrev pub whole_book : PairPlan → Side → SideBook
whole_book plan side =
    record { up = true; ready = all_below (side_plan plan side).queues; joined = all_below (side_plan plan side).queues; offered = offer_length plan side }

abbrev pub fresh_book : PairPlan → Side → SideBook
fresh_book plan side = if plan.up then whole_book plan side else no_book

-- the scratchpads of a side: the peer's offer and ready queues, or all 0
abbrev pub fresh_pads : PairPlan → Side → List ℕ
fresh_pads plan side = if plan.up then agreed_pads (side_plan plan (other_side side)) else replicate 16 0

-- what is stored in a side's memory: where the pair is up, each index word says that no entry is taken
abbrev pub fresh_stores : PairPlan → Side → List Store
fresh_stores plan side = if plan.up then fresh_index_words plan side else []

-- a side's memory before anything is stored there
abbrev pub zero_memory : PairPlan → Side → Contents
zero_memory plan side = record { bytes = replicate (memory_size plan side) 0; promised = [] }

-- a side's memory, of which these pages are promised
abbrev pub fresh_memory : PairPlan → Side → List ℕ → Contents
fresh_memory plan side pages = record { bytes = bytes_after (fresh_stores plan side) (replicate (memory_size plan side) 0); promised = pages }

abbrev pub fresh_bridge_with : PairPlan → Both Contents → Bridge
fresh_bridge_with plan memories =
    record {
      plan = plan;
      link = fresh_link plan.up;
      books = record { a = fresh_book plan A; b = fresh_book plan B };
      pads = record { a = fresh_pads plan A; b = fresh_pads plan B };
      bells = both_of quiet;
      memories = memories;
      flights = both_of nothing_in_flight;
    }

abbrev pub fresh_bridge : PairPlan → Both (List ℕ) → Bridge
fresh_bridge plan pages = fresh_bridge_with plan (record { a = fresh_memory plan A pages.a; b = fresh_memory plan B pages.b })

-- a side's memory with its index words, if these pages are promised
abbrev pub started_memory : Bridge → Side → List ℕ → Contents
started_memory bridge side pages = record { bytes = bytes_after (fresh_index_words bridge.plan side) (bridge_bytes_of bridge side); promised = pages }
