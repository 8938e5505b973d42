-- A pair as its two hosts and the bridge between them make it: bytes, registers, writes in flight, and what each side
-- has reached in the handshake.
use Rattle.std.specs.Prelude.{◌≡◌, ℕ, ◌+◌, ◌*◌, ◌^◌, ◌<◌, ◌≤◌, All, List, length}
use Rattle.step_kinds.specs.Sides.{other_side}
use Rattle.step_kinds.specs.declared.names.Side.{Side}
use Rattle.step_kinds.specs.declared.plan.PairPlan.{PairPlan}
use Rattle.pair_model.specs.DeclaredPlans.{IsPair}
use Rattle.pair_model.specs.Plans.{side_plan}
use Rattle.pair_model.specs.Both.{Both, at_side, with_side}
use Rattle.pair_model.specs.Link.{Link}
use Rattle.plan_numbers.specs.Memories.{memory_size}
use Rattle.bridge_regs.specs.Doorbell.{Doorbell}
use Rattle.bridge_regs.specs.Laws.{FitsRegisters}
use Rattle.host_memory.specs.Memory.{Contents}
use Rattle.posted_queue.specs.Flight.{Flight}
use Rattle.bridge_pair.specs.Ends.{HasPlace}
use Rattle.bridge_pair.specs.Flights.{Flying}
use Rattle.bridge_pair.specs.declared.book.SideBook.{SideBook}

pub record Bridge : Type 0 where
  pub plan : PairPlan
  pub link : Link
  -- what each side has reached in the handshake
  pub books : Both SideBook
  -- each side's own registers and memory
  pub pads : Both (List ℕ)
  pub bells : Both Doorbell
  pub memories : Both Contents
  -- what each side posted towards its peer
  pub flights : Both (Flight Flying)

-- of one side

abbrev pub book_of : Bridge → Side → SideBook
book_of bridge side = at_side bridge.books side

abbrev pub pads_of : Bridge → Side → List ℕ
pads_of bridge side = at_side bridge.pads side

abbrev pub bells_of : Bridge → Side → Doorbell
bells_of bridge side = at_side bridge.bells side

abbrev pub bridge_bytes_of : Bridge → Side → List ℕ
bridge_bytes_of bridge side = (at_side bridge.memories side).bytes

abbrev pub pages_of : Bridge → Side → List ℕ
pages_of bridge side = (at_side bridge.memories side).promised

abbrev pub flight_of : Bridge → Side → Flight Flying
flight_of bridge side = at_side bridge.flights side

-- the same bridge with one thing else

abbrev pub with_link : Bridge → Link → Bridge
with_link bridge link = record bridge { link = link }

abbrev pub with_book : Bridge → Side → SideBook → Bridge
with_book bridge side book = record bridge { books = with_side bridge.books side book }

abbrev pub with_pads : Bridge → Side → List ℕ → Bridge
with_pads bridge side pads = record bridge { pads = with_side bridge.pads side pads }

abbrev pub with_bells : Bridge → Side → Doorbell → Bridge
with_bells bridge side bells = record bridge { bells = with_side bridge.bells side bells }

abbrev pub with_memory : Bridge → Side → Contents → Bridge
with_memory bridge side memory = record bridge { memories = with_side bridge.memories side memory }

abbrev pub with_bytes : Bridge → Side → List ℕ → Bridge
with_bytes bridge side bytes = with_memory bridge side (record { bytes = bytes; promised = pages_of bridge side })

abbrev pub with_pages : Bridge → Side → List ℕ → Bridge
with_pages bridge side pages = with_memory bridge side (record { bytes = bridge_bytes_of bridge side; promised = pages })

abbrev pub with_flight : Bridge → Side → Flight Flying → Bridge
with_flight bridge side flight = record bridge { flights = with_side bridge.flights side flight }

-- the writes of a side's offer: two for each window, and three numbers
abbrev pub offer_length : PairPlan → Side → ℕ
offer_length plan side = 2 * (side_plan plan side).windows + 3

-- what a side may have reached: sets of its own queues, and no more than the whole offer
pub record IsBook (plan : PairPlan) (side : Side) (book : SideBook) : Type 0 where
  pub ready : book.ready < 2 ^ (side_plan plan side).queues
  pub joined : book.joined < 2 ^ (side_plan plan side).queues
  pub offered : book.offered ≤ offer_length plan side

-- What is so of every bridge.
pub record IsBridge (bridge : Bridge) : Type 0 where
  pub plan : IsPair bridge.plan
  pub books : (side : Side) → IsBook bridge.plan side (book_of bridge side)
  pub pads : (side : Side) → length (pads_of bridge side) ≡ 16
  pub bells : (side : Side) → FitsRegisters (bells_of bridge side)
  pub memories : (side : Side) → length (bridge_bytes_of bridge side) ≡ memory_size bridge.plan side
  -- each write in flight has its place at the peer
  pub flights : (side : Side) → All (λ (flying : Flying). HasPlace (at_side bridge.memories (other_side side)) flying.arrival) (flight_of bridge side).writes
