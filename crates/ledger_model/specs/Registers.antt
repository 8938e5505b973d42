-- Doorbells, scratchpads and what a script shows, as `ntb_tool` reads and writes them.
use Rattle.std.specs.Prelude.{ℕ, List, length, slice_get, slice_index, bit_and, bit_or}
use Rattle.step_kinds.specs.Bits.{without_bits}
use Rattle.step_kinds.specs.declared.names.Side.{Side}
use Rattle.step_kinds.specs.declared.steps.Label.TheVariants.{Pad, Raw}
use Rattle.step_kinds.specs.declared.steps.Answer.TheVariants.{Ok as Done, Irq, Mem, PadValue, QueueShown}
use Rattle.ledger_model.specs.Ledger.{PairPart, side_of, with_side_part, posts, posts_raw}
use Rattle.ledger_model.specs.Outcome.{Outcome}

-- a side takes its pending doorbells that aren't masked
abbrev pub irq_step : PairPart → Side → Outcome
irq_step pair side =
    let own = side_of pair side in
    record {
      answer = Irq (without_bits own.pending own.masked);
      after = with_side_part pair side (record own { pending = bit_and own.pending own.masked });
    }

abbrev pub mask_step : PairPart → Side → ℕ → Outcome
mask_step pair side bits =
    let own = side_of pair side in
    record { answer = Done; after = with_side_part pair side (record own { masked = bit_or own.masked bits }) }

abbrev pub unmask_step : PairPart → Side → ℕ → Outcome
unmask_step pair side bits =
    let own = side_of pair side in
    record { answer = Done; after = with_side_part pair side (record own { masked = without_bits own.masked bits }) }

-- a scratchpad of the peer is written
abbrev pub spad_step : PairPart → Side → ℕ → ℕ → Outcome
spad_step pair side i value = record { answer = Done; after = posts pair side (Pad i value) }

-- bytes are written through a window
abbrev pub poke_step : PairPart → Side → ℕ → ℕ → List ℕ → Outcome
poke_step pair side window offset bytes = record { answer = Done; after = posts_raw pair side (Raw window offset (length bytes)) bytes }

-- what is shown changes nothing; the bytes of the memory are given
abbrev pub show_mem_step : PairPart → List ℕ → Outcome
show_mem_step pair bytes = record { answer = Mem bytes; after = pair }

abbrev pub show_pad_step : PairPart → Side → ℕ → Outcome
show_pad_step pair side i = record { answer = PadValue (slice_index (side_of pair side).pads i); after = pair }

abbrev pub show_queue_step : PairPart → Side → ℕ → Outcome
show_queue_step pair side place =
    record { answer = QueueShown (length (side_of pair side).flight) (slice_get (side_of pair side).flight place); after = pair }
