-- One end of a bridge: a side's scratchpads, doorbell and memory, and what is in flight towards it.
use Rattle.std.specs.Prelude.{◌≡◌, ℕ, ◌+◌, ◌<◌, ◌≤◌, All, List, [], ◌∷◌, length, replicate, slice_set, Bool, if◌then◌else◌}
use Rattle.step_kinds.specs.Bits.{with_bit}
use Rattle.step_kinds.specs.declared.steps.Label.{Label}
use Rattle.bridge_regs.specs.Doorbell.{Doorbell, quiet, with_pending}
use Rattle.bridge_regs.specs.Laws.{FitsRegisters}
use Rattle.pair_model.specs.Stores.{Store}
use Rattle.host_memory.specs.Memory.{Contents, ArePromised, written}
use Rattle.posted_queue.specs.Flight.{Flight, nothing_in_flight, posted, given_back}
use Rattle.posted_queue.specs.declared.LandAnswer.{LandAnswer}
use Rattle.posted_queue.specs.declared.LandAnswer.TheVariants.{Landed, Blocked, Nothing}
use Rattle.bridge_pair.specs.Flights.{Flying}
use Rattle.bridge_pair.specs.declared.flying_write.Arrival.{Arrival}
use Rattle.bridge_pair.specs.declared.flying_write.Arrival.TheVariants.{AtAddress, AtPad, AtBell}

pub record End : Type 0 where
  pub pads : List ℕ
  pub bells : Doorbell
  pub memory : Contents
  -- posted by the peer
  pub coming : Flight Flying

-- what arrives has a place here: bytes lie in the memory, on promised pages; a scratchpad is one of 16, a bit one of 32
abbrev pub HasPlace : Contents → Arrival → Type 0
HasPlace memory (AtAddress at bytes) = (at + length bytes ≤ length memory.bytes) × ArePromised at (length bytes) memory.promised
HasPlace memory (AtPad index value) = index < 16
HasPlace memory (AtBell bit) = bit < 32

-- what arrives sets a scratchpad or rings a bit, of those that there are
abbrev pub IsRegister : Arrival → Type 0
IsRegister (AtAddress at bytes) = ⊥
IsRegister (AtPad index value) = index < 16
IsRegister (AtBell bit) = bit < 32

-- Each write in flight has its place, so that landing it asks for nothing.
pub record IsEnd (end : End) : Type 0 where
  pub pads : length end.pads ≡ 16
  pub bells : FitsRegisters end.bells
  pub coming : All (λ (flying : Flying). HasPlace end.memory flying.arrival) end.coming.writes

-- a memory with these bytes from an address on
abbrev pub stored_at : ℕ → List ℕ → Contents → Contents
stored_at at bytes memory = record { bytes = written at bytes memory.bytes; promised = memory.promised }

-- a memory after these stores, the newest of which is the first
abbrev pub bytes_after : List Store → List ℕ → List ℕ
bytes_after [] bytes = bytes
bytes_after (store ∷ older) bytes = written store.at store.bytes (bytes_after older bytes)

-- what arrives is stored, sets its scratchpad or rings its bit
abbrev pub after_arrival : End → Arrival → End
after_arrival end (AtAddress at bytes) = record end { memory = stored_at at bytes end.memory }
after_arrival end (AtPad index value) = record end { pads = slice_set end.pads index value }
after_arrival end (AtBell bit) = record end { bells = with_pending end.bells (with_bit end.bells.pending bit) }

-- a landed write arrives; where nothing lands all stays
abbrev pub after_answer : End → LandAnswer Flying → End
after_answer end (Landed flying) = after_arrival end flying.arrival
after_answer end answer = end

-- of a write that landed its label is answered
abbrev pub label_landed : LandAnswer Flying → LandAnswer Label
label_landed (Landed flying) = Landed flying.label
label_landed Blocked = Blocked
label_landed Nothing = Nothing

-- the end before anything came
abbrev pub fresh_end : ℕ → End
fresh_end len = record { pads = replicate 16 0; bells = quiet; memory = record { bytes = replicate len 0; promised = [] }; coming = nothing_in_flight }

-- the peer posts a write: it is in flight where the link is up, and else it is lost and its promise given back
abbrev pub after_posting : Bool → Flight Flying → Flying → Flight Flying
after_posting up flight flying = if up then posted flight flying else given_back flight 1
