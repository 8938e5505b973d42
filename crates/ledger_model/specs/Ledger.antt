-- The ledger of a cluster: what is so of each pair after the steps that were made. It knows lists, counts and labels,
-- and no memory, address, flag or version word.
use Rattle.std.specs.Prelude.{ℕ, ◌+◌, ◌==◌, Bool, List, [], ◌∷◌, ◌++◌, length, slice_index_or, if◌then◌else◌}
use Rattle.step_kinds.specs.Sides.{other_side}
use Rattle.step_kinds.specs.declared.names.Side.{Side}
use Rattle.step_kinds.specs.declared.plan.Counters.{Counters}
use Rattle.step_kinds.specs.declared.steps.Label.{Label}
use Rattle.lane_model.specs.Ring.{head_of, tail_of, room_of}
use Rattle.lane_model.specs.Lane.{Entry, GoesDown}
use Rattle.lane_model.specs.declared.Phase.{Phase}
use Rattle.pair_model.specs.Both.{Both, at_side, with_side}
use Rattle.pair_model.specs.Link.{Link, is_up}
use Rattle.pair_model.specs.Sizes.{Sizes}

-- A lane in the pair's session: what its sender began, what its receiver found, and how far each is. The labels in
-- flight stand with the side that posted them.
pub record LanePart : Type 0 where
  -- the entries that were begun, those of the last frame that are not begun yet, and the writes of the entry begun last
  -- that are left to post
  pub sent : List Entry
  pub waiting : List Entry
  pub todo : List Label
  -- how many frames were begun
  pub told : ℕ
  -- how many entries have their flags landed, were taken whole, were cleared, acknowledged and given back
  pub flagged : ℕ
  pub got : ℕ
  pub cleared : ℕ
  pub acked : ℕ
  pub freed : ℕ
  -- where the receiver stands: idle or copying with entry `got`, copied or cleared with the one before. Then the part
  -- that it copies next, while it copies; and of the entry found last, as found, its length and how many of its frame
  -- follow it
  pub phase : Phase
  pub part : ℕ
  pub len : ℕ
  pub left : ℕ
  -- the bytes copied so far of the frame under way, and how many frames were delivered
  pub gathered : List ℕ
  pub done : ℕ

-- One side of a pair: what it reached in the handshake, its scratchpads and doorbells, and its writes in flight. Sets
-- of queues and of doorbells are the bits of a number.
pub record SidePart : Type 0 where
  pub up : Bool
  pub ready : ℕ
  pub joined : ℕ
  pub closed : ℕ
  pub offered : ℕ
  pub pads : List ℕ
  pub pending : ℕ
  pub masked : ℕ
  pub flight : List Label
  -- the bytes of the raw writes among them, in order
  pub poked : List (List ℕ)

-- A network device on a queue.
pub record DevPart : Type 0 where
  pub stopped : Bool
  pub counters : Counters

-- The frames of a lane in a session that were accepted and delivered.
pub record Tally : Type 0 where
  pub accepted : ℕ
  pub delivered : ℕ

-- A pair. Lanes stand by the side that sends and the queue, devices by side and queue, tallies by lane and session.
pub record PairPart : Type 0 where
  pub link : Link
  pub sides : Both SidePart
  pub lanes : Both (ℕ → LanePart)
  pub devs : Both (ℕ → DevPart)
  pub tallies : Both (ℕ → ℕ → Tally)

-- a function with another value at one number
abbrev pub updated : {X : Type 0} → (ℕ → X) → ℕ → X → ℕ → X
updated f k x = λ j. if j == k then x else f j

abbrev pub side_of : PairPart → Side → SidePart
side_of pair side = at_side pair.sides side

abbrev pub lane_of : PairPart → Side → ℕ → LanePart
lane_of pair from queue = at_side pair.lanes from queue

-- the lane that a side receives on a queue
abbrev pub lane_to : PairPart → Side → ℕ → LanePart
lane_to pair side queue = lane_of pair (other_side side) queue

abbrev pub dev_of : PairPart → Side → ℕ → DevPart
dev_of pair side queue = at_side pair.devs side queue

abbrev pub tally_of : PairPart → Side → ℕ → ℕ → Tally
tally_of pair from queue session = at_side pair.tallies from queue session

abbrev pub with_side_part : PairPart → Side → SidePart → PairPart
with_side_part pair side part = record pair { sides = with_side pair.sides side part }

abbrev pub with_lane : PairPart → Side → ℕ → LanePart → PairPart
with_lane pair from queue part = record pair { lanes = with_side pair.lanes from (updated (at_side pair.lanes from) queue part) }

abbrev pub with_dev : PairPart → Side → ℕ → DevPart → PairPart
with_dev pair side queue part = record pair { devs = with_side pair.devs side (updated (at_side pair.devs side) queue part) }

abbrev pub with_tally : PairPart → Side → ℕ → ℕ → Tally → PairPart
with_tally pair from queue session tally =
    record pair { tallies = with_side pair.tallies from (updated (at_side pair.tallies from) queue (updated (at_side pair.tallies from queue) session tally)) }

-- whether the pair's link is up
abbrev pub link_up : PairPart → Bool
link_up pair = is_up pair.link.state

-- a side posts a write: it is in flight where the link is up, and lost otherwise
abbrev pub posts : PairPart → Side → Label → PairPart
posts pair side label =
    if link_up pair
    then with_side_part pair side (record (side_of pair side) { flight = (side_of pair side).flight ++ label ∷ [] })
    else pair

-- the same of a raw write and its bytes
abbrev pub posts_raw : PairPart → Side → Label → List ℕ → PairPart
posts_raw pair side label bytes =
    if link_up pair
    then with_side_part pair side
    (record (side_of pair side) { flight = (side_of pair side).flight ++ label ∷ []; poked = (side_of pair side).poked ++ bytes ∷ [] })
    else pair

-- the entries that a lane's sender has begun or keeps waiting, those that are free for it, and what it reads of head
-- and index word
abbrev pub begun_in : LanePart → ℕ
begun_in lane = length lane.sent + length lane.waiting

abbrev pub free_of : Sizes → LanePart → ℕ
free_of sizes lane = room_of sizes.entries (begun_in lane) lane.freed

abbrev pub head_in : Sizes → LanePart → ℕ
head_in sizes lane = head_of sizes.entries (begun_in lane)

abbrev pub tail_in : Sizes → LanePart → ℕ
tail_in sizes lane = tail_of sizes.entries lane.freed

-- entry n of a lane
abbrev pub entry_in : LanePart → ℕ → Entry
entry_in lane n = slice_index_or lane.sent n GoesDown
