-- What the readers of the log of one lane learn of a step: room that it takes or gives, frames, sessions, and what the
-- receiver sees. They also learn of scratchpads, of the lane's ring, and of what happens to the lane. A step tells
-- nothing but what its turn says.
use Rattle.std.specs.Prelude.{◌≡◌, ℕ, ◌-◌, ◌%◌, ◌==◌, Bool, false, Option, Some, List, [], ◌∷◌, map, slice_set, slice_index_or, if◌then◌else◌}
use Rattle.step_kinds.specs.Bits.{has_bit}
use Rattle.step_kinds.specs.Sides.{other_side}
use Rattle.step_kinds.specs.declared.names.LaneName.{LaneName}
use Rattle.step_kinds.specs.declared.plan.Plan.{Plan}
use Rattle.step_kinds.specs.declared.steps.Label.{Label}
use Rattle.lane_model.specs.Lane.{blank_slot, with_flags}
use Rattle.lane_model.specs.declared.Write.{Write}
use Rattle.ledger_model.specs.Labels.{write_of, label_index_of}
use Rattle.ledger_model.specs.Ledger.{LanePart}
use Rattle.ledger_model.specs.Log.{Answered, Numbered, takes_room, gives_room, trains, breaks, accepts, delivers, saw_empty, pad_after}
use Rattle.ledger_model.specs.Rings.{RingPart, ring_next, with_write, without_header}
use Rattle.pair_model.specs.Sizes.{Sizes}
use Rattle.ledger_laws.specs.LaneChanges.{LaneChange, Unchanged, EntryIsBegun, change_by_write, change_by_index, change_of}
use Rattle.ledger_laws.proofs.walk.Sight.{Role, Sender, Receiver, side_at}

pub record News : Type 0 where
  -- how many entries of the lane are begun or kept waiting, and whether an index write of it lands
  pub takes : ℕ
  pub gives : Bool
  -- a session of the pair begins, and ends
  pub starts : Bool
  pub ends : Bool
  -- frames of the lane
  pub accepted : List Numbered
  pub delivered : List Numbered
  -- whether the receiver's last look was empty, if it was so before
  pub sees : Bool → Bool
  -- what landed last in a scratchpad of an end
  pub pads : Role → ℕ → Option ℕ → Option ℕ
  -- the lane's ring
  pub ring : Sizes → RingPart → RingPart
  -- what happens to the lane
  pub change : LaneChange

abbrev pub no_news : News
no_news = record {
  takes = 0;
  gives = false;
  starts = false;
  ends = false;
  accepted = [];
  delivered = [];
  sees = λ saw. saw;
  pads = λ e i now. now;
  ring = λ sizes ring. ring;
  change = Unchanged;
}

-- what the receiver of a lane saw, with one entry more
abbrev pub saw_next : LaneName → Answered → Bool → Bool
saw_next lane made saw = saw_empty lane.pair (other_side lane.from) lane.queue saw (made ∷ [])

-- what landed in a scratchpad of an end, with one entry more
abbrev pub pad_next : LaneName → Answered → Role → ℕ → Option ℕ → Option ℕ
pad_next lane made e i now = pad_after lane.pair (side_at lane.from e) i now (made ∷ [])

pub record Tells (plan : Plan) (lane : LaneName) (part : LanePart) (made : Answered) (news : News) : Type 0 where
  pub takes : takes_room plan lane made ≡ news.takes
  pub gives : gives_room lane made ≡ news.gives
  pub starts : trains lane.pair made ≡ news.starts
  pub ends : breaks lane.pair made ≡ news.ends
  pub accepted : accepts plan lane made ≡ news.accepted
  pub delivered : delivers lane made ≡ news.delivered
  pub sees : (saw : Bool) → saw_next lane made saw ≡ news.sees saw
  pub pads : (e : Role) (i : ℕ) (now : Option ℕ) → pad_next lane made e i now ≡ news.pads e i now
  pub ring : (sizes : Sizes) (ring : RingPart) → ring_next sizes lane part ring made ≡ news.ring sizes ring
  pub change : change_of lane made ≡ news.change

-- The news of the turns that tell something

-- a receiver that has looked, and found something
abbrev pub looked_news : Bool → News
looked_news looked = record no_news { sees = λ saw. if looked then false else saw }

-- a scratchpad of the peer is written
abbrev pub pads_landed : Role → ℕ → ℕ → Role → ℕ → Option ℕ → Option ℕ
pads_landed Sender i value Receiver j now = if i == j then Some value else now
pads_landed Receiver i value Sender j now = if i == j then Some value else now
pads_landed e i value f j now = now

-- a write of the lane lands in the ring, and an index write in the index word
abbrev pub ring_landed : LanePart → Write → Sizes → RingPart → RingPart
ring_landed lane write sizes ring = record { ring = with_write sizes.entries lane ring.ring (Some write); index_word = ring.index_word }

abbrev pub ring_freed : ℕ → Sizes → RingPart → RingPart
ring_freed n sizes ring = record { ring = ring.ring; index_word = n % sizes.entries }

abbrev pub ring_checked : Role → Sizes → RingPart → RingPart
ring_checked Sender sizes ring = record { ring = ring.ring; index_word = sizes.entries - 1 }
ring_checked Receiver sizes ring = record { ring = map without_header ring.ring; index_word = ring.index_word }

-- the flags at the slot of entry n are cleared
abbrev pub ring_cleared : ℕ → Sizes → RingPart → RingPart
ring_cleared n sizes ring = record {
  ring = slice_set ring.ring (n % sizes.entries) (with_flags (slice_index_or ring.ring (n % sizes.entries) blank_slot) 0);
  index_word = ring.index_word;
}

-- doorbells that aren't masked are taken by an end
abbrev pub sees_taken : ℕ → Role → ℕ → Bool → Bool
sees_taken q Sender bits saw = saw
sees_taken q Receiver bits saw = if has_bit bits q then false else saw

-- a frame that needs this many entries is begun, on this lane or on another
abbrev pub begun_news : Bool → ℕ → ℕ → List ℕ → News
begun_news own needed n frame = record no_news {
  takes = (if own then needed else 0);
  accepted = (if own then record { number = n; bytes = frame } ∷ [] else []);
  change = (if own then EntryIsBegun else Unchanged);
}

-- a label that an end posted lands
abbrev pub change_heard : ℕ → Role → Label → LaneChange
change_heard q Sender label = change_by_write (write_of q label)
change_heard q Receiver label = change_by_index (label_index_of q label)
