-- What contracts see of a lane, and what its fields keep beside that.
use Rattle.std.specs.Prelude.{◌≡◌, ℕ, ◌*◌, ◌^◌, ◌≤◌, Bool, List, length, map, take, vec_capacity, All}
use Rattle.step_kinds.specs.Limits.{most_frame_bytes}
use Rattle.lane_model.specs.Lane.{Lane, bytes_of, entry_of, chunk_size}
use Rattle.lane_model.specs.Law.{HoldsRingLaw}
use Rattle.lane_model.specs.declared.Phase.{Phase}
use Rattle.lane_model.specs.declared.Phase.TheVariants.{Idle, Copying}
use Rattle.posted_queue.specs.Flight.{Flight}
use Rattle.lane_core.specs.Calls.{LaneValue}
use Rattle.lane_core.specs.Parts.{entry_seen, place_seen}
use Rattle.lane_core.specs.declared.write.PostedWrite.{PostedWrite}
use Rattle.lane_core.specs.declared.write.IndexWrite.{IndexWrite}
use Rattle.lane_core.specs.declared.lane.Lane.TheInside.{Inside}

-- what stands in lists is seen by its elements, and each number as it is
abbrev pub lane_seen : Inside → Lane
lane_seen l =
    record {
      sent = map entry_seen l.sent.items;
      todo = l.todo.items;
      flight = map (λ (write : PostedWrite). write.mark) l.flight.writes;
      returning = map (λ (write : IndexWrite). write.number) l.returning.writes;
      ring = map place_seen l.ring.items;
      entries = l.entries;
      largest = l.largest;
      up = l.up;
      index_word = l.index_word;
      flagged = l.flagged;
      got = l.got;
      cleared = l.cleared;
      acked = l.acked;
      freed = l.freed;
      phase = l.phase;
      part = l.part;
    }

abbrev pub value_seen : Inside → LaneValue
value_seen l = record { queue = l.queue; is_strict = l.strict; lane = lane_seen l }

-- room for the index write of the entry that the receiver is at
abbrev pub index_room : Phase → ℕ
index_room Idle = 0
index_room phase = 1

-- while an entry is copied, the parts copied so far stand in the buffer, which has room for the whole entry
pub record Buffers (phase : Phase) (part : ℕ) (bytes copied : List ℕ) (capacity : ℕ) : Type 0 where
  pub items : phase ≡ Copying → copied ≡ take (chunk_size * part) bytes
  pub room : phase ≡ Copying → length bytes ≤ capacity

-- few entries were begun, and a slot's payload is at most the longest frame. Each write in flight has its order, and
-- there is room in flight for what is left to post.
pub record SendingStands (begun largest : ℕ) (strict : Bool) (left : ℕ) (flight : Flight PostedWrite) : Type 0 where
  pub few : begun ≤ 2 ^ 46
  pub small : largest ≤ most_frame_bytes
  pub orders : All (λ (write : PostedWrite). write.strict ≡ strict) flight.writes
  pub room : left ≤ flight.spare

pub record IsCoreKept (l : Inside) : Type 0 where
  pub law : HoldsRingLaw (lane_seen l)
  pub sending : SendingStands (length l.sent.items) l.largest l.strict (length l.todo.items) l.flight
  pub index_room : index_room l.phase ≤ l.returning.spare
  pub buffers : Buffers l.phase l.part (bytes_of (entry_of (lane_seen l) l.got)) l.copied.items (vec_capacity l.copied)
