-- The receiver's end, as the crate keeps it.
use Rattle.std.specs.Prelude.{◌≡◌, ℕ, ◌+◌, ◌-◌, ◌*◌, ◌<◌, ◌≤◌, true, min}
use Rattle.step_kinds.specs.Limits.{most_frame_bytes}
use Rattle.lane_model.specs.Lane.{chunk_size}
use Rattle.lane_model.specs.Tests.{is_copying}
use Rattle.frame_ring.specs.Port.{Receiving}
use Rattle.frame_ring.specs.declared.receiving.Receiver.TheInside.{Inside as ReceiverInside}
use Rattle.frame_ring.specs.Outgoing.{most_numbers}

abbrev pub receiver_seen : ReceiverInside → Receiving
receiver_seen receiver =
    record {
      got = receiver.got;
      done = receiver.done;
      phase = receiver.phase;
      part = receiver.part;
      len = receiver.len;
      left = receiver.left;
      gathered = receiver.gathered.bytes;
    }

-- there is room for the parts of the entry at hand that are left to copy
pub record HasRoomFor (got part len room : ℕ) : Type 0 where
  pub number : got < most_numbers
  pub few : len ≤ most_frame_bytes
  pub whole : room + chunk_size * part ≡ len

pub record IsReceiver (receiver : ReceiverInside) : Type 0 where
  pub done : receiver.done ≤ receiver.got
  pub got : receiver.got ≤ most_numbers
  pub copying : is_copying receiver.phase ≡ true → HasRoomFor receiver.got receiver.part receiver.len receiver.gathered.room

-- the bytes of the next part
abbrev pub next_part : Receiving → ℕ
next_part receiving = min chunk_size (receiving.len - chunk_size * receiving.part)
