-- What one end of a stream and its lane come to over some turns.
use Rattle.std.specs.Prelude.{◌≡◌, ℕ, ◌+◌, ◌≤◌, List, length, take}
use Rattle.lane_workers.specs.Passes.{HaveBytes}
use Rattle.step_kinds.specs.Limits.{most_traffic_frames}
use Rattle.stream_laws.specs.Laws.{given_by}
use Rattle.stream_model.specs.Sender.{Sender, frames_of}

-- What was sent in a session is what the sender gave in it. Each frame of the session has a byte, the sender counts how
-- many items it ever gave, and there are as few items as a traffic has.
pub record HasOffered (sender : Sender) (sent : List (List ℕ)) : Type 0 where
  pub given : sent ≡ given_by sender
  pub bytes : HaveBytes (frames_of sender)
  pub items : HaveBytes sender.items
  pub reached : sender.start + sender.place.given ≤ sender.place.ever + 1
  pub starts : sender.start ≤ length sender.items
  pub within : sender.place.ever ≤ length sender.items
  pub few : length sender.items ≤ most_traffic_frames

-- a sender goes on with its stream in its session, and has ever given no fewer items
pub record StreamGoesOn (before after : Sender) : Type 0 where
  pub items : after.items ≡ before.items
  pub acked : after.acked ≡ before.acked
  pub start : after.start ≡ before.start
  pub ever : before.place.ever ≤ after.place.ever

-- items were kept after others, at most this many
pub record Grows (most : ℕ) (before after : List (List ℕ)) : Type 0 where
  pub front : take (length before) after ≡ before
  pub no_fewer : length before ≤ length after
  pub few : length after ≤ length before + most
