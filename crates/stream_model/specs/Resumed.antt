-- What the sessions of a resumable stream came to on its two lanes, one for items and one for acknowledgements.
use Rattle.std.specs.Prelude.{◌≡◌, ℕ, ◌+◌, ◌<◌, max, List, [], ◌∷◌, length, take, fold, slice_index_or}
use Rattle.std.specs.List.{All}
use Rattle.stream_model.specs.Fronts.{Begins}
use Rattle.stream_model.specs.Numbers.{SaysAtMost, largest_in}
use Rattle.stream_model.specs.Sender.{session_frames}
use Rattle.stream_model.specs.Receiver.{Receiver, new_receiver, receiver_renewed, taken}

-- one session: what the item lane and the acknowledgement lane were given, and what came out of each
pub record Exchange : Type 0 where
  pub sent : List (List ℕ)
  pub got : List (List ℕ)
  pub acks_sent : List (List ℕ)
  pub acks_got : List (List ℕ)

abbrev pub no_exchange : Exchange
no_exchange = record { sent = []; got = []; acks_sent = []; acks_got = [] }

abbrev pub session_at : List Exchange → ℕ → Exchange
session_at sessions number = slice_index_or sessions number no_exchange

-- a receiver takes what the item lane of a session got, and begins a new session
abbrev pub after_session : Receiver → Exchange → Receiver
after_session receiver session = receiver_renewed (fold taken receiver session.got)

-- the items that a receiver keeps by the end of these sessions
abbrev pub kept_by : List Exchange → List (List ℕ)
kept_by sessions = (fold after_session new_receiver sessions).items

-- the largest number that was acknowledged in these sessions, or 0
abbrev pub acked_by : List Exchange → ℕ
acked_by [] = 0
acked_by (session ∷ sessions) = max (largest_in session.acks_got) (acked_by sessions)

-- In each session the item lane was given a part, from the front, of the session's frames. These are the frame of the
-- number that was acknowledged in the sessions before it, and the items from there on. Each acknowledgement says at
-- most how many items are kept by the session's end.
pub record AreSessionsOf (items : List (List ℕ)) (sessions : List Exchange) : Type 0 where
  pub sent : (k : ℕ) → k < length sessions → Begins (session_at sessions k).sent (session_frames items (acked_by (take k sessions)))
  pub acks : (k : ℕ) → k < length sessions → All (SaysAtMost (length (kept_by (take (k + 1) sessions)))) (session_at sessions k).acks_sent

-- the sessions of a lane that carried its whole traffic: these items are what the receiver keeps, and all of it
pub record IsResumed (traffic : List (List ℕ)) (sessions : List Exchange) (items : List (List ℕ)) : Type 0 where
  pub each : AreSessionsOf traffic sessions
  pub kept : items ≡ kept_by sessions
  pub whole : items ≡ traffic

-- what came out of each lane in a session is a part, from the front, of what it was given
pub record IsStreamInOrder (session : Exchange) : Type 0 where
  pub items : Begins session.got session.sent
  pub acks : Begins session.acks_got session.acks_sent
