-- The sending end of a resumable stream: it gives frames, session by session, and takes acknowledgements.
use Rattle.std.specs.Prelude.{ℕ, ◌+◌, ◌-◌, ◌^◌, nat_lt, max, if◌then◌else◌, List, ◌∷◌, drop, slice_get, Option, Some, None, unwrap_or}
use Rattle.std.specs.Option.{option_and_then}
use Rattle.stream_model.specs.Numbers.{number_frame, number_in}
use Rattle.stream_model.specs.declared.Place.{Place}
use Rattle.stream_model.specs.declared.AckAnswer.{AckAnswer}
use Rattle.stream_model.specs.declared.AckAnswer.TheVariants.{Newer, Old, Bad}

-- All items, how many were acknowledged, the number at which this session starts, and how far the sender is. If its
-- last change was that it gave a frame, `before` is how far it was before. A frame can be given back exactly in that
-- case.
pub record Sender : Type 0 where
  pub items : List (List ℕ)
  pub acked : ℕ
  pub start : ℕ
  pub place : Place
  pub before : Option Place

-- a stream has fewer items than this, so that a number of four bytes says how many there are
abbrev pub most_items : ℕ
most_items = 2 ^ 32 - 1

-- the frames of a session that starts at a number: the frame that says it, then the items from there on
abbrev pub session_frames : List (List ℕ) → ℕ → List (List ℕ)
session_frames items start = number_frame start ∷ drop start items

-- of the sender's own session
abbrev pub frames_of : Sender → List (List ℕ)
frames_of sender = session_frames sender.items sender.start

-- a sender that gave nothing yet
abbrev pub new_sender : List (List ℕ) → Sender
new_sender items = record { items = items; acked = 0; start = 0; place = record { given = 0; ever = 0 }; before = None }

-- the frame that comes at a place of the session
abbrev pub frame_at : Sender → Place → Option (List ℕ)
frame_at sender place = slice_get (frames_of sender) place.given

-- what `next_frame` answers: none where all frames of the session were given
abbrev pub next_frame : Sender → Option (List ℕ)
next_frame sender = frame_at sender sender.place

-- one frame more is given in a session that starts at a number
abbrev pub next_place : ℕ → Place → Place
next_place start place = record { given = place.given + 1; ever = max place.ever (start + place.given) }

abbrev pub one_given : Sender → Sender
one_given sender = record sender { place = next_place sender.start sender.place; before = Some sender.place }

-- the sender after that answer of `next_frame`
abbrev pub sender_after_answer : Sender → Option (List ℕ) → Sender
sender_after_answer sender (Some frame) = one_given sender
sender_after_answer sender None = sender

abbrev pub after_next_frame : Sender → Sender
after_next_frame sender = sender_after_answer sender (next_frame sender)

-- the frame that can be given back
abbrev pub last_given : Sender → Option (List ℕ)
last_given sender = option_and_then (frame_at sender) sender.before

-- the sender as far as it was at a place
abbrev pub back_at : Sender → Option Place → Sender
back_at sender (Some place) = record sender { place = place; before = None }
back_at sender None = sender

-- a frame that is given back counts as not given
abbrev pub sender_given_back : Sender → Sender
sender_given_back sender = back_at sender sender.before

-- what comes of an acknowledgement that says a number, or none
abbrev pub number_answer : Sender → Option ℕ → AckAnswer
number_answer sender (Some number) = if nat_lt sender.place.ever number then Bad else if nat_lt sender.acked number then Newer else Old
number_answer sender None = Bad

abbrev pub ack_answer : Sender → List ℕ → AckAnswer
ack_answer sender frame = number_answer sender (number_in frame)

-- the sender after that answer to a number
abbrev pub sender_after_ack : Sender → ℕ → AckAnswer → Sender
sender_after_ack sender number Newer = record sender { acked = number; before = None }
sender_after_ack sender number Old = sender
sender_after_ack sender number Bad = sender

abbrev pub ack_taken : Sender → List ℕ → Sender
ack_taken sender frame = sender_after_ack sender (unwrap_or (number_in frame) 0) (ack_answer sender frame)

-- a new session starts at the acknowledged number
abbrev pub sender_renewed : Sender → Sender
sender_renewed sender = record sender { start = sender.acked; place = record { given = 0; ever = sender.place.ever }; before = None }
