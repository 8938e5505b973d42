-- The receiving end of a resumable stream: it keeps each item once, in order, and says how many it keeps.
use Rattle.std.specs.Prelude.{ℕ, ◌+◌, ◌==◌, nat_le, if◌then◌else◌, List, [], ◌∷◌, ◌++◌, length, Option, Some, None}
use Rattle.stream_model.specs.Numbers.{number_frame, number_in}
use Rattle.stream_model.specs.declared.Session.{Session}
use Rattle.stream_model.specs.declared.Session.TheVariants.{Fresh, At, Spoiled}
use Rattle.stream_model.specs.declared.TakeAnswer.{TakeAnswer}
use Rattle.stream_model.specs.declared.TakeAnswer.TheVariants.{Start, Kept, Old, Bad}

-- the items that are kept, and where the receiver stands in its session
pub record Receiver : Type 0 where
  pub items : List (List ℕ)
  pub session : Session

abbrev pub new_receiver : Receiver
new_receiver = record { items = []; session = Fresh }

-- a session's first frame says at which number the session starts, which is one up to the number of items that are kept
abbrev pub start_answer : ℕ → Option ℕ → TakeAnswer
start_answer count (Some number) = if nat_le number count then Start else Bad
start_answer count None = Bad

abbrev pub session_from : ℕ → Option ℕ → Session
session_from count (Some number) = if nat_le number count then At number else Spoiled
session_from count None = Spoiled

-- what `take` answers to a frame, by the session and the number of items that are kept
abbrev pub answer_in : Session → ℕ → List ℕ → TakeAnswer
answer_in Fresh count frame = start_answer count (number_in frame)
answer_in (At number) count frame = if number == count then Kept number else Old number
answer_in Spoiled count frame = Bad

abbrev pub take_answer : Receiver → List ℕ → TakeAnswer
take_answer receiver frame = answer_in receiver.session (length receiver.items) frame

-- an item of a number joins, if it is the next that the receiver lacks
abbrev pub stream_joined : List (List ℕ) → ℕ → List ℕ → List (List ℕ)
stream_joined items number frame = if number == length items then items ++ frame ∷ [] else items

-- the receiver after it took a frame
abbrev pub taken_in : Session → List (List ℕ) → List ℕ → Receiver
taken_in Fresh items frame = record { items = items; session = session_from (length items) (number_in frame) }
taken_in (At number) items frame = record { items = stream_joined items number frame; session = At (number + 1) }
taken_in Spoiled items frame = record { items = items; session = Spoiled }

abbrev pub taken : Receiver → List ℕ → Receiver
taken receiver frame = taken_in receiver.session receiver.items frame

-- the acknowledgement: how many items are kept
abbrev pub ack_frame : Receiver → List ℕ
ack_frame receiver = number_frame (length receiver.items)

-- a new session
abbrev pub receiver_renewed : Receiver → Receiver
receiver_renewed receiver = record receiver { session = Fresh }
