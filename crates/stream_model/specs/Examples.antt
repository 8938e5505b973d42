-- Worked examples: two items, `a` and `b`, over sessions that are lost.
use Rattle.std.specs.Prelude.{◌≡◌, ℕ, List, [], ◌∷◌, Some, None, map}
use Rattle.stream_model.specs.Sender.{last_given, next_frame}
use Rattle.stream_model.specs.World.{StreamAnswered, EndAnswer, Gave, Took, TookAck, answers_to, world_after}
use Rattle.stream_model.specs.declared.AckAnswer.TheVariants.{Newer, Old as OldAck, Bad as BadAck}
use Rattle.stream_model.specs.declared.TakeAnswer.TheVariants.{Start, Kept, Old, Bad}
use Rattle.stream_model.specs.declared.StreamEvent.{StreamEvent}
use Rattle.stream_model.specs.declared.StreamEvent.TheVariants.{Next, GiveBack, Carry, Ack, CarryAck, Lose}
use Rattle.stream_model.specs.Sender.{ack_answer}
use Rattle.stream_model.specs.Receiver.{new_receiver, take_answer, taken}

abbrev pub a : List ℕ
a = 97 ∷ []

abbrev pub b : List ℕ
b = 98 ∷ []

abbrev pub both : List (List ℕ)
both = a ∷ b ∷ []

-- the four bytes of a small number
abbrev pub number : ℕ → List ℕ
number n = n ∷ 0 ∷ 0 ∷ 0 ∷ []

abbrev pub answers : List StreamEvent → List EndAnswer
answers events = map (λ (given : StreamAnswered). given.answer) (answers_to both events)

-- the first session carries `a` and is lost before an acknowledgement: the second starts at 0 again, and `a` is dropped
abbrev pub lost : List StreamEvent
lost = Next ∷ Next ∷ Carry ∷ Carry ∷ Lose ∷ Next ∷ Next ∷ Next ∷ Next ∷ Carry ∷ Carry ∷ Carry ∷ []

abbrev pub Lost : Type 0
Lost =
    ((world_after both lost).receiver.items ≡ both)
    × (answers lost
    ≡ Gave (Some (number 0)) ∷ Gave (Some a) ∷ Took Start ∷ Took (Kept 0)
    ∷ Gave (Some (number 0)) ∷ Gave (Some a) ∷ Gave (Some b) ∷ Gave None ∷ Took Start ∷ Took (Old 0) ∷ Took (Kept 1) ∷ [])

-- the acknowledgement of `a` comes before the loss: the second session starts at 1; the same acknowledgement is old
-- later
abbrev pub acked : List StreamEvent
acked = Next ∷ Next ∷ Carry ∷ Carry ∷ Ack ∷ CarryAck ∷ Lose ∷ Ack ∷ CarryAck ∷ Next ∷ Next ∷ Next ∷ Carry ∷ Carry ∷ []

abbrev pub Acked : Type 0
Acked =
    ((world_after both acked).receiver.items ≡ both)
    × ((world_after both acked).sender.acked ≡ 1)
    × (answers acked
    ≡ Gave (Some (number 0)) ∷ Gave (Some a) ∷ Took Start ∷ Took (Kept 0) ∷ TookAck Newer ∷ TookAck OldAck
    ∷ Gave (Some (number 1)) ∷ Gave (Some b) ∷ Gave None ∷ Took Start ∷ Took (Kept 1) ∷ [])

-- a frame that is given back is given again, and its acknowledgement is bad before; what was carried isn't given back
abbrev pub returned : List StreamEvent
returned = Next ∷ Carry ∷ GiveBack ∷ Next ∷ GiveBack ∷ []

abbrev pub Returned : Type 0
Returned =
    ((world_after both returned).forward.given ≡ number 0 ∷ [])
    × ((world_after both returned).sender.place.ever ≡ 0)
    × (next_frame (world_after both returned).sender ≡ Some a)
    × (last_given (world_after both returned).sender ≡ None)
    × (ack_answer (world_after both returned).sender (number 1) ≡ BadAck)
    × (ack_answer (world_after both (Next ∷ Next ∷ [])).sender (number 1) ≡ Newer)
    × (ack_answer (world_after both (Next ∷ Next ∷ [])).sender (number 2) ≡ BadAck)
    × (ack_answer (world_after both (Next ∷ Next ∷ [])).sender a ≡ BadAck)

-- what is lost on its way is given again, and nothing that waits outlives the session
abbrev pub dropped : List StreamEvent
dropped = Next ∷ Next ∷ Next ∷ Carry ∷ Lose ∷ Carry ∷ GiveBack ∷ CarryAck ∷ Next ∷ Carry ∷ Next ∷ Carry ∷ []

abbrev pub Dropped : Type 0
Dropped =
    ((world_after both dropped).receiver.items ≡ a ∷ [])
    × (answers dropped
    ≡ Gave (Some (number 0)) ∷ Gave (Some a) ∷ Gave (Some b) ∷ Took Start ∷ Gave (Some (number 0)) ∷ Took Start ∷ Gave (Some a) ∷ Took (Kept 0) ∷ [])

-- a session that starts above what is kept is bad, with all its frames, and so is one whose first frame says no number
abbrev pub Spoilt : Type 0
Spoilt =
    (take_answer new_receiver (number 1) ≡ Bad)
    × (take_answer new_receiver a ≡ Bad)
    × (take_answer (taken new_receiver (number 1)) (number 0) ≡ Bad)
    × ((taken (taken new_receiver a) b).items ≡ [])

pub record ExamplesHold : Type 0 where
  pub lost : Lost
  pub acked : Acked
  pub returned : Returned
  pub dropped : Dropped
  pub spoilt : Spoilt
