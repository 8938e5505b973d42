-- The world of two ends: what was given to each direction in this session, and how much of it was carried.
use Rattle.std.specs.Prelude.{Bool, ℕ, ◌+◌, ◌-◌, ◌&&◌, nat_lt, if◌then◌else◌, List, [], ◌∷◌, ◌++◌, length, take, fold, slice_get, Option, Some, None, is_some, option_map}
use Rattle.stream_model.specs.Sender.{Sender, ack_answer, ack_taken, sender_after_answer, sender_given_back, new_sender, next_frame, sender_renewed}
use Rattle.stream_model.specs.Receiver.{Receiver, ack_frame, new_receiver, receiver_renewed, take_answer, taken}
use Rattle.stream_model.specs.declared.AckAnswer.{AckAnswer}
use Rattle.stream_model.specs.declared.TakeAnswer.{TakeAnswer}
use Rattle.stream_model.specs.declared.StreamEvent.{StreamEvent}
use Rattle.stream_model.specs.declared.StreamEvent.TheVariants.{Next, GiveBack, Carry, Ack, CarryAck, Lose}

-- one direction in this session: the frames that were given to it, and how many of them, from the first on, were
-- carried
pub record Wire : Type 0 where
  pub given : List (List ℕ)
  pub carried : ℕ

abbrev pub empty_wire : Wire
empty_wire = record { given = []; carried = 0 }

-- the first frame that isn't carried yet
abbrev pub first_waiting : Wire → Option (List ℕ)
first_waiting wire = slice_get wire.given wire.carried

abbrev pub with_frame : Wire → List ℕ → Wire
with_frame wire frame = record wire { given = wire.given ++ frame ∷ [] }

abbrev pub without_last : Wire → Wire
without_last wire = record wire { given = take (length wire.given - 1) wire.given }

abbrev pub one_carried : Wire → Wire
one_carried wire = record wire { carried = wire.carried + 1 }

-- the last frame that was given
abbrev pub last_frame : Wire → Option (List ℕ)
last_frame wire = slice_get wire.given (length wire.given - 1)

-- the same where there may be no frame to give, to carry or to take
abbrev pub with_any : Wire → Option (List ℕ) → Wire
with_any wire (Some frame) = with_frame wire frame
with_any wire None = wire

abbrev pub carried_any : Wire → Option (List ℕ) → Wire
carried_any wire (Some frame) = one_carried wire
carried_any wire None = wire

abbrev pub taken_any : Receiver → Option (List ℕ) → Receiver
taken_any receiver (Some frame) = taken receiver frame
taken_any receiver None = receiver

abbrev pub ack_taken_any : Sender → Option (List ℕ) → Sender
ack_taken_any sender (Some frame) = ack_taken sender frame
ack_taken_any sender None = sender

-- items go forward from the sender to the receiver, acknowledgements back
pub record World : Type 0 where
  pub sender : Sender
  pub receiver : Receiver
  pub forward : Wire
  pub back : Wire

abbrev pub new_world : List (List ℕ) → World
new_world items = record { sender = new_sender items; receiver = new_receiver; forward = empty_wire; back = empty_wire }

-- the sender's last change was that it gave a frame, and that frame isn't carried
abbrev pub can_give_back : World → Bool
can_give_back world = is_some world.sender.before && nat_lt world.forward.carried (length world.forward.given)

-- the world after each event, which changes nothing where it can't be made
abbrev pub after_next : World → Option (List ℕ) → World
after_next world frame = record world { sender = sender_after_answer world.sender frame; forward = with_any world.forward frame }

abbrev pub after_give_back : World → World
after_give_back world = record world { sender = sender_given_back world.sender; forward = without_last world.forward }

abbrev pub after_carry : World → Option (List ℕ) → World
after_carry world frame = record world { receiver = taken_any world.receiver frame; forward = carried_any world.forward frame }

abbrev pub stream_after_ack : World → World
stream_after_ack world = record world { back = with_frame world.back (ack_frame world.receiver) }

abbrev pub after_carry_ack : World → Option (List ℕ) → World
after_carry_ack world frame = record world { sender = ack_taken_any world.sender frame; back = carried_any world.back frame }

abbrev pub after_loss : World → World
after_loss world = record { sender = sender_renewed world.sender; receiver = receiver_renewed world.receiver; forward = empty_wire; back = empty_wire }

abbrev pub after_event : World → StreamEvent → World
after_event world Next = after_next world (next_frame world.sender)
after_event world GiveBack = if can_give_back world then after_give_back world else world
after_event world Carry = after_carry world (first_waiting world.forward)
after_event world Ack = stream_after_ack world
after_event world CarryAck = after_carry_ack world (first_waiting world.back)
after_event world Lose = after_loss world

-- the world of these items after all events, in order
abbrev pub world_after : List (List ℕ) → List StreamEvent → World
world_after items events = fold after_event (new_world items) events

-- What `next_frame`, `take` and `take_ack` answered.
pub data EndAnswer : Type 0 where
  Gave : (frame : Option (List ℕ)) → EndAnswer
  Took : (answer : TakeAnswer) → EndAnswer
  TookAck : (answer : AckAnswer) → EndAnswer

-- what an event's call answers, if it makes one of the three
abbrev pub answer_to : World → StreamEvent → Option EndAnswer
answer_to world Next = Some (Gave (next_frame world.sender))
answer_to world GiveBack = None
answer_to world Carry = option_map (λ frame. Took (take_answer world.receiver frame)) (first_waiting world.forward)
answer_to world Ack = None
answer_to world CarryAck = option_map (λ frame. TookAck (ack_answer world.sender frame)) (first_waiting world.back)
answer_to world Lose = None

-- an answer, with the place of its event
pub record StreamAnswered : Type 0 where
  pub place : ℕ
  pub answer : EndAnswer

abbrev pub answered_at : ℕ → Option EndAnswer → List StreamAnswered
answered_at place (Some answer) = record { place = place; answer = answer } ∷ []
answered_at place None = []

-- the answers to events from a place on
abbrev pub answers_from : ℕ → World → List StreamEvent → List StreamAnswered
answers_from place world [] = []
answers_from place world (event ∷ events) = answered_at place (answer_to world event) ++ answers_from (place + 1) (after_event world event) events

-- the answers to all events
abbrev pub answers_to : List (List ℕ) → List StreamEvent → List StreamAnswered
answers_to items events = answers_from 0 (new_world items) events
