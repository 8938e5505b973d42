-- What holds of two ends, whatever sessions are lost.
use Rattle.std.specs.Prelude.{◌≡◌, ◌≢◌, ℕ, ◌+◌, ◌-◌, ◌<◌, ◌≤◌, max, List, [], ◌∷◌, ◌++◌, length, take, drop, fold, Some, None}
use Rattle.std.specs.List.{All, Contains}
use Rattle.stream_model.specs.Fronts.{Begins}
use Rattle.stream_model.specs.Numbers.{SaysAtMost, largest_in}
use Rattle.stream_model.specs.Sender.{Sender, ack_taken, frames_of, sender_given_back, most_items, next_frame, one_given, session_frames}
use Rattle.stream_model.specs.Receiver.{Receiver, taken}
use Rattle.stream_model.specs.World.{StreamAnswered, Gave, Took, TookAck, World, answers_to, world_after}
use Rattle.stream_model.specs.Resumed.{AreSessionsOf, Exchange, IsStreamInOrder, acked_by, kept_by}
use Rattle.stream_model.specs.declared.AckAnswer.TheVariants.{Bad as AckBad}
use Rattle.stream_model.specs.declared.TakeAnswer.TheVariants.{Bad as TakeBad}
use Rattle.stream_model.specs.declared.Session.TheVariants.{Fresh}
use Rattle.stream_model.specs.declared.StreamEvent.{StreamEvent}
use Rattle.stream_model.specs.declared.StreamEvent.TheVariants.{GiveBack, Lose}

-- there are fewer than 2^32 - 1 items, so that a number of four bytes says how many
abbrev pub CanSend : List (List ℕ) → Type 0
CanSend items = length items < most_items

-- In the world

-- what the receiver keeps is a prefix of all items, each once, and no more is acknowledged than it keeps
pub record IsOrdered (items : List (List ℕ)) (world : World) : Type 0 where
  pub prefix : Begins world.receiver.items items
  pub acked : world.sender.acked ≤ length world.receiver.items

-- neither `take` nor `take_ack` answered Bad
abbrev pub NoneIsBad : List StreamAnswered → Type 0
NoneIsBad answers = All (λ (given : StreamAnswered). (given.answer ≢ Took TakeBad) × (given.answer ≢ TookAck AckBad)) answers

-- after every list of events
abbrev pub EveryWorldIsOrdered : Type 0
EveryWorldIsOrdered = (items : List (List ℕ)) (events : List StreamEvent) → CanSend items → IsOrdered items (world_after items events)

abbrev pub NoAnswerIsBad : Type 0
NoAnswerIsBad = (items : List (List ℕ)) (events : List StreamEvent) → CanSend items → NoneIsBad (answers_to items events)

-- since the last Lose and the last GiveBack `next_frame` answered None, and every forward frame was carried
pub record CarriedAll (items : List (List ℕ)) (events : List StreamEvent) : Type 0 where
  pub place : ℕ
  pub none : Contains (answers_to items events) (record { place = place; answer = Gave None })
  pub since : All (λ (event : StreamEvent). (event ≢ Lose) × (event ≢ GiveBack)) (drop place events)
  pub carried : (world_after items events).forward.carried ≡ length (world_after items events).forward.given

abbrev pub AllIsBrought : Type 0
AllIsBrought = (items : List (List ℕ)) (events : List StreamEvent) → CanSend items → CarriedAll items events → (world_after items events).receiver.items ≡ items

-- Of one end

-- the frames that a sender gave in its session
abbrev pub given_by : Sender → List (List ℕ)
given_by sender = take sender.place.given (frames_of sender)

-- a frame that is given follows those that were given
abbrev pub NextFollows : Type 0
NextFollows = (sender : Sender) (frame : List ℕ) → next_frame sender ≡ Some frame → given_by (one_given sender) ≡ given_by sender ++ frame ∷ []

-- a frame that is given back counts as not given
abbrev pub BackIsUngiven : Type 0
BackIsUngiven = (sender : Sender) → sender_given_back (one_given sender) ≡ record sender { before = None }

-- where no frame comes next, all of the session were given
abbrev pub NoneIsAll : Type 0
NoneIsAll = (sender : Sender) → next_frame sender ≡ None → given_by sender ≡ frames_of sender

-- acknowledgements of what was given, which is fewer than 2^32 - 1 items: the largest counts
abbrev pub LargestCounts : Type 0
LargestCounts = (sender : Sender) (frames : List (List ℕ)) → sender.place.ever < most_items → All (SaysAtMost sender.place.ever) frames
    → (fold ack_taken sender frames).acked ≡ max sender.acked (largest_in frames)

-- A receiver that keeps the first items gets, as the first frames of its session, the front of a session that starts at
-- no more than it keeps. It keeps the first items again, no fewer, and each that it got.
abbrev pub FrontIsKept : Type 0
FrontIsKept = (items : List (List ℕ)) (receiver : Receiver) (start : ℕ) (got : List (List ℕ))
    → CanSend items → Begins receiver.items items → receiver.session ≡ Fresh → start ≤ length receiver.items → Begins got (session_frames items start)
    → (fold taken receiver got).items ≡ take (max (length receiver.items) (start + length got - 1)) items

-- Over sessions

-- one session more
abbrev pub SessionsGrow : Type 0
SessionsGrow = (items : List (List ℕ)) (sessions : List Exchange) (session : Exchange) → AreSessionsOf items sessions
    → Begins session.sent (session_frames items (acked_by sessions))
    → All (SaysAtMost (length (kept_by (sessions ++ session ∷ [])))) session.acks_sent
    → AreSessionsOf items (sessions ++ session ∷ [])

-- the items that are kept by the end of sessions are a prefix of all, and no more is acknowledged than is kept
pub record KeepsFront (items : List (List ℕ)) (sessions : List Exchange) : Type 0 where
  pub prefix : Begins (kept_by sessions) items
  pub acked : acked_by sessions ≤ length (kept_by sessions)

abbrev pub SessionsKeepFront : Type 0
SessionsKeepFront = (items : List (List ℕ)) (sessions : List Exchange) → CanSend items → AreSessionsOf items sessions → All IsStreamInOrder sessions → KeepsFront items sessions

-- after a session that carried everything all items are kept
abbrev pub WholeSessionBringsAll : Type 0
WholeSessionBringsAll = (items : List (List ℕ)) (sessions : List Exchange) (session : Exchange) → CanSend items → AreSessionsOf items sessions → All IsStreamInOrder sessions
    → session.got ≡ session_frames items (acked_by sessions) → kept_by (sessions ++ session ∷ []) ≡ items
