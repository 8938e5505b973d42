-- What is true of the fields of both ends, whatever calls were made.
use Rattle.std.specs.Prelude.{ℕ, ◌+◌, ◌^◌, ◌<◌, ◌≤◌, List, length, Option}
use Rattle.std.specs.Option.{ForSome}
use Rattle.stream_model.specs.Sender.{most_items}
use Rattle.stream_model.specs.declared.Place.{Place}
use Rattle.stream_model.specs.declared.Session.{Session}
use Rattle.stream_model.specs.declared.Session.TheVariants.{Fresh, At, Spoiled}

-- a place of a session that starts at a number: no more was given than there is, and no more acknowledged than given
pub record IsPlace (items : List (List ℕ)) (acked start : ℕ) (place : Place) : Type 0 where
  pub frames : start + place.given ≤ length items + 1
  pub ever : place.ever ≤ length items
  pub below : acked ≤ place.ever

pub record IsStreamSender (items : List (List ℕ)) (acked start : ℕ) (place : Place) (before : Option Place) : Type 0 where
  pub few : length items < most_items
  pub below : start ≤ acked
  pub here : IsPlace items acked start place
  pub back : ForSome before (IsPlace items acked start)

-- the next item of a session is at most the next that is lacking
abbrev pub IsWithin : ℕ → Session → Type 0
IsWithin count Fresh = Unit {0}
IsWithin count (At number) = number ≤ count
IsWithin count Spoiled = Unit {0}

pub record IsStreamReceiver (items : List (List ℕ)) (session : Session) : Type 0 where
  pub few : length items < 2 ^ 32
  pub within : IsWithin (length items) session
