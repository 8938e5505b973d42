-- What stays promised while calls are made that promise nothing.
use Rattle.std.proofs.Common.{◌≡◌, ℕ, ◌-◌, Bool, true, false, List, Option, Some, None, refl, ◌∙◌, if◌then◌else◌}
use Rattle.pair_model.specs.Link.{is_up, enable_refusal, train_refusal, cut_refusal, drop_refusal, clean_refusal}
use Rattle.pair_model.specs.declared.LinkRefusal.{LinkRefusal}
use Rattle.posted_queue.specs.Flight.{Flight}
use Rattle.posted_queue.specs.Landing.{flight_after_landing}
use Rattle.posted_queue.specs.declared.LandAnswer.{LandAnswer}
use Rattle.posted_queue.specs.declared.LandAnswer.TheVariants.{Landed, Blocked, Nothing}
use Rattle.step_kinds.specs.Sides.{other_side}
use Rattle.step_kinds.specs.declared.names.Side.{Side}
use Rattle.step_kinds.specs.declared.names.Side.TheVariants.{A, B}
use Rattle.bridge_pair.specs.Bridge.{Bridge, pages_of, flight_of, with_bytes, with_flight}
use Rattle.bridge_pair.specs.Calls.{after_land, after_landed, bridge_arrived, landing}
use Rattle.bridge_pair.specs.Ends.{after_posting}
use Rattle.bridge_pair.specs.Flights.{Flying, flying_order, flying_of}
use Rattle.bridge_pair.specs.Laws.{KeepsPromises, PostingUsesOnePromise, LandingKeepsPromises, LinkStepsKeepPromises, OwnWritesKeepPromises}
use Rattle.bridge_pair.specs.Links.{after_step, dropped}
use Rattle.bridge_pair.specs.declared.flying_write.Arrival.{Arrival}
use Rattle.bridge_pair.specs.declared.flying_write.Arrival.TheVariants.{AtAddress, AtPad, AtBell}

-- A bridge to which nothing is done keeps all that was promised.
pub keeps_all : (bridge : Bridge) → KeepsPromises bridge bridge
keeps_all bridge = record { plan = refl; pages = λ side. refl; spare = λ side. refl }

-- Own writes

-- Other bytes in a side's memory leave what was promised: the pages of both sides and the room in both flights.
pub bytes_keep : (bridge : Bridge) (side : Side) (bytes : List ℕ) → KeepsPromises bridge (with_bytes bridge side bytes)
bytes_keep bridge side bytes = record { plan = refl; pages = pages side; spare = λ other. refl } where
  pages : (side other : Side) → pages_of (with_bytes bridge side bytes) other ≡ pages_of bridge other
  pages A A = refl
  pages A B = refl
  pages B A = refl
  pages B B = refl

-- What a side writes at its own end, bytes, book or doorbell, leaves all promised pages and room.
pub own_writes_keep_promises : OwnWritesKeepPromises
own_writes_keep_promises =
    record {
      bytes = bytes_keep;
      book = λ bridge side book. record { plan = refl; pages = λ other. refl; spare = λ other. refl };
      bells = λ bridge side bells. record { plan = refl; pages = λ other. refl; spare = λ other. refl };
    }

-- Posting

one_less : (up : Bool) (flight : Flight Flying) (flying : Flying) → (after_posting up flight flying).spare ≡ flight.spare - 1
one_less true flight flying = refl
one_less false flight flying = refl

-- Posting a write uses up one promised place in its side's flight, whether it is then in flight or lost.
pub posting_uses_one_promise : PostingUsesOnePromise
posting_uses_one_promise bridge A write =
    record { plan = refl; pages = λ any. refl; spare = one_less (is_up bridge.link.state) bridge.flights.a (flying_of bridge.plan A write); others = refl }
posting_uses_one_promise bridge B write =
    record { plan = refl; pages = λ any. refl; spare = one_less (is_up bridge.link.state) bridge.flights.b (flying_of bridge.plan B write); others = refl }

-- Landing

-- what arrives promises nothing
arrival_keeps : (bridge : Bridge) (side : Side) (arrival : Arrival) → KeepsPromises bridge (bridge_arrived bridge side arrival)
arrival_keeps bridge side (AtAddress at bytes) = bytes_keep bridge side _
arrival_keeps bridge side (AtPad index value) = record { plan = refl; pages = λ other. refl; spare = λ other. refl }
arrival_keeps bridge side (AtBell bit) = record { plan = refl; pages = λ other. refl; spare = λ other. refl }

answer_keeps : (bridge : Bridge) (side : Side) (answer : LandAnswer Flying) → KeepsPromises bridge (after_landed bridge side answer)
answer_keeps bridge side (Landed flying) = arrival_keeps bridge side flying.arrival
answer_keeps bridge side Blocked = keeps_all bridge
answer_keeps bridge side Nothing = keeps_all bridge

-- one keeping after the other
pub keeps_both : (old now new : Bridge) → KeepsPromises old now → KeepsPromises now new → KeepsPromises old new
keeps_both old now new first second =
    record { plan = second.plan ∙ first.plan; pages = λ side. second.pages side ∙ first.pages side; spare = λ side. second.spare side ∙ first.spare side }

-- the write that is taken out leaves the room of the others
same_spare : (lands : Bool) (flight taken : Flight Flying) → taken.spare ≡ flight.spare → (if lands then taken else flight).spare ≡ flight.spare
same_spare true flight taken same = same
same_spare false flight taken same = refl

taken_keeps : (bridge : Bridge) (side : Side) (place : ℕ) → KeepsPromises bridge (with_flight bridge side (flight_after_landing flying_order (flight_of bridge side) place))
taken_keeps bridge side place = record { plan = refl; pages = λ other. refl; spare = spare side } where
  spare : (side other : Side) → (flight_of (with_flight bridge side (flight_after_landing flying_order (flight_of bridge side) place)) other).spare ≡ (flight_of bridge other).spare
  spare A A = same_spare _ bridge.flights.a _ refl
  spare A B = refl
  spare B A = refl
  spare B B = same_spare _ bridge.flights.b _ refl

-- A landing leaves all promised pages and all promised room in flight, whatever it is answered.
pub landing_keeps_promises : LandingKeepsPromises
landing_keeps_promises bridge side place =
    let taken = with_flight bridge side (flight_after_landing flying_order (flight_of bridge side) place) in
    keeps_both bridge taken (after_land bridge side place) (taken_keeps bridge side place) (answer_keeps taken (other_side side) (landing bridge side place))

-- The link

step_keeps : (refusal : Option LinkRefusal) (old new : Bridge) → KeepsPromises old new → KeepsPromises old (after_step refusal old new)
step_keeps None old new keeps = keeps
step_keeps (Some refusal) old new keeps = keeps_all old

dropped_spare : (bridge : Bridge) (side : Side) → (flight_of (dropped bridge) side).spare ≡ (flight_of bridge side).spare
dropped_spare bridge A = refl
dropped_spare bridge B = refl

-- Each step of the link, refused or not, leaves all promised pages and all promised room in flight.
pub link_steps_keep_promises : LinkStepsKeepPromises
link_steps_keep_promises =
    record {
      enable = λ bridge side. step_keeps (enable_refusal bridge.link side) bridge _ (record { plan = refl; pages = λ other. refl; spare = λ other. refl });
      train = λ bridge. step_keeps (train_refusal bridge.link) bridge _ (record { plan = refl; pages = λ other. refl; spare = λ other. refl });
      cut = λ bridge. step_keeps (cut_refusal bridge.link) bridge _ (record { plan = refl; pages = λ other. refl; spare = λ other. refl });
      drop_done = λ bridge. step_keeps (drop_refusal bridge.link) bridge _ (record { plan = refl; pages = λ other. refl; spare = dropped_spare bridge });
      clean = λ bridge side. step_keeps (clean_refusal bridge.link) bridge _ (record { plan = refl; pages = λ other. refl; spare = λ other. refl });
    }
