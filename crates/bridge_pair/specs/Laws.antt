-- What stays promised while calls are made that promise nothing.
use Rattle.std.specs.Prelude.{◌≡◌, ℕ, ◌-◌, List}
use Rattle.step_kinds.specs.Sides.{other_side}
use Rattle.step_kinds.specs.declared.names.Side.{Side}
use Rattle.bridge_regs.specs.Doorbell.{Doorbell}
use Rattle.bridge_pair.specs.Bridge.{Bridge, pages_of, flight_of, with_bells, with_book, with_bytes}
use Rattle.bridge_pair.specs.Calls.{after_land, bridge_after_post}
use Rattle.bridge_pair.specs.Links.{after_clean, bridge_after_cut, bridge_after_drop, after_enable, after_train}
use Rattle.bridge_pair.specs.Writes.{PostedWrite}
use Rattle.bridge_pair.specs.declared.book.SideBook.{SideBook}

-- the plan stays, and so does all that was promised: the pages of both memories, and room for as many writes of each
-- side
pub record KeepsPromises (old new : Bridge) : Type 0 where
  pub plan : new.plan ≡ old.plan
  pub pages : (side : Side) → pages_of new side ≡ pages_of old side
  pub spare : (side : Side) → (flight_of new side).spare ≡ (flight_of old side).spare

-- the same, but that the side has room for one write less
pub record UsesOnePromise (old new : Bridge) (side : Side) : Type 0 where
  pub plan : new.plan ≡ old.plan
  pub pages : (any : Side) → pages_of new any ≡ pages_of old any
  pub spare : (flight_of new side).spare ≡ (flight_of old side).spare - 1
  pub others : flight_of new (other_side side) ≡ flight_of old (other_side side)

-- a write that is posted uses a promise, whether it is in flight then or lost
abbrev pub PostingUsesOnePromise : Type 0
PostingUsesOnePromise = (bridge : Bridge) (side : Side) (write : PostedWrite) → UsesOnePromise bridge (bridge_after_post bridge side write) side

-- a landing keeps all promises, whatever its answer
abbrev pub LandingKeepsPromises : Type 0
LandingKeepsPromises = (bridge : Bridge) (side : Side) (place : ℕ) → KeepsPromises bridge (after_land bridge side place)

-- and so does each step of the link, be it refused or not
pub record LinkStepsKeepPromises : Type 0 where
  pub enable : (bridge : Bridge) (side : Side) → KeepsPromises bridge (after_enable bridge side)
  pub train : (bridge : Bridge) → KeepsPromises bridge (after_train bridge)
  pub cut : (bridge : Bridge) → KeepsPromises bridge (bridge_after_cut bridge)
  pub drop_done : (bridge : Bridge) → KeepsPromises bridge (bridge_after_drop bridge)
  pub clean : (bridge : Bridge) (side : Side) → KeepsPromises bridge (after_clean bridge side)

-- and what a side writes at its own end
pub record OwnWritesKeepPromises : Type 0 where
  pub bytes : (bridge : Bridge) (side : Side) (bytes : List ℕ) → KeepsPromises bridge (with_bytes bridge side bytes)
  pub book : (bridge : Bridge) (side : Side) (book : SideBook) → KeepsPromises bridge (with_book bridge side book)
  pub bells : (bridge : Bridge) (side : Side) (bells : Doorbell) → KeepsPromises bridge (with_bells bridge side bells)
