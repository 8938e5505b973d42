-- What a log tells, read from its steps and answers alone, and that a read pushes the posted writes before it. A write
-- is known by the place of its step in the log.
use Rattle.std.specs.Prelude.{◌≡◌, ℕ, ◌+◌, Bool, true, false, List, [], ◌∷◌, ◌++◌, map, remove, replicate, All, Contains, Option, Some, None, slice_get, fold, if◌then◌else◌}
use Rattle.host_memory.specs.Memory.{written, bytes_at}
use Rattle.step_kinds.specs.Sides.{other_side}
use Rattle.step_kinds.specs.declared.names.Side.{Side}
use Rattle.pair_model.specs.Both.{Both, at_side, with_side, both_of}
use Rattle.read_path.specs.InFlight.{PathFlying, Write as FlyingWrite, Request as FlyingRequest, Part as FlyingPart, Last as FlyingLast, completions}
use Rattle.read_path.specs.Path.{memory_bytes}
use Rattle.read_path.specs.PathLog.{PathEntry}
use Rattle.read_path.specs.declared.steps.PathStep.{PathStep}
use Rattle.read_path.specs.declared.steps.PathStep.TheVariants.{Write, Read, Land, Break, DropDone, Relink}
use Rattle.read_path.specs.declared.steps.PathAnswer.{PathAnswer}
use Rattle.read_path.specs.declared.steps.PathAnswer.TheVariants.{Wrote, Asked, Landed, Linked}
use Rattle.read_path.specs.declared.steps.PostAnswer.TheVariants.{Ok as PostOk}
use Rattle.read_path.specs.declared.steps.ReadAnswer.TheVariants.{Posted}
use Rattle.read_path.specs.declared.steps.PathLand.{PathLand}
use Rattle.read_path.specs.declared.steps.PathLand.TheVariants.{Nothing, Blocked, Write as LandedWrite, Request as LandedRequest, Part as LandedPart, Whole}

-- what is in flight, and the place in the log of the step that sent it
pub record Sent : Type 0 where
  pub place : ℕ
  pub what : PathFlying

-- what a log tells of a side: its memory, what it has in flight, and the places of the writes that it posted in this
-- session
pub record SideTold : Type 0 where
  pub memory : List ℕ
  pub flight : List Sent
  pub posted : List ℕ

-- what a log tells
pub record Told : Type 0 where
  -- whether the link is up
  pub up : Bool
  -- how many sessions were dropped
  pub dropped : ℕ
  -- how many steps there are, which is the place of the next one
  pub made : ℕ
  -- the places of the writes that landed, in any session
  pub landed : List ℕ
  pub sides : Both SideTold

abbrev pub told_at_start : Told
told_at_start = record { up = true; dropped = 0; made = 0; landed = []; sides = both_of (record { memory = replicate memory_bytes 0; flight = []; posted = [] }) }

abbrev pub with_told : Told → Side → SideTold → Told
with_told told side new = record { up = told.up; dropped = told.dropped; made = told.made; landed = told.landed; sides = with_side told.sides side new }

-- this step sent these from a side
abbrev pub with_more : Told → Side → List PathFlying → Told
with_more told side more =
    let old = at_side told.sides side in
    with_told told side (record { memory = old.memory; flight = old.flight ++ map (λ what. record { place = told.made; what = what }) more; posted = old.posted })

-- this step posted a write
abbrev pub path_with_posted : Told → Side → Told
path_with_posted told side =
    let old = at_side told.sides side in
    with_told told side (record { memory = old.memory; flight = old.flight; posted = old.posted ++ told.made ∷ [] })

-- the write of this place landed at a side
abbrev pub path_with_landed : Told → Side → ℕ → ℕ → List ℕ → Told
path_with_landed told side place at bytes =
    let old = at_side told.sides side in
    record {
      up = told.up;
      dropped = told.dropped;
      made = told.made;
      landed = told.landed ++ place ∷ [];
      sides = with_side told.sides side (record { memory = written at bytes old.memory; flight = old.flight; posted = old.posted });
    }

-- what reached a side
abbrev pub told_arrived : Told → Side → ℕ → PathFlying → Told
told_arrived told side place (FlyingWrite at bytes relaxed) = path_with_landed told side place at bytes
told_arrived told side place (FlyingRequest number at len) =
    if told.up then with_more told side (completions number (bytes_at at len (at_side told.sides side).memory)) else told
told_arrived told side place (FlyingPart number part) = told
told_arrived told side place (FlyingLast number bytes) = told

-- what stood at a place of a side's list left it, and reached the peer
abbrev pub told_taken : Told → Side → ℕ → Option Sent → Told
told_taken told side place None = told
told_taken told side place (Some sent) =
    let old = at_side told.sides side in
    told_arrived (with_told told side (record { memory = old.memory; flight = remove old.flight place; posted = old.posted })) (other_side side) sent.place sent.what

-- whether something landed
abbrev pub is_landing : PathLand → Bool
is_landing Nothing = false
is_landing Blocked = false
is_landing (LandedWrite at len) = true
is_landing (LandedRequest number) = true
is_landing (LandedPart number part) = true
is_landing (Whole number bytes) = true

abbrev pub without_flight : SideTold → SideTold
without_flight old = record { memory = old.memory; flight = []; posted = [] }

-- the link came up, or was lost
abbrev pub path_with_link : Told → Bool → Told
path_with_link told up = record { up = up; dropped = told.dropped; made = told.made; landed = told.landed; sides = told.sides }

-- what was in flight is dropped, and with it the session ends
abbrev pub with_drop : Told → Told
with_drop told =
    record {
      up = told.up;
      dropped = told.dropped + 1;
      made = told.made;
      landed = told.landed;
      sides = record { a = without_flight told.sides.a; b = without_flight told.sides.b };
    }

-- what a step with its answer changes; any other step and answer change nothing
abbrev pub told_by : Told → PathStep → PathAnswer → Told
told_by told (Write side at bytes relaxed) (Wrote PostOk) = path_with_posted (with_more told side (FlyingWrite at bytes relaxed ∷ [])) side
told_by told (Read side at len) (Asked (Posted number)) = with_more told side (FlyingRequest number at len ∷ [])
told_by told (Land side place) (Landed answer) = if is_landing answer then told_taken told side place (slice_get (at_side told.sides side).flight place) else told
told_by told Break (Linked None) = path_with_link told false
told_by told DropDone (Linked None) = with_drop told
told_by told Relink (Linked None) = path_with_link told true
told_by told step answer = told

-- one step more
abbrev pub with_step : Told → Told
with_step told = record { up = told.up; dropped = told.dropped; made = told.made + 1; landed = told.landed; sides = told.sides }

abbrev pub told_after : Told → PathEntry → Told
told_after told entry = with_step (told_by told entry.step entry.answer)

-- what a log tells
abbrev pub told_of : List PathEntry → Told
told_of log = fold told_after told_at_start log

-- the places of the writes that a side posted so far in this session
abbrev pub path_posted_in : List PathEntry → Side → List ℕ
path_posted_in log side = (at_side (told_of log).sides side).posted

-- the places of the writes that landed so far
abbrev pub landed_in : List PathEntry → List ℕ
landed_in log = (told_of log).landed

-- a side's memory so far
abbrev pub memory_in : List PathEntry → Side → List ℕ
memory_in log side = (at_side (told_of log).sides side).memory

-- `read N` of a side
abbrev pub read_entry : Side → ℕ → ℕ → ℕ → PathEntry
read_entry side at len number = record { step = Read side at len; answer = Asked (Posted number) }

-- `landed read N` of a side's read
abbrev pub request_entry : Side → ℕ → ℕ → PathEntry
request_entry side place number = record { step = Land side place; answer = Landed (LandedRequest number) }

-- `data N HEX` of a side's read, which its peer's list brings
abbrev pub data_entry : Side → ℕ → ℕ → List ℕ → PathEntry
data_entry side place number bytes = record { step = Land (other_side side) place; answer = Landed (Whole number bytes) }

-- The log before `data N HEX` of a side has its `read N` and then its `landed read N`, and the read has pushed what was
-- posted.
pub record HasPushed (before : List PathEntry) (side : Side) (number : ℕ) (bytes : List ℕ) : Type 0 where
  -- the log before `read N`, and the read
  pub asking : List PathEntry
  pub at : ℕ
  pub len : ℕ
  -- the log before `landed read N`, and where the request stood in flight
  pub landing : List PathEntry
  pub place : ℕ
  pub between : List PathEntry
  pub since : List PathEntry
  pub landing_is : landing ≡ asking ++ read_entry side at len number ∷ between
  pub before_is : before ≡ landing ++ request_entry side place number ∷ since
  -- all in one session
  pub one_session : (told_of asking).dropped ≡ (told_of before).dropped
  -- each write that the side posted before the read in that session landed before the request did
  pub own_writes : All (Contains (landed_in landing)) (path_posted_in asking side)
  -- each write that the peer posted before the request landed, in that session, landed before the data came
  pub peer_writes : All (Contains (landed_in before)) (path_posted_in landing (other_side side))
  -- the bytes are what the peer's memory held when the request landed
  pub held : bytes ≡ bytes_at at len (memory_in landing (other_side side))

-- of each `data N HEX` of a log
abbrev pub Pushed : List PathEntry → Type 0
Pushed log =
    (before after : List PathEntry) (side : Side) (place number : ℕ) (bytes : List ℕ) → log ≡ before ++ data_entry side place number bytes ∷ after
    → HasPushed before side number bytes
