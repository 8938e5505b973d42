-- Which moves a pass of the mover makes: the choices of a generator's words, and what they lead to.
use Rattle.std.specs.Prelude.{◌≡◌, ℕ, ◌+◌, ◌-◌, ◌*◌, ◌/◌, ◌^◌, min, nat_lt, if◌then◌else◌}
use Rattle.rand_xoshiro.specs.SplitMix64.{mix_u64}
use Rattle.table_lane.specs.declared.parts.MovePart.{MovePart}
use Rattle.table_lane.specs.declared.mover.MoveAnswer.{MoveAnswer}
use Rattle.table_lane.specs.declared.mover.MoveAnswer.TheVariants.{Took, Header, Flag, Idle}
use Rattle.table_lane.specs.MoveChoice.{Moves}
use Rattle.lane_workers.specs.declared.choices.Stage.{Stage}
use Rattle.lane_workers.specs.declared.choices.Stage.TheVariants.{Taking, StoringHeaders, StoringFlags}

-- the most entries that the mover holds before it stores their headers
abbrev pub most_held : ℕ
most_held = 8

-- the choices of a pass: the state of the generator SplitMix64, and what the mover does with the entries that it holds.
-- `held` says how many they are, and `waiting` how many of them wait for their header.
pub record Choosing : Type 0 where
  pub state : ℕ
  pub stage : Stage
  pub held : ℕ
  pub waiting : ℕ

-- before the first move, by a seed
abbrev pub first_choices : ℕ → Choosing
first_choices seed = record { state = seed; stage = StoringFlags; held = 0; waiting = 0 }

-- a number below the count, by the high half of a word
abbrev pub below : ℕ → ℕ → ℕ
below count word = word / 2 ^ 32 * count / 2 ^ 32

-- the choice of the next move, by the stage: the look for the next entry, a header, the flag
abbrev pub choice_in : Stage → Choosing → ℕ
choice_in Taking c = c.held
choice_in StoringHeaders c = below c.waiting (mix_u64 c.state).0
choice_in StoringFlags c = 0

abbrev pub choice_of : Choosing → ℕ
choice_of c = choice_in c.stage c

-- a header takes a word
abbrev pub state_in : Stage → Choosing → ℕ
state_in Taking c = c.state
state_in StoringHeaders c = (mix_u64 c.state).1
state_in StoringFlags c = c.state

-- the choices after that choice
abbrev pub chosen : Choosing → Choosing
chosen c = record { state = state_in c.stage c; stage = c.stage; held = c.held; waiting = c.waiting }

-- the choices after what came of the move
abbrev pub noted : Choosing → MoveAnswer → Choosing
noted c (Took number) = record {
  state = c.state;
  stage = if nat_lt (c.held + 1) most_held then Taking else StoringHeaders;
  held = min (c.held + 1) most_held;
  waiting = min (c.waiting + 1) most_held;
}
noted c (Header number) = record {
  state = c.state;
  stage = if nat_lt 0 (c.waiting - 1) then StoringHeaders else StoringFlags;
  held = c.held;
  waiting = c.waiting - 1;
}
noted c (Flag number) = record {
  state = c.state;
  stage = if nat_lt 0 (c.held - 1) then StoringFlags else Taking;
  held = c.held - 1;
  waiting = c.waiting;
}
noted c Idle = record { state = c.state; stage = Taking; held = 0; waiting = 0 }

-- This many moves lead from one part of the mover to another, each by the choice of its turn. The choices after them
-- are the last ones.
pub data Chosen (seed : ℕ) (from : MovePart) : ℕ → Choosing → MovePart → Type 0 where
  NoMove : {choices : Choosing} → choices ≡ first_choices seed → Chosen seed from 0 choices from
  OneMore : {moves : ℕ} {before after : Choosing} {part to : MovePart} (answer : MoveAnswer)
      → Chosen seed from moves before part → Moves part (choice_of before) answer to → after ≡ noted (chosen before) answer → Chosen seed from (moves + 1) after to

-- this many moves, which the generator chooses by this seed, lead from one part of the mover to another
abbrev pub ChosenMoves : ℕ → ℕ → MovePart → MovePart → Type 0
ChosenMoves seed moves from to = (last : Choosing) × Chosen seed from moves last to
