-- How often the mover and the way back tried to do something, by what they count.
use Rattle.std.specs.Prelude.{◌≡◌, ◌≤◌, ℕ, ◌+◌}
use Rattle.table_lane.specs.declared.parts.MovePart.{MovePart}
use Rattle.table_lane.specs.declared.parts.BackPart.{BackPart}
use Rattle.table_lane.specs.declared.mover.MoveAnswer.{MoveAnswer}
use Rattle.table_lane.specs.declared.back.BackAnswer.{BackAnswer}
use Rattle.table_lane.specs.MoveChoice.{Moves}
use Rattle.table_lane.specs.RecvAnswers.{GivesBack}

-- a mover's loads of posted headers, and the headers and flags that it stored
abbrev pub tries : MovePart → ℕ
tries part = part.loads + part.headers + part.flagged

-- each step of the mover is a try at least, in a ring of as many entries
abbrev pub EachMoveIsATry : Type 0
EachMoveIsATry = (before : MovePart) (choice : ℕ) (answer : MoveAnswer) (after : MovePart) → Moves before choice answer after → (tries before + 1 ≤ tries after) × (after.entries ≡ before.entries)

-- each step of the way back loads index out once, in a ring of as many entries
abbrev pub EachStepBackIsALoad : Type 0
EachStepBackIsALoad = (before : BackPart) (answer : BackAnswer) (after : BackPart) → GivesBack before answer after → (after.loads ≡ before.loads + 1) × (after.entries ≡ before.entries)
