-- A value for each of the two sides of a pair.
use Rattle.step_kinds.specs.declared.names.Side.{Side}
use Rattle.step_kinds.specs.declared.names.Side.TheVariants.{A, B}

pub record Both (X : Type 0) : Type 0 where
  pub a : X
  pub b : X

-- the value of a side
abbrev pub at_side : {X : Type 0} → Both X → Side → X
at_side both A = both.a
at_side both B = both.b

-- the same with another value for a side
abbrev pub with_side : {X : Type 0} → Both X → Side → X → Both X
with_side both A x = record { a = x; b = both.b }
with_side both B x = record { a = both.a; b = x }

-- one value for both sides
abbrev pub both_of : {X : Type 0} → X → Both X
both_of x = record { a = x; b = x }
