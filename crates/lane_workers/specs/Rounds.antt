-- What a team of workers has together.

-- the keys of its workers
pub record TeamKey (S M T C : Type 0) : Type 0 where
  pub giver : S
  pub mover : M
  pub taker : T
  pub cutter : C
