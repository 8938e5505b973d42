-- Worked examples of texts of reads, with replies worked out by hand.
use Rattle.std.specs.Prelude.{◌≡◌, List, [], ◌∷◌, ◌++◌, codes, Ok, Err}
use Rattle.reads_command.specs.Report.{reply_to}

pub record ExamplesHold : Type 0 where
  pub reply : reply_to (codes "reads 1" ++ 10 ∷ codes "read A 0 1" ++ 10 ∷ []) ≡ Ok (codes "2 read 0" ++ 10 ∷ codes "end" ++ 10 ∷ [])
  pub bad_line : reply_to (codes "reads 1" ++ 10 ∷ codes "land A 0" ++ 10 ∷ codes "land C 0") ≡ Err 3
