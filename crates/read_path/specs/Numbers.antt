-- The numbers of reads in a log.
use Rattle.std.specs.Prelude.{ℕ, ◌==◌, Bool, true, false, List, count_by, if◌then◌else◌}
use Rattle.step_kinds.specs.Sides.{same_side}
use Rattle.step_kinds.specs.declared.names.Side.{Side}
use Rattle.read_path.specs.PathLog.{PathEntry}
use Rattle.read_path.specs.declared.steps.PathAnswer.{PathAnswer}
use Rattle.read_path.specs.declared.steps.PathAnswer.TheVariants.{Asked, Landed}
use Rattle.read_path.specs.declared.steps.PathLand.TheVariants.{Request}
use Rattle.read_path.specs.declared.steps.PathStep.{PathStep}
use Rattle.read_path.specs.declared.steps.PathStep.TheVariants.{Read, Land}
use Rattle.read_path.specs.declared.steps.ReadAnswer.TheVariants.{Posted}

-- whether it is `read N` of this side, for some N
abbrev pub is_read_of : Side → PathStep → PathAnswer → Bool
is_read_of side (Read other at len) (Asked (Posted number)) = same_side other side
is_read_of side step answer = false

-- whether it is `landed read N` of this side's read of this number
abbrev pub lands_read_of : Side → ℕ → PathStep → PathAnswer → Bool
lands_read_of side number (Land other place) (Landed (Request landed)) = if same_side other side then landed == number else false
lands_read_of side number step answer = false

-- how many reads a side made
abbrev pub reads_in : List PathEntry → Side → ℕ
reads_in log side = count_by (λ entry. is_read_of side entry.step entry.answer) log

-- how often the request of a side's read of this number landed
abbrev pub landings_in : List PathEntry → Side → ℕ → ℕ
landings_in log side number = count_by (λ entry. lands_read_of side number entry.step entry.answer) log
