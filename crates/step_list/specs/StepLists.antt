-- The steps of a script as they are kept: a step that a line repeats stands once.
use Rattle.std.specs.Prelude.{List, [], ◌∷◌, replicate}
use Rattle.std.specs.List.{flat_map}
use Rattle.step_kinds.specs.declared.plan.Line.{Line}
use Rattle.pair_model.specs.Macros.{receive}
use Rattle.step_list.specs.Compact.{lines_with, step_again}
use Rattle.step_list.specs.declared.step_list.Stretch.{Stretch}
use Rattle.step_list.specs.declared.step_list.Stretch.TheVariants.{One, Again, Received}

-- the steps of a stretch
abbrev pub lines_in : Stretch → List Line
lines_in (One line step) = lines_with line (step.value ∷ [])
lines_in (Again line repeated count) = lines_with line (replicate count (step_again repeated))
lines_in (Received line pair side queue copies) = lines_with line (receive pair side queue copies)

-- the steps of all stretches, one after another
abbrev pub all_lines : List Stretch → List Line
all_lines stretches = flat_map lines_in stretches
