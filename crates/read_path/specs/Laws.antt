-- The laws of reads.
use Rattle.std.specs.Prelude.{◌≡◌, ℕ, List, ◌∷◌, ◌++◌}
use Rattle.step_kinds.specs.declared.names.Side.{Side}
use Rattle.read_path.specs.Numbers.{reads_in, landings_in}
use Rattle.read_path.specs.PathLog.{PathEntry, path_log_of}
use Rattle.read_path.specs.Pushed.{Pushed, read_entry, request_entry}
use Rattle.read_path.specs.declared.steps.PathStep.{PathStep}

-- in the log of any steps each read has pushed what was posted before it
abbrev pub EachReadHasPushed : Type 0
EachReadHasPushed = (steps : List PathStep) → Pushed (path_log_of steps)

-- in the log of any steps a read's number is how many reads its side made before
abbrev pub ReadsAreNumbered : Type 0
ReadsAreNumbered =
    (steps : List PathStep) (before after : List PathEntry) (side : Side) (at len number : ℕ) → path_log_of steps ≡ before ++ read_entry side at len number ∷ after
    → number ≡ reads_in before side

-- in the log of any steps the request of a side's read lands once at most
abbrev pub RequestsLandOnce : Type 0
RequestsLandOnce =
    (steps : List PathStep) (before after : List PathEntry) (side : Side) (place number : ℕ) → path_log_of steps ≡ before ++ request_entry side place number ∷ after
    → landings_in before side number ≡ 0
