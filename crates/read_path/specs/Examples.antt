-- Worked examples of the definitions, with answers worked out by hand.
use Rattle.std.specs.Prelude.{◌≡◌, false, List, [], ◌∷◌, ◌++◌, map, take}
use Rattle.step_kinds.specs.declared.names.Side.TheVariants.{A, B}
use Rattle.read_path.specs.PathLog.{PathEntry, path_log_of}
use Rattle.read_path.specs.Pushed.{Pushed, path_posted_in, landed_in, read_entry, request_entry, data_entry}
use Rattle.read_path.specs.declared.steps.PathAnswer.{PathAnswer}
use Rattle.read_path.specs.declared.steps.PathAnswer.TheVariants.{Wrote, Asked, Landed, Shown}
use Rattle.read_path.specs.declared.steps.PathStep.{PathStep}
use Rattle.read_path.specs.declared.steps.PathStep.TheVariants.{Write, Read, Land, Show}
use Rattle.read_path.specs.declared.steps.PostAnswer.TheVariants.{Ok as PostOk}
use Rattle.read_path.specs.declared.steps.ReadAnswer.TheVariants.{Posted}
use Rattle.read_path.specs.declared.steps.PathLand.TheVariants.{Blocked, Write as LandedWrite, Request, Whole}

abbrev pub answers_of : List PathStep → List PathAnswer
answers_of steps = map (λ entry. entry.answer) (path_log_of steps)

-- a read waits for the write before it, and its data for the write that the peer posted before the request landed
abbrev pub waiting : List PathStep
waiting =
    Write A 0 (97 ∷ 98 ∷ []) false ∷ Read A 0 2 ∷ Land A 1 ∷ Land A 0 ∷ Write B 8 (99 ∷ []) false ∷ Land A 0 ∷ Land B 1 ∷ Land B 0 ∷ Land B 0 ∷ []

-- a strict write passes a read, and the read then finds it
abbrev pub passing : List PathStep
passing = Read A 0 1 ∷ Write A 0 (97 ∷ []) false ∷ Land A 1 ∷ Land A 0 ∷ Land B 0 ∷ Show B 0 1 ∷ []

-- a log in which a completion passes a posted write: no path has it
abbrev pub wrong_log : List PathEntry
wrong_log =
    read_entry A 0 1 0 ∷ record { step = Write B 8 (99 ∷ []) false; answer = Wrote PostOk } ∷ request_entry A 0 0 ∷ data_entry A 1 0 (0 ∷ []) ∷ []

pub record ExamplesHold : Type 0 where
  pub waits :
      answers_of waiting
      ≡ Wrote PostOk ∷ Asked (Posted 0) ∷ Landed Blocked ∷ Landed (LandedWrite 0 2) ∷ Wrote PostOk ∷ Landed (Request 0) ∷ Landed Blocked ∷ Landed (LandedWrite 8 1) ∷ Landed (Whole 0 (97 ∷ 98 ∷ [])) ∷ []
  pub passes :
      answers_of passing
      ≡ Asked (Posted 0) ∷ Wrote PostOk ∷ Landed (LandedWrite 0 1) ∷ Landed (Request 0) ∷ Landed (Whole 0 (97 ∷ [])) ∷ Shown (97 ∷ []) ∷ []
  -- what the first log tells: side A's write is its step 0, and has landed before step 5; side B's is step 4, and
  -- hasn't
  pub posted : path_posted_in (take 1 (path_log_of waiting)) A ≡ 0 ∷ []
  pub landed : landed_in (take 5 (path_log_of waiting)) ≡ 0 ∷ []
  pub posted_by_peer : path_posted_in (take 5 (path_log_of waiting)) B ≡ 4 ∷ []
  pub landed_at_data : landed_in (take 8 (path_log_of waiting)) ≡ 0 ∷ 4 ∷ []
  -- that a completion waits is what `Pushed` says
  pub not_pushed : ¬ Pushed wrong_log
