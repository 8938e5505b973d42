-- Steps, their answers, and the log of a list of steps.
use Rattle.std.specs.Prelude.{List, [], ◌∷◌}
use Rattle.read_path.specs.Path.{PathState, fresh_path, path_post_answer, path_after_post, read_answer, path_after_read, path_land_answer, path_after_land, shown, path_cut_refusal, path_after_cut, path_drop_refusal, path_after_drop, relink_refusal, after_relink}
use Rattle.read_path.specs.declared.steps.PathStep.{PathStep}
use Rattle.read_path.specs.declared.steps.PathStep.TheVariants.{Write, Read, Land, Show, Break, DropDone, Relink}
use Rattle.read_path.specs.declared.steps.PathAnswer.{PathAnswer}
use Rattle.read_path.specs.declared.steps.PathAnswer.TheVariants.{Wrote, Asked, Landed, Shown, Linked}

-- what a step answers
abbrev pub path_answer_to : PathState → PathStep → PathAnswer
path_answer_to path (Write side at bytes relaxed) = Wrote (path_post_answer path)
path_answer_to path (Read side at len) = Asked (read_answer path side)
path_answer_to path (Land side place) = Landed (path_land_answer path side place)
path_answer_to path (Show side at len) = Shown (shown path side at len)
path_answer_to path Break = Linked (path_cut_refusal path)
path_answer_to path DropDone = Linked (path_drop_refusal path)
path_answer_to path Relink = Linked (relink_refusal path)

-- the path after a step
abbrev pub path_after_step : PathState → PathStep → PathState
path_after_step path (Write side at bytes relaxed) = path_after_post path side at bytes relaxed
path_after_step path (Read side at len) = path_after_read path side at len
path_after_step path (Land side place) = path_after_land path side place
path_after_step path (Show side at len) = path
path_after_step path Break = path_after_cut path
path_after_step path DropDone = path_after_drop path
path_after_step path Relink = after_relink path

-- a step and its answer
pub record PathEntry : Type 0 where
  pub step : PathStep
  pub answer : PathAnswer

-- the log of steps that are made on a path
abbrev pub path_log_from : PathState → List PathStep → List PathEntry
path_log_from path [] = []
path_log_from path (step ∷ steps) = record { step = step; answer = path_answer_to path step } ∷ path_log_from (path_after_step path step) steps

-- the log of steps that are made from the start on
abbrev pub path_log_of : List PathStep → List PathEntry
path_log_of steps = path_log_from fresh_path steps
