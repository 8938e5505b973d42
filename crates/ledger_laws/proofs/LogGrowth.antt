-- A log grows by the step that is made, with the ledger's answer.
use Rattle.std.proofs.Common.{◌≡◌, ℕ, List, [], ◌∷◌, ◌++◌, sym, ap, ◌∙◌, append_assoc}
use Rattle.std.proofs.lemmas.List.{append-nil, append_cancel_left}
use Rattle.step_kinds.specs.declared.plan.Plan.{Plan}
use Rattle.step_kinds.specs.declared.steps.Answer.{Answer}
use Rattle.step_kinds.specs.declared.steps.Step.{Step}
use Rattle.pair_model.specs.Plans.{pair_plan}
use Rattle.pair_model.specs.Headers.{Bytes}
use Rattle.ledger_laws.specs.Laws.{GoesOn}
use Rattle.ledger_model.specs.Ledger.{PairPart}
use Rattle.ledger_model.specs.Log.{Answered, Memories, answered, log_from, ledger_from, log_of, ledger_of}
use Rattle.ledger_model.specs.Next.{Ledger, pair_next, fresh_pair, ledger_after, outcome_in}

-- a step on a pair, with its answer
abbrev pub made_by : Plan → ℕ → Bytes → PairPart → Step → Answered
made_by plan k bytes pair step = record { step = step; answer = (pair_next plan.devs (pair_plan plan k) bytes pair step).answer }

-- the pair after it
abbrev pub left_by : Plan → ℕ → Bytes → PairPart → Step → PairPart
left_by plan k bytes pair step = (pair_next plan.devs (pair_plan plan k) bytes pair step).after

-- the log of one step more
log_from-last : (plan : Plan) (memories : Memories) (before : List Answered) (ledger : Ledger) (steps : List Step) (step : Step)
    → log_from plan memories before ledger (steps ++ step ∷ [])
    ≡ log_from plan memories before ledger steps
    ++ answered plan (memories (before ++ log_from plan memories before ledger steps)) (ledger_from plan memories before ledger steps) step ∷ []
log_from-last plan memories before ledger [] step = ap (λ log. answered plan (memories log) ledger step ∷ []) (sym (append-nil before))
log_from-last plan memories before ledger (first ∷ steps) step =
    let made = answered plan (memories before) ledger first in
    let after = ledger_after plan (memories before) ledger first in
    let rest = log_from plan memories (before ++ made ∷ []) after steps in
    ap (λ log. made ∷ log)
    (log_from-last plan memories (before ++ made ∷ []) after steps step
    ∙ ap (λ log. rest ++ answered plan (memories log) (ledger_from plan memories (before ++ made ∷ []) after steps) step ∷ [])
    (append_assoc before (made ∷ []) rest))

-- The log of one step more is the log before it, and then that step with the ledger's answer.
pub log_of-last : (plan : Plan) (memories : Memories) (steps : List Step) (step : Step)
    → log_of plan memories (steps ++ step ∷ [])
    ≡ log_of plan memories steps ++ answered plan (memories (log_of plan memories steps)) (ledger_of plan memories steps) step ∷ []
log_of-last plan memories steps step = log_from-last plan memories [] (λ j. fresh_pair (pair_plan plan j)) steps step

-- the ledger of one step more
ledger_from-last : (plan : Plan) (memories : Memories) (before : List Answered) (ledger : Ledger) (steps : List Step) (step : Step)
    → ledger_from plan memories before ledger (steps ++ step ∷ [])
    ≡ ledger_after plan (memories (before ++ log_from plan memories before ledger steps)) (ledger_from plan memories before ledger steps) step
ledger_from-last plan memories before ledger [] step = ap (λ log. ledger_after plan (memories log) ledger step) (sym (append-nil before))
ledger_from-last plan memories before ledger (first ∷ steps) step =
    let made = answered plan (memories before) ledger first in
    let after = ledger_after plan (memories before) ledger first in
    ledger_from-last plan memories (before ++ made ∷ []) after steps step
    ∙ ap (λ log. ledger_after plan (memories log) (ledger_from plan memories (before ++ made ∷ []) after steps) step)
    (append_assoc before (made ∷ []) (log_from plan memories (before ++ made ∷ []) after steps))

-- The ledger of one step more is the one that the step leaves of the ledger before it.
pub ledger_of-last : (plan : Plan) (memories : Memories) (steps : List Step) (step : Step)
    → ledger_of plan memories (steps ++ step ∷ []) ≡ ledger_after plan (memories (log_of plan memories steps)) (ledger_of plan memories steps) step
ledger_of-last plan memories steps step = ledger_from-last plan memories [] (λ j. fresh_pair (pair_plan plan j)) steps step

same_head : {X : Type 0} (x y : X) → x ∷ [] ≡ y ∷ [] → x ≡ y
same_head x y e = cc

-- the answer with which a log goes on is the one that the ledger gives
pub answer_of : (plan : Plan) (memories : Memories) (steps : List Step) (step : Step) (answer : Answer) → GoesOn plan memories steps step answer
    → answer ≡ (outcome_in plan (memories (log_of plan memories steps)) (ledger_of plan memories steps) step).answer
answer_of plan memories steps step answer goes =
    ap (λ made. made.answer)
    (same_head _ _ (append_cancel_left (log_of plan memories steps) (record { step = step; answer = answer } ∷ [])
    (answered plan (memories (log_of plan memories steps)) (ledger_of plan memories steps) step ∷ [])
    (sym goes ∙ log_of-last plan memories steps step)))
