-- A log in which a completion passes a posted write isn't as `Pushed` says.
use Rattle.std.proofs.Common.{◌≡◌, ℕ, Bool, true, false, List, [], ◌∷◌, ◌++◌, All, Contains, refl, sym, ap, subst, ◌∙◌, arith}
use Rattle.std.proofs.lemmas.Bool.{false≢true}
use Rattle.step_kinds.specs.declared.names.Side.TheVariants.{A, B}
use Rattle.read_path.specs.Examples.{wrong_log}
use Rattle.read_path.specs.PathLog.{PathEntry}
use Rattle.read_path.specs.Pushed.{HasPushed, Pushed, path_posted_in, landed_in, read_entry, request_entry}
use Rattle.read_path.specs.declared.steps.PathStep.{PathStep}
use Rattle.read_path.specs.declared.steps.PathStep.TheVariants.{Write, Read, Land, Show, Break, DropDone, Relink}
use Rattle.read_path.specs.declared.steps.PathAnswer.TheVariants.{Wrote}
use Rattle.read_path.specs.declared.steps.PostAnswer.TheVariants.{Ok as PostOk}

abbrev is_land : PathEntry → Bool
is_land entry = lands entry.step where
  lands : PathStep → Bool
  lands (Write side at bytes relaxed) = false
  lands (Read side at len) = false
  lands (Land side place) = true
  lands (Show side at len) = false
  lands Break = false
  lands DropDone = false
  lands Relink = false

abbrev first_or : PathEntry → List PathEntry → PathEntry
first_or e [] = e
first_or e (x ∷ log) = x

abbrev rest_of : List PathEntry → List PathEntry
rest_of [] = []
rest_of (x ∷ log) = log

abbrev is_empty : List PathEntry → Bool
is_empty [] = true
is_empty (x ∷ log) = false

-- the log before the data
abbrev before : List PathEntry
before = read_entry A 0 1 0 ∷ record { step = Write B 8 (99 ∷ []) false; answer = Wrote PostOk } ∷ request_entry A 0 0 ∷ []

-- the log before the request landed
abbrev requested : List PathEntry
requested = read_entry A 0 1 0 ∷ record { step = Write B 8 (99 ∷ []) false; answer = Wrote PostOk } ∷ []

never_empty : (log : List PathEntry) (e : PathEntry) (since : List PathEntry) → ¬ ([] ≡ log ++ e ∷ since)
never_empty [] e since is = false≢true (sym (ap is_empty is))
never_empty (x ∷ log) e since is = false≢true (sym (ap is_empty is))

-- the request landed at its own place
landing_there : (landing : List PathEntry) (place : ℕ) (since : List PathEntry) → before ≡ landing ++ request_entry A place 0 ∷ since → landing ≡ requested
landing_there [] place since is = absurd (false≢true (ap (λ log. is_land (first_or (request_entry A place 0) log)) is))
landing_there (x ∷ []) place since is = absurd (false≢true (ap (λ log. is_land (first_or (request_entry A place 0) (rest_of log))) is))
landing_there (x ∷ y ∷ []) place since is =
    ap (λ e. e ∷ y ∷ []) (sym (ap (first_or x) is)) ∙ ap (λ e. read_entry A 0 1 0 ∷ e ∷ []) (sym (ap (λ log. first_or y (rest_of log)) is))
landing_there (x ∷ y ∷ z ∷ landing) place since is = absurd (never_empty landing (request_entry A place 0) since (ap (λ log. rest_of (rest_of (rest_of log))) is))

-- A log in which a completion passes a posted write of its own side isn't as `Pushed` says.
pub not_pushed : ¬ Pushed wrong_log
not_pushed pushed = none (pushed before [] A 1 0 (0 ∷ []) refl) where
  none : HasPushed before A 0 (0 ∷ []) → ⊥
  none has =
      let landed : All (Contains (landed_in before)) (path_posted_in requested B) =
      subst (λ (log : List PathEntry). All (Contains (landed_in before)) (path_posted_in log B)) (landing_there has.landing has.place has.since has.before_is) has.peer_writes in
      let at_first = landed 0 0 (omega arith) in
      absurd (omega (arith, at_first.1))
