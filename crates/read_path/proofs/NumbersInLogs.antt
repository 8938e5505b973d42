-- In each log reads are numbered, and a request lands once at most.
use Rattle.std.proofs.Common.{◌≡◌, ℕ, ◌≤◌, Bool, true, false, Option, Some, None, List, [], ◌∷◌, ◌++◌, take, slice_get, refl, sym, ap, subst, ◌∙◌, append_assoc, append-nil, if◌then◌else◌, arith}
use Rattle.std.proofs.lemmas.Bool.{eq-eqb, false≢true}
use Rattle.step_kinds.specs.declared.names.Side.{Side}
use Rattle.pair_model.specs.Both.{at_side}
use Rattle.pair_model.specs.Link.{is_up}
use Rattle.read_path.specs.InFlight.{PathFlying, Write, Request, Part, Last, lands_after, may_pass_all}
use Rattle.read_path.specs.Numbers.{reads_in, landings_in}
use Rattle.read_path.specs.Path.{PathState, fresh_path, path_answer_for, landing_of, path_land_answer}
use Rattle.read_path.specs.PathLog.{PathEntry, path_answer_to, path_after_step, path_log_from}
use Rattle.read_path.specs.Pushed.{read_entry, request_entry}
use Rattle.read_path.specs.declared.steps.PathStep.{PathStep}
use Rattle.read_path.specs.declared.steps.PathAnswer.{PathAnswer}
use Rattle.read_path.specs.declared.steps.PathAnswer.TheVariants.{Wrote, Asked, Landed, Shown, Linked}
use Rattle.read_path.specs.declared.steps.PathLand.{PathLand}
use Rattle.read_path.specs.declared.steps.PathLand.TheVariants.{Nothing, Blocked, Write as LandedWrite, Request as LandedRequest, Part as LandedPart, Whole}
use Rattle.read_path.specs.declared.steps.ReadAnswer.{ReadAnswer}
use Rattle.read_path.specs.declared.steps.ReadAnswer.TheVariants.{Posted, LinkDown}
use Rattle.read_path.specs.Laws.{ReadsAreNumbered, RequestsLandOnce}
use Rattle.read_path.proofs.ReadNumbers.{NumbersHold, entry_of, numbers_after, one_if, pending, pending_without}
use Rattle.read_path.proofs.SidesHold.{by_side}

at_start : NumbersHold [] fresh_path
at_start = record {
  sides = by_side _ (record { reads = refl; once = λ n. omega arith; none_new = λ n past. refl }) (record { reads = refl; once = λ n. omega arith; none_new = λ n past. refl });
}

-- What answers say

abbrev asked_in : PathAnswer → ReadAnswer
asked_in (Wrote answer) = LinkDown
asked_in (Asked answer) = answer
asked_in (Landed answer) = LinkDown
asked_in (Shown bytes) = LinkDown
asked_in (Linked refusal) = LinkDown

abbrev landing_in : PathAnswer → PathLand
landing_in (Wrote answer) = Nothing
landing_in (Asked answer) = Nothing
landing_in (Landed answer) = answer
landing_in (Shown bytes) = Nothing
landing_in (Linked refusal) = Nothing

abbrev is_posted : ReadAnswer → Bool
is_posted (Posted number) = true
is_posted LinkDown = false

abbrev number_posted : ReadAnswer → ℕ
number_posted (Posted number) = number
number_posted LinkDown = 0

posted_is : (up : Bool) (reads number : ℕ) → (if up then Posted reads else LinkDown) ≡ Posted number → number ≡ reads
posted_is true reads number is = sym (ap number_posted is)
posted_is false reads number is = absurd (false≢true (ap is_posted is))

abbrev is_request : PathLand → Bool
is_request Nothing = false
is_request Blocked = false
is_request (LandedWrite at len) = false
is_request (LandedRequest number) = true
is_request (LandedPart number part) = false
is_request (Whole number bytes) = false

abbrev number_landed : PathLand → ℕ
number_landed Nothing = 0
number_landed Blocked = 0
number_landed (LandedWrite at len) = 0
number_landed (LandedRequest number) = number
number_landed (LandedPart number part) = 0
number_landed (Whole number bytes) = 0

-- where a request lands, one of its number was in flight
request_pending : (path : PathState) (side : Side) (place number : ℕ) → path_land_answer path side place ≡ LandedRequest number → 1 ≤ pending number (at_side path.sides side).flight
request_pending path side place number is = by_flying (slice_get flight place) refl is where
  flight : List PathFlying
  flight = (at_side path.sides side).flight

  by_what : (what : PathFlying) → slice_get flight place ≡ Some what → landing_of what ≡ LandedRequest number → 1 ≤ pending number flight
  by_what (Write at bytes relaxed) there is = absurd (false≢true (ap is_request is))
  by_what (Request other at len) there is =
      let without = pending_without number flight place (Request other at len) there in
      let one = ap one_if (eq-eqb other number (ap number_landed is)) in
      omega (arith, without, one)
  by_what (Part other part) there is = absurd (false≢true (ap is_request is))
  by_what (Last other bytes) there is = absurd (false≢true (ap is_request is))

  where_it_may : (what : PathFlying) → slice_get flight place ≡ Some what → (lands : Bool) → path_answer_for (Some what) lands ≡ LandedRequest number → 1 ≤ pending number flight
  where_it_may what there false is = absurd (false≢true (ap is_request is))
  where_it_may what there true is = by_what what there is

  by_flying : (flying : Option PathFlying) → slice_get flight place ≡ flying → path_answer_for flying (lands_after flying (take place flight)) ≡ LandedRequest number → 1 ≤ pending number flight
  by_flying None there is = absurd (false≢true (ap is_request is))
  by_flying (Some what) there is = where_it_may what there (may_pass_all what (take place flight)) is

-- The step that a log goes on with

read_numbered : (log : List PathEntry) (path : PathState) (step : PathStep) (side : Side) (at len number : ℕ) → NumbersHold log path → entry_of path step ≡ read_entry side at len number → number ≡ reads_in log side
read_numbered log path step side at len number holds is =
    posted_is (is_up path.link) (at_side path.sides side).reads number
    (ap (λ (s : PathStep). asked_in (path_answer_to path s)) (sym (ap (λ (e : PathEntry). e.step) is)) ∙ ap (λ (e : PathEntry). asked_in e.answer) is)
    ∙ (holds.sides side).reads

request_once : (log : List PathEntry) (path : PathState) (step : PathStep) (side : Side) (place number : ℕ) → NumbersHold log path → entry_of path step ≡ request_entry side place number → landings_in log side number ≡ 0
request_once log path step side place number holds is =
    let some =
    request_pending path side place number
    (ap (λ (s : PathStep). landing_in (path_answer_to path s)) (sym (ap (λ (e : PathEntry). e.step) is)) ∙ ap (λ (e : PathEntry). landing_in e.answer) is) in
    let once = (holds.sides side).once number in
    omega (arith, some, once)

-- Logs

abbrev head_or : PathEntry → List PathEntry → PathEntry
head_or e [] = e
head_or e (x ∷ xs) = x

abbrev rest_of : List PathEntry → List PathEntry
rest_of [] = []
rest_of (x ∷ xs) = xs

abbrev is_empty : List PathEntry → Bool
is_empty [] = true
is_empty (x ∷ xs) = false

-- where a log has an entry, the path before it is one of whose log the numbers hold
record StandsAt (before : List PathEntry) (entry : PathEntry) : Type 0 where
  path : PathState
  step : PathStep
  holds : NumbersHold before path
  is : entry_of path step ≡ entry

stands_from : (steps : List PathStep) (log : List PathEntry) (path : PathState) (before after : List PathEntry) (entry : PathEntry) → NumbersHold log path → path_log_from path steps ≡ before ++ entry ∷ after → StandsAt (log ++ before) entry
stands_from [] log path [] after entry holds is = absurd (false≢true (sym (ap is_empty is)))
stands_from [] log path (e ∷ before) after entry holds is = absurd (false≢true (sym (ap is_empty is)))
stands_from (step ∷ steps) log path [] after entry holds is =
    subst (λ (l : List PathEntry). StandsAt l entry) (sym (append-nil log)) (record { path = path; step = step; holds = holds; is = ap (head_or entry) is })
stands_from (step ∷ steps) log path (e ∷ before) after entry holds is =
    let made : PathEntry = entry_of path step in
    subst (λ (l : List PathEntry). StandsAt l entry) (append_assoc log (made ∷ []) before ∙ ap (λ (x : PathEntry). log ++ x ∷ before) (ap (head_or e) is))
    (stands_from steps (log ++ made ∷ []) (path_after_step path step) before after entry (numbers_after log path step holds) (ap rest_of is))

-- In the log of any steps the number of a read is how many reads its side made before it.
pub reads_are_numbered : ReadsAreNumbered
reads_are_numbered steps before after side at len number is =
    let there = stands_from steps [] fresh_path before after (read_entry side at len number) at_start is in
    read_numbered before there.path there.step side at len number there.holds there.is

-- In the log of any steps the request of a side's read lands once at most.
pub requests_land_once : RequestsLandOnce
requests_land_once steps before after side place number is =
    let there = stands_from steps [] fresh_path before after (request_entry side place number) at_start is in
    request_once before there.path there.step side place number there.holds there.is
