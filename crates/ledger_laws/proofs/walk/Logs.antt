-- What no turn of a lane breaks holds of the lane after every log.
use Rattle.std.proofs.Common.{◌≡◌, ℕ, ◌==◌, true, List, [], ◌∷◌, ◌++◌, length, refl, sym, ap, ◌∙◌, subst, append_assoc, ⊎_elim}
use Rattle.std.specs.Prelude.{if◌then◌else◌}
use Rattle.std.specs.List.{list_all, AllByRecursion}
use Rattle.std.proofs.lemmas.Bool.{and_parts, cases_eq, eq-eqb, ne_eqb}
use Rattle.std.proofs.lemmas.List.{append-nil}
use Rattle.step_kinds.specs.Subject.{subject_of}
use Rattle.step_kinds.specs.declared.names.LaneName.{LaneName}
use Rattle.step_kinds.specs.declared.names.Side.{Side}
use Rattle.step_kinds.specs.declared.names.Side.TheVariants.{A, B}
use Rattle.step_kinds.specs.declared.plan.Plan.{Plan}
use Rattle.step_kinds.specs.declared.steps.Step.{Step}
use Rattle.lane_model.specs.Lane.{GoesDown}
use Rattle.ledger_model.specs.Ledger.{PairPart, lane_of}
use Rattle.ledger_model.specs.Log.{Answered, Memories, answered, log_from, ledger_from, log_of, ledger_of}
use Rattle.ledger_model.specs.Next.{Ledger, fresh_pair, ledger_after, start}
use Rattle.ledger_model.specs.Rings.{RingPart, fresh_ring, ring_next, ring_from, ring_of}
use Rattle.pair_model.specs.Plans.{pair_plan}
use Rattle.pair_model.specs.Sizes.{sizes_of}
use Rattle.ledger_laws.proofs.LogGrowth.{made_by, left_by}
use Rattle.ledger_laws.proofs.walk.Of.{turn_of, turn_elsewhere}
use Rattle.ledger_laws.proofs.walk.Sight.{Sight, Sender, Receiver, sight}
use Rattle.ledger_laws.proofs.walk.News.{News, Tells}
use Rattle.ledger_laws.proofs.walk.Turn.{Turn, Turned, Trains, Forgets, Begins, Closes, Posts, PostsNext, Strays, on_queue}
use Rattle.ledger_laws.proofs.walk.SendingTurns.{on_queue-labels}

-- The writes that are left to post are those of their lane

-- Each turn keeps it so that all writes left to post of a lane are on the lane's queue.
pub todo_kept : (plan : Plan) (lane : LaneName) (s : Sight) (made : Answered) (news : News) (t : Sight) → Turn plan lane s made news t
    → list_all (on_queue lane.queue) s.lane.todo ≡ true → list_all (on_queue lane.queue) t.lane.todo ≡ true
todo_kept plan lane s made news t (Trains may) own = refl
todo_kept plan lane s made news t (Forgets Sender may) own = refl
todo_kept plan lane s made news t (Forgets Receiver may) own = own
todo_kept plan lane s made news t (Begins bytes first others may cut) own = on_queue-labels lane.queue (length s.lane.sent) first
todo_kept plan lane s made news t (Closes may) own = on_queue-labels lane.queue (length s.lane.sent) GoesDown
todo_kept plan lane s made news t (Posts label rest may) own =
    (and_parts (on_queue lane.queue label) (list_all (on_queue lane.queue) rest) (ap (list_all (on_queue lane.queue)) (sym may.next) ∙ own)).1
todo_kept plan lane s made news t (PostsNext entry others label rest may) own =
    (and_parts (on_queue lane.queue label) (list_all (on_queue lane.queue) rest)
    (ap (list_all (on_queue lane.queue)) (sym may.next) ∙ on_queue-labels lane.queue (length s.lane.sent) entry)).1
todo_kept plan lane s made news t (Strays after may) own = may.own
todo_kept plan lane s made news t turn own = own

abbrev pub OwnTodos : PairPart → Type 0
OwnTodos pair = (side : Side) (queue : ℕ) → list_all (on_queue queue) (lane_of pair side queue).todo ≡ true

-- Each step on a ledger

module _ (plan : Plan) (memories : Memories) (before : List Answered) (ledger : Ledger) (step : Step) where
  -- the step as it is made on a pair, and the pair after it
  abbrev Made : ℕ → Answered
  Made k = made_by plan k (memories before k) (ledger k) step

  abbrev Left : ℕ → PairPart
  Left k = left_by plan k (memories before k) (ledger k) step

  pub turn_in : (lane : LaneName) → OwnTodos (ledger lane.pair)
      → Turned plan lane (sight lane.from lane.queue (ledger lane.pair)) (answered plan (memories before) ledger step)
      (sight lane.from lane.queue (ledger_after plan (memories before) ledger step lane.pair))
  turn_in lane todos = ⊎_elim same different (cases_eq lane.pair (subject_of step))
    where
      same : lane.pair ≡ subject_of step → Turned plan lane (sight lane.from lane.queue (ledger lane.pair)) (answered plan (memories before) ledger step)
          (sight lane.from lane.queue (ledger_after plan (memories before) ledger step lane.pair))
      same e =
          subst (λ k. Turned plan lane (sight lane.from lane.queue (ledger lane.pair)) (Made k) (sight lane.from lane.queue (if lane.pair == k then Left k else ledger lane.pair))) e
          (subst (λ b. Turned plan lane (sight lane.from lane.queue (ledger lane.pair)) (Made lane.pair) (sight lane.from lane.queue (if b then Left lane.pair else ledger lane.pair)))
          (sym (eq-eqb lane.pair lane.pair refl))
          (turn_of plan lane (memories before lane.pair) (ledger lane.pair) todos step (sym e)))

      different : (lane.pair ≡ subject_of step → ⊥) → Turned plan lane (sight lane.from lane.queue (ledger lane.pair)) (answered plan (memories before) ledger step)
          (sight lane.from lane.queue (ledger_after plan (memories before) ledger step lane.pair))
      different ne =
          subst (λ b. Turned plan lane (sight lane.from lane.queue (ledger lane.pair)) (Made (subject_of step))
          (sight lane.from lane.queue (if b then Left (subject_of step) else ledger lane.pair)))
          (sym (ne_eqb lane.pair (subject_of step) ne))
          (turn_elsewhere plan lane (sight lane.from lane.queue (ledger lane.pair)) (Made (subject_of step)) (λ e. ne (sym e)))

  pub todos_kept : (k : ℕ) → OwnTodos (ledger k) → OwnTodos (ledger_after plan (memories before) ledger step k)
  todos_kept k todos side queue =
      let lane : LaneName = record { pair = k; from = side; queue = queue } in
      todo_kept plan lane (sight side queue (ledger k)) (answered plan (memories before) ledger step) (turn_in lane todos).news (sight side queue (ledger_after plan (memories before) ledger step k))
      (turn_in lane todos).turn (todos side queue)

-- Each run

-- what holds of a lane and of its ring at the start, and is broken by no turn of a step that is as it should be
pub record HoldsOn (plan : Plan) (lane : LaneName) (Fits : Step → Type 0) (Inv : List Answered → Sight → RingPart → Type 0) : Type 0 where
  pub fresh : Inv [] (sight lane.from lane.queue (fresh_pair (pair_plan plan lane.pair)))
      (fresh_ring (sizes_of (pair_plan plan lane.pair) lane.from lane.queue) (pair_plan plan lane.pair).up)
  pub turns : (log : List Answered) (s : Sight) (ring : RingPart) (made : Answered) (news : News) (t : Sight) → Fits made.step → Tells plan lane s.lane made news → Turn plan lane s made news t
      → Inv log s ring
      → Inv (log ++ made ∷ []) t (ring_next (sizes_of (pair_plan plan lane.pair) lane.from lane.queue) lane s.lane ring made)

module _ (plan : Plan) (lane : LaneName) (Fits : Step → Type 0) (Inv : List Answered → Sight → RingPart → Type 0) (holds : HoldsOn plan lane Fits Inv) (memories : Memories) where
  run_from : (before : List Answered) (ledger : Ledger) (ring : RingPart) (steps : List Step) → AllByRecursion Fits steps → OwnTodos (ledger lane.pair)
      → Inv before (sight lane.from lane.queue (ledger lane.pair)) ring
      → Inv (before ++ log_from plan memories before ledger steps) (sight lane.from lane.queue (ledger_from plan memories before ledger steps lane.pair))
      (ring_from plan memories lane before ledger ring steps)
  run_from before ledger ring [] fits todos now = subst (λ log. Inv log (sight lane.from lane.queue (ledger lane.pair)) ring) (sym (append-nil before)) now
  run_from before ledger ring (step ∷ steps) fits todos now =
      let made = answered plan (memories before) ledger step in
      let after = ledger_after plan (memories before) ledger step in
      let turn = turn_in plan memories before ledger step lane todos in
      let next = ring_next (sizes_of (pair_plan plan lane.pair) lane.from lane.queue) lane (lane_of (ledger lane.pair) lane.from lane.queue) ring made in
      subst (λ log. Inv log (sight lane.from lane.queue (ledger_from plan memories (before ++ made ∷ []) after steps lane.pair))
      (ring_from plan memories lane (before ++ made ∷ []) after next steps))
      (append_assoc before (made ∷ []) (log_from plan memories (before ++ made ∷ []) after steps))
      (run_from (before ++ made ∷ []) after next steps fits.1 (todos_kept plan memories before ledger step lane.pair todos)
      (holds.turns before (sight lane.from lane.queue (ledger lane.pair)) ring made turn.news (sight lane.from lane.queue (after lane.pair)) fits.0 turn.tells turn.turn now))

  pub holds_after : (steps : List Step) → AllByRecursion Fits steps
      → Inv (log_of plan memories steps) (sight lane.from lane.queue (ledger_of plan memories steps lane.pair)) (ring_of plan memories steps lane)
  holds_after steps fits = run_from [] (start plan) _ steps fits todos holds.fresh
    where
      todos : (side : Side) (queue : ℕ) → list_all (on_queue queue) (lane_of (fresh_pair (pair_plan plan lane.pair)) side queue).todo ≡ true
      todos A queue = refl
      todos B queue = refl

-- Of all steps, and without the ring

pub record HoldsAlways (plan : Plan) (lane : LaneName) (Inv : List Answered → Sight → Type 0) : Type 0 where
  pub fresh : Inv [] (sight lane.from lane.queue (fresh_pair (pair_plan plan lane.pair)))
  pub turns : (log : List Answered) (s : Sight) (made : Answered) (news : News) (t : Sight) → Tells plan lane s.lane made news → Turn plan lane s made news t → Inv log s
      → Inv (log ++ made ∷ []) t

-- Every list of steps fits where nothing is asked of a step.
pub all_fit : (steps : List Step) → AllByRecursion (λ step. Unit {0}) steps
all_fit [] = tt
all_fit (step ∷ steps) = (tt, all_fit steps)

-- What holds of a lane before any step, and no turn breaks, holds of the lane after every log.
pub always_after : (plan : Plan) (lane : LaneName) (Inv : List Answered → Sight → Type 0) → HoldsAlways plan lane Inv → (memories : Memories) (steps : List Step)
    → Inv (log_of plan memories steps) (sight lane.from lane.queue (ledger_of plan memories steps lane.pair))
always_after plan lane Inv holds memories steps =
    holds_after plan lane (λ step. Unit {0}) (λ log s ring. Inv log s)
    (record { fresh = holds.fresh; turns = λ log s ring made news t fits tells turn now. holds.turns log s made news t tells turn now }) memories steps (all_fit steps)
