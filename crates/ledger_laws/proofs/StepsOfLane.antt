-- Each step of a pair, while both sides are up, is steps of each of the pair's lanes.
use Rattle.std.proofs.Common.{◌≡◌, ℕ, true, List, [], ◌∷◌, ◌++◌, sym, ap, ◌∙◌, subst, append_assoc}
use Rattle.std.specs.List.{list_all}
use Rattle.std.proofs.lemmas.List.{append-nil}
use Rattle.step_kinds.specs.declared.names.LaneName.{LaneName}
use Rattle.step_kinds.specs.declared.plan.Plan.{Plan}
use Rattle.step_kinds.specs.declared.steps.Answer.{Answer}
use Rattle.step_kinds.specs.declared.steps.Step.{Step}
use Rattle.lane_model.specs.Lane.{Lane}
use Rattle.ledger_model.specs.Ledger.{LanePart, lane_of}
use Rattle.ledger_model.specs.Log.{Answered, Memories, answered, log_from, ledger_from, log_of, ledger_of}
use Rattle.ledger_model.specs.Next.{Ledger, ledger_after, start}
use Rattle.ledger_model.specs.Rings.{RingPart, fresh_ring, ring_next, ring_from, ring_of, shown_lane}
use Rattle.pair_model.specs.Plans.{pair_plan}
use Rattle.pair_model.specs.Sizes.{layout_of}
use Rattle.ledger_laws.specs.Laws.{IsOrdinaryOn}
use Rattle.ledger_laws.specs.LaneChanges.{change_of}
use Rattle.ledger_laws.specs.LaneSteps.{AreBothUp, EachStepIsOfTheLane, MovesByLaneSteps}
use Rattle.ledger_laws.proofs.AtStart.{fresh-lane}
use Rattle.ledger_laws.proofs.EntriesFit.{entries_run}
use Rattle.ledger_laws.proofs.LaneStepsOfTurns.{turn_moves}
use Rattle.ledger_laws.proofs.LogGrowth.{answer_of, ledger_of-last}
use Rattle.ledger_laws.proofs.RingLawHolds.{ring_runs, ring_law_holds, two_entries}
use Rattle.ledger_laws.proofs.walk.Logs.{OwnTodos, always_after, holds_after, todo_kept, turn_in}
use Rattle.ledger_laws.proofs.walk.Sight.{sight}
use Rattle.ledger_laws.proofs.walk.Turn.{SizesOf, on_queue}

-- the writes that are left to post after a log are those of their lanes
pub own_todos : (plan : Plan) (memories : Memories) (steps : List Step) (pair : ℕ) → OwnTodos (ledger_of plan memories steps pair)
own_todos plan memories steps pair side queue =
    let lane : LaneName = record { pair = pair; from = side; queue = queue } in
    always_after plan lane (λ log s. list_all (on_queue queue) s.lane.todo ≡ true)
    (record {
      fresh = ap (λ (l : LanePart). list_all (on_queue queue) l.todo) (fresh-lane (pair_plan plan pair) side queue);
      turns = λ log s made news t tells turn own. todo_kept plan lane s made news t turn own;
    })
    memories steps

-- the ring of one step more
ring_from-last : (plan : Plan) (memories : Memories) (name : LaneName) (before : List Answered) (ledger : Ledger) (now : RingPart) (steps : List Step) (step : Step)
    → ring_from plan memories name before ledger now (steps ++ step ∷ [])
    ≡ ring_next (SizesOf plan name) name (lane_of (ledger_from plan memories before ledger steps name.pair) name.from name.queue) (ring_from plan memories name before ledger now steps)
    (answered plan (memories (before ++ log_from plan memories before ledger steps)) (ledger_from plan memories before ledger steps) step)
ring_from-last plan memories name before ledger now [] step =
    ap (λ log. ring_next (SizesOf plan name) name (lane_of (ledger name.pair) name.from name.queue) now (answered plan (memories log) ledger step)) (sym (append-nil before))
ring_from-last plan memories name before ledger now (first ∷ steps) step =
    let made = answered plan (memories before) ledger first in
    let after = ledger_after plan (memories before) ledger first in
    let next = ring_next (SizesOf plan name) name (lane_of (ledger name.pair) name.from name.queue) now made in
    let last = ledger_from plan memories (before ++ made ∷ []) after steps in
    ring_from-last plan memories name (before ++ made ∷ []) after next steps step
    ∙ ap
    (λ log. ring_next (SizesOf plan name) name (lane_of (last name.pair) name.from name.queue) (ring_from plan memories name (before ++ made ∷ []) after next steps)
    (answered plan (memories log) last step))
    (append_assoc before (made ∷ []) (log_from plan memories (before ++ made ∷ []) after steps))

ring_of-last : (plan : Plan) (memories : Memories) (name : LaneName) (steps : List Step) (step : Step)
    → ring_of plan memories (steps ++ step ∷ []) name
    ≡ ring_next (SizesOf plan name) name (lane_of (ledger_of plan memories steps name.pair) name.from name.queue) (ring_of plan memories steps name)
    (answered plan (memories (log_of plan memories steps)) (ledger_of plan memories steps) step)
ring_of-last plan memories name steps step =
    ring_from-last plan memories name [] (start plan) (fresh_ring (SizesOf plan name) (pair_plan plan name.pair).up) steps step

-- While both sides of an ordinary pair are up, each step is the steps of the lane's model that its answer says.
pub each_step_is_of_the_lane : EachStepIsOfTheLane
each_step_is_of_the_lane plan memories steps step answer name no_raw ordinary has_ring up still goes =
    subst (λ (given : Answer). MovesByLaneSteps (change_of name (record { step = step; answer = given })) Before Then) (sym (answer_of plan memories steps step answer goes))
    (subst (λ (after : Ledger). AreBothUp (after name.pair) name.from → Comes after (ring_of plan memories (steps ++ step ∷ []) name)) (sym (ledger_of-last plan memories steps step))
    (subst (λ ring. AreBothUp (next name.pair) name.from → Comes next ring) (sym (ring_of-last plan memories name steps step)) comes)
    still)
  where
    log : List Answered
    log = log_of plan memories steps

    now : Ledger
    now = ledger_of plan memories steps

    ring : RingPart
    ring = ring_of plan memories steps name

    next : Ledger
    next = ledger_after plan (memories log) now step

    made : Answered
    made = answered plan (memories log) now step

    Before : Lane
    Before = shown_lane (SizesOf plan name) (now name.pair) ring name.from name.queue

    Then : Lane
    Then = shown_lane (SizesOf plan name) (ledger_of plan memories (steps ++ step ∷ []) name.pair) (ring_of plan memories (steps ++ step ∷ []) name) name.from name.queue

    Comes : Ledger → RingPart → Type 0
    Comes after ring_then =
        MovesByLaneSteps (change_of name made) Before (shown_lane (SizesOf plan name) (after name.pair) ring_then name.from name.queue)

    comes : AreBothUp (next name.pair) name.from → Comes next (ring_next (SizesOf plan name) name (lane_of (now name.pair) name.from name.queue) ring made)
    comes later =
        let two = two_entries (layout_of (pair_plan plan name.pair) name.from name.queue) has_ring in
        let s = sight name.from name.queue (now name.pair) in
        let t = sight name.from name.queue (next name.pair) in
        let known = holds_after plan name (IsOrdinaryOn name.pair) _ (ring_runs plan name two no_raw) memories steps ordinary in
        let turned = turn_in plan memories log now step name (own_todos plan memories steps name.pair) in
        let entries = (entries_run plan name no_raw).turns log s made turned.news t turned.tells turned.turn known.entries in
        subst (Comes next) (sym (turned.tells.ring (SizesOf plan name) ring))
        (subst (λ change. MovesByLaneSteps change Before (shown_lane (SizesOf plan name) (next name.pair) (turned.news.ring (SizesOf plan name) ring) name.from name.queue)) (sym turned.tells.change)
        (turn_moves plan name s made turned.news t ring two no_raw turned.turn known.sides known.entries.fits entries.leaves
        (ring_law_holds plan memories steps name no_raw ordinary has_ring up.sender up.receiver) (record { sender = up.sender; receiver = up.receiver })
        (record { sender = later.sender; receiver = later.receiver })))
