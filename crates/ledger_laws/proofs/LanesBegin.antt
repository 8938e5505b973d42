-- The lane that is shown once both sides are up is fresh.
use Rattle.std.proofs.Common.{◌≡◌, ℕ, ◌%◌, ◌<◌, Bool, List, [], ◌∷◌, ◌++◌, length, sym, ap, subst, inl, inr, refl, arith, mod-lt}
use Rattle.std.specs.Prelude.{slice_index_or}
use Rattle.std.specs.List.{AllByRecursion}
use Rattle.std.proofs.Math.Nat.{mod-eq_of_lt}
use Rattle.std.proofs.lemmas.Bool.{false≢true}
use Rattle.step_kinds.specs.Sides.{other_side}
use Rattle.step_kinds.specs.declared.names.LaneName.{LaneName}
use Rattle.step_kinds.specs.declared.plan.PairPlan.{PairPlan}
use Rattle.step_kinds.specs.declared.plan.Plan.{Plan}
use Rattle.step_kinds.specs.declared.steps.Step.{Step}
use Rattle.lane_model.specs.Lane.{blank_slot}
use Rattle.lane_model.specs.Law.{HoldsRingLaw}
use Rattle.lane_model.specs.declared.Write.{Write}
use Rattle.lane_laws.specs.Laws.{IsFresh}
use Rattle.ledger_model.specs.Labels.{writes_among, indexes_among}
use Rattle.ledger_model.specs.Ledger.{LanePart, link_up}
use Rattle.ledger_model.specs.LinkSteps.{fresh_lane}
use Rattle.ledger_model.specs.Log.{Answered, answered, log_of, ledger_of}
use Rattle.ledger_model.specs.Next.{Ledger, ledger_after}
use Rattle.ledger_model.specs.Rings.{RingPart, ledger_lane_shown, ring_of}
use Rattle.pair_model.specs.Plans.{pair_plan}
use Rattle.pair_model.specs.Sizes.{Sizes}
use Rattle.ledger_laws.specs.Laws.{IsOrdinaryOn}
use Rattle.ledger_laws.specs.LaneSteps.{AreBothUp, EachLaneBeginsFresh}
use Rattle.ledger_laws.proofs.AtStart.{fresh-flight, fresh-lane, up-not_down}
use Rattle.ledger_laws.proofs.FreshLanes.{IsFreshLane, SidesKnown, late_up, sides_run}
use Rattle.ledger_laws.proofs.LaneStepsOfTurns.{BothUp}
use Rattle.ledger_laws.proofs.LogGrowth.{ledger_of-last}
use Rattle.ledger_laws.proofs.RingLawHolds.{ring_law_holds}
use Rattle.ledger_laws.proofs.StepsOfLane.{own_todos}
use Rattle.ledger_laws.proofs.UpMeansAgreement.{all_front}
use Rattle.ledger_laws.proofs.walk.Logs.{holds_after, turn_in}
use Rattle.ledger_laws.proofs.walk.News.{News}
use Rattle.ledger_laws.proofs.walk.Sight.{Sight, Sender, Receiver, sight}
use Rattle.ledger_laws.proofs.walk.Turn.{Turn, Checks, Forgets, SizesOf}

-- what is shown of a lane in which nothing was begun, and of which the law of the ring holds
shown_fresh : (sizes : Sizes) (q : ℕ) (up : Bool) (writes : List Write) (indexes : List ℕ) (lane : LanePart) (ring : RingPart) → IsFreshLane writes indexes lane
    → HoldsRingLaw (ledger_lane_shown sizes q up writes indexes lane ring) → IsFresh (ledger_lane_shown sizes q up writes indexes lane ring)
shown_fresh sizes q up writes indexes lane ring fresh =
    subst (λ (l : LanePart). HoldsRingLaw (ledger_lane_shown sizes q up writes indexes l ring) → IsFresh (ledger_lane_shown sizes q up writes indexes l ring)) (sym fresh.fresh) new
  where
    new : HoldsRingLaw (ledger_lane_shown sizes q up writes indexes fresh_lane ring) → IsFresh (ledger_lane_shown sizes q up writes indexes fresh_lane ring)
    new law = record {
      two_entries = law.2.room.two_entries;
      slots = law.2.room.slots;
      rooms = λ k below. subst (λ j. length (slice_index_or ring.ring j blank_slot).payload ≡ sizes.largest) (sym (mod-eq_of_lt below)) (law.2.room.rooms k below);
      no_flags = λ k.
          let two = law.2.room.two_entries in
          let small : k % sizes.entries < sizes.entries = mod-lt k (omega arith) in
          subst (λ j. (slice_index_or ring.ring j blank_slot).flags ≡ 0) (mod-eq_of_lt small) (law.2.standing.empty (k % sizes.entries) (omega arith) (omega arith));
      index_word = law.2.back.index_word_is;
      sent = refl;
      todo = refl;
      flight = fresh.no_writes;
      returning = fresh.no_indexes;
      flagged = refl;
      got = refl;
      cleared = refl;
      acked = refl;
      freed = refl;
      phase = refl;
    }

-- a turn that brings both sides up is a check, and finds the lane as at the session's start
turn_begins : (plan : Plan) (lane : LaneName) (s : Sight) (made : Answered) (news : News) (t : Sight) → Turn plan lane s made news t → SidesKnown lane.queue s → (BothUp s → ⊥) → BothUp t
    → IsFreshLane (writes_among lane.queue t.sender.flight) (indexes_among lane.queue t.receiver.flight) t.lane
turn_begins plan lane s made news t (Checks Sender may) sides not_yet up = sides.fresh (inl (late_up s.state (up-not_down s.state may.up) may.not_yet))
turn_begins plan lane s made news t (Checks Receiver may) sides not_yet up = sides.fresh (inr (late_up s.state (up-not_down s.state may.up) may.not_yet))
turn_begins plan lane s made news t (Forgets Sender may) sides not_yet up = absurd (false≢true up.sender)
turn_begins plan lane s made news t (Forgets Receiver may) sides not_yet up = absurd (false≢true up.receiver)
turn_begins plan lane s made news t turn sides not_yet up = absurd (not_yet (record { sender = up.sender; receiver = up.receiver }))

-- On an ordinary pair a lane is shown fresh where both sides start up, and by each step that brings both up.
pub each_lane_begins_fresh : EachLaneBeginsFresh
each_lane_begins_fresh plan memories name no_raw has_ring = record {
  at_start = λ up.
      shown_fresh (SizesOf plan name) name.queue (link_up (ledger_of plan memories [] name.pair)) _ _ _ (ring_of plan memories [] name)
      (record {
        fresh = fresh-lane own name.from name.queue;
        no_writes = ap (writes_among name.queue) (fresh-flight own name.from);
        no_indexes = ap (indexes_among name.queue) (fresh-flight own (other_side name.from));
      })
      (ring_law_holds plan memories [] name no_raw tt has_ring up.sender up.receiver);
  in_session = λ steps step ordinary not_yet up.
      shown_fresh (SizesOf plan name) name.queue (link_up (ledger_of plan memories (steps ++ step ∷ []) name.pair)) _ _ _ (ring_of plan memories (steps ++ step ∷ []) name)
      (finds steps step (all_front (IsOrdinaryOn name.pair) steps step ordinary) not_yet up)
      (ring_law_holds plan memories (steps ++ step ∷ []) name no_raw ordinary has_ring up.sender up.receiver);
}
  where
    own : PairPlan
    own = pair_plan plan name.pair

    Fresh : Ledger → Type 0
    Fresh ledger =
        let s = sight name.from name.queue (ledger name.pair) in
        IsFreshLane (writes_among name.queue s.sender.flight) (indexes_among name.queue s.receiver.flight) s.lane

    finds : (steps : List Step) (step : Step) → AllByRecursion (IsOrdinaryOn name.pair) steps → (AreBothUp (ledger_of plan memories steps name.pair) name.from → ⊥)
        → AreBothUp (ledger_of plan memories (steps ++ step ∷ []) name.pair) name.from → Fresh (ledger_of plan memories (steps ++ step ∷ []))
    finds steps step ordinary not_yet =
        let log = log_of plan memories steps in
        let now = ledger_of plan memories steps in
        let turned = turn_in plan memories log now step name (own_todos plan memories steps name.pair) in
        let known = holds_after plan name (IsOrdinaryOn name.pair) _ (sides_run plan name no_raw) memories steps ordinary in
        subst (λ (after : Ledger). AreBothUp (after name.pair) name.from → Fresh after) (sym (ledger_of-last plan memories steps step))
        (λ up. turn_begins plan name (sight name.from name.queue (now name.pair)) (answered plan (memories log) now step) turned.news
        (sight name.from name.queue (ledger_after plan (memories log) now step name.pair)) turned.turn known
        (λ before. not_yet (record { sender = before.sender; receiver = before.receiver })) (record { sender = up.sender; receiver = up.receiver }))
