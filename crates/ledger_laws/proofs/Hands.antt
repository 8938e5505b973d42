-- A receiver that clears an entry clears the one that it took last, on raw pairs too: how its counts stand in each
-- phase.
use Rattle.std.proofs.Common.{◌≡◌, ℕ, ◌+◌, List, false, true, refl, sym, ap, subst, inl, inr, ◌⊎◌}
use Rattle.std.proofs.lemmas.Bool.{false≢true, both_ways}
use Rattle.step_kinds.specs.Bits.{has_bit}
use Rattle.step_kinds.specs.Sides.{other_side}
use Rattle.step_kinds.specs.declared.names.LaneName.{LaneName}
use Rattle.step_kinds.specs.declared.names.Side.{Side}
use Rattle.step_kinds.specs.declared.names.Side.TheVariants.{A, B}
use Rattle.step_kinds.specs.declared.plan.Plan.{Plan}
use Rattle.step_kinds.specs.declared.steps.Step.{Step}
use Rattle.lane_model.specs.declared.Phase.{Phase}
use Rattle.lane_model.specs.declared.Phase.TheVariants.{Idle, Copying, Copied, Cleared}
use Rattle.pair_model.specs.Link.{is_down}
use Rattle.pair_model.specs.Plans.{pair_plan}
use Rattle.pair_model.specs.declared.LinkState.{LinkState}
use Rattle.ledger_model.specs.Ledger.{LanePart, lane_to, side_of}
use Rattle.ledger_model.specs.Log.{Answered, Memories, ledger_of}
use Rattle.ledger_model.specs.Receiving.{is_idle, is_copying, is_copied, is_cleared}
use Rattle.ledger_laws.proofs.AtStart.{fresh-lane, up-not_down}
use Rattle.ledger_laws.proofs.FramesInOrder.{empty_set}
use Rattle.ledger_laws.proofs.walk.Logs.{HoldsAlways, always_after}
use Rattle.ledger_laws.proofs.walk.News.{News}
use Rattle.ledger_laws.proofs.walk.Sight.{Sight, Sender, Receiver, sight}
use Rattle.ledger_laws.proofs.walk.Turn.{Turn, Hand, hand_of, Trains, Breaks, Drops, Forgets, Joins, Strays, Looks, CopiesEntry, CopiesLast, Clears, Acks}

-- one entry more was taken than cleared where an entry was copied and not yet cleared, and else as many
abbrev IsEven : Phase → ℕ → ℕ → Type 0
IsEven Copied got cleared = got ≡ cleared + 1
IsEven phase got cleared = got ≡ cleared

even : (phase : Phase) (got cleared : ℕ) → is_copied phase ≡ false → IsEven phase got cleared → got ≡ cleared
even Copied got cleared isnt h = absurd (false≢true (sym isnt))
even Idle got cleared isnt h = h
even Copying got cleared isnt h = h
even Cleared got cleared isnt h = h

one_taken : (phase : Phase) (got cleared : ℕ) → is_copied phase ≡ true → IsEven phase got cleared → got ≡ cleared + 1
one_taken Copied got cleared is h = h
one_taken Idle got cleared is h = absurd (false≢true is)
one_taken Copying got cleared is h = absurd (false≢true is)
one_taken Cleared got cleared is h = absurd (false≢true is)

-- a phase is one alone
idle_alone : (phase : Phase) → is_idle phase ≡ true → (is_copying phase ≡ false) × ((is_copied phase ≡ false) × (is_cleared phase ≡ false))
idle_alone Idle is = (refl, (refl, refl))
idle_alone Copying is = absurd (false≢true is)
idle_alone Copied is = absurd (false≢true is)
idle_alone Cleared is = absurd (false≢true is)

copying_alone : (phase : Phase) → is_copying phase ≡ true → is_copied phase ≡ false
copying_alone Copying is = refl
copying_alone Idle is = refl
copying_alone Copied is = absurd (false≢true is)
copying_alone Cleared is = refl

cleared_alone : (phase : Phase) → is_cleared phase ≡ true → is_copied phase ≡ false
cleared_alone Cleared is = refl
cleared_alone Idle is = refl
cleared_alone Copied is = absurd (false≢true is)
cleared_alone Copying is = refl

-- a receiver that has forgotten a lost session holds nothing, and gets nothing before the next
record HoldsNothing (q : ℕ) (state : LinkState) (joined : ℕ) (phase : Phase) : Type 0 where
  down : is_down state ≡ true
  not_joined : has_bit joined q ≡ false
  idle : is_idle phase ≡ true

abbrev HeldBy : ℕ → LinkState → ℕ → Hand → Type 0
HeldBy q state joined hand = IsEven hand.phase hand.got hand.cleared ⊎ HoldsNothing q state joined hand.phase

abbrev HeldOf : ℕ → Sight → Type 0
HeldOf q s = HeldBy q s.state s.receiver.joined (hand_of s.lane)

-- where the receiver is in another phase than idle, or the queue is joined, or the link isn't down
even_in : (q : ℕ) (state : LinkState) (joined : ℕ) (hand : Hand) → is_idle hand.phase ≡ false → HeldBy q state joined hand → IsEven hand.phase hand.got hand.cleared
even_in q state joined hand busy (inl h) = h
even_in q state joined hand busy (inr none) = absurd (both_ways (is_idle hand.phase) busy none.idle)

even_joined : (q : ℕ) (state : LinkState) (joined : ℕ) (hand : Hand) → has_bit joined q ≡ true → HeldBy q state joined hand → IsEven hand.phase hand.got hand.cleared
even_joined q state joined hand has (inl h) = h
even_joined q state joined hand has (inr none) = absurd (both_ways (has_bit joined q) none.not_joined has)

even_up : (q : ℕ) (state : LinkState) (joined : ℕ) (hand : Hand) → is_down state ≡ false → HeldBy q state joined hand → IsEven hand.phase hand.got hand.cleared
even_up q state joined hand up (inl h) = h
even_up q state joined hand up (inr none) = absurd (both_ways (is_down state) up none.down)

busy_copying : (phase : Phase) → is_copying phase ≡ true → is_idle phase ≡ false
busy_copying Copying is = refl
busy_copying Idle is = absurd (false≢true is)
busy_copying Copied is = refl
busy_copying Cleared is = refl

busy_copied : (phase : Phase) → is_copied phase ≡ true → is_idle phase ≡ false
busy_copied Copied is = refl
busy_copied Idle is = absurd (false≢true is)
busy_copied Copying is = refl
busy_copied Cleared is = refl

busy_cleared : (phase : Phase) → is_cleared phase ≡ true → is_idle phase ≡ false
busy_cleared Cleared is = refl
busy_cleared Idle is = absurd (false≢true is)
busy_cleared Copying is = refl
busy_cleared Copied is = refl

module _ (q : ℕ) (s : Sight) (h : HeldOf q s) where
  -- of an entry that is copied whole
  took : is_copying s.lane.phase ≡ true → s.lane.got + 1 ≡ s.lane.cleared + 1
  took turn = ap (λ n. n + 1) (even s.lane.phase _ _ (copying_alone s.lane.phase turn) (even_in q s.state s.receiver.joined (hand_of s.lane) (busy_copying s.lane.phase turn) h))

  -- of one that was given back
  gave : is_cleared s.lane.phase ≡ true → s.lane.got ≡ s.lane.cleared
  gave turn = even s.lane.phase _ _ (cleared_alone s.lane.phase turn) (even_in q s.state s.receiver.joined (hand_of s.lane) (busy_cleared s.lane.phase turn) h)

held_kept : (plan : Plan) (lane : LaneName) (s : Sight) (made : Answered) (news : News) (t : Sight) → Turn plan lane s made news t → HeldOf lane.queue s → HeldOf lane.queue t
held_kept plan lane s made news t (Trains may) h = inl refl
held_kept plan lane s made news t (Breaks may) h = inl (even_up lane.queue s.state s.receiver.joined (hand_of s.lane) (up-not_down s.state may.up) h)
held_kept plan lane s made news t (Drops may) (inl h) = inl h
held_kept plan lane s made news t (Drops may) (inr none) = inr (record { down = refl; not_joined = none.not_joined; idle = none.idle })
held_kept plan lane s made news t (Forgets Sender may) h = h
held_kept plan lane s made news t (Forgets Receiver may) h = inr (record { down = may.down; not_joined = empty_set 0 lane.queue refl; idle = refl })
held_kept plan lane s made news t (Joins Sender queue may) h = h
held_kept plan lane s made news t (Joins Receiver queue may) h = inl (even_up lane.queue s.state s.receiver.joined (hand_of s.lane) (up-not_down s.state may.up) h)
held_kept plan lane s made news t (Strays after may) h = elim may.hand [
  | inl same ↦ subst (HeldBy lane.queue s.state s.receiver.joined) (sym same) h
  | inr given ↦ subst (HeldBy lane.queue s.state s.receiver.joined) (sym given.1) (inl (gave lane.queue s h given.0))
]
held_kept plan lane s made news t (Looks len left may) h =
    inl (even s.lane.phase _ _ (idle_alone s.lane.phase may.idle).1.0 (even_joined lane.queue s.state s.receiver.joined (hand_of s.lane) may.joined h))
held_kept plan lane s made news t (CopiesEntry bytes may) h = inl (took lane.queue s h may.copy.turn)
held_kept plan lane s made news t (CopiesLast bytes may) h = inl (took lane.queue s h may.copy.turn)
held_kept plan lane s made news t (Clears may) h =
    inl (one_taken s.lane.phase _ _ may.turn (even_in lane.queue s.state s.receiver.joined (hand_of s.lane) (busy_copied s.lane.phase may.turn) h))
held_kept plan lane s made news t (Acks may) h = inl (gave lane.queue s h may.turn)
held_kept plan lane s made news t turn h = h

held_runs : (plan : Plan) (lane : LaneName) → HoldsAlways plan lane (λ log s. HeldOf lane.queue s)
held_runs plan lane = record {
  fresh = inl (subst (λ (l : LanePart). IsEven l.phase l.got l.cleared) (sym (fresh-lane (pair_plan plan lane.pair) lane.from lane.queue)) refl);
  turns = λ log s made news t tells turn h. held_kept plan lane s made news t turn h;
}

-- what a receiver clears is the entry that it took last
pub clears_last : (plan : Plan) (memories : Memories) (steps : List Step) (pair : ℕ) (side : Side) (queue : ℕ) →
    let lane = lane_to (ledger_of plan memories steps pair) side queue in
    is_copied lane.phase ≡ true → lane.got ≡ lane.cleared + 1
clears_last plan memories steps pair side queue copied =
    let lane = lane_to (ledger_of plan memories steps pair) side queue in
    one_taken lane.phase _ _ copied (even_in queue _ _ (hand_of lane) (busy_copied lane.phase copied) (always_after plan own _ (held_runs plan own) memories steps))
  where
    own : LaneName
    own = record { pair = pair; from = other_side side; queue = queue }

-- a receiver whose queue is joined, and that holds nothing, has cleared all entries that it took
pub cleared_all : (plan : Plan) (memories : Memories) (steps : List Step) (pair : ℕ) (side : Side) (queue : ℕ) →
    has_bit (side_of (ledger_of plan memories steps pair) side).joined queue ≡ true → is_idle (lane_to (ledger_of plan memories steps pair) side queue).phase ≡ true
    → (lane_to (ledger_of plan memories steps pair) side queue).got ≡ (lane_to (ledger_of plan memories steps pair) side queue).cleared
cleared_all plan memories steps pair side queue = go side
  where
    known : (from : Side) → HeldOf queue (sight from queue (ledger_of plan memories steps pair))
    known from = let own : LaneName = record { pair = pair; from = from; queue = queue } in always_after plan own _ (held_runs plan own) memories steps

    even_of : (joined : ℕ) (state : LinkState) (hand : Hand) → HeldBy queue state joined hand → has_bit joined queue ≡ true → is_idle hand.phase ≡ true → hand.got ≡ hand.cleared
    even_of joined state hand held is idle = even hand.phase _ _ (idle_alone hand.phase idle).1.0 (even_joined queue state joined hand is held)

    go : (side : Side) → has_bit (side_of (ledger_of plan memories steps pair) side).joined queue ≡ true → is_idle (lane_to (ledger_of plan memories steps pair) side queue).phase ≡ true
        → (lane_to (ledger_of plan memories steps pair) side queue).got ≡ (lane_to (ledger_of plan memories steps pair) side queue).cleared
    go A = even_of _ _ (hand_of (lane_to (ledger_of plan memories steps pair) A queue)) (known B)
    go B = even_of _ _ (hand_of (lane_to (ledger_of plan memories steps pair) B queue)) (known A)
