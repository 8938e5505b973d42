-- A side is up, and a queue is joined, only if the numbers of both sides agree: the side's own check has found so, or
-- both sides' have.
use Rattle.std.proofs.Common.{◌≡◌, ℕ, ◌≤◌, Bool, true, false, List, refl, sym, ap, ◌∙◌, inl, inr, ◌⊎◌, arith}
use Rattle.std.specs.Prelude.{slice_index}
use Rattle.std.proofs.lemmas.Bool.{false≢true}
use Rattle.step_kinds.specs.Bits.{has_bit}
use Rattle.step_kinds.specs.Sides.{other_side}
use Rattle.step_kinds.specs.declared.names.LaneName.{LaneName}
use Rattle.step_kinds.specs.declared.names.Side.{Side}
use Rattle.step_kinds.specs.declared.names.Side.TheVariants.{A, B}
use Rattle.step_kinds.specs.declared.plan.PairPlan.{PairPlan}
use Rattle.step_kinds.specs.declared.plan.Plan.{Plan}
use Rattle.step_kinds.specs.declared.plan.SidePlan.{SidePlan}
use Rattle.ledger_model.specs.Log.{Answered, log_of, ledger_of}
use Rattle.ledger_model.specs.Ledger.{side_of}
use Rattle.pair_model.specs.DeclaredPlans.{IsPair, Agree, IsSide}
use Rattle.pair_model.specs.Link.{is_up}
use Rattle.pair_model.specs.Plans.{pair_plan, side_plan}
use Rattle.ledger_laws.specs.Laws.{HasNumbersInRange, IsOrdinaryOn, VersionsAgree}
use Rattle.ledger_laws.specs.States.{AgreesWith, UpSideAgrees, JoinedMeansAgreement}
use Rattle.ledger_laws.proofs.AtStart.{up-not_down}
use Rattle.ledger_laws.proofs.BitSets.{no_bit}
use Rattle.ledger_laws.proofs.FreshLanes.{started, joins_at_start}
use Rattle.ledger_laws.proofs.JoinedSides.{LiveOf, JoinsOf, live_up, joins_kept}
use Rattle.ledger_laws.proofs.UpMeansAgreement.{HandshakeKnown, handshake_runs, has_found, agrees}
use Rattle.ledger_laws.proofs.walk.Logs.{HoldsOn, holds_after}
use Rattle.ledger_laws.proofs.walk.News.{News}
use Rattle.ledger_laws.proofs.walk.Sight.{Sight, Sender, Receiver, sight}
use Rattle.ledger_laws.proofs.walk.Turn.{Turn, Forgets, Checks, Joins, MayCheck}

-- A side that a script can declare

declared_side : (pair : PairPlan) → IsPair pair → (side : Side) → IsSide (side_plan pair side)
declared_side pair is A = is.side_a
declared_side pair is B = is.side_b

-- A side that a script can declare has version, queues, windows and sizes in the range that the law of a check needs.
pub in_range : (side : SidePlan) → IsSide side → HasNumbersInRange side
in_range side is = record {
  a_version = omega (arith, is.known_version.0);
  few_versions = omega (arith, is.known_version.1);
  a_queue = is.queues.0;
  few_queues = is.queues.1;
  a_window = is.windows.0;
  few_windows = is.windows.1;
  a_size = is.size.0;
  a_cap = is.cap.0;
}

known_to_one : (pair : PairPlan) → IsPair pair → (side : Side) → (4 ≤ (side_plan pair side).version) ⊎ (4 ≤ (side_plan pair (other_side side)).version)
known_to_one pair is A = is.known_transport
known_to_one pair is B = elim is.known_transport [ inl first ↦ inr first | inr second ↦ inl second ]

-- versions that are one, of which one is known, are known both
known_to_both : (own peer : ℕ) → (4 ≤ own) ⊎ (4 ≤ peer) → VersionsAgree peer own → (4 ≤ own) × (4 ≤ peer)
known_to_both own peer one (inl same) = elim one [ inl first ↦ (first, omega (arith, same, first)) | inr second ↦ (omega (arith, same, second), second) ]
known_to_both own peer one (inr both) = (both.1, both.0)

-- what a pair that starts up declares
agrees_as_declared : (pair : PairPlan) → Agree pair → (side : Side) → AgreesWith (side_plan pair side) (side_plan pair (other_side side))
agrees_as_declared pair agree A = record { versions = agree.versions; queues = sym agree.queues; windows = sym agree.windows; size_fits = agree.sizes.1 }
agrees_as_declared pair agree B = record { versions = (agree.versions.1, agree.versions.0); queues = agree.queues; windows = agree.windows; size_fits = agree.sizes.0 }

-- What holds of a side that is up, and of sides with a queue that is joined

module _ (plan : Plan) (lane : LaneName) where
  abbrev Pair : PairPlan
  Pair = pair_plan plan lane.pair

  abbrev Own : SidePlan
  Own = side_plan Pair lane.from

  abbrev Peer : SidePlan
  Peer = side_plan Pair (other_side lane.from)

  abbrev Agreed : Type 0
  Agreed = AgreesWith Own Peer

  -- the check of the lane's sender
  check_agrees : (log : List Answered) (s : Sight) → IsPair Pair → HandshakeKnown lane Peer log s → MayCheck Own s Sender → Agreed
  check_agrees log s is known may =
      let found = has_found Own s.sender.part (is_up s.state) may.passes in
      let own_side = in_range Own (declared_side Pair is lane.from) in
      let peer_side = in_range Peer (declared_side Pair is (other_side lane.from)) in
      let agree = agrees lane Own Peer log s.sender.part (is_up s.state) s.receiver.offered s.receiver.flight own_side peer_side found (known.session may.up may.not_yet) in
      record {
        versions = known_to_both Own.version Peer.version (known_to_one Pair is lane.from) agree.versions_agree;
        queues = agree.same_queues;
        windows = agree.same_windows;
        size_fits = agree.size_fits;
      }

  up_kept : (s : Sight) (made : Answered) (news : News) (t : Sight) → Turn plan lane s made news t → (MayCheck Own s Sender → Agreed) → (s.sender.up ≡ true → Agreed) → t.sender.up ≡ true → Agreed
  up_kept s made news t (Checks Sender may) check h up = check may
  up_kept s made news t (Forgets Sender may) check h up = absurd (false≢true up)
  up_kept s made news t turn check h up = h up

  -- the sender has a queue that is joined, and so has the receiver: either way the sender was up
  joined_kept : (s : Sight) (made : Answered) (news : News) (t : Sight) → Turn plan lane s made news t → (LiveOf s → JoinsOf s) → (s.sender.up ≡ true → Agreed)
      → (s.sender.joined ≡ 0) ⊎ Agreed → (t.sender.joined ≡ 0) ⊎ Agreed
  joined_kept s made news t (Forgets Sender may) joins up h = inl refl
  joined_kept s made news t (Joins Sender queue may) joins up h = elim (joins (live_up s.state (up-not_down s.state may.up))).0.ready_once_up [
    | inl none ↦ absurd (no_bit s.sender.ready queue none may.ready)
    | inr checked ↦ inr (up checked)
  ]
  joined_kept s made news t turn joins up h = h

  asked_kept : (s : Sight) (made : Answered) (news : News) (t : Sight) → Turn plan lane s made news t → (LiveOf s → JoinsOf s) → (s.sender.up ≡ true → Agreed)
      → (s.receiver.joined ≡ 0) ⊎ Agreed → (t.receiver.joined ≡ 0) ⊎ Agreed
  asked_kept s made news t (Forgets Receiver may) joins up h = inl refl
  asked_kept s made news t (Joins Receiver queue may) joins up h = elim (joins (live_up s.state (up-not_down s.state may.up))).1.pad_once_up [
    | inl none ↦ absurd (no_bit (slice_index s.receiver.pads 1) queue none may.asked)
    | inr checked ↦ inr (up checked)
  ]
  asked_kept s made news t turn joins up h = h

record AgreeKnown (plan : Plan) (lane : LaneName) (log : List Answered) (s : Sight) : Type 0 where
  handshake : HandshakeKnown lane (Peer plan lane) log s
  joins : LiveOf s → JoinsOf s
  up : s.sender.up ≡ true → Agreed plan lane
  joined : (s.sender.joined ≡ 0) ⊎ Agreed plan lane
  asked : (s.receiver.joined ≡ 0) ⊎ Agreed plan lane

-- at the start

none_up : (plan : PairPlan) (from : Side) (q : ℕ) → ((sight from q (started plan false)).sender.up ≡ true → ⊥) × ((sight from q (started plan false)).sender.joined ≡ 0)
    × ((sight from q (started plan false)).receiver.joined ≡ 0)
none_up plan A q = (false≢true, refl, refl)
none_up plan B q = (false≢true, refl, refl)

up_fresh : (plan : PairPlan) (from : Side) (q : ℕ) (up : Bool) {X : Type 0} → (up ≡ true → X) → (sight from q (started plan up)).sender.up ≡ true → X
up_fresh plan from q true agree here = agree refl
up_fresh plan from q false agree here = absurd ((none_up plan from q).0 here)

joined_fresh : (plan : PairPlan) (from : Side) (q : ℕ) (up : Bool) {X : Type 0} → (up ≡ true → X) → (s : Sight) → s ≡ sight from q (started plan up) → ((s.sender.joined ≡ 0) ⊎ X) × ((s.receiver.joined ≡ 0) ⊎ X)
joined_fresh plan from q true agree s e = (inr (agree refl), inr (agree refl))
joined_fresh plan from q false agree s e = let none = none_up plan from q in
    (inl (ap (λ (t : Sight). t.sender.joined) e ∙ none.1), inl (ap (λ (t : Sight). t.receiver.joined) e ∙ none.2))

agree_runs : (plan : Plan) (lane : LaneName) → IsPair (pair_plan plan lane.pair) → HoldsOn plan lane (IsOrdinaryOn lane.pair) (λ log s ring. AgreeKnown plan lane log s)
agree_runs plan lane is =
    let few : (Peer plan lane).windows ≤ 4 = (declared_side (Pair plan lane) is (other_side lane.from)).windows.1 in
    let declared : (Pair plan lane).up ≡ true → Agreed plan lane = λ up. agrees_as_declared (Pair plan lane) (is.up up) lane.from in
    let joined = joined_fresh (Pair plan lane) lane.from lane.queue (Pair plan lane).up declared (sight lane.from lane.queue (started (Pair plan lane) (Pair plan lane).up)) refl in
    record {
      fresh = record {
        handshake = (handshake_runs plan lane few).fresh;
        joins = λ live. joins_at_start (Pair plan lane) lane.from lane.queue (Pair plan lane).up;
        up = up_fresh (Pair plan lane) lane.from lane.queue (Pair plan lane).up declared;
        joined = joined.0;
        asked = joined.1;
      };
      turns = λ log s ring made news t ordinary tells turn h. record {
        handshake = (handshake_runs plan lane few).turns log s ring made news t ordinary tells turn h.handshake;
        joins = joins_kept plan lane s made news t ordinary turn h.handshake.empty h.handshake.settled h.joins;
        up = up_kept plan lane s made news t turn (check_agrees plan lane log s is h.handshake) h.up;
        joined = joined_kept plan lane s made news t turn h.joins h.up h.joined;
        asked = asked_kept plan lane s made news t turn h.joins h.up h.asked;
      };
    }

-- The laws

-- After ordinary steps a side is up only if versions are from 4 on, queues and windows agree and its peer's fit.
pub up_side_agrees : UpSideAgrees
up_side_agrees plan memories steps pair side is ordinary up =
    let lane : LaneName = record { pair = pair; from = side; queue = 0 } in
    (holds_after plan lane (IsOrdinaryOn pair) _ (agree_runs plan lane is) memories steps ordinary).up up

-- each way, from the side that has the queue joined
whole : (pair : PairPlan) → AgreesWith pair.a pair.b → AgreesWith pair.b pair.a → Agree pair
whole pair first second = record { versions = first.versions; queues = second.queues; windows = second.windows; sizes = (second.size_fits, first.size_fits) }

-- After ordinary steps a queue is joined only if the numbers of both sides agree and both sides' windows fit.
pub joined_means_agreement : JoinedMeansAgreement
joined_means_agreement plan memories steps pair side queue is ordinary has = go side has
  where
    lane : Side → LaneName
    lane from = record { pair = pair; from = from; queue = 0 }

    known : (from : Side) → AgreeKnown plan (lane from) (log_of plan memories steps) (sight from 0 (ledger_of plan memories steps pair))
    known from = holds_after plan (lane from) (IsOrdinaryOn pair) _ (agree_runs plan (lane from) is) memories steps ordinary

    agreed : {X : Type 0} (joined : ℕ) → has_bit joined queue ≡ true → (joined ≡ 0) ⊎ X → X
    agreed joined has (inl none) = absurd (no_bit joined queue none has)
    agreed joined has (inr agree) = agree

    go : (side : Side) → has_bit (side_of (ledger_of plan memories steps pair) side).joined queue ≡ true → Agree (pair_plan plan pair)
    go A has = whole (pair_plan plan pair) (agreed _ has (known A).joined) (agreed _ has (known B).asked)
    go B has = whole (pair_plan plan pair) (agreed _ has (known A).asked) (agreed _ has (known B).joined)
