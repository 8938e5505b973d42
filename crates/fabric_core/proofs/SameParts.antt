-- Comparing what is kept, one thing after the other: counts by session, queues, pairs.
use Rattle.std.proofs.Common.{◌≡◌, ◌∙◌, ◌↔◌, ℕ, zero, suc, ◌+◌, ◌<◌, ◌⊎◌, ◌&&◌, Bool, true, false, IsTrue, eq-eqb, eqb, List, [], ◌∷◌, length, get_or, map, refl, sym, ap, subst, below_more, inl, inr, arith}
use Rattle.std.proofs.Math.Bool.{beq}
use Rattle.std.proofs.lemmas.Bool.{cases_eq, eqb-true, false≢true}
use Rattle.std.proofs.lemmas.List.{get_or-map, get_or_default, length-map}
use Rattle.step_kinds.specs.declared.names.Side.{Side}
use Rattle.step_kinds.specs.declared.names.Side.TheVariants.{A, B}
use Rattle.step_kinds.specs.declared.plan.PairPlan.{PairPlan}
use Rattle.pair_model.specs.Both.{Both}
use Rattle.pair_model.specs.Link.{Link}
use Rattle.pair_model.specs.Plans.{side_plan}
use Rattle.bridge_regs.specs.Doorbell.{Doorbell}
use Rattle.bridge_pair.specs.Bridge.{Bridge, flight_of, bridge_bytes_of}
use Rattle.bridge_pair.specs.Flights.{Flying}
use Rattle.bridge_pair.specs.Same.{IsSameBridge}
use Rattle.queue_pair.specs.Same.{IsSameQueue}
use Rattle.step_kinds.specs.declared.plan.Counters.{Counters}
use Rattle.bridge_pair.specs.declared.book.SideBook.{SideBook}
use Rattle.fabric_rule.specs.Parts.{PairState, QueuePart, SessionCount, count_in, no_queue, plain_bridge, queues_of}
use Rattle.fabric_core.specs.Fabric.{no_state}
use Rattle.fabric_core.specs.Parts.{IsPairWhole}
use Rattle.fabric_core.specs.Same.{AreOfOneSide, AreSameCounts, AreSameParts, AreSameWhereCounted, HasSameQueues, IsSamePair, IsSamePart, plan_at}
use Rattle.fabric_core.specs.Sessions.{AreApart, IsNowhere, IsPlaceOf, count_seen, no_count}
use Rattle.fabric_core.specs.declared.counts.OfSession.{OfSession}
use Rattle.fabric_core.proofs.SessionTallies.{count_in-nowhere, count_in-there}

-- Counts by session

-- each place is the first one of its session
its_place : (counts : List SessionCount) (place : ℕ) → AreApart counts → place < length counts → IsPlaceOf counts (get_or counts place no_count).session place
its_place counts place apart within = record { within = within; there = refl; first = λ k before e. apart k place before within e }

-- so the count at a place is that of its session
its_count : (counts : List SessionCount) (place : ℕ) → AreApart counts → place < length counts → count_in counts (get_or counts place no_count).session ≡ (get_or counts place no_count).count
its_count counts place apart within = count_in-there counts (get_or counts place no_count).session place apart (its_place counts place apart within)

abbrev pub SameBefore : List SessionCount → List SessionCount → ℕ → Type 0
SameBefore counts other before = (k : ℕ) → k < before → count_in counts (get_or counts k no_count).session ≡ count_in other (get_or counts k no_count).session

module _ (counts : List OfSession) (other : List SessionCount) (place : ℕ) (one : OfSession) (apart : AreApart (map count_seen counts)) (within : place < length counts) (is : one ≡ get_or counts place one) where
  -- what is seen at the place
  seen : get_or (map count_seen counts) place no_count ≡ count_seen one
  seen = get_or-map count_seen counts place one no_count within ∙ ap count_seen (sym is)

  -- and its count
  own : count_in (map count_seen counts) (get_or (map count_seen counts) place no_count).session ≡ one.count
  own = its_count (map count_seen counts) place apart (subst (λ n. place < n) (sym (length-map counts count_seen)) within) ∙ ap (λ (one : SessionCount). one.count) seen

  -- one place more at which the counts are the same
  pub same_more : SameBefore (map count_seen counts) other place → count_in other one.session ≡ one.count → SameBefore (map count_seen counts) other (place + 1)
  same_more before same = below_more _ _ before (own ∙ sym same ∙ ap (λ (one : SessionCount). count_in other one.session) (sym seen))

  -- where all counts are the same, so is the one at this place
  pub differs_there : AreSameWhereCounted (map count_seen counts) other → count_in other one.session ≡ one.count
  differs_there same =
      ap (λ (one : SessionCount). count_in other one.session) (sym seen)
      ∙ sym (same place (subst (λ n. place < n) (sym (length-map counts count_seen)) within)) ∙ own

-- a session is counted at some place, or nowhere

record Found (counts : List SessionCount) (session : ℕ) : Type 0 where
  place : ℕ
  within : place < length counts
  there : (get_or counts place no_count).session ≡ session

-- either it is found, or no place has it
found_or_not : (counts : List SessionCount) (session : ℕ) → Found counts session ⊎ IsNowhere counts session (length counts)
found_or_not [] session = inr (λ k below. absurd (omega (arith, below)))
found_or_not (one ∷ counts) session = first (cases_eq one.session session) (found_or_not counts session) where
  behind : IsNowhere counts session (length counts) → (one.session ≡ session → ⊥) → (k : ℕ) → k < length (one ∷ counts) → (get_or (one ∷ counts) k no_count).session ≡ session → ⊥
  behind none differs zero below e = differs e
  behind none differs (suc k) below e = none k (omega (arith, below)) e

  first : (one.session ≡ session) ⊎ (one.session ≡ session → ⊥) → Found counts session ⊎ IsNowhere counts session (length counts) → Found (one ∷ counts) session ⊎ IsNowhere (one ∷ counts) session (length (one ∷ counts))
  first (inl e) rest = inl (record { place = 0; within = omega arith; there = e })
  first (inr differs) (inl found) = inl (record { place = suc found.place; within = omega (arith, found.within); there = found.there })
  first (inr differs) (inr none) = inr (behind none differs)

-- where each session counted in either is the same in the other, all are
pub same_both_ways : (counts other : List SessionCount) → AreSameWhereCounted counts other → AreSameWhereCounted other counts → AreSameCounts counts other
same_both_ways counts other same back session = by_place (found_or_not counts session) (found_or_not other session) where
  by_place : Found counts session ⊎ IsNowhere counts session (length counts) → Found other session ⊎ IsNowhere other session (length other) → count_in counts session ≡ count_in other session
  by_place (inl found) any = subst (λ session. count_in counts session ≡ count_in other session) found.there (same found.place found.within)
  by_place (inr none) (inl found) = subst (λ session. count_in counts session ≡ count_in other session) found.there (sym (back found.place found.within))
  by_place (inr none) (inr nor) = count_in-nowhere counts session none ∙ sym (count_in-nowhere other session nor)

-- Tests one after the other

-- a first test holds, so both hold if and only if the second does
pub both_then : (P Q : Type 0) (value test : Bool) → P → (IsTrue test ↔ Q) → value ≡ test → IsTrue value ↔ (P × Q)
both_then P Q value test has tests is =
    (λ yes. (has, tests.0 (subst (λ (test : Bool). IsTrue test) is yes)), λ both. subst (λ (test : Bool). IsTrue test) (sym is) (tests.1 both.1))

-- a first test fails, so both don't hold
pub both_else : (P Q : Type 0) (value test : Bool) → (IsTrue test ↔ P) → test ≡ false → value ≡ test → IsTrue value ↔ (P × Q)
both_else P Q value test tests fails is =
    (λ yes. absurd (false≢true (sym fails ∙ sym is ∙ yes)), λ both. absurd (false≢true (sym fails ∙ tests.1 both.0)))

-- two tests, of which the second is made only if the first holds
both_tests : (P Q : Type 0) (test and : Bool) → (IsTrue test ↔ P) → (IsTrue and ↔ Q) → IsTrue (test && and) ↔ (P × Q)
both_tests P Q true and first second = both_then P Q and and (first.0 refl) second refl
both_tests P Q false and first second = both_else P Q false false first refl refl

-- a test on numbers says whether they are equal
numbers_test : (n m : ℕ) → IsTrue (eqb n m) ↔ (n ≡ m)
numbers_test n m = (eqb-true n m, eq-eqb n m)

-- of whether two devices are stopped, and of their counters
pub stopped_test : (one other : Bool) → IsTrue (beq one other) ↔ (one ≡ other)
stopped_test true true = (λ yes. refl, λ e. refl)
stopped_test true false = (λ yes. absurd (false≢true yes), λ e. absurd (false≢true (sym e)))
stopped_test false true = (λ yes. absurd (false≢true yes), λ e. absurd (false≢true e))
stopped_test false false = (λ yes. refl, λ e. refl)

abbrev counted : ℕ → ℕ → ℕ → ℕ → ℕ → ℕ → Counters
counted tx tx_bytes refused rx rx_bytes short = record { tx = tx; tx_bytes = tx_bytes; refused = refused; rx = rx; rx_bytes = rx_bytes; short = short }

-- counters with the same six numbers are equal
counted_alike : (one other : Counters) → one.tx ≡ other.tx → one.tx_bytes ≡ other.tx_bytes → one.refused ≡ other.refused → one.rx ≡ other.rx → one.rx_bytes ≡ other.rx_bytes → one.short ≡ other.short → one ≡ other
counted_alike one other tx tx_bytes refused rx rx_bytes short =
    ap (λ (n : ℕ). counted n one.tx_bytes one.refused one.rx one.rx_bytes one.short) tx ∙ ap (λ (n : ℕ). counted other.tx n one.refused one.rx one.rx_bytes one.short) tx_bytes
    ∙ ap (λ (n : ℕ). counted other.tx other.tx_bytes n one.rx one.rx_bytes one.short) refused ∙ ap (λ (n : ℕ). counted other.tx other.tx_bytes other.refused n one.rx_bytes one.short) rx
    ∙ ap (λ (n : ℕ). counted other.tx other.tx_bytes other.refused other.rx n one.short) rx_bytes ∙ ap (λ (n : ℕ). counted other.tx other.tx_bytes other.refused other.rx other.rx_bytes n) short

-- the test on six numbers says whether counters are equal
pub counters_test : (one other : Counters) →
    IsTrue (eqb one.tx other.tx && (eqb one.tx_bytes other.tx_bytes && (eqb one.refused other.refused && (eqb one.rx other.rx && (eqb one.rx_bytes other.rx_bytes && eqb one.short other.short))))) ↔ (one ≡ other)
counters_test one other =
    let tests = both_tests _ _ _ _ (numbers_test one.tx other.tx) (both_tests _ _ _ _ (numbers_test one.tx_bytes other.tx_bytes) (both_tests _ _ _ _ (numbers_test one.refused other.refused)
    (both_tests _ _ _ _ (numbers_test one.rx other.rx) (both_tests _ _ _ _ (numbers_test one.rx_bytes other.rx_bytes) (numbers_test one.short other.short))))) in (
      λ yes. let same = tests.0 yes in counted_alike one other same.0 same.1.0 same.1.1.0 same.1.1.1.0 same.1.1.1.1.0 same.1.1.1.1.1,
      λ e. tests.1 (
        ap (λ (counters : Counters). counters.tx) e,
        (
          ap (λ (counters : Counters). counters.tx_bytes) e,
          (
            ap (λ (counters : Counters). counters.refused) e,
            (ap (λ (counters : Counters). counters.rx) e, (ap (λ (counters : Counters). counters.rx_bytes) e, ap (λ (counters : Counters). counters.short) e)),
          ),
        ),
      ),
    )

-- of all that a queue has
pub all_same : (one other : QueuePart) (value : Bool) →
    (IsTrue value ↔ ((((IsSameQueue one.queue other.queue × (one.flow.stopped ≡ other.flow.stopped)) × (one.counters ≡ other.counters)) × AreSameCounts one.accepted other.accepted) × AreSameCounts one.delivered other.delivered)) →
    IsTrue value ↔ IsSamePart one other
all_same one other value tests = (
  λ yes. let same = tests.0 yes in record { queue = same.0.0.0.0; stopped = same.0.0.0.1; counters = same.0.0.1; accepted = same.0.1; delivered = same.1 },
  λ same. tests.1 ((((same.queue, same.stopped), same.counters), same.accepted), same.delivered),
)

-- Queues

-- the queues of two pairs of one plan stand at the same places
pub of_one_side : (pair other : PairState) → IsPairWhole pair → IsPairWhole other → pair.bridge.plan ≡ other.bridge.plan → (side : Side) → AreOfOneSide (queues_of pair side) (queues_of other side)
of_one_side pair other whole others plans side =
    record {
      all = whole.all_queues side ∙ ap (λ (plan : PairPlan). (side_plan plan side).queues) plans ∙ sym (others.all_queues side);
      each = λ queue below.
          let among : queue < (side_plan pair.bridge.plan side).queues = subst (λ n. queue < n) (whole.all_queues side) below in
          let its = whole.queues side queue among in
          let theirs = others.queues side queue (subst (λ (plan : PairPlan). queue < (side_plan plan side).queues) plans among) in
          record { plan = its.its_plan ∙ plans ∙ sym theirs.its_plan; side = its.its_side ∙ sym theirs.its_side; queue = its.its_queue ∙ sym theirs.its_queue };
    }

-- One pair

-- a bridge of these parts, on which nothing is promised
abbrev bare : PairPlan → Link → Both SideBook → Both (List ℕ) → Both Doorbell → List ℕ → List ℕ → List Flying → List Flying → Bridge
bare plan link books pads bells a b from_a from_b =
    record {
      plan = plan;
      link = link;
      books = books;
      pads = pads;
      bells = bells;
      memories = record { a = record { bytes = a; promised = [] }; b = record { bytes = b; promised = [] } };
      flights = record { a = record { writes = from_a; spare = 0 }; b = record { writes = from_b; spare = 0 } };
    }

-- of two bridges of one plan with the same parts nothing but promises differs
pub plain_same : (one other : Bridge) → one.plan ≡ other.plan → IsSameBridge one other → plain_bridge one ≡ plain_bridge other
plain_same one other plans same =
    ap (λ (plan : PairPlan). bare plan one.link one.books one.pads one.bells (bridge_bytes_of one A) (bridge_bytes_of one B) (flight_of one A).writes (flight_of one B).writes) plans
    ∙ ap (λ (link : Link). bare other.plan link one.books one.pads one.bells (bridge_bytes_of one A) (bridge_bytes_of one B) (flight_of one A).writes (flight_of one B).writes) same.link
    ∙ ap (λ (books : Both SideBook). bare other.plan other.link books one.pads one.bells (bridge_bytes_of one A) (bridge_bytes_of one B) (flight_of one A).writes (flight_of one B).writes) same.books
    ∙ ap (λ (pads : Both (List ℕ)). bare other.plan other.link other.books pads one.bells (bridge_bytes_of one A) (bridge_bytes_of one B) (flight_of one A).writes (flight_of one B).writes) same.pads
    ∙ ap (λ (bells : Both Doorbell). bare other.plan other.link other.books other.pads bells (bridge_bytes_of one A) (bridge_bytes_of one B) (flight_of one A).writes (flight_of one B).writes) same.bells
    ∙ ap (λ (a : List ℕ). bare other.plan other.link other.books other.pads other.bells a (bridge_bytes_of one B) (flight_of one A).writes (flight_of one B).writes) (same.bytes A)
    ∙ ap (λ (b : List ℕ). bare other.plan other.link other.books other.pads other.bells (bridge_bytes_of other A) b (flight_of one A).writes (flight_of one B).writes) (same.bytes B)
    ∙ ap (λ (from_a : List Flying). bare other.plan other.link other.books other.pads other.bells (bridge_bytes_of other A) (bridge_bytes_of other B) from_a (flight_of one B).writes) (same.writes A)
    ∙ ap (λ (from_b : List Flying). bare other.plan other.link other.books other.pads other.bells (bridge_bytes_of other A) (bridge_bytes_of other B) (flight_of other A).writes from_b) (same.writes B)

-- and where nothing but promises differs, the parts are the same
pub same_by_plain : (one other : Bridge) → plain_bridge one ≡ plain_bridge other → IsSameBridge one other
same_by_plain one other same =
    record {
      link = ap (λ (bridge : Bridge). bridge.link) same;
      books = ap (λ (bridge : Bridge). bridge.books) same;
      pads = ap (λ (bridge : Bridge). bridge.pads) same;
      bells = ap (λ (bridge : Bridge). bridge.bells) same;
      bytes = same_bytes one other same;
      writes = same_writes one other same;
    }
  where
    same_bytes : (one other : Bridge) → plain_bridge one ≡ plain_bridge other → (side : Side) → bridge_bytes_of one side ≡ bridge_bytes_of other side
    same_bytes one other same A = ap (λ (bridge : Bridge). bridge_bytes_of bridge A) same
    same_bytes one other same B = ap (λ (bridge : Bridge). bridge_bytes_of bridge B) same

    same_writes : (one other : Bridge) → plain_bridge one ≡ plain_bridge other → (side : Side) → (flight_of one side).writes ≡ (flight_of other side).writes
    same_writes one other same A = ap (λ (bridge : Bridge). (flight_of bridge A).writes) same
    same_writes one other same B = ap (λ (bridge : Bridge). (flight_of bridge B).writes) same

-- the queues of both sides are the same where those of each are
pub both_sides : (pair other : PairState) → AreSameParts pair.queues.a other.queues.a → AreSameParts pair.queues.b other.queues.b → HasSameQueues pair other
both_sides pair other a b A = a
both_sides pair other a b B = b

-- so the tests on these say whether they are
pub queues_test : (pair other : PairState) (value : Bool) → (IsTrue value ↔ (AreSameParts pair.queues.a other.queues.a × AreSameParts pair.queues.b other.queues.b)) → IsTrue value ↔ HasSameQueues pair other
queues_test pair other value tests = (λ yes. let same = tests.0 yes in both_sides pair other same.0 same.1, λ same. tests.1 (same A, same B))

-- what is so of two bridges is so of those that contracts see
pub bridges_seen : (R : Bridge → Bridge → Type 0) (kept other told shown : PairState) → kept ≡ told → other ≡ shown → R kept.bridge other.bridge → R told.bridge shown.bridge
bridges_seen R kept other told shown is are holds =
    subst (λ (pair : PairState). R pair.bridge shown.bridge) is (subst (λ (pair : PairState). R kept.bridge pair.bridge) are holds)

-- pairs are the same where their bridges and the queues of both sides are
pub same_pair_of : (pair other : PairState) → pair.bridge.plan ≡ other.bridge.plan → IsSameBridge pair.bridge other.bridge → HasSameQueues pair other → IsSamePair pair other
same_pair_of pair other plans bridge queues = record { bridge = plain_same pair.bridge other.bridge plans bridge; queues = queues }

-- Lists of them, by place

abbrev pub SamePartsBefore : List QueuePart → List QueuePart → ℕ → Type 0
SamePartsBefore parts others before = (k : ℕ) → k < before → IsSamePart (get_or parts k no_queue) (get_or others k no_queue)

abbrev pub SamePairsBefore : List PairState → List PairState → ℕ → Type 0
SamePairsBefore pairs others before = (k : ℕ) → k < before → IsSamePair (get_or pairs k no_state) (get_or others k no_state)

-- a queue or a pair that was read at a place
pub read_at : {X : Type 0} (xs : List X) (place : ℕ) (x d : X) → place < length xs → x ≡ get_or xs place x → x ≡ get_or xs place d
read_at xs place x d within is = is ∙ get_or_default xs place x d within

-- pairs of the same plans are as many
pub same_count : (pairs others : List PairState) → map plan_at pairs ≡ map plan_at others → length pairs ≡ length others
same_count pairs others same = sym (length-map pairs plan_at) ∙ ap (λ (plans : List PairPlan). length plans) same ∙ length-map others plan_at

-- and have the same plan at each place
pub plans_there : (pairs others : List PairState) → map plan_at pairs ≡ map plan_at others → (k : ℕ) → k < length pairs → (get_or pairs k no_state).bridge.plan ≡ (get_or others k no_state).bridge.plan
plans_there pairs others same k below =
    let as_many : length pairs ≡ length others = same_count pairs others same in
    sym (get_or-map plan_at pairs k no_state (plan_at no_state) below) ∙ ap (λ (plans : List PairPlan). get_or plans k (plan_at no_state)) same
    ∙ get_or-map plan_at others k no_state (plan_at no_state) (subst (λ n. k < n) as_many below)
