-- The key once a write has landed.
use Rattle.std.proofs.Common.{◌≡◌, ◌∙◌, ℕ, suc, ◌+◌, ◌<◌, Bool, true, false, List, [], ◌∷◌, ◌++◌, Option, Some, None, drop, length, refl, remove, set, sym, ap, arith, subst, take}
use Rattle.std.specs.Prelude.{if◌then◌else◌}
use Rattle.std.specs.List.{AllByRecursion, flat_map}
use Rattle.std.proofs.lemmas.Grind.{flat_map-append}
use Rattle.std.proofs.lemmas.List.{append_assoc, set_split}
use Rattle.std.proofs.lemmas.List.Concat.{flat_map-cons}
use Rattle.step_kinds.specs.Sides.{other_side}
use Rattle.step_kinds.specs.declared.names.Side.{Side}
use Rattle.step_kinds.specs.declared.names.Side.TheVariants.{A, B}
use Rattle.step_kinds.specs.declared.plan.Plan.{Plan}
use Rattle.step_kinds.specs.declared.steps.Answer.TheVariants.{Landed}
use Rattle.step_kinds.specs.declared.steps.Step.{Step}
use Rattle.step_kinds.specs.declared.steps.Step.TheVariants.{Land}
use Rattle.pair_model.specs.Both.{Both, with_side}
use Rattle.pair_model.specs.DeclaredPlans.{IsPairOf, IsPermitted}
use Rattle.posted_queue.specs.Flight.{Flight}
use Rattle.posted_queue.specs.Landing.{flight_after_landing, answer_for}
use Rattle.posted_queue.specs.declared.LandAnswer.{LandAnswer}
use Rattle.posted_queue.specs.declared.LandAnswer.TheVariants as landing_answer
use Rattle.bridge_pair.specs.Bridge.{Bridge, flight_of, with_flight}
use Rattle.bridge_pair.specs.Calls.{after_land, after_landed, bridge_arrived, landing}
use Rattle.bridge_pair.specs.Flights.{Flying, flying_order}
use Rattle.bridge_pair.specs.declared.flying_write.Arrival.{Arrival}
use Rattle.bridge_pair.specs.declared.flying_write.Arrival.TheVariants.{AtAddress, AtBell, AtPad}
use Rattle.fabric_rule.specs.Parts.{PairState}
use Rattle.fabric_core.specs.Fabric.{pair_of, plan_kept}
use Rattle.fabric_core.specs.FrameDue.{rule_answer}
use Rattle.fabric_core.specs.InFlight.{KeyOnceLanded, labels_key, pair_key, pair_key_without}
use Rattle.fabric_core.proofs.LandedFabrics.{has_landed, landed_pair, made_landing, one_answer}
use Rattle.fabric_core.proofs.SameFabrics.{same_keys}
use Rattle.fabric_core.proofs.StepsOfFabrics.{among_pairs, plan_of_standing, rule_answers, with_pair}

-- One pair

-- a write that landed might land
might : (found : Option Flying) (test : Bool) (flying : Flying) → answer_for found test ≡ landing_answer.Landed flying → test ≡ true
might None test flying is = cc is
might (Some write) true flying is = refl
might (Some write) false flying is = cc is

-- what arrives is in flight no more, and changes nothing else in flight
flights_arrived : (bridge : Bridge) (side : Side) (arrival : Arrival) → (bridge_arrived bridge side arrival).flights ≡ bridge.flights
flights_arrived bridge side (AtAddress at bytes) = refl
flights_arrived bridge side (AtPad index value) = refl
flights_arrived bridge side (AtBell bit) = refl

-- a side's flight without the write at a place
abbrev without : Bridge → Side → ℕ → Flight Flying
without bridge side place = record { writes = remove (flight_of bridge side).writes place; spare = (flight_of bridge side).spare }

flights_landed : (bridge : Bridge) (side : Side) (place : ℕ) (flying : Flying) → landing bridge side place ≡ landing_answer.Landed flying →
    (after_land bridge side place).flights ≡ with_side bridge.flights side (without bridge side place)
flights_landed bridge side place flying is =
    let taken : Bridge = with_flight bridge side (flight_after_landing flying_order (flight_of bridge side) place) in
    ap (λ (answer : LandAnswer Flying). (after_landed taken (other_side side) answer).flights) is
    ∙ flights_arrived taken (other_side side) flying.arrival
    ∙ ap (λ (test : Bool). with_side bridge.flights side (if test then without bridge side place else flight_of bridge side)) (might _ _ flying is)

-- the key of a pair, by its flights
abbrev key_of_flights : Both (Flight Flying) → List ℕ
key_of_flights flights = (labels_key flights.a.writes ++ 0 ∷ []) ++ (labels_key flights.b.writes ++ 0 ∷ [])

key_landed : (pair : PairState) (k : ℕ) (side : Side) (place : ℕ) (flying : Flying) → landing pair.bridge side place ≡ landing_answer.Landed flying →
    pair_key (landed_pair pair k side place) ≡ pair_key_without pair side place
key_landed pair k A place flying is = ap key_of_flights (flights_landed pair.bridge A place flying is)
key_landed pair k B place flying is = ap key_of_flights (flights_landed pair.bridge B place flying is)

-- All pairs

keys_set : (pairs : List PairState) (k : ℕ) (pair : PairState) → k < length pairs →
    flat_map pair_key (set pairs k pair) ≡ flat_map pair_key (take k pairs) ++ pair_key pair ++ flat_map pair_key (drop (k + 1) pairs)
keys_set pairs k pair below =
    let next : suc k ≡ k + 1 = omega arith in
    ap (flat_map pair_key) (set_split pairs k pair below ∙ ap (λ (n : ℕ). take k pairs ++ pair ∷ drop n pairs) next) ∙ flat_map-append pair_key (take k pairs) (pair ∷ drop (k + 1) pairs)
    ∙ ap (λ (behind : List ℕ). flat_map pair_key (take k pairs) ++ behind) (flat_map-cons pair_key pair (drop (k + 1) pairs))
    ∙ sym (append_assoc (flat_map pair_key (take k pairs)) (pair_key pair) (flat_map pair_key (drop (k + 1) pairs)))

-- The law

last_of : (P : Step → Type 0) (steps : List Step) (step : Step) → AllByRecursion P (steps ++ step ∷ []) → P step
last_of P [] step all = all.0
last_of P (first ∷ steps) step all = last_of P steps step all.1

-- If a landing is answered `landed`, the key without the write is that of each fabric that has made the landing too.
pub key_once_landed : KeyOnceLanded
unfolding rule_answer
key_once_landed plan steps k side place label fabric other made answered owns =
    let step : Step = Land k side place in
    let kept = plan_of_standing plan steps fabric made.stands in
    let plans : plan_kept fabric ≡ plan_kept other = kept ∙ sym (plan_of_standing plan (steps ++ step ∷ []) other owns.stands) in
    let pair : IsPairOf (plan_kept fabric) k = subst (λ (plan : Plan). IsPairOf plan k) (sym kept) (last_of (IsPermitted plan) steps step owns.permitted) in
    let after : PairState = landed_pair (pair_of fabric k) k side place in
    let told : rule_answer fabric step ≡ Landed label = one_answer plan steps step (rule_answer fabric step) (Landed label) (rule_answers fabric step after pair plan steps made) answered in
    let write = has_landed (landing (pair_of fabric k).bridge side place) label told in
    let front = flat_map pair_key (take k fabric.pairs) in
    let back = flat_map pair_key (drop (k + 1) fabric.pairs) in
    ap (λ (key : List ℕ). front ++ key ++ back) (sym (key_landed (pair_of fabric k) k side place write.0 write.1))
    ∙ sym (keys_set fabric.pairs k after (among_pairs fabric step after pair))
    ∙ same_keys plan (steps ++ step ∷ []) (with_pair fabric k after) other (made_landing fabric other k side place plans pair plan steps made) owns
