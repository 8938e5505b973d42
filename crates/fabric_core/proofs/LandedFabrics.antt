-- The fabric that another becomes by one more landing.
use Rattle.std.proofs.Common.{◌≡◌, ◌≢◌, ◌∙◌, ℕ, ◌<◌, List, [], ◌∷◌, ◌++◌, map, length, refl, sym, ap, subst, get_or, get_or-set_other, get_or-set_same, length-set, set, inl, inr, ◌⊎◌}
use Rattle.std.proofs.lemmas.Bool.{cases_eq}
use Rattle.std.proofs.lemmas.List.{append_cancel_left}
use Rattle.step_kinds.specs.Sides.{other_side}
use Rattle.step_kinds.specs.declared.names.Side.{Side}
use Rattle.step_kinds.specs.declared.plan.Plan.{Plan}
use Rattle.step_kinds.specs.declared.steps.Answer.{Answer}
use Rattle.step_kinds.specs.declared.steps.Answer.TheVariants.{Landed}
use Rattle.step_kinds.specs.declared.steps.Label.{Label}
use Rattle.step_kinds.specs.declared.steps.Step.{Step}
use Rattle.step_kinds.specs.declared.steps.Step.TheVariants.{Land}
use Rattle.ledger_model.specs.Log.{Answered}
use Rattle.pair_model.specs.DeclaredPlans.{IsPairOf}
use Rattle.posted_queue.specs.declared.LandAnswer.{LandAnswer}
use Rattle.posted_queue.specs.declared.LandAnswer.TheVariants as landing_answer
use Rattle.posted_queue.specs.Landing.{flight_after_landing}
use Rattle.bridge_pair.specs.Bridge.{Bridge, flight_of, with_flight}
use Rattle.bridge_pair.specs.Calls.{after_land, after_landed, bridge_arrived, landing}
use Rattle.bridge_pair.specs.Ends.{label_landed}
use Rattle.bridge_pair.specs.Flights.{Flying, flying_order}
use Rattle.bridge_pair.specs.declared.flying_write.Arrival.{Arrival}
use Rattle.bridge_pair.specs.declared.flying_write.Arrival.TheVariants.{AtAddress, AtBell, AtPad}
use Rattle.fabric_rule.specs.Answers.{of_land}
use Rattle.fabric_rule.specs.Parts.{PairState}
use Rattle.fabric_core.specs.Fabric.{FabricState, no_state, pair_of, plan_kept}
use Rattle.fabric_core.specs.LogClauses.{HasMade, IsAnswered, log_after}
use Rattle.fabric_core.specs.Same.{AreSameBut, AreSamePairs, IsSamePair, LandsAsPair, plan_at}
use Rattle.fabric_core.proofs.SameFabrics.{merged, one_list_makes_same}
use Rattle.fabric_core.proofs.SameParts.{plain_same, plans_there, same_by_plain, same_count}
use Rattle.fabric_core.proofs.StepsOfFabrics.{MadeSome, among_pairs, permitted_by, same_plan, set_moved, step_answered, step_made, with_pair}
use Rattle.fabric_rule.specs.Moves.{move_of}

-- One pair

-- a pair after a landing
abbrev pub landed_pair : PairState → ℕ → Side → ℕ → PairState
landed_pair pair k side place = (move_of [] pair (Land k side place)).after

-- what arrives leaves the plan
plan_of_arrived : (bridge : Bridge) (side : Side) (arrival : Arrival) → (bridge_arrived bridge side arrival).plan ≡ bridge.plan
plan_of_arrived bridge side (AtAddress at bytes) = refl
plan_of_arrived bridge side (AtPad index value) = refl
plan_of_arrived bridge side (AtBell bit) = refl

-- and so does a landing
plan_stays : (bridge : Bridge) (side : Side) (place : ℕ) → (after_land bridge side place).plan ≡ bridge.plan
plan_stays bridge side place = by_answer (landing bridge side place) where
  taken : Bridge
  taken = with_flight bridge side (flight_after_landing flying_order (flight_of bridge side) place)

  by_answer : (answer : LandAnswer Flying) → (after_landed taken (other_side side) answer).plan ≡ bridge.plan
  by_answer (landing_answer.Landed flying) = plan_of_arrived taken (other_side side) flying.arrival
  by_answer landing_answer.Blocked = refl
  by_answer landing_answer.Nothing = refl

-- once the write has landed it is the same as another
same_landed : (pair other : PairState) (k : ℕ) (side : Side) (place : ℕ) → pair.bridge.plan ≡ other.bridge.plan → LandsAsPair pair side place other → IsSamePair (landed_pair pair k side place) other
same_landed pair other k side place plans lands =
    record {
      bridge = plain_same (after_land pair.bridge side place) other.bridge (plan_stays pair.bridge side place ∙ plans) lands.bridge.same;
      queues = lands.queues;
    }

-- An answer that says `landed` is that of a write.
pub has_landed : (answer : LandAnswer Flying) (label : Label) → of_land (label_landed answer) ≡ Landed label → (flying : Flying) × (answer ≡ landing_answer.Landed flying)
has_landed (landing_answer.Landed flying) label is = (flying, refl)
has_landed landing_answer.Blocked label is = absurd (cc is)
has_landed landing_answer.Nothing label is = absurd (cc is)

-- and where the write landed and left the pair the same as another, it lands as that
lands_back : (pair other : PairState) (k : ℕ) (side : Side) (place : ℕ) (label : Label) → of_land (label_landed (landing pair.bridge side place)) ≡ Landed label → IsSamePair (landed_pair pair k side place) other → LandsAsPair pair side place other
lands_back pair other k side place label is same =
    let write = has_landed (landing pair.bridge side place) label is in
    record {
      bridge = record { flying = write.0; lands = write.1; same = same_by_plain (after_land pair.bridge side place) other.bridge same.bridge };
      queues = same.queues;
    }

-- All pairs

module _ (pairs others : List PairState) (k : ℕ) (side : Side) (place : ℕ) (below : k < length pairs) (plans : map plan_at pairs ≡ map plan_at others) where
  abbrev landed : PairState
  landed = landed_pair (get_or pairs k no_state) k side place

  -- all pairs are the same once the write has landed on one of them
  pub same_once_landed : LandsAsPair (get_or pairs k no_state) side place (get_or others k no_state) → AreSameBut pairs others k → AreSamePairs (set pairs k landed) others
  same_once_landed lands rest = record { all = length-set pairs k landed ∙ same_count pairs others plans; each = each } where
    each : (j : ℕ) → j < length (set pairs k landed) → IsSamePair (get_or (set pairs k landed) j no_state) (get_or others j no_state)
    each j within = here (cases_eq j k) where
      here : ((j ≡ k) ⊎ (j ≢ k)) → IsSamePair (get_or (set pairs k landed) j no_state) (get_or others j no_state)
      here (inl is) =
          subst (λ j. IsSamePair (get_or (set pairs k landed) j no_state) (get_or others j no_state)) (sym is)
          (subst (λ (pair : PairState). IsSamePair pair (get_or others k no_state)) (sym (get_or-set_same pairs k landed no_state below))
          (same_landed (get_or pairs k no_state) (get_or others k no_state) k side place (plans_there pairs others plans k below) lands))
      here (inr other) =
          subst (λ (pair : PairState). IsSamePair pair (get_or others j no_state)) (sym (get_or-set_other pairs k j landed no_state other))
          (rest j (subst (λ n. j < n) (length-set pairs k landed) within) other)

  -- and back
  pub one_landed : AreSamePairs (set pairs k landed) others → IsSamePair landed (get_or others k no_state)
  one_landed same =
      subst (λ (pair : PairState). IsSamePair pair (get_or others k no_state)) (get_or-set_same pairs k landed no_state below)
      (same.each k (subst (λ n. k < n) (sym (length-set pairs k landed)) below))

  pub others_stay : AreSamePairs (set pairs k landed) others → AreSameBut pairs others k
  others_stay same j within other =
      subst (λ (pair : PairState). IsSamePair pair (get_or others j no_state)) (get_or-set_other pairs k j landed no_state other)
      (same.each j (subst (λ n. j < n) (sym (length-set pairs k landed)) within))

-- The fabric

same_head : {X : Type 0} (x y : X) → x ∷ [] ≡ y ∷ [] → x ≡ y
same_head x y e = cc e

-- After the same steps a step has one answer.
pub one_answer : (plan : Plan) (steps : List Step) (step : Step) (one other : Answer) → IsAnswered plan steps step one → IsAnswered plan steps step other → one ≡ other
one_answer plan steps step one other is are =
    ap (λ (made : Answered). made.answer)
    (same_head (record { step = step; answer = one }) (record { step = step; answer = other })
    (append_cancel_left (log_after plan steps) (record { step = step; answer = one } ∷ []) (record { step = step; answer = other } ∷ []) (sym is ∙ are)))

module _ (fabric other : FabricState) (k : ℕ) (side : Side) (place : ℕ) (plans : plan_kept fabric ≡ plan_kept other) (pair : IsPairOf (plan_kept fabric) k) where
  abbrev pub after : PairState
  after = landed_pair (pair_of fabric k) k side place

  abbrev pub new : FabricState
  new = with_pair fabric k after

  -- the fabric on which the write landed has made the landing too
  pub made_landing : (plan : Plan) (steps : List Step) → HasMade plan steps fabric → HasMade plan (steps ++ Land k side place ∷ []) new
  made_landing plan steps made =
      let answer = (move_of fabric.devs (pair_of fabric k) (Land k side place)).answer in
      step_made plan steps (Land k side place) fabric new made (permitted_by fabric (Land k side place) after pair plan steps made) answer
      (set_moved fabric (Land k side place) after answer (among_pairs fabric (Land k side place) after pair) refl refl)

  pair_plans : map plan_at fabric.pairs ≡ map plan_at other.pairs
  pair_plans = ap (λ (plan : Plan). plan.pairs) plans

  within : k < length fabric.pairs
  within = among_pairs fabric (Land k side place) after pair

  -- both have the same plan of that pair
  pub plans_at_pair : (pair_of fabric k).bridge.plan ≡ (pair_of other k).bridge.plan
  plans_at_pair = plans_there fabric.pairs other.pairs pair_plans k within

  -- so what is the same as it has made what it has made
  pub landed_merges : MadeSome (plan_kept fabric) fabric → MadeSome (plan_kept other) other → LandsAsPair (pair_of fabric k) side place (pair_of other k) → AreSameBut fabric.pairs other.pairs k
      → (plan : Plan) (steps : List Step) → HasMade plan steps fabric → HasMade plan (steps ++ Land k side place ∷ []) other
  landed_merges own some lands rest plan steps made =
      let kept : plan_kept new ≡ plan_kept fabric = same_plan fabric new (record { steps = own.steps ++ Land k side place ∷ []; made = made_landing (plan_kept fabric) own.steps own.made }) in
      merged new other (kept ∙ plans) some (same_once_landed fabric.pairs other.pairs k side place within pair_plans lands rest) plan (steps ++ Land k side place ∷ []) (made_landing plan steps made)

  -- and what has made the landing too is the same as it
  same_as_landed : (plan : Plan) (steps : List Step) → HasMade plan steps fabric → HasMade plan (steps ++ Land k side place ∷ []) other → AreSamePairs new.pairs other.pairs
  same_as_landed plan steps made owns = (one_list_makes_same plan (steps ++ Land k side place ∷ []) new other (made_landing plan steps made) owns).pairs

  pub landed_apart : (plan : Plan) (steps : List Step) (label : Label) → HasMade plan steps fabric → IsAnswered plan steps (Land k side place) (Landed label) → HasMade plan (steps ++ Land k side place ∷ []) other → LandsAsPair (pair_of fabric k) side place (pair_of other k)
  landed_apart plan steps label made answered owns =
      let answer = (move_of fabric.devs (pair_of fabric k) (Land k side place)).answer in
      let own = step_answered plan steps (Land k side place) fabric new made (permitted_by fabric (Land k side place) after pair plan steps made) answer
      (set_moved fabric (Land k side place) after answer (among_pairs fabric (Land k side place) after pair) refl refl) in
      lands_back (pair_of fabric k) (pair_of other k) k side place label (one_answer plan steps (Land k side place) answer (Landed label) own answered)
      (one_landed fabric.pairs other.pairs k side place within pair_plans (same_as_landed plan steps made owns))

  pub others_apart : (plan : Plan) (steps : List Step) → HasMade plan steps fabric → HasMade plan (steps ++ Land k side place ∷ []) other → AreSameBut fabric.pairs other.pairs k
  others_apart plan steps made owns = others_stay fabric.pairs other.pairs k side place within pair_plans (same_as_landed plan steps made owns)
