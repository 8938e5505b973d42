-- From which place on nothing lands, and the keys of what is in flight.
use Rattle.std.proofs.Common.{◌≡◌, ◌≢◌, ◌∙◌, ℕ, zero, suc, ◌<◌, ◌≤◌, List, [], ◌∷◌, ◌++◌, Option, Some, None, length, map, remove, take, refl, sym, ap, subst, arith}
use Rattle.std.specs.Prelude.{option_map, slice_get}
use Rattle.std.specs.List.{flat_map}
use Rattle.std.proofs.lemmas.List.{append-nil, append_assoc}
use Rattle.std.proofs.lemmas.List.Concat.{flat_map-cons}
use Rattle.std.proofs.lemmas.Option.{slice_get_past}
use Rattle.step_kinds.specs.declared.names.Side.{Side}
use Rattle.step_kinds.specs.declared.names.Side.TheVariants.{A, B}
use Rattle.step_kinds.specs.declared.plan.Plan.{Plan}
use Rattle.step_kinds.specs.declared.steps.Answer.TheVariants.{Nothing}
use Rattle.step_kinds.specs.declared.steps.Label.{Label}
use Rattle.step_kinds.specs.declared.steps.Step.TheVariants.{Land}
use Rattle.order_rules.specs.Order.{may_land}
use Rattle.pair_model.specs.DeclaredPlans.{IsPairOf}
use Rattle.posted_queue.specs.Landing.{answer_for}
use Rattle.bridge_pair.specs.Bridge.{Bridge, flight_of}
use Rattle.bridge_pair.specs.Calls.{landing}
use Rattle.bridge_pair.specs.Ends.{label_landed}
use Rattle.bridge_pair.specs.Flights.{Flying, flying_order}
use Rattle.fabric_rule.specs.Answers.{of_land}
use Rattle.fabric_rule.specs.Parts.{PairState, plain_bridge}
use Rattle.fabric_rule.proofs.Facade.{each_step_stands}
use Rattle.fabric_core.specs.Fabric.{FabricState, pair_of, plan_kept}
use Rattle.fabric_core.specs.InFlight.{LandsNoneFrom, fabric_key, flight_key, label_key, pair_key}
use Rattle.fabric_core.specs.Same.{AreSamePairs, IsSameFabric}
use Rattle.fabric_core.proofs.StepsOfFabrics.{goes_on, plan_of_standing}

-- From a place on nothing lands

-- the answer at a place after all writes
none_there : (bridge : Bridge) (side : Side) (place : ℕ) → length (flight_of bridge side).writes ≤ place → of_land (label_landed (landing bridge side place)) ≡ Nothing
none_there bridge side place beyond =
    ap (λ (found : Option Flying). of_land (label_landed (answer_for found (may_land (map flying_order (flight_of bridge side).writes) place))))
    (slice_get_past (flight_of bridge side).writes place beyond)

-- so the log answers it too
pub lands_none : (fabric : FabricState) (pair : ℕ) (side : Side) → IsPairOf (plan_kept fabric) pair → LandsNoneFrom fabric pair side (length (flight_of (pair_of fabric pair).bridge side).writes)
lands_none fabric pair side among plan steps made place beyond =
    let may : IsPairOf plan pair = subst (λ (plan : Plan). IsPairOf plan pair) (plan_of_standing plan steps fabric made.stands) among in
    goes_on plan steps (Land pair side place) Nothing
    (sym (none_there (pair_of fabric pair).bridge side place beyond)
    ∙ (each_step_stands plan steps (Land pair side place) (pair_of fabric pair) made.declared made.permitted may may (made.stands.pairs pair may)).0)

-- The key of one write more

abbrev flying_key : Flying → List ℕ
flying_key flying = label_key flying.label

-- the key of the writes before a place
abbrev pub key_before : List Flying → ℕ → List ℕ
key_before writes place = flat_map flying_key (take place writes)

abbrev pub label_at : List Flying → ℕ → Option Label
label_at writes place = option_map (λ (flying : Flying). flying.label) (slice_get writes place)

-- The key of the writes up to a place is that of the writes before it, followed by that of the label there.
pub key_more : (writes : List Flying) (place : ℕ) (label : Label) → Some label ≡ label_at writes place →
    key_before writes (suc place) ≡ key_before writes place ++ label_key label
key_more [] place label is = absurd (cc is)
key_more (flying ∷ writes) zero label is =
    let same : label ≡ flying.label = cc in
    flat_map-cons flying_key flying [] ∙ append-nil (flying_key flying) ∙ ap label_key (sym same)
key_more (flying ∷ writes) (suc place) label is =
    flat_map-cons flying_key flying (take (suc place) writes) ∙ ap (λ (rest : List ℕ). flying_key flying ++ rest) (key_more writes place label is)
    ∙ sym (append_assoc (flying_key flying) (flat_map flying_key (take place writes)) (label_key label)) ∙ ap (λ (front : List ℕ). front ++ label_key label) (sym (flat_map-cons flying_key flying (take place writes)))

-- a write stands at each place below their number
pub some_there : (writes : List Flying) (place : ℕ) → place < length writes → None ≡ label_at writes place → ⊥
some_there [] place below is = omega (arith, below)
some_there (flying ∷ writes) zero below is = cc is
some_there (flying ∷ writes) (suc place) below is = some_there writes place (omega (arith, below)) is

-- The key without a write

-- the key of the writes before a place, without one of them
abbrev pub key_before_without : List Flying → ℕ → ℕ → List ℕ
key_before_without writes without place = flat_map (λ (flying : Flying). label_key flying.label) (remove (take place writes) without)

none_without : (n : ℕ) → flat_map flying_key (remove [] n) ≡ []
none_without zero = refl
none_without (suc n) = refl

-- with the label at a place it is that of the writes up to there, unless it is the one that is left out
pub key_more_without : (writes : List Flying) (without place : ℕ) (label : Label) → place ≢ without → Some label ≡ label_at writes place →
    key_before_without writes without (suc place) ≡ key_before_without writes without place ++ label_key label
key_more_without [] without place label other is = absurd (cc is)
key_more_without (flying ∷ writes) zero zero label other is = absurd (other refl)
key_more_without (flying ∷ writes) zero (suc place) label other is = key_more writes place label is
key_more_without (flying ∷ writes) (suc without) zero label other is =
    let same : label ≡ flying.label = cc is in
    flat_map-cons flying_key flying (remove [] without) ∙ ap (λ (rest : List ℕ). flying_key flying ++ rest) (none_without without) ∙ append-nil (flying_key flying)
    ∙ ap label_key (sym same) ∙ ap (λ (front : List ℕ). front ++ label_key label) (sym (none_without (suc without)))
key_more_without (flying ∷ writes) (suc without) (suc place) label other is =
    flat_map-cons flying_key flying (remove (take (suc place) writes) without)
    ∙ ap (λ (rest : List ℕ). flying_key flying ++ rest) (key_more_without writes without place label (λ same. other (ap suc same)) is)
    ∙ sym (append_assoc (flying_key flying) (key_before_without writes without place) (label_key label))
    ∙ ap (λ (front : List ℕ). front ++ label_key label) (sym (flat_map-cons flying_key flying (remove (take place writes) without)))

-- the one that is left out adds nothing
pub key_same_without : (writes : List Flying) (without : ℕ) → key_before_without writes without (suc without) ≡ key_before_without writes without without
key_same_without [] zero = refl
key_same_without [] (suc without) = refl
key_same_without (flying ∷ writes) zero = refl
key_same_without (flying ∷ writes) (suc without) =
    flat_map-cons flying_key flying (remove (take (suc without) writes) without) ∙ ap (λ (rest : List ℕ). flying_key flying ++ rest) (key_same_without writes without)
    ∙ sym (flat_map-cons flying_key flying (remove (take without writes) without))

-- The same pairs have the same keys

-- bridges that differ in promises alone have the same key
flight_same : (one other : Bridge) (side : Side) → plain_bridge one ≡ plain_bridge other → flight_key one side ≡ flight_key other side
flight_same one other A same = ap (λ (bridge : Bridge). flight_key bridge A) same
flight_same one other B same = ap (λ (bridge : Bridge). flight_key bridge B) same

-- so have lists of pairs
keys_same : (pairs others : List PairState) → AreSamePairs pairs others → flat_map pair_key pairs ≡ flat_map pair_key others
keys_same [] [] same = refl
keys_same [] (other ∷ others) same = absurd (omega (arith, same.all))
keys_same (pair ∷ pairs) [] same = absurd (omega (arith, same.all))
keys_same (pair ∷ pairs) (other ∷ others) same =
    let first = (same.each 0 (omega arith)).bridge in
    let rest = keys_same pairs others (record { all = omega (arith, same.all); each = λ k below. same.each (suc k) (omega (arith, below)) }) in
    flat_map-cons pair_key pair pairs
    ∙ ap (λ (front : List ℕ). (front ++ flight_key pair.bridge B) ++ flat_map pair_key pairs) (flight_same pair.bridge other.bridge A first)
    ∙ ap (λ (back : List ℕ). (flight_key other.bridge A ++ back) ++ flat_map pair_key pairs) (flight_same pair.bridge other.bridge B first)
    ∙ ap (λ (behind : List ℕ). pair_key other ++ behind) rest
    ∙ sym (flat_map-cons pair_key other others)

-- and fabrics
pub same_fabric_keys : (fabric other : FabricState) → IsSameFabric fabric other → fabric_key fabric ≡ fabric_key other
same_fabric_keys fabric other same = keys_same fabric.pairs other.pairs same.pairs
