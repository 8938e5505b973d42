-- The offer of a side of a declared pair.
use Rattle.std.proofs.Common.{◌≡◌, ◌≢◌, ◌+◌, ◌*◌, ◌<◌, ◌≤◌, length, arith}
use Rattle.pair_model.specs.Pads.{offers}
use Rattle.pair_model.specs.DeclaredPlans.{IsPair, IsSide}
use Rattle.pair_model.specs.Plans.{side_plan}
use Rattle.step_kinds.specs.declared.names.Side.{Side}
use Rattle.step_kinds.specs.declared.names.Side.TheVariants.{A, B}
use Rattle.step_kinds.specs.declared.plan.PairPlan.{PairPlan}
use Rattle.bridge_pair.specs.Bridge.{Bridge, IsBridge, book_of, offer_length}
use Rattle.hand_shake.proofs.OfferPlaces.{length_offers}

-- Each side of a pair that a script can declare is a side as a script can declare it.
pub own_side : (plan : PairPlan) (side : Side) → IsPair plan → IsSide (side_plan plan side)
own_side plan A declared = declared.side_a
own_side plan B declared = declared.side_b

-- The offer of a side of a declared pair has two scratchpads for each of the side's windows, and three more.
pub own_length : (plan : PairPlan) (side : Side) → IsPair plan → length (offers (side_plan plan side)) ≡ 2 * (side_plan plan side).windows + 3
own_length plan side declared = length_offers (side_plan plan side)

-- where the offer is not whole some of it is left
pub some_left : (bridge : Bridge) (side : Side) → IsBridge bridge → (book_of bridge side).offered ≢ length (offers (side_plan bridge.plan side))
    → ((book_of bridge side).offered < offer_length bridge.plan side) × ((book_of bridge side).offered < 11)
some_left bridge side is more =
    let whole = own_length bridge.plan side is.plan in
    let fits : (book_of bridge side).offered ≤ offer_length bridge.plan side = (is.books side).offered in
    let few : (side_plan bridge.plan side).windows ≤ 4 = (own_side bridge.plan side is.plan).windows.1 in
    (omega (arith, whole, fits, more), omega (arith, whole, fits, more, few))
