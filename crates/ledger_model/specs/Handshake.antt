-- The handshake: each side offers its numbers in the peer's scratchpads, checks the peer's, and says which queues are
-- ready and joined. `ntb_transport` agrees on versions, queues, windows and link bits in the same way.
use Rattle.std.specs.Prelude.{ℕ, ◌+◌, ◌==◌, Bool, true, not, Option, Some, None, length, slice_index, slice_index_or}
use Rattle.step_kinds.specs.Bits.{with_bit, has_bit}
use Rattle.step_kinds.specs.declared.names.Side.{Side}
use Rattle.step_kinds.specs.declared.plan.SidePlan.{SidePlan}
use Rattle.step_kinds.specs.declared.plan.PairPlan.{PairPlan}
use Rattle.step_kinds.specs.declared.steps.Label.TheVariants.{Pad}
use Rattle.step_kinds.specs.declared.steps.Answer.{Answer}
use Rattle.step_kinds.specs.declared.steps.Answer.TheVariants.{Ok as Done, LinkDown, Already, Offered, NotYet, Version, Queues, Windows, Size, Up, NotChecked, NotReady, Joined}
use Rattle.ledger_model.specs.Ledger.{SidePart, PairPart, side_of, with_side_part, link_up, posts}
use Rattle.ledger_model.specs.Outcome.{Outcome, refuse_if, decided}
use Rattle.pair_model.specs.Pads.{version_pad, links_pad, queues_pad, windows_pad, offers, size_in, versions_differ, first_larger, pad_index}
use Rattle.pair_model.specs.Plans.{side_plan}
use Rattle.pair_model.specs.Refusals.{Test, OfLink, OfOffer, OfCheck, OfVersion, OfQueues, OfWindows, OfSizes, OfReady, OfPeer, OfJoined, in_offer_order, in_check_order, in_ready_order, in_join_order}

abbrev pub offer_refuses : PairPlan → PairPart → Side → Test → Option Answer → Option Answer
offer_refuses plan pair side OfLink later = refuse_if (not (link_up pair)) LinkDown later
offer_refuses plan pair side OfOffer later = refuse_if ((side_of pair side).offered == length (offers (side_plan plan side))) Already later
offer_refuses plan pair side test later = later

abbrev pub offer_step : PairPlan → PairPart → Side → Outcome
offer_step plan pair side =
    let own = side_of pair side in
    let offer = slice_index_or (offers (side_plan plan side)) own.offered (Pad 0 0) in
    decided pair (in_offer_order (offer_refuses plan pair side) None) (Offered (pad_index offer))
    (posts (with_side_part pair side (record own { offered = own.offered + 1 })) side offer)

-- a scratchpad
abbrev pub pad_in : SidePart → ℕ → ℕ
pad_in part i = slice_index part.pads i

-- where a number of the peer differs from the own
abbrev pub refuse_differing : ℕ → ℕ → (ℕ → ℕ → Answer) → Option Answer → Option Answer
refuse_differing seen own refusal later = refuse_if (not (seen == own)) (refusal seen own) later

-- where a window of the peer is larger than the own memory gives: the first such window
abbrev pub refuse_larger : SidePart → ℕ → Option ℕ → Option Answer → Option Answer
refuse_larger part cap None later = later
refuse_larger part cap (Some m) later = Some (Size (size_in part.pads m) cap)

abbrev pub check_refuses : SidePlan → SidePart → Bool → Test → Option Answer → Option Answer
check_refuses own part up OfLink later = refuse_if (not up) LinkDown later
check_refuses own part up OfCheck later = refuse_if part.up Already later
check_refuses own part up OfOffer later = refuse_if (pad_in part version_pad == 0) NotYet later
check_refuses own part up OfVersion later =
    let seen = pad_in part version_pad in
    refuse_if (versions_differ seen own.version) (Version seen own.version) later
check_refuses own part up OfQueues later = refuse_differing (pad_in part queues_pad) own.queues Queues later
check_refuses own part up OfWindows later = refuse_differing (pad_in part windows_pad) own.windows Windows later
check_refuses own part up OfSizes later = refuse_larger part own.cap (first_larger own part.pads) later
check_refuses own part up test later = later

abbrev pub check_refusal : SidePlan → SidePart → Bool → Option Answer
check_refusal own part up = in_check_order (check_refuses own part up) None

abbrev pub check_step : PairPlan → PairPart → Side → Outcome
check_step plan pair side =
    decided pair (check_refusal (side_plan plan side) (side_of pair side) (link_up pair)) Up
    (with_side_part pair side (record (side_of pair side) { up = true }))

abbrev pub ready_refuses : PairPart → Side → ℕ → Test → Option Answer → Option Answer
ready_refuses pair side queue OfLink later = refuse_if (not (link_up pair)) LinkDown later
ready_refuses pair side queue OfCheck later = refuse_if (not (side_of pair side).up) NotChecked later
ready_refuses pair side queue OfReady later = refuse_if (has_bit (side_of pair side).ready queue) Already later
ready_refuses pair side queue test later = later

abbrev pub ready_step : PairPart → Side → ℕ → Outcome
ready_step pair side queue =
    let own = side_of pair side in
    let ready = with_bit own.ready queue in
    decided pair (in_ready_order (ready_refuses pair side queue) None) Done
    (posts (with_side_part pair side (record own { ready = ready })) side (Pad links_pad ready))

abbrev pub join_refuses : PairPart → Side → ℕ → Test → Option Answer → Option Answer
join_refuses pair side queue OfLink later = refuse_if (not (link_up pair)) LinkDown later
join_refuses pair side queue OfReady later = refuse_if (not (has_bit (side_of pair side).ready queue)) NotReady later
join_refuses pair side queue OfJoined later = refuse_if (has_bit (side_of pair side).joined queue) Already later
join_refuses pair side queue OfPeer later = refuse_if (not (has_bit (pad_in (side_of pair side) links_pad) queue)) NotYet later
join_refuses pair side queue test later = later

abbrev pub join_step : PairPart → Side → ℕ → Outcome
join_step pair side queue =
    let own = side_of pair side in
    decided pair (in_join_order (join_refuses pair side queue) None) Joined
    (with_side_part pair side (record own { joined = with_bit own.joined queue }))
