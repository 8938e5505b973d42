-- Checking: a side compares the peer's offer, as it is in the side's own scratchpads, with its own numbers.
use Rattle.std.specs.Prelude.{◌≡◌, ℕ, ◌==◌, ◌⊎◌, not, true, Option, Some, None, List, ◌++◌, slice_index, if◌then◌else◌}
use Rattle.pair_model.specs.Link.{is_up}
use Rattle.pair_model.specs.FreshRings.{fresh_index_words, zeroed_headers}
use Rattle.pair_model.specs.Pads.{version_pad, queues_pad, windows_pad, size_in, versions_differ, first_larger}
use Rattle.pair_model.specs.Plans.{side_plan}
use Rattle.pair_model.specs.Refusals.{Test, OfLink, OfCheck, OfOffer, OfVersion, OfQueues, OfWindows, OfSizes, in_check_order}
use Rattle.step_kinds.specs.declared.plan.SidePlan.{SidePlan}
use Rattle.step_kinds.specs.declared.names.Side.{Side}
use Rattle.step_kinds.specs.declared.plan.PairPlan.{PairPlan}
use Rattle.bridge_pair.specs.Bridge.{Bridge, book_of, bridge_bytes_of, pads_of, with_book, with_bytes}
use Rattle.bridge_pair.specs.Ends.{bytes_after}
use Rattle.bridge_pair.specs.Words.{TouchesIndexWord}
use Rattle.hand_shake.specs.Headers.{TouchesHeader}
use Rattle.hand_shake.specs.declared.CheckAnswer.{CheckAnswer}
use Rattle.hand_shake.specs.declared.CheckAnswer.TheVariants.{Up, Already, LinkDown, NotYet, Version, Queues, Windows, Size}

-- a scratchpad of the side's own
abbrev pub pad_at : Bridge → Side → ℕ → ℕ
pad_at bridge side i = slice_index (pads_of bridge side) i

-- where a number of the peer differs from the own
abbrev pub unless_same : ℕ → ℕ → (ℕ → ℕ → CheckAnswer) → CheckAnswer → CheckAnswer
unless_same seen own refusal later = if not (seen == own) then refusal seen own else later

-- where a window of the peer is larger than the own memory gives: the first such window
abbrev pub unless_larger : SidePlan → List ℕ → Option ℕ → CheckAnswer → CheckAnswer
unless_larger own pads None later = later
unless_larger own pads (Some m) later = Size (size_in pads m) own.cap

abbrev pub check_tests : Bridge → Side → Test → CheckAnswer → CheckAnswer
check_tests bridge side OfLink later = if not (is_up bridge.link.state) then LinkDown else later
check_tests bridge side OfCheck later = if (book_of bridge side).up then Already else later
check_tests bridge side OfOffer later = if pad_at bridge side version_pad == 0 then NotYet else later
check_tests bridge side OfVersion later =
    let own = (side_plan bridge.plan side).version in
    let seen = pad_at bridge side version_pad in
    if versions_differ seen own then Version seen own else later
check_tests bridge side OfQueues later = unless_same (pad_at bridge side queues_pad) (side_plan bridge.plan side).queues Queues later
check_tests bridge side OfWindows later = unless_same (pad_at bridge side windows_pad) (side_plan bridge.plan side).windows Windows later
check_tests bridge side OfSizes later =
    let own = side_plan bridge.plan side in
    unless_larger own (pads_of bridge side) (first_larger own (pads_of bridge side)) later
check_tests bridge side test later = later

abbrev pub check_answer : Bridge → Side → CheckAnswer
check_answer bridge side = in_check_order (check_tests bridge side) Up

-- all headers of the rings that the side receives in are zero, and its index words say that no entry is taken
abbrev pub fresh_rings : Bridge → Side → List ℕ
fresh_rings bridge side = bytes_after (fresh_index_words bridge.plan side ++ zeroed_headers bridge.plan side) (bridge_bytes_of bridge side)

abbrev pub came_up : Bridge → Side → Bridge
came_up bridge side = with_book (with_bytes bridge side (fresh_rings bridge side)) side (record (book_of bridge side) { up = true })

-- the side after a check: a refusal changes nothing
abbrev pub after_check_answer : Bridge → Side → CheckAnswer → Bridge
after_check_answer bridge side Up = came_up bridge side
after_check_answer bridge side answer = bridge

abbrev pub after_check : Bridge → Side → Bridge
after_check bridge side = after_check_answer bridge side (check_answer bridge side)

-- the page has a byte of a header of the side's rings that isn't zero, or of its index words
abbrev pub TouchesAnyRing : PairPlan → Side → List ℕ → ℕ → Type 0
TouchesAnyRing plan side bytes page = TouchesHeader plan side bytes page ⊎ TouchesIndexWord plan side page

-- the pages that a check promises, if it comes up
abbrev pub TouchesRings : Bridge → Side → ℕ → Type 0
TouchesRings bridge side page = (check_answer bridge side ≡ Up) × TouchesAnyRing bridge.plan side (bridge_bytes_of bridge side) page
