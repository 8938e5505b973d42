-- Offering: a side posts its numbers to the peer's scratchpads, one after the other.
use Rattle.std.specs.Prelude.{ℕ, ◌+◌, ◌==◌, not, [], ◌∷◌, ◌++◌, length, slice_index_or, if◌then◌else◌}
use Rattle.step_kinds.specs.declared.names.Side.{Side}
use Rattle.step_kinds.specs.declared.steps.Label.{Label}
use Rattle.step_kinds.specs.declared.steps.Label.TheVariants.{Pad}
use Rattle.pair_model.specs.Pads.{offers, pad_index}
use Rattle.pair_model.specs.Link.{is_up}
use Rattle.pair_model.specs.Plans.{side_plan}
use Rattle.pair_model.specs.Refusals.{Test, OfLink, OfOffer, in_offer_order}
use Rattle.bridge_pair.specs.Bridge.{Bridge, book_of, flight_of, with_book, with_flight}
use Rattle.bridge_pair.specs.Flights.{flying_of}
use Rattle.bridge_pair.specs.Writes.{PostedWrite, pad_write}
use Rattle.hand_shake.specs.declared.OfferAnswer.{OfferAnswer}
use Rattle.hand_shake.specs.declared.OfferAnswer.TheVariants.{Offered, Already, LinkDown}

-- a side posts a write while the link is up, and asks for its room itself: what is promised to others stays
abbrev pub with_posted : Bridge → Side → PostedWrite → Bridge
with_posted bridge side write =
    with_flight bridge side (record { writes = (flight_of bridge side).writes ++ flying_of bridge.plan side write ∷ []; spare = (flight_of bridge side).spare })

abbrev pub pad_value : Label → ℕ
pad_value (Pad i value) = value
pad_value label = 0

-- the next scratchpad of a side's offer
abbrev pub next_offer : Bridge → Side → Label
next_offer bridge side = slice_index_or (offers (side_plan bridge.plan side)) (book_of bridge side).offered (Pad 0 0)

abbrev pub offer_tests : Bridge → Side → Test → OfferAnswer → OfferAnswer
offer_tests bridge side OfLink later = if not (is_up bridge.link.state) then LinkDown else later
offer_tests bridge side OfOffer later = if (book_of bridge side).offered == length (offers (side_plan bridge.plan side)) then Already else later
offer_tests bridge side test later = later

abbrev pub offer_answer : Bridge → Side → OfferAnswer
offer_answer bridge side = in_offer_order (offer_tests bridge side) (Offered (pad_index (next_offer bridge side)))

abbrev pub offered : Bridge → Side → Bridge
offered bridge side =
    with_book (with_posted bridge side (pad_write (pad_index (next_offer bridge side)) (pad_value (next_offer bridge side)))) side
    (record (book_of bridge side) { offered = (book_of bridge side).offered + 1 })

-- a refusal changes nothing
abbrev pub after_offer_answer : Bridge → Side → OfferAnswer → Bridge
after_offer_answer bridge side (Offered index) = offered bridge side
after_offer_answer bridge side answer = bridge

abbrev pub after_offer : Bridge → Side → Bridge
after_offer bridge side = after_offer_answer bridge side (offer_answer bridge side)
