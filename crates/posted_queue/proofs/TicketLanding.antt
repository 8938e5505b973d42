-- A landing of the write that a ticket represents.
use Rattle.std.proofs.Common.{◌≡◌, ℕ, Bool, true, false, List, map, take, Option, Some, None, option_map, slice_get, if◌then◌else◌, refl, sym, ap, subst, ◌∙◌}
use Rattle.std.specs.List.{remove}
use Rattle.std.proofs.lemmas.Option.{slice_get-map}
use Rattle.order_rules.specs.Order.{Order, lands_behind, may_land}
use Rattle.slab.specs.Slab.{Slab, Updates}
use Rattle.posted_queue.specs.Flight.{Flight}
use Rattle.posted_queue.specs.Landing.{answer_for, land_answer, flight_after_landing}
use Rattle.posted_queue.specs.declared.LandAnswer.TheVariants.{Landed, Blocked, Nothing}
use Rattle.posted_queue.specs.declared.ticket.Ticket.{Ticket}
use Rattle.posted_queue.specs.Tickets.{ticket_order, kept_at, ticket_writes_of, ticket_flight_of, IsTicketKept, NoneAt, AreTicketsKept}
use Rattle.posted_queue.proofs.TicketLemmas.{are_kept-update, writes_of-update, are_kept-remove, writes_of-remove, none_at-taken, orders-kept, slice_get-kept, slice_get-none_kept, kept-found}

-- what an answer says of what was found at a place
found-landed : {X : Type 0} (found : Option X) (may : Bool) (x : X) → Landed x ≡ answer_for found may → (found ≡ Some x) × (may ≡ true)
found-landed None may x answer = cc
found-landed (Some y) true x answer = (cc, refl)
found-landed (Some y) false x answer = cc

found-blocked : {X : Type 0} (found : Option X) (may : Bool) → Blocked ≡ answer_for found may → (x : X) × (found ≡ Some x) × (may ≡ false)
found-blocked None may answer = cc
found-blocked (Some y) true answer = cc
found-blocked (Some y) false answer = (y, refl, refl)

found-nothing : {X : Type 0} (found : Option X) (may : Bool) → Nothing ≡ answer_for found may → found ≡ None
found-nothing None may answer = refl
found-nothing (Some y) true answer = cc
found-nothing (Some y) false answer = cc

-- nothing lands where nothing is found
may_land-none : {W : Type 0} (order : W → Order) (writes : List W) (place : ℕ) → slice_get writes place ≡ None → may_land (map order writes) place ≡ false
may_land-none order writes place none = ap (λ found. lands_behind found (take place (map order writes))) (slice_get-map order writes place ∙ ap (option_map order) none)

-- what is in flight where a write may land, and where it may not
after-lands : {W : Type 0} (order : W → Order) (flight : Flight W) (place : ℕ) → may_land (map order flight.writes) place ≡ true → flight_after_landing order flight place ≡ record { writes = remove flight.writes place; spare = flight.spare }
after-lands order flight place may = ap (λ lands. if lands then record { writes = remove flight.writes place; spare = flight.spare } else flight) may

after-stays : {W : Type 0} (order : W → Order) (flight : Flight W) (place : ℕ) → may_land (map order flight.writes) place ≡ false → flight_after_landing order flight place ≡ flight
after-stays order flight place may = ap (λ lands. if lands then record { writes = remove flight.writes place; spare = flight.spare } else flight) may

-- a ticket landed that represents this write: the write landed, and the other tickets are kept
pub record LandsKept {W : Type 0} (order : W → Order) (old new : Slab W) (tickets left : Flight Ticket) (place : ℕ) (write : W) : Type 0 where
  pub answer : Landed write ≡ land_answer order (ticket_flight_of old.slots tickets) place
  pub after : ticket_flight_of new.slots left ≡ flight_after_landing order (ticket_flight_of old.slots tickets) place
  pub kept : AreTicketsKept order new.slots left.writes
  pub spare : left.spare ≡ tickets.spare

-- If a ticket lands and its key is emptied, the write that was kept there lands, and other tickets keep theirs.
pub lands_kept : {W : Type 0} (order : W → Order) (old new : Slab W) (tickets left : Flight Ticket) (place : ℕ) (ticket : Ticket) (write : W) → AreTicketsKept order old.slots tickets.writes → Landed ticket ≡ land_answer ticket_order tickets place → left ≡ flight_after_landing ticket_order tickets place → kept_at old.slots ticket.key ≡ Some write → Updates old new ticket.key None → LandsKept order old new tickets left place write
lands_kept order old new tickets left place ticket write kept answered after there updates = record {
  answer = sym (ap (λ at. answer_for at (may_land (map order (ticket_writes_of old.slots tickets.writes)) place)) (slice_get-kept order old.slots tickets.writes place ticket kept found ∙ there) ∙ ap (answer_for (Some write)) may_too);
  after =
      ap (ticket_flight_of new.slots) left_is
      ∙ ap (λ rest. record { writes = rest; spare = tickets.spare }) (writes_of-update old new (remove tickets.writes place) ticket.key None others updates ∙ writes_of-remove order old.slots tickets.writes place kept)
      ∙ sym (after-lands order (ticket_flight_of old.slots tickets) place may_too);
  kept = subst (λ t. AreTicketsKept order new.slots t.writes) (sym left_is) (are_kept-update order old new (remove tickets.writes place) ticket.key None others updates (are_kept-remove order old.slots tickets.writes place kept));
  spare = ap (λ t. t.spare) left_is;
}
  where
    found : slice_get tickets.writes place ≡ Some ticket
    found = (found-landed (slice_get tickets.writes place) (may_land (map ticket_order tickets.writes) place) ticket answered).0

    may : may_land (map ticket_order tickets.writes) place ≡ true
    may = (found-landed (slice_get tickets.writes place) (may_land (map ticket_order tickets.writes) place) ticket answered).1

    may_too : may_land (map order (ticket_writes_of old.slots tickets.writes)) place ≡ true
    may_too = ap (λ orders. may_land orders place) (orders-kept order old.slots tickets.writes kept) ∙ may

    left_is : left ≡ record { writes = remove tickets.writes place; spare = tickets.spare }
    left_is = after ∙ after-lands ticket_order tickets place may

    others : NoneAt ticket.key (remove tickets.writes place)
    others = none_at-taken order old.slots tickets.writes place ticket kept found

-- the write that its ticket represents is there
pub landed-kept : {W : Type 0} (order : W → Order) (slots : List (Option W)) (tickets : Flight Ticket) (place : ℕ) (ticket : Ticket) → AreTicketsKept order slots tickets.writes → Landed ticket ≡ land_answer ticket_order tickets place → IsTicketKept order slots ticket
landed-kept order slots tickets place ticket kept answered =
    kept-found order slots tickets.writes place ticket kept (found-landed (slice_get tickets.writes place) (may_land (map ticket_order tickets.writes) place) ticket answered).0

-- a ticket is blocked: so is its write
pub blocks_kept : {W : Type 0} (order : W → Order) (slots : List (Option W)) (tickets left : Flight Ticket) (place : ℕ) → AreTicketsKept order slots tickets.writes → Blocked ≡ land_answer ticket_order tickets place → left ≡ flight_after_landing ticket_order tickets place → (Blocked ≡ land_answer order (ticket_flight_of slots tickets) place) × (ticket_flight_of slots left ≡ flight_after_landing order (ticket_flight_of slots tickets) place) × (left ≡ tickets)
blocks_kept order slots tickets left place kept answered after = (
  sym (ap (λ at. answer_for at (may_land (map order (ticket_writes_of slots tickets.writes)) place)) (slice_get-kept order slots tickets.writes place says.0 kept says.1 ∙ is.there) ∙ ap (answer_for (Some is.write)) may_too),
  ap (ticket_flight_of slots) stays ∙ sym (after-stays order (ticket_flight_of slots tickets) place may_too),
  stays,
)
  where
    says : (t : Ticket) × (slice_get tickets.writes place ≡ Some t) × (may_land (map ticket_order tickets.writes) place ≡ false)
    says = found-blocked (slice_get tickets.writes place) (may_land (map ticket_order tickets.writes) place) answered

    is : IsTicketKept order slots says.0
    is = kept-found order slots tickets.writes place says.0 kept says.1

    may_too : may_land (map order (ticket_writes_of slots tickets.writes)) place ≡ false
    may_too = ap (λ orders. may_land orders place) (orders-kept order slots tickets.writes kept) ∙ says.2

    stays : left ≡ tickets
    stays = after ∙ after-stays ticket_order tickets place says.2

-- no ticket is at the place: nor is a write
pub nothing_kept : {W : Type 0} (order : W → Order) (slots : List (Option W)) (tickets left : Flight Ticket) (place : ℕ) → AreTicketsKept order slots tickets.writes → Nothing ≡ land_answer ticket_order tickets place → left ≡ flight_after_landing ticket_order tickets place → (Nothing ≡ land_answer order (ticket_flight_of slots tickets) place) × (ticket_flight_of slots left ≡ flight_after_landing order (ticket_flight_of slots tickets) place) × (left ≡ tickets)
nothing_kept order slots tickets left place kept answered after = (
  sym (ap (λ at. answer_for at (may_land (map order (ticket_writes_of slots tickets.writes)) place)) none_too),
  ap (ticket_flight_of slots) stays ∙ sym (after-stays order (ticket_flight_of slots tickets) place (may_land-none order (ticket_writes_of slots tickets.writes) place none_too)),
  stays,
)
  where
    none : slice_get tickets.writes place ≡ None
    none = found-nothing (slice_get tickets.writes place) (may_land (map ticket_order tickets.writes) place) answered

    none_too : slice_get (ticket_writes_of slots tickets.writes) place ≡ None
    none_too = slice_get-none_kept order slots tickets.writes place kept none

    stays : left ≡ tickets
    stays = after ∙ after-stays ticket_order tickets place (may_land-none ticket_order tickets.writes place none)
