-- Tickets, which stand in flight for writes that are kept by key.
use Rattle.std.specs.Prelude.{◌≡◌, ◌≢◌, ℕ, List, [], ◌∷◌, Option, Some, None, filter_map, slice_index_or}
use Rattle.order_rules.specs.Order.{Order}
use Rattle.posted_queue.specs.Flight.{Flight}
use Rattle.posted_queue.specs.declared.ticket.Ticket.{Ticket}

-- the order of the write that a ticket represents
abbrev pub ticket_order : Ticket → Order
ticket_order ticket = record { kind = ticket.kind; class = ticket.class }

-- what is kept at a key
abbrev pub kept_at : {W : Type 0} → List (Option W) → ℕ → Option W
kept_at slots key = slice_index_or slots key None

-- the writes that these tickets represent
abbrev pub ticket_writes_of : {W : Type 0} → List (Option W) → List Ticket → List W
ticket_writes_of slots tickets = filter_map (λ ticket. kept_at slots ticket.key) tickets

-- the flight of the writes that the tickets in flight represent
abbrev pub ticket_flight_of : {W : Type 0} → List (Option W) → Flight Ticket → Flight W
ticket_flight_of slots tickets = record { writes = ticket_writes_of slots tickets.writes; spare = tickets.spare }

-- a write is kept at the ticket's key, and has the ticket's order
pub record IsTicketKept {W : Type 0} (order : W → Order) (slots : List (Option W)) (ticket : Ticket) : Type 0 where
  pub write : W
  pub there : kept_at slots ticket.key ≡ Some write
  pub order_is : order write ≡ ticket_order ticket

-- none of these tickets has this key
abbrev pub NoneAt : ℕ → List Ticket → Type 0
NoneAt key [] = Unit {0}
NoneAt key (ticket ∷ rest) = (ticket.key ≢ key) × NoneAt key rest

-- each ticket represents a write of its own
abbrev pub AreTicketsKept : {W : Type 0} → (W → Order) → List (Option W) → List Ticket → Type 0
AreTicketsKept order slots [] = Unit {0}
AreTicketsKept order slots (ticket ∷ rest) = IsTicketKept order slots ticket × NoneAt ticket.key rest × AreTicketsKept order slots rest
