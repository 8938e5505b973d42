-- The writes that tickets represent, if one is put, taken out or landed.
use Rattle.std.proofs.Common.{◌≡◌, ◌≢◌, ℕ, zero, suc, ◌-◌, List, [], ◌∷◌, ◌++◌, length, map, Option, Some, None, slice_get, remove, refl, sym, ap, subst, ◌∙◌}
use Rattle.std.specs.List.{cons_option}
use Rattle.std.proofs.lemmas.List.Elements.{filter_map-append}
use Rattle.std.proofs.lemmas.Option.{none-some, same_Some}
use Rattle.order_rules.specs.Order.{Order}
use Rattle.slab.specs.Slab.{Slab, Updates}
use Rattle.posted_queue.specs.Flight.{Flight, posted}
use Rattle.posted_queue.specs.declared.ticket.Ticket.{Ticket}
use Rattle.posted_queue.specs.Tickets.{ticket_order, kept_at, ticket_writes_of, ticket_flight_of, IsTicketKept, NoneAt, AreTicketsKept}

-- a key at which nothing is kept is no ticket's
pub none_at-vacant : {W : Type 0} (order : W → Order) (slots : List (Option W)) (tickets : List Ticket) (key : ℕ) → AreTicketsKept order slots tickets → kept_at slots key ≡ None → NoneAt key tickets
none_at-vacant order slots [] key kept vacant = tt
none_at-vacant order slots (ticket ∷ rest) key kept vacant = (
  (λ same. none-some kept.0.write (sym vacant ∙ ap (kept_at slots) (sym same) ∙ kept.0.there)),
  none_at-vacant order slots rest key kept.2 vacant,
)

-- tickets with other keys are kept where a key changes, and represent the same writes
pub are_kept-update : {W : Type 0} (order : W → Order) (old new : Slab W) (tickets : List Ticket) (key : ℕ) (slot : Option W) → NoneAt key tickets → Updates old new key slot → AreTicketsKept order old.slots tickets → AreTicketsKept order new.slots tickets
are_kept-update order old new [] key slot none updates kept = tt
are_kept-update order old new (ticket ∷ rest) key slot none updates kept = (
  record { write = kept.0.write; there = updates.others ticket.key none.0 ∙ kept.0.there; order_is = kept.0.order_is },
  kept.1,
  are_kept-update order old new rest key slot none.1 updates kept.2,
)

-- Tickets of which none has a key represent the same writes when what is kept at that key changes.
pub writes_of-update : {W : Type 0} (old new : Slab W) (tickets : List Ticket) (key : ℕ) (slot : Option W) → NoneAt key tickets → Updates old new key slot → ticket_writes_of new.slots tickets ≡ ticket_writes_of old.slots tickets
writes_of-update old new [] key slot none updates = refl
writes_of-update old new (ticket ∷ rest) key slot none updates =
    ap (λ slot. cons_option slot (ticket_writes_of new.slots rest)) (updates.others ticket.key none.0)
    ∙ ap (cons_option (kept_at old.slots ticket.key)) (writes_of-update old new rest key slot none.1 updates)

-- and where a ticket with a key of its own comes after them
none_at-push : (key : ℕ) (tickets : List Ticket) (ticket : Ticket) → NoneAt key tickets → ticket.key ≢ key → NoneAt key (tickets ++ ticket ∷ [])
none_at-push key [] ticket none other = (other, tt)
none_at-push key (first ∷ rest) ticket none other = (none.0, none_at-push key rest ticket none.1 other)

are_kept-push : {W : Type 0} (order : W → Order) (slots : List (Option W)) (tickets : List Ticket) (ticket : Ticket) → AreTicketsKept order slots tickets → NoneAt ticket.key tickets → IsTicketKept order slots ticket → AreTicketsKept order slots (tickets ++ ticket ∷ [])
are_kept-push order slots [] ticket kept none is = (is, tt, tt)
are_kept-push order slots (first ∷ rest) ticket kept none is = (
  kept.0,
  none_at-push first.key rest ticket kept.1 (λ same. none.0 (sym same)),
  are_kept-push order slots rest ticket kept.2 none.1 is,
)

-- a ticket with this order
order-ticket : (order : Order) (ticket : Ticket) → ticket.kind ≡ order.kind → ticket.class ≡ order.class → order ≡ ticket_order ticket
order-ticket order ticket kind class = sym (ap (λ k. record { kind = k; class = ticket.class }) kind ∙ ap (λ c. record { kind = order.kind; class = c }) class)

-- a ticket was posted for this write: it is kept beside the others, and the write was posted
pub record PostsKept {W : Type 0} (order : W → Order) (old new : Slab W) (tickets now : Flight Ticket) (write : W) : Type 0 where
  pub kept : AreTicketsKept order new.slots now.writes
  pub after : ticket_flight_of new.slots now ≡ posted (ticket_flight_of old.slots tickets) write
  pub spare : now.spare ≡ tickets.spare - 1

-- A ticket posted for a write that is put at a vacant key posts the write, and all tickets keep their own.
pub posts_kept : {W : Type 0} (order : W → Order) (old new : Slab W) (tickets now : Flight Ticket) (ticket : Ticket) (key : ℕ) (write : W) → AreTicketsKept order old.slots tickets.writes → kept_at old.slots key ≡ None → Updates old new key (Some write) → ticket.key ≡ key → ticket.kind ≡ (order write).kind → ticket.class ≡ (order write).class → now ≡ posted tickets ticket → PostsKept order old new tickets now write
posts_kept order old new tickets now ticket key write kept vacant updates same_key kind class pushed = record {
  kept = subst (λ flight. AreTicketsKept order new.slots flight.writes) (sym pushed) (are_kept-push order new.slots tickets.writes ticket (are_kept-update order old new tickets.writes key (Some write) none updates kept) (subst (λ k. NoneAt k tickets.writes) (sym same_key) none) (record { write = write; there = there; order_is = order-ticket (order write) ticket kind class }));
  after =
      ap (ticket_flight_of new.slots) pushed
      ∙ ap (λ writes. record { writes = writes; spare = tickets.spare - 1 })
      (filter_map-append (λ t. kept_at new.slots t.key) tickets.writes (ticket ∷ [])
      ∙ ap (λ slot. ticket_writes_of new.slots tickets.writes ++ cons_option slot []) there
      ∙ ap (λ writes. writes ++ write ∷ []) (writes_of-update old new tickets.writes key (Some write) none updates));
  spare = ap (λ flight. flight.spare) pushed;
}
  where
    none : NoneAt key tickets.writes
    none = none_at-vacant order old.slots tickets.writes key kept vacant

    there : kept_at new.slots ticket.key ≡ Some write
    there = ap (kept_at new.slots) same_key ∙ updates.changed

-- a ticket that is taken out
none_at-remove : (key : ℕ) (tickets : List Ticket) (place : ℕ) → NoneAt key tickets → NoneAt key (remove tickets place)
none_at-remove key [] zero none = tt
none_at-remove key [] (suc place) none = tt
none_at-remove key (first ∷ rest) zero none = none.1
none_at-remove key (first ∷ rest) (suc place) none = (none.0, none_at-remove key rest place none.1)

-- Tickets that each represent a write of their own still do when one of them is taken out.
pub are_kept-remove : {W : Type 0} (order : W → Order) (slots : List (Option W)) (tickets : List Ticket) (place : ℕ) → AreTicketsKept order slots tickets → AreTicketsKept order slots (remove tickets place)
are_kept-remove order slots [] zero kept = tt
are_kept-remove order slots [] (suc place) kept = tt
are_kept-remove order slots (first ∷ rest) zero kept = kept.2
are_kept-remove order slots (first ∷ rest) (suc place) kept = (kept.0, none_at-remove first.key rest place kept.1, are_kept-remove order slots rest place kept.2)

-- When the ticket at a place is taken out, its write is taken out at that place of the writes.
pub writes_of-remove : {W : Type 0} (order : W → Order) (slots : List (Option W)) (tickets : List Ticket) (place : ℕ) → AreTicketsKept order slots tickets → ticket_writes_of slots (remove tickets place) ≡ remove (ticket_writes_of slots tickets) place
writes_of-remove order slots [] zero kept = refl
writes_of-remove order slots [] (suc place) kept = refl
writes_of-remove order slots (first ∷ rest) zero kept = sym (ap (λ slot. remove (cons_option slot (ticket_writes_of slots rest)) 0) kept.0.there)
writes_of-remove order slots (first ∷ rest) (suc place) kept =
    ap (λ slot. cons_option slot (ticket_writes_of slots (remove rest place))) kept.0.there
    ∙ ap (λ writes. kept.0.write ∷ writes) (writes_of-remove order slots rest place kept.2)
    ∙ sym (ap (λ slot. remove (cons_option slot (ticket_writes_of slots rest)) (suc place)) kept.0.there)

-- no other ticket has the key of one that is taken out
none_at-found : (key : ℕ) (tickets : List Ticket) (place : ℕ) (ticket : Ticket) → NoneAt key tickets → slice_get tickets place ≡ Some ticket → ticket.key ≢ key
none_at-found key [] place ticket none found = absurd (none-some ticket found)
none_at-found key (first ∷ rest) zero ticket none found = subst (λ t. t.key ≢ key) (same_Some first ticket found) none.0
none_at-found key (first ∷ rest) (suc place) ticket none found = none_at-found key rest place ticket none.1 found

-- Once a ticket is taken out, none of the others has its key.
pub none_at-taken : {W : Type 0} (order : W → Order) (slots : List (Option W)) (tickets : List Ticket) (place : ℕ) (ticket : Ticket) → AreTicketsKept order slots tickets → slice_get tickets place ≡ Some ticket → NoneAt ticket.key (remove tickets place)
none_at-taken order slots [] zero ticket kept found = tt
none_at-taken order slots [] (suc place) ticket kept found = tt
none_at-taken order slots (first ∷ rest) zero ticket kept found = subst (λ t. NoneAt t.key rest) (same_Some first ticket found) kept.1
none_at-taken order slots (first ∷ rest) (suc place) ticket kept found = (
  (λ same. none_at-found first.key rest place ticket kept.1 found (sym same)),
  none_at-taken order slots rest place ticket kept.2 found,
)

-- each write has its ticket's order and place
pub orders-kept : {W : Type 0} (order : W → Order) (slots : List (Option W)) (tickets : List Ticket) → AreTicketsKept order slots tickets → map order (ticket_writes_of slots tickets) ≡ map ticket_order tickets
orders-kept order slots [] kept = refl
orders-kept order slots (first ∷ rest) kept =
    ap (λ slot. map order (cons_option slot (ticket_writes_of slots rest))) kept.0.there
    ∙ ap (λ o. o ∷ map order (ticket_writes_of slots rest)) kept.0.order_is
    ∙ ap (λ orders. ticket_order first ∷ orders) (orders-kept order slots rest kept.2)

-- Tickets that each represent a write of their own represent as many writes as there are tickets.
pub length-kept : {W : Type 0} (order : W → Order) (slots : List (Option W)) (tickets : List Ticket) → AreTicketsKept order slots tickets → length (ticket_writes_of slots tickets) ≡ length tickets
length-kept order slots [] kept = refl
length-kept order slots (first ∷ rest) kept =
    ap (λ slot. length (cons_option slot (ticket_writes_of slots rest))) kept.0.there
    ∙ ap suc (length-kept order slots rest kept.2)

-- At the place of a ticket the writes in flight have the one that is kept at the ticket's key.
pub slice_get-kept : {W : Type 0} (order : W → Order) (slots : List (Option W)) (tickets : List Ticket) (place : ℕ) (ticket : Ticket) → AreTicketsKept order slots tickets → slice_get tickets place ≡ Some ticket → slice_get (ticket_writes_of slots tickets) place ≡ kept_at slots ticket.key
slice_get-kept order slots [] place ticket kept found = absurd (none-some ticket found)
slice_get-kept order slots (first ∷ rest) zero ticket kept found =
    ap (λ slot. slice_get (cons_option slot (ticket_writes_of slots rest)) 0) kept.0.there
    ∙ sym kept.0.there
    ∙ ap (λ t. kept_at slots t.key) (same_Some first ticket found)
slice_get-kept order slots (first ∷ rest) (suc place) ticket kept found =
    ap (λ slot. slice_get (cons_option slot (ticket_writes_of slots rest)) (suc place)) kept.0.there
    ∙ slice_get-kept order slots rest place ticket kept.2 found

-- At a place where there is no ticket there is no write in flight either.
pub slice_get-none_kept : {W : Type 0} (order : W → Order) (slots : List (Option W)) (tickets : List Ticket) (place : ℕ) → AreTicketsKept order slots tickets → slice_get tickets place ≡ None → slice_get (ticket_writes_of slots tickets) place ≡ None
slice_get-none_kept order slots [] place kept none = refl
slice_get-none_kept order slots (first ∷ rest) zero kept none = absurd (none-some first (sym none))
slice_get-none_kept order slots (first ∷ rest) (suc place) kept none =
    ap (λ slot. slice_get (cons_option slot (ticket_writes_of slots rest)) (suc place)) kept.0.there
    ∙ slice_get-none_kept order slots rest place kept.2 none

-- the write of a ticket in flight is kept
pub kept-found : {W : Type 0} (order : W → Order) (slots : List (Option W)) (tickets : List Ticket) (place : ℕ) (ticket : Ticket) → AreTicketsKept order slots tickets → slice_get tickets place ≡ Some ticket → IsTicketKept order slots ticket
kept-found order slots [] place ticket kept found = absurd (none-some ticket found)
kept-found order slots (first ∷ rest) zero ticket kept found = subst (IsTicketKept order slots) (same_Some first ticket found) kept.0
kept-found order slots (first ∷ rest) (suc place) ticket kept found = kept-found order slots rest place ticket kept.2 found
