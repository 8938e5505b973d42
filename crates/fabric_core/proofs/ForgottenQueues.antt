-- The queues of a side forget its session one after the other, and give back what they haven't used.
use Rattle.std.proofs.Common.{◌≡◌, ◌∙◌, ℕ, ◌+◌, ◌-◌, ◌<◌, ◌≤◌, List, ◌++◌, length, get_or, map, set, take, drop, refl, sym, ap, subst, arith}
use Rattle.std.proofs.lemmas.List.{get_or-append-add, get_or-drop, get_or_default, length-map, length-take-le}
use Rattle.std.proofs.lemmas.List.Edits.{map_over_more}
use Rattle.std.proofs.lemmas.List.Sums.{sum_by-drop_more}
use Rattle.step_kinds.specs.declared.names.Side.{Side}
use Rattle.step_kinds.specs.declared.names.Side.TheVariants.{A, B}
use Rattle.bridge_pair.specs.Bridge.{Bridge, flight_of, with_flight}
use Rattle.bridge_pair.specs.Flights.{Flying}
use Rattle.posted_queue.specs.Flight.{Flight, given_back}
use Rattle.fabric_rule.specs.Parts.{QueuePart, no_queue}
use Rattle.frame_ring.specs.Calls.{reset_by}
use Rattle.frame_ring.specs.Port.{PortState, unused_of}
use Rattle.fabric_core.specs.Parts.{CanForget, HasOtherRoom, all_unused}
use Rattle.fabric_rule.specs.Moves.{forgotten_queue}

-- A bridge with other room at a side

-- A bridge counts as one that differs from itself in the room of a side alone.
pub same_room : (bridge : Bridge) (side : Side) → HasOtherRoom bridge side bridge
same_room bridge A = record { rest = refl }
same_room bridge B = record { rest = refl }

-- A bridge that differs in the room of a side alone has the same plan.
pub other_plan : (old new : Bridge) (side : Side) → HasOtherRoom old side new → new.plan ≡ old.plan
other_plan old new side other = ap (λ (bridge : Bridge). bridge.plan) other.rest

flight_is : (bridge : Bridge) (side : Side) (flight : Flight Flying) → flight_of (with_flight bridge side flight) side ≡ flight
flight_is bridge A flight = refl
flight_is bridge B flight = refl

flight_again : (bridge : Bridge) (side : Side) (flight other : Flight Flying) → with_flight (with_flight bridge side other) side flight ≡ with_flight bridge side flight
flight_again bridge A flight other = refl
flight_again bridge B flight other = refl

other_again : (old mid new : Bridge) (side : Side) (spare : ℕ) → HasOtherRoom old side mid → new ≡ with_flight mid side (record { writes = (flight_of mid side).writes; spare = spare }) → HasOtherRoom old side new
other_again old mid new side spare other is =
    let room : (flight_of new side).spare ≡ spare = ap (λ (bridge : Bridge). (flight_of bridge side).spare) is ∙ ap (λ (flight : Flight Flying). flight.spare) (flight_is mid side _) in
    let writes : (flight_of mid side).writes ≡ (flight_of old side).writes =
    ap (λ (bridge : Bridge). (flight_of bridge side).writes) other.rest ∙ ap (λ (flight : Flight Flying). flight.writes) (flight_is old side _) in
    record {
      rest =
          is ∙ ap (λ (bridge : Bridge). with_flight bridge side (record { writes = (flight_of mid side).writes; spare = spare })) other.rest
          ∙ flight_again old side (record { writes = (flight_of mid side).writes; spare = spare }) _
          ∙ ap (λ writes. with_flight old side (record { writes = writes; spare = spare })) writes
          ∙ ap (λ spare. with_flight old side (record { writes = (flight_of old side).writes; spare = spare })) (sym room);
    }

reset_at : (bridge new : Bridge) (side : Side) (port : PortState) → port.side ≡ side → new ≡ reset_by port bridge → new ≡ with_flight bridge side (given_back (flight_of bridge side) (unused_of port))
reset_at bridge new side port same is = subst (λ side. new ≡ with_flight bridge side (given_back (flight_of bridge side) (unused_of port))) same is

-- A bridge that differs in a side's room alone still does after a port of that side gives back its unused promises.
pub one_forgot : (old mid new : Bridge) (side : Side) (port : PortState) → HasOtherRoom old side mid → port.side ≡ side → new ≡ reset_by port mid → HasOtherRoom old side new
one_forgot old mid new side port other same is = other_again old mid new side _ other (reset_at mid new side port same is)

-- The queue whose turn it is

still_there : (xs ys : List QueuePart) (i : ℕ) (d : QueuePart) → i < length xs → ys ≡ map forgotten_queue (take i xs) ++ drop i xs → get_or ys i d ≡ get_or xs i d
still_there xs ys i d within items =
    let first = map forgotten_queue (take i xs) in
    let count : length first ≡ i = length-map (take i xs) forgotten_queue ∙ length-take-le i xs (omega (arith, within)) in
    let at : i ≡ length first + 0 = omega (arith, count) in
    let none : i + 0 ≡ i = omega arith in
    ap (λ zs. get_or zs i d) items ∙ ap (λ n. get_or (first ++ drop i xs) n d) at ∙ get_or-append-add first (drop i xs) 0 d ∙ get_or-drop i xs 0 d ∙ ap (λ n. get_or xs n d) none

-- If the queues before place i have forgotten their session, the one at i is still as it was at first.
pub its_turn : (xs ys : List QueuePart) (i : ℕ) (part : QueuePart) → i < length xs → ys ≡ map forgotten_queue (take i xs) ++ drop i xs → part ≡ get_or ys i part → get_or xs i no_queue ≡ part
its_turn xs ys i part within items is = get_or_default xs i no_queue part within ∙ sym (is ∙ still_there xs ys i part within items)

-- The queue whose turn to forget it is has a port of the plan that the bridge has at that moment.
pub plan_then : (old mid : Bridge) (side : Side) (xs : List QueuePart) (i : ℕ) (part : QueuePart) → i < length xs → CanForget old side xs → HasOtherRoom old side mid
    → get_or xs i no_queue ≡ part → mid.plan ≡ part.queue.port.plan
plan_then old mid side xs i part within can other is =
    other_plan old mid side other ∙ sym (can.its_plan i within) ∙ ap (λ (part : QueuePart). part.queue.port.plan) is

-- The queue whose turn to forget it is has a port of the side that forgets its session.
pub side_then : (old : Bridge) (side : Side) (xs : List QueuePart) (i : ℕ) (part : QueuePart) → i < length xs → CanForget old side xs → get_or xs i no_queue ≡ part → part.queue.port.side ≡ side
side_then old side xs i part within can is = sym (ap (λ (part : QueuePart). part.queue.port.side) is) ∙ can.its_side i within

sum_then : (xs : List QueuePart) (i : ℕ) (part : QueuePart) → i < length xs → get_or xs i no_queue ≡ part → all_unused (drop i xs) ≡ unused_of part.queue.port + all_unused (drop (i + 1) xs)
sum_then xs i part within is =
    sum_by-drop_more (λ (part : QueuePart). unused_of part.queue.port) xs i no_queue within ∙ ap (λ (part : QueuePart). unused_of part.queue.port + all_unused (drop (i + 1) xs)) is

-- of numbers alone
first_fits : (sum first others spare : ℕ) → sum ≡ first + others → spare ≡ sum → first ≤ spare
first_fits sum first others spare is fits = omega (arith, is, fits)

others_fit : (sum first others spare spare_after : ℕ) → sum ≡ first + others → spare ≡ sum → spare_after ≡ spare - first → spare_after ≡ others
others_fit sum first others spare spare_after is fits after = omega (arith, is, fits, after)

-- If a side's room is what its queues from place i on haven't used, it covers what the one at i hasn't.
pub room_then : (mid : Bridge) (side : Side) (xs : List QueuePart) (i : ℕ) (part : QueuePart) → i < length xs → get_or xs i no_queue ≡ part → part.queue.port.side ≡ side
    → (flight_of mid side).spare ≡ all_unused (drop i xs) → unused_of part.queue.port ≤ (flight_of mid part.queue.port.side).spare
room_then mid side xs i part within is same room =
    subst (λ side. unused_of part.queue.port ≤ (flight_of mid side).spare) (sym same)
    (first_fits (all_unused (drop i xs)) (unused_of part.queue.port) (all_unused (drop (i + 1) xs)) (flight_of mid side).spare (sum_then xs i part within is) room)

-- Once queue i has given back what it hasn't used, its side's room is what the queues after it haven't used.
pub room_behind : (mid new : Bridge) (side : Side) (xs : List QueuePart) (i : ℕ) (part : QueuePart) → i < length xs → get_or xs i no_queue ≡ part → part.queue.port.side ≡ side
    → new ≡ reset_by part.queue.port mid → (flight_of mid side).spare ≡ all_unused (drop i xs) → (flight_of new side).spare ≡ all_unused (drop (i + 1) xs)
room_behind mid new side xs i part within is same reset room =
    let after : (flight_of new side).spare ≡ (flight_of mid side).spare - unused_of part.queue.port =
    ap (λ (bridge : Bridge). (flight_of bridge side).spare) (reset_at mid new side part.queue.port same reset) ∙ ap (λ (flight : Flight Flying). flight.spare) (flight_is mid side _) in
    others_fit (all_unused (drop i xs)) (unused_of part.queue.port) (all_unused (drop (i + 1) xs)) (flight_of mid side).spare (flight_of new side).spare (sum_then xs i part within is) room after

-- With the queue at place i forgotten too, the queues up to it are forgotten and those after it are as at first.
pub items_then : (xs ys : List QueuePart) (i : ℕ) (part new : QueuePart) → i < length xs → ys ≡ map forgotten_queue (take i xs) ++ drop i xs → part ≡ get_or ys i part → new ≡ forgotten_queue part
    → set ys i new ≡ map forgotten_queue (take (i + 1) xs) ++ drop (i + 1) xs
items_then xs ys i part new within items is new_is = ap (λ new. set ys i new) new_is ∙ map_over_more forgotten_queue xs ys i part within items is
