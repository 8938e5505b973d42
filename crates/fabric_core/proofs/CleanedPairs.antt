-- A pair stays whole where a side forgets its session, and its queues with it.
use Rattle.std.proofs.Common.{◌≡◌, ◌<◌, Contains, List, map, sym, ap, subst}
use Rattle.step_kinds.specs.Sides.{other_side}
use Rattle.step_kinds.specs.declared.names.Side.{Side}
use Rattle.step_kinds.specs.declared.names.Side.TheVariants.{A, B}
use Rattle.bridge_pair.specs.Bridge.{Bridge, flight_of, pages_of}
use Rattle.bridge_pair.specs.Flights.{Flying}
use Rattle.bridge_pair.specs.Laws.{KeepsPromises}
use Rattle.posted_queue.specs.Flight.{Flight}
use Rattle.fabric_rule.specs.Parts.{QueuePart}
use Rattle.fabric_core.specs.Parts.{CanForget, HasOtherRoom, IsPairWhole}
use Rattle.fabric_core.proofs.ForgottenQueues.{other_plan}
use Rattle.fabric_core.proofs.Whole.{SideIsWhole, both_whole, side_forgotten, side_kept, side_whole}
use Rattle.fabric_rule.specs.Moves.{forgotten_queue}

kept_side : (old new : Bridge) (side : Side) (parts : List QueuePart) → KeepsPromises old new → SideIsWhole old side parts → SideIsWhole new side parts
kept_side old new side parts keeps whole =
    side_kept old new side parts keeps.plan (λ any page had. subst (λ pages. Contains pages page) (sym (keeps.pages any)) had)
    (keeps.spare side) whole

-- The queues of a side that is whole can forget their session on a bridge that has kept what was promised.
pub can_forget : (old new : Bridge) (side : Side) (parts : List QueuePart) → KeepsPromises old new → SideIsWhole old side parts → CanForget new side parts
can_forget old new side parts keeps before =
    let whole = kept_side old new side parts keeps before in
    record {
      its_plan = λ k below. (whole.queues k (subst (λ n. k < n) whole.all_queues below)).its_plan;
      its_side = λ k below. (whole.queues k (subst (λ n. k < n) whole.all_queues below)).its_side;
      room = whole.room;
    }

other_flight : (old new : Bridge) (side : Side) → HasOtherRoom old side new → flight_of new (other_side side) ≡ flight_of old (other_side side)
other_flight old new A other = ap (λ (bridge : Bridge). bridge.flights.b) other.rest
other_flight old new B other = ap (λ (bridge : Bridge). bridge.flights.a) other.rest

peer_still : (old new : Bridge) (side : Side) (parts : List QueuePart) → HasOtherRoom old side new → SideIsWhole old (other_side side) parts → SideIsWhole new (other_side side) parts
peer_still old new side parts other whole =
    side_kept old new (other_side side) parts (other_plan old new side other)
    (λ any page had. subst (λ pages. Contains pages page) (sym (ap (λ (bridge : Bridge). pages_of bridge any) other.rest)) had)
    (ap (λ (flight : Flight Flying). flight.spare) (other_flight old new side other)) whole

-- A pair stays whole where the queues of side A forget their session and no room stays promised at A.
pub forgot_a : (old mid new : Bridge) (a b forgotten : List QueuePart) → IsPairWhole (record { bridge = old; queues = record { a = a; b = b } }) → KeepsPromises old mid → HasOtherRoom mid A new → (flight_of new A).spare ≡ 0
    → forgotten ≡ map forgotten_queue a → IsPairWhole (record { bridge = new; queues = record { a = forgotten; b = b } })
forgot_a old mid new a b forgotten whole keeps other none is =
    both_whole new forgotten b
    (subst (λ parts. SideIsWhole new A parts) (sym is) (side_forgotten mid new A a (other_plan mid new A other) none (kept_side old mid A a keeps (side_whole _ A whole))))
    (peer_still mid new A b other (kept_side old mid B b keeps (side_whole _ B whole)))

-- A pair stays whole where the queues of side B forget their session and no room stays promised at B.
pub forgot_b : (old mid new : Bridge) (a b forgotten : List QueuePart) → IsPairWhole (record { bridge = old; queues = record { a = a; b = b } }) → KeepsPromises old mid → HasOtherRoom mid B new → (flight_of new B).spare ≡ 0
    → forgotten ≡ map forgotten_queue b → IsPairWhole (record { bridge = new; queues = record { a = a; b = forgotten } })
forgot_b old mid new a b forgotten whole keeps other none is =
    both_whole new a forgotten
    (peer_still mid new B a other (kept_side old mid A a keeps (side_whole _ A whole)))
    (subst (λ parts. SideIsWhole new B parts) (sym is) (side_forgotten mid new B b (other_plan mid new B other) none (kept_side old mid B b keeps (side_whole _ B whole))))
