-- When a bridge is the same as another once one write has landed.
use Rattle.std.proofs.Common.{◌≡◌, ◌∙◌, ℕ, ap, refl, subst, sym}
use Rattle.step_kinds.specs.declared.names.Side.{Side}
use Rattle.step_kinds.specs.declared.names.Side.TheVariants.{A, B}
use Rattle.step_kinds.specs.Sides.{other_side}
use Rattle.posted_queue.specs.Landing.{flight_after_landing}
use Rattle.posted_queue.specs.declared.LandAnswer.{LandAnswer}
use Rattle.posted_queue.specs.declared.LandAnswer.TheVariants.{Blocked, Landed, Nothing}
use Rattle.bridge_pair.specs.Bridge.{Bridge, flight_of, with_flight}
use Rattle.bridge_pair.specs.Calls.{after_land, after_landed, bridge_arrived, landing}
use Rattle.bridge_pair.specs.Ends.{End, after_arrival}
use Rattle.bridge_pair.specs.Flights.{Flying, flying_order}
use Rattle.bridge_pair.specs.Same.{EndsLandAs, HasSameEnds, IsSameEnd, LandsAs, LandsAsEnd}
use Rattle.bridge_pair.specs.Views.{bridge_seen}
use Rattle.bridge_pair.specs.declared.flying_write.Arrival.{Arrival}
use Rattle.bridge_pair.specs.declared.flying_write.Arrival.TheVariants.{AtAddress, AtBell, AtPad}
use Rattle.bridge_pair.specs.declared.pair.Pair.TheInside.{Inside}
use Rattle.bridge_pair.proofs.SameBridges.{end_a, end_b, same_ends}

-- The ends

-- an end without the write at a place of those that come
abbrev taken_from : End → ℕ → End
taken_from end place = record end { coming = flight_after_landing flying_order end.coming place }

-- a pair with another end at a side

abbrev with_a : Inside → End → Inside
with_a pair end = record pair { a = end }

abbrev with_b : Inside → End → Inside
with_b pair end = record pair { b = end }

-- what arrives at an end arrives at the bridge

arrives_b : (one : Inside) (place : ℕ) (arrival : Arrival) → bridge_seen (with_b one (after_arrival (taken_from one.b place) arrival)) ≡ bridge_arrived (with_flight (bridge_seen one) A (flight_after_landing flying_order one.b.coming place)) B arrival
arrives_b one place (AtAddress at bytes) = refl
arrives_b one place (AtPad index value) = refl
arrives_b one place (AtBell bit) = refl

arrives_a : (one : Inside) (place : ℕ) (arrival : Arrival) → bridge_seen (with_a one (after_arrival (taken_from one.a place) arrival)) ≡ bridge_arrived (with_flight (bridge_seen one) B (flight_after_landing flying_order one.a.coming place)) A arrival
arrives_a one place (AtAddress at bytes) = refl
arrives_a one place (AtPad index value) = refl
arrives_a one place (AtBell bit) = refl

-- a bridge on which a write landed is the one at which it arrived
landed_is : (bridge : Bridge) (side : Side) (place : ℕ) (flying : Flying) → landing bridge side place ≡ Landed flying
    → after_land bridge side place ≡ bridge_arrived (with_flight bridge side (flight_after_landing flying_order (flight_of bridge side) place)) (other_side side) flying.arrival
landed_is bridge side place flying lands = ap (after_landed (with_flight bridge side (flight_after_landing flying_order (flight_of bridge side) place)) (other_side side)) lands

module _ (one other : Inside) (place : ℕ) where
  -- the ends of the bridges, by the two ends that are kept: of a write that side A posted

  from_a : LandsAsEnd one.b place other.b → IsSameEnd one.a other.a → EndsLandAs (bridge_seen one) A place (bridge_seen other)
  from_a lands same =
      let landed = with_b one (after_arrival (taken_from one.b place) lands.flying.arrival) in
      record {
        flying = lands.flying;
        lands = lands.lands;
        same = subst (λ (bridge : Bridge). HasSameEnds bridge (bridge_seen other)) (arrives_b one place lands.flying.arrival ∙ sym (landed_is (bridge_seen one) A place lands.flying lands.lands))
            (same_ends landed other (bridge_seen landed) (bridge_seen other) refl refl same lands.same);
      }

  to_a : EndsLandAs (bridge_seen one) A place (bridge_seen other) → LandsAsEnd one.b place other.b × IsSameEnd one.a other.a
  to_a lands =
      let landed = with_b one (after_arrival (taken_from one.b place) lands.flying.arrival) in
      let same : HasSameEnds (bridge_seen landed) (bridge_seen other) =
      subst (λ (bridge : Bridge). HasSameEnds bridge (bridge_seen other)) (landed_is (bridge_seen one) A place lands.flying lands.lands ∙ sym (arrives_b one place lands.flying.arrival)) lands.same in (
        record { flying = lands.flying; lands = lands.lands; same = end_b landed other (bridge_seen landed) (bridge_seen other) refl refl same },
        end_a landed other (bridge_seen landed) (bridge_seen other) refl refl same,
      )

  -- and of one that side B posted

  from_b : LandsAsEnd one.a place other.a → IsSameEnd one.b other.b → EndsLandAs (bridge_seen one) B place (bridge_seen other)
  from_b lands same =
      let landed = with_a one (after_arrival (taken_from one.a place) lands.flying.arrival) in
      record {
        flying = lands.flying;
        lands = lands.lands;
        same = subst (λ (bridge : Bridge). HasSameEnds bridge (bridge_seen other)) (arrives_a one place lands.flying.arrival ∙ sym (landed_is (bridge_seen one) B place lands.flying lands.lands))
            (same_ends landed other (bridge_seen landed) (bridge_seen other) refl refl lands.same same);
      }

  to_b : EndsLandAs (bridge_seen one) B place (bridge_seen other) → LandsAsEnd one.a place other.a × IsSameEnd one.b other.b
  to_b lands =
      let landed = with_a one (after_arrival (taken_from one.a place) lands.flying.arrival) in
      let same : HasSameEnds (bridge_seen landed) (bridge_seen other) =
      subst (λ (bridge : Bridge). HasSameEnds bridge (bridge_seen other)) (landed_is (bridge_seen one) B place lands.flying lands.lands ∙ sym (arrives_a one place lands.flying.arrival)) lands.same in (
        record { flying = lands.flying; lands = lands.lands; same = end_a landed other (bridge_seen landed) (bridge_seen other) refl refl same },
        end_b landed other (bridge_seen landed) (bridge_seen other) refl refl same,
      )

module _ (one other : Inside) (place : ℕ) (seen shown : Bridge) (is : bridge_seen one ≡ seen) (are : bridge_seen other ≡ shown) where
  -- the same of the bridges that contracts see

  shows : (side : Side) → EndsLandAs (bridge_seen one) side place (bridge_seen other) → EndsLandAs seen side place shown
  shows side lands = subst (λ (bridge : Bridge). EndsLandAs bridge side place shown) is (subst (λ (bridge : Bridge). EndsLandAs (bridge_seen one) side place bridge) are lands)

  hides : (side : Side) → EndsLandAs seen side place shown → EndsLandAs (bridge_seen one) side place (bridge_seen other)
  hides side lands = subst (λ (bridge : Bridge). EndsLandAs bridge side place (bridge_seen other)) (sym is) (subst (λ (bridge : Bridge). EndsLandAs seen side place bridge) (sym are) lands)

  pub lands_from_a : LandsAsEnd one.b place other.b → IsSameEnd one.a other.a → EndsLandAs seen A place shown
  lands_from_a lands same = shows A (from_a one other place lands same)

  pub lands_to_a : EndsLandAs seen A place shown → LandsAsEnd one.b place other.b × IsSameEnd one.a other.a
  lands_to_a lands = to_a one other place (hides A lands)

  pub lands_from_b : LandsAsEnd one.a place other.a → IsSameEnd one.b other.b → EndsLandAs seen B place shown
  lands_from_b lands same = shows B (from_b one other place lands same)

  pub lands_to_b : EndsLandAs seen B place shown → LandsAsEnd one.a place other.a × IsSameEnd one.b other.b
  lands_to_b lands = to_b one other place (hides B lands)

-- The whole bridge

-- what a landing leaves: the link and the books
abbrev HasSameRest : Bridge → Bridge → Type 0
HasSameRest new old = (new.link ≡ old.link) × (new.books ≡ old.books)

arrived_rest : (bridge : Bridge) (side : Side) (arrival : Arrival) → HasSameRest (bridge_arrived bridge side arrival) bridge
arrived_rest bridge side (AtAddress at bytes) = (refl, refl)
arrived_rest bridge side (AtPad index value) = (refl, refl)
arrived_rest bridge side (AtBell bit) = (refl, refl)

rest_stays : (bridge : Bridge) (side : Side) (place : ℕ) → HasSameRest (after_land bridge side place) bridge
rest_stays bridge side place = by_answer (landing bridge side place) where
  taken : Bridge
  taken = with_flight bridge side (flight_after_landing flying_order (flight_of bridge side) place)

  by_answer : (answer : LandAnswer Flying) → HasSameRest (after_landed taken (other_side side) answer) bridge
  by_answer (Landed flying) = arrived_rest taken (other_side side) flying.arrival
  by_answer Blocked = (refl, refl)
  by_answer Nothing = (refl, refl)

-- so the whole is the same where link, books and ends are
pub lands_whole : (bridge : Bridge) (side : Side) (place : ℕ) (other : Bridge) → bridge.link ≡ other.link → bridge.books ≡ other.books → EndsLandAs bridge side place other → LandsAs bridge side place other
lands_whole bridge side place other link books lands =
    let stays = rest_stays bridge side place in
    record {
      flying = lands.flying;
      lands = lands.lands;
      same = record {
        link = stays.0 ∙ link;
        books = stays.1 ∙ books;
        pads = lands.same.pads;
        bells = lands.same.bells;
        bytes = lands.same.bytes;
        writes = lands.same.writes;
      };
    }

-- and where the whole is, the ends are
pub ends_of_whole : (bridge : Bridge) (side : Side) (place : ℕ) (other : Bridge) → LandsAs bridge side place other → EndsLandAs bridge side place other
ends_of_whole bridge side place other lands =
    record {
      flying = lands.flying;
      lands = lands.lands;
      same = record { pads = lands.same.pads; bells = lands.same.bells; bytes = lands.same.bytes; writes = lands.same.writes };
    }
