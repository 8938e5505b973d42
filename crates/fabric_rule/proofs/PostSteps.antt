-- A write that a side posts: in flight after the others.
use Rattle.std.proofs.Common.{◌≡◌, ℕ, Bool, false, List, [], ◌∷◌, ◌++◌, sym, ap, ◌∙◌, subst, true, refl}
use Rattle.std.specs.List.{AllByRecursion}
use Rattle.std.proofs.lemmas.Bool.{true≢false}
use Rattle.std.proofs.lemmas.List.{append-nil}
use Rattle.step_kinds.specs.Sides.{other_side}
use Rattle.step_kinds.specs.declared.names.Side.{Side}
use Rattle.step_kinds.specs.declared.names.Side.TheVariants.{A, B}
use Rattle.step_kinds.specs.declared.plan.DevPlan.{DevPlan}
use Rattle.step_kinds.specs.declared.plan.PairPlan.{PairPlan}
use Rattle.step_kinds.specs.declared.steps.Label.{Label}
use Rattle.lane_model.specs.Lane.{Entry}
use Rattle.plan_numbers.specs.Memories.{memory_size}
use Rattle.bridge_pair.specs.Bridge.{Bridge, flight_of, with_flight}
use Rattle.bridge_pair.specs.Flights.{Flying}
use Rattle.fabric_rule.specs.InPlace.{FlightInPlace, HaveRawBytes, IsLabelBegun, ArrivalLiesIn}
use Rattle.fabric_rule.specs.Parts.{PairState, QueuePart, plain_bridge, queues_of, with_bridge}
use Rattle.fabric_rule.specs.StandsFor.{PairStands, QueueView, SideStands, bridge_for, flying_labelled, has_link_forgotten, raw_bytes, sent_in, sent_of, view_of, writes_labelled}
use Rattle.pair_model.specs.Both.{at_side}
use Rattle.pair_model.specs.Link.{is_down, is_up}
use Rattle.ledger_model.specs.Ledger.{PairPart, side_of, with_side_part}
use Rattle.ledger_model.specs.Memory.{Site}
use Rattle.fabric_rule.proofs.Follows.{by_side, two_same}
use Rattle.fabric_rule.proofs.Links.{not_down_up}
use Rattle.fabric_rule.proofs.Flights.{all_push, have-push, writes-append}

-- the bridge with other writes in flight
abbrev pub with_writes : Bridge → Side → List Flying → Bridge
with_writes bridge A writes = record bridge { flights = record { a = record { writes = writes; spare = 0 }; b = bridge.flights.b } }
with_writes bridge B writes = record bridge { flights = record { a = bridge.flights.a; b = record { writes = writes; spare = 0 } } }

-- what is in flight then
one_more_write : (plan : PairPlan) (side : Side) (sent : ℕ → List Entry) (flight : List Label) (poked : List (List ℕ)) (label : Label) (bytes : List (List ℕ)) → HaveRawBytes flight poked
    → writes_labelled plan side sent flight poked ++ flying_labelled plan side sent (raw_bytes label bytes) label ∷ [] ≡ writes_labelled plan side sent (flight ++ label ∷ []) (poked ++ bytes)
one_more_write plan side sent flight poked label bytes have = sym (writes-append plan side sent flight poked (label ∷ []) bytes have)

flight_posts : (plan : PairPlan) (side : Side) (down : Bool) (sent : ℕ → List Entry) (flight : List Label) (poked : List (List ℕ)) (label : Label) (bytes : List (List ℕ))
    → FlightInPlace plan side down sent flight poked (writes_labelled plan side sent flight poked) → down ≡ false → IsLabelBegun sent label
    → ArrivalLiesIn (memory_size plan (other_side side)) (flying_labelled plan side sent (raw_bytes label bytes) label).arrival → HaveRawBytes (label ∷ []) bytes
    → FlightInPlace plan side down sent (flight ++ label ∷ []) (poked ++ bytes) (writes_labelled plan side sent (flight ++ label ∷ []) (poked ++ bytes))
flight_posts plan side down sent flight poked label bytes h up begun place own =
    record {
      begun = all_push (IsLabelBegun sent) flight label h.begun begun;
      raws = have-push flight poked (label ∷ []) bytes h.raws own;
      places =
          subst (AllByRecursion (λ (flying : Flying). ArrivalLiesIn (memory_size plan (other_side side)) flying.arrival)) (one_more_write plan side sent flight poked label bytes h.raws)
          (all_push (λ (flying : Flying). ArrivalLiesIn (memory_size plan (other_side side)) flying.arrival) (writes_labelled plan side sent flight poked) (flying_labelled plan side sent (raw_bytes label bytes) label) h.places place);
      none = λ is_down. absurd (true≢false (sym is_down ∙ up));
    }

module _ (devs : List DevPlan) (plan : PairPlan) (k : ℕ) (side : Side) (down forgotten : Bool) (joined : ℕ) (flight : List Label) (poked : List (List ℕ)) (view : ℕ → QueueView) (parts : List QueuePart) where
  side_posts_raw : (label : Label) (bytes : List (List ℕ)) → SideStands devs plan k side down forgotten joined flight poked view parts → down ≡ false → IsLabelBegun (sent_in view) label
      → ArrivalLiesIn (memory_size plan (other_side side)) (flying_labelled plan side (sent_in view) (raw_bytes label bytes) label).arrival → HaveRawBytes (label ∷ []) bytes
      → SideStands devs plan k side down forgotten joined (flight ++ label ∷ []) (poked ++ bytes) view parts
  side_posts_raw label bytes h up begun place own =
      record { none_joined = h.none_joined; in_flight = flight_posts plan side down (sent_in view) flight poked label bytes h.in_flight up begun place own; all_queues = h.all_queues; queues = h.queues }

-- A pair that stands on a link that is up, with one write more of a side in flight
module _ {devs : List DevPlan} {plan : PairPlan} {k : ℕ} {site : Site} {state : PairState} (stands : PairStands devs plan k site state) (up : is_up site.pair.link.state ≡ true) where
  abbrev sent_by : Side → ℕ → List Entry
  sent_by side = sent_of (at_side site.pair.lanes side)

  -- the pair and the bridge then
  abbrev pair_posting : Side → Label → List (List ℕ) → PairPart
  pair_posting side label poked = with_side_part site.pair side (record (side_of site.pair side) { flight = (side_of site.pair side).flight ++ label ∷ []; poked = poked })

  abbrev bridge_posting : Side → Flying → ℕ → Bridge
  bridge_posting side flying spare = with_flight state.bridge side (record { writes = (flight_of state.bridge side).writes ++ flying ∷ []; spare = spare })

  bridge_then : (side : Side) (label : Label) (bytes : List (List ℕ)) (flying : Flying) → flying_labelled plan side (sent_by side) (raw_bytes label bytes) label ≡ flying
      → (flight_of (bridge_for plan site) side).writes ≡ writes_labelled plan side (sent_by side) (side_of site.pair side).flight (side_of site.pair side).poked
      → with_writes (plain_bridge state.bridge) side ((flight_of (plain_bridge state.bridge) side).writes ++ flying ∷ [])
      ≡ with_writes (bridge_for plan site) side (writes_labelled plan side (sent_by side) ((side_of site.pair side).flight ++ label ∷ []) ((side_of site.pair side).poked ++ bytes))
  bridge_then side label bytes flying same are =
      ap (λ (bridge : Bridge). with_writes bridge side ((flight_of bridge side).writes ++ flying ∷ [])) stands.bridge
      ∙ ap (with_writes (bridge_for plan site) side)
      (two_same (λ writes flying. writes ++ flying ∷ []) are (sym same) ∙ one_more_write plan side (sent_by side) (side_of site.pair side).flight (side_of site.pair side).poked label bytes (stands.sides side).in_flight.raws)

  side_then : (side : Side) (label : Label) (bytes : List (List ℕ)) (flying : Flying) → flying_labelled plan side (sent_by side) (raw_bytes label bytes) label ≡ flying → IsLabelBegun (sent_by side) label
      → ArrivalLiesIn (memory_size plan (other_side side)) flying.arrival → HaveRawBytes (label ∷ []) bytes
      → SideStands devs plan k side (is_down site.pair.link.state) (has_link_forgotten site.pair.link side) (side_of site.pair side).joined ((side_of site.pair side).flight ++ label ∷ []) ((side_of site.pair side).poked ++ bytes) (view_of site.pair side) (queues_of state side)
  side_then side label bytes flying same begun place have =
      side_posts_raw devs plan k side _ _ _ _ _ _ _ label bytes (stands.sides side) (not_down_up site.pair.link.state up) begun (subst (λ (flying : Flying). ArrivalLiesIn (memory_size plan (other_side side)) flying.arrival) (sym same) place) have

  -- a write with the bytes of raw ones, and one without
  pub posts_with : (side : Side) (label : Label) (bytes : List (List ℕ)) (flying : Flying) (spare : ℕ) → flying_labelled plan side (sent_by side) (raw_bytes label bytes) label ≡ flying → IsLabelBegun (sent_by side) label
      → ArrivalLiesIn (memory_size plan (other_side side)) flying.arrival → HaveRawBytes (label ∷ []) bytes
      → PairStands devs plan k (record site { pair = pair_posting side label ((side_of site.pair side).poked ++ bytes) }) (with_bridge state (bridge_posting side flying spare))
  posts_with A label bytes flying spare same begun place have = record { bridge = bridge_then A label bytes flying same refl; link = stands.link; sides = by_side _ (side_then A label bytes flying same begun place have) (stands.sides B) }
  posts_with B label bytes flying spare same begun place have = record { bridge = bridge_then B label bytes flying same refl; link = stands.link; sides = by_side _ (stands.sides A) (side_then B label bytes flying same begun place have) }

  pub posts_one : (side : Side) (label : Label) (flying : Flying) (spare : ℕ) → flying_labelled plan side (sent_by side) (raw_bytes label []) label ≡ flying → IsLabelBegun (sent_by side) label
      → ArrivalLiesIn (memory_size plan (other_side side)) flying.arrival → HaveRawBytes (label ∷ []) []
      → PairStands devs plan k (record site { pair = pair_posting side label (side_of site.pair side).poked }) (with_bridge state (bridge_posting side flying spare))
  posts_one side label flying spare same begun place have =
      subst (λ poked. PairStands devs plan k (record site { pair = pair_posting side label poked }) (with_bridge state (bridge_posting side flying spare))) (append-nil (side_of site.pair side).poked) (posts_with side label [] flying spare same begun place have)
