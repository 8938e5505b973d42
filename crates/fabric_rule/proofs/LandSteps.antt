-- A write that lands: it is taken out of those in flight, and arrives.
use Rattle.std.proofs.Common.{◌≡◌, ℕ, Bool, true, false, Option, Some, None, List, map, take, refl, sym, ap, ◌∙◌, subst}
use Rattle.std.specs.Prelude.{if◌then◌else◌, not, option_map, remove, slice_get}
use Rattle.std.specs.List.{AllByRecursion}
use Rattle.std.proofs.lemmas.Option.{none-some, slice_get-map}
use Rattle.step_kinds.specs.Sides.{other_side}
use Rattle.step_kinds.specs.declared.names.Side.{Side}
use Rattle.step_kinds.specs.declared.names.Side.TheVariants.{A, B}
use Rattle.step_kinds.specs.declared.plan.DevPlan.{DevPlan}
use Rattle.step_kinds.specs.declared.plan.PairPlan.{PairPlan}
use Rattle.step_kinds.specs.declared.steps.Answer.TheVariants as answer
use Rattle.step_kinds.specs.declared.steps.Label.{Label}
use Rattle.step_kinds.specs.declared.steps.Label.TheVariants.{Chunk, Len, Ver, Flag, Down, Bell, Index, Pad, Raw}
use Rattle.step_kinds.specs.declared.steps.Step.TheVariants.{Land}
use Rattle.order_rules.specs.Order.{lands_behind, may_land}
use Rattle.pair_model.specs.Both.{at_side}
use Rattle.pair_model.specs.Link.{is_down}
use Rattle.pair_model.specs.Orders.{order_of}
use Rattle.ledger_model.specs.Ledger.{side_of, with_side_part}
use Rattle.ledger_model.specs.Outcome.{Outcome, decided, refuse_if}
use Rattle.ledger_model.specs.Receiving.{land_found, land_step, lands_on, taken_out}
use Rattle.posted_queue.specs.Landing.{answer_for}
use Rattle.plan_numbers.specs.Memories.{memory_size}
use Rattle.bridge_pair.specs.Bridge.{with_flight}
use Rattle.bridge_pair.specs.Calls.{after_landed, bridge_arrived}
use Rattle.bridge_pair.specs.Ends.{label_landed}
use Rattle.bridge_pair.specs.Flights.{Flying, flying_order}
use Rattle.fabric_rule.specs.Answers.{of_land}
use Rattle.fabric_rule.specs.InPlace.{IsLabelBegun, ArrivalLiesIn}
use Rattle.fabric_rule.specs.StandsFor.{PairStands, SideStands, bridge_for, fabric_entry_among, flying_labelled, has_link_forgotten, sent_in, view_of, writes_labelled}
use Rattle.fabric_rule.proofs.Arrivals.{bell_comes, bytes_come, pad_comes, unseen}
use Rattle.fabric_rule.proofs.Flights.{all_get, all_remove, have-remove, label-write, labels-writes, orders-writes, poked_at, poked_left, writes-get, writes-remove}
use Rattle.fabric_rule.proofs.Follows.{Follows, by_side, site_made}
use Rattle.fabric_rule.proofs.OneQueue.{Standing, kept}
use Rattle.fabric_rule.proofs.PostSteps.{with_writes}
use Rattle.fabric_rule.specs.Moves.{Move, move_of}

no_value : {X Y : Type 0} (f : X → Y) (found : Option X) → option_map f found ≡ None → found ≡ None
no_value f None none = refl
no_value f (Some x) none = absurd (none-some (f x) (sym none))

module _ {devs : List DevPlan} {plan : PairPlan} {k : ℕ} (now : Standing devs plan k) (place : ℕ) where
  -- a side without the write at a place
  taken_side : (side : Side) (label : Label) → slice_get (side_of now.site.pair side).flight place ≡ Some label
      → SideStands devs plan k side (is_down now.site.pair.link.state) (has_link_forgotten now.site.pair.link side) (side_of now.site.pair side).joined (remove (side_of now.site.pair side).flight place)
      (poked_left (side_of now.site.pair side).flight (side_of now.site.pair side).poked place label) (view_of now.site.pair side) (at_side now.queues side)
  taken_side side label at =
      let h = (now.sides side).in_flight in
      record {
        none_joined = (now.sides side).none_joined;
        in_flight = record {
          begun = all_remove (IsLabelBegun (sent_in (view_of now.site.pair side))) (side_of now.site.pair side).flight place h.begun;
          raws = have-remove (side_of now.site.pair side).flight (side_of now.site.pair side).poked place label h.raws at;
          places =
              subst (AllByRecursion (λ (flying : Flying). ArrivalLiesIn (memory_size plan (other_side side)) flying.arrival))
              (sym (writes-remove plan side (sent_in (view_of now.site.pair side)) (side_of now.site.pair side).flight (side_of now.site.pair side).poked place label h.raws at))
              (all_remove (λ (flying : Flying). ArrivalLiesIn (memory_size plan (other_side side)) flying.arrival)
              (writes_labelled plan side (sent_in (view_of now.site.pair side)) (side_of now.site.pair side).flight (side_of now.site.pair side).poked) place h.places);
          none = λ down. absurd (none-some label (ap (λ (flight : List Label). slice_get flight place) (sym (h.none down).0) ∙ at));
        };
        all_queues = (now.sides side).all_queues;
        queues = (now.sides side).queues;
      }

  -- the write at a place
  abbrev flying_at : Side → Label → Flying
  flying_at side label = flying_labelled plan side (sent_in (view_of now.site.pair side)) (poked_at (side_of now.site.pair side).flight (side_of now.site.pair side).poked place) label

  abbrev all_writes : Side → List Flying
  all_writes side = writes_labelled plan side (sent_in (view_of now.site.pair side)) (side_of now.site.pair side).flight (side_of now.site.pair side).poked

  gone : (side : Side) (label : Label) → slice_get (side_of now.site.pair side).flight place ≡ Some label
      → remove (all_writes side) place ≡ writes_labelled plan side (sent_in (view_of now.site.pair side)) (remove (side_of now.site.pair side).flight place) (poked_left (side_of now.site.pair side).flight (side_of now.site.pair side).poked place label)
  gone side label at = sym (writes-remove plan side (sent_in (view_of now.site.pair side)) (side_of now.site.pair side).flight (side_of now.site.pair side).poked place label (now.sides side).in_flight.raws at)

  get : (side : Side) (label : Label) → slice_get (side_of now.site.pair side).flight place ≡ Some label → slice_get (all_writes side) place ≡ Some (flying_at side label)
  get side label at = writes-get plan side (sent_in (view_of now.site.pair side)) (side_of now.site.pair side).flight (side_of now.site.pair side).poked place label (now.sides side).in_flight.raws at

  fit : (side : Side) (label : Label) → slice_get (side_of now.site.pair side).flight place ≡ Some label → ArrivalLiesIn (memory_size plan (other_side side)) (flying_at side label).arrival
  fit side label at = all_get (λ (flying : Flying). ArrivalLiesIn (memory_size plan (other_side side)) flying.arrival) (all_writes side) place (flying_at side label) (now.sides side).in_flight.places (get side label at)

  abbrev Lands : Side → Label → Type 0
  Lands side label =
      PairStands devs plan k (site_made plan now.site (Land k side place) (record { answer = answer.Landed label; after = lands_on (taken_out now.site.pair side place label) side label }))
      (record (kept now) { bridge = bridge_arrived (with_flight (kept now).bridge side (record { writes = remove (all_writes side) place; spare = at_side now.spare side })) (other_side side) (flying_at side label).arrival })

  -- the move by the write that is found, and whether it may land
  abbrev landed : Side → Option Flying → Bool → Move
  landed side found may =
      record {
        answer = of_land (label_landed (answer_for found may));
        after =
            record (kept now) {
              bridge =
                  after_landed
                  (with_flight (kept now).bridge side (if may then record { writes = remove (all_writes side) place; spare = at_side now.spare side } else record { writes = all_writes side; spare = at_side now.spare side }))
                  (other_side side) (answer_for found may);
            };
      }

  abbrev land_made : Side → Label → Bool → Outcome
  land_made side label may = decided now.site.pair (refuse_if (not may) answer.Blocked None) (answer.Landed label) (lands_on (taken_out now.site.pair side place label) side label)

  none_at : (side : Side) → slice_get (side_of now.site.pair side).flight place ≡ None → slice_get (all_writes side) place ≡ None
  none_at side none =
      no_value (λ (flying : Flying). flying.label) (slice_get (all_writes side) place)
      (sym (slice_get-map (λ (flying : Flying). flying.label) (all_writes side) place)
      ∙ ap (λ labels. slice_get labels place) (labels-writes plan side (sent_in (view_of now.site.pair side)) (side_of now.site.pair side).flight (side_of now.site.pair side).poked) ∙ none)

  may_not : (side : Side) → slice_get (all_writes side) place ≡ None → may_land (map flying_order (all_writes side)) place ≡ false
  may_not side none = ap (λ found. lands_behind found (take place (map flying_order (all_writes side)))) (slice_get-map flying_order (all_writes side) place ∙ ap (option_map flying_order) none)

  -- a write that may not land is still in flight
  still_there : (side : Side) → PairStands devs plan k now.site (record (kept now) { bridge = with_flight (kept now).bridge side (record { writes = all_writes side; spare = at_side now.spare side }) })
  still_there A = record { bridge = refl; link = now.link; sides = now.sides }
  still_there B = record { bridge = refl; link = now.link; sides = now.sides }

  -- the pair without one that lands
  taken : (side : Side) (label : Label) → slice_get (side_of now.site.pair side).flight place ≡ Some label
      → PairStands devs plan k (record now.site { pair = with_side_part now.site.pair side (record (side_of now.site.pair side) { flight = remove (side_of now.site.pair side).flight place; poked = poked_left (side_of now.site.pair side).flight (side_of now.site.pair side).poked place label }) })
      (record (kept now) { bridge = with_flight (kept now).bridge side (record { writes = remove (all_writes side) place; spare = at_side now.spare side }) })
  taken A label at = record { bridge = ap (with_writes (bridge_for plan now.site) A) (gone A label at); link = now.link; sides = by_side _ (taken_side A label at) (now.sides B) }
  taken B label at = record { bridge = ap (with_writes (bridge_for plan now.site) B) (gone B label at); link = now.link; sides = by_side _ (now.sides A) (taken_side B label at) }

  lands : (side : Side) (label : Label) → slice_get (side_of now.site.pair side).flight place ≡ Some label → Lands side label
  lands side (Chunk q n part) at = bytes_come (taken side (Chunk q n part) at) (other_side side) _ (fit side (Chunk q n part) at)
  lands side (Len q n) at = bytes_come (taken side (Len q n) at) (other_side side) _ (fit side (Len q n) at)
  lands side (Ver q n) at = bytes_come (taken side (Ver q n) at) (other_side side) _ (fit side (Ver q n) at)
  lands side (Raw window offset len) at = bytes_come (taken side (Raw window offset len) at) (other_side side) _ (fit side (Raw window offset len) at)
  lands side (Flag q n) at = bytes_come (unseen (taken side (Flag q n) at) side q _ refl refl) (other_side side) _ (fit side (Flag q n) at)
  lands side (Down q n) at = bytes_come (unseen (taken side (Down q n) at) side q _ refl refl) (other_side side) _ (fit side (Down q n) at)
  lands side (Index q n) at = bytes_come (unseen (taken side (Index q n) at) (other_side side) q _ refl refl) (other_side side) _ (fit side (Index q n) at)
  lands side (Bell q) at = bell_comes (taken side (Bell q) at) (other_side side) q
  lands side (Pad i value) at = pad_comes (taken side (Pad i value) at) (other_side side) i value

  land_may : (side : Side) (label : Label) (may : Bool) → slice_get (side_of now.site.pair side).flight place ≡ Some label → Follows devs plan k now.site (Land k side place) (land_made side label may) (landed side (Some (flying_at side label)) may)
  land_may side label false at = (refl, still_there side)
  land_may side label true at =
      (ap answer.Landed (label-write plan side (fabric_entry_among (sent_in (view_of now.site.pair side)) label) (poked_at (side_of now.site.pair side).flight (side_of now.site.pair side).poked place) label), lands side label at)

  land_by : (side : Side) (found : Option Label) → slice_get (side_of now.site.pair side).flight place ≡ found
      → Follows devs plan k now.site (Land k side place) (land_found plan now.site.pair side place found) (landed side (slice_get (all_writes side) place) (may_land (map flying_order (all_writes side)) place))
  land_by side None at =
      subst (λ may. Follows devs plan k now.site (Land k side place) (land_found plan now.site.pair side place None) (landed side (slice_get (all_writes side) place) may)) (sym (may_not side (none_at side at)))
      (subst (λ found. Follows devs plan k now.site (Land k side place) (land_found plan now.site.pair side place None) (landed side found false)) (sym (none_at side at)) (refl, still_there side))
  land_by side (Some label) at =
      subst (λ found. Follows devs plan k now.site (Land k side place) (land_found plan now.site.pair side place (Some label)) (landed side found (may_land (map flying_order (all_writes side)) place))) (sym (get side label at))
      (subst (λ orders. Follows devs plan k now.site (Land k side place) (land_found plan now.site.pair side place (Some label)) (landed side (Some (flying_at side label)) (may_land orders place)))
      (sym (orders-writes plan side (sent_in (view_of now.site.pair side)) (side_of now.site.pair side).flight (side_of now.site.pair side).poked))
      (land_may side label (may_land (map (order_of plan side) (side_of now.site.pair side).flight) place) at))

  pub land_follows : (side : Side) → Follows devs plan k now.site (Land k side place) (land_step plan now.site.pair side place) (move_of devs (kept now) (Land k side place))
  land_follows A = land_by A (slice_get now.site.pair.sides.a.flight place) refl
  land_follows B = land_by B (slice_get now.site.pair.sides.b.flight place) refl
