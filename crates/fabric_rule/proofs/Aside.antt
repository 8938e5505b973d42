-- What is written past the transport, and what is shown of memories and flights.
use Rattle.std.proofs.Common.{◌≡◌, ℕ, ◌+◌, ◌*◌, ◌≤◌, Bool, true, false, List, [], ◌∷◌, ◌++◌, length, refl, sym, ap, ◌∙◌, arith}
use Rattle.std.specs.Prelude.{if◌then◌else◌, option_map, slice_get}
use Rattle.std.proofs.lemmas.Option.{slice_get-map}
use Rattle.step_kinds.specs.Sides.{other_side}
use Rattle.lane_model.specs.Lane.{Entry}
use Rattle.step_kinds.specs.declared.names.Side.{Side}
use Rattle.step_kinds.specs.declared.names.Side.TheVariants.{A, B}
use Rattle.step_kinds.specs.declared.plan.DevPlan.{DevPlan}
use Rattle.step_kinds.specs.declared.plan.PairPlan.{PairPlan}
use Rattle.step_kinds.specs.declared.steps.Answer.TheVariants.{Ok as Done, Mem, QueueShown}
use Rattle.step_kinds.specs.declared.steps.Label.{Label}
use Rattle.step_kinds.specs.declared.steps.Label.TheVariants.{Pad, Raw}
use Rattle.step_kinds.specs.declared.steps.Step.TheVariants.{Poke, ShowMem, ShowQueue, Spad}
use Rattle.pair_model.specs.Both.{Both}
use Rattle.pair_model.specs.DeclaredPlans.{IsPoke, IsShown}
use Rattle.pair_model.specs.Link.{is_up}
use Rattle.pair_model.specs.Plans.{side_plan}
use Rattle.ledger_model.specs.Ledger.{side_of, with_side_part}
use Rattle.ledger_model.specs.Registers.{poke_step, show_mem_step, show_queue_step, spad_step}
use Rattle.ledger_model.specs.Memory.{Site, bytes_of_site}
use Rattle.plan_numbers.specs.Memories.{memory_size}
use Rattle.bridge_pair.specs.Flights.{Flying, flying_of}
use Rattle.bridge_pair.specs.Writes.{memory_write, pad_write}
use Rattle.hand_shake.specs.Offers.{with_posted}
use Rattle.fabric_rule.specs.InPlace.{LinkInPlace}
use Rattle.fabric_rule.specs.Parts.{PairState, QueuePart}
use Rattle.fabric_rule.specs.StandsFor.{sent_of, writes_labelled}
use Rattle.fabric_rule.proofs.Flights.{labels-writes, length-writes}
use Rattle.fabric_rule.proofs.Follows.{AllSides, Follows, state_for}
use Rattle.fabric_rule.proofs.PostSteps.{posts_one, posts_with}
use Rattle.fabric_rule.proofs.RingPlaces.{in_window}
use Rattle.fabric_rule.proofs.StoredBytes.{read_inside}
use Rattle.fabric_rule.specs.Moves.{move_of}

module _ (devs : List DevPlan) (plan : PairPlan) (k : ℕ) (site : Site) (pages : Both (List ℕ)) (spare : Both ℕ) (queues : Both (List QueuePart))
    (link : LinkInPlace site.pair.link) (sides : AllSides devs plan k site.pair queues) where
  abbrev state : PairState
  state = state_for plan site pages spare queues

  -- Scratchpads

  spad_at : (side : Side) (i value : ℕ) (up : Bool) → is_up site.pair.link.state ≡ up
      → Follows devs plan k site (Spad k side i value)
      (record { answer = Done; after = if up then with_side_part site.pair side (record (side_of site.pair side) { flight = (side_of site.pair side).flight ++ Pad i value ∷ [] }) else site.pair })
      (record { answer = Done; after = record state { bridge = if up then with_posted state.bridge side (pad_write i value) else state.bridge } })
  spad_at side i value false is = (refl, record { bridge = refl; link = link; sides = sides })
  spad_at side i value true is = (refl, posts_one (record { bridge = refl; link = link; sides = sides }) is side (Pad i value) (flying_of plan side (pad_write i value)) _ refl tt tt tt)

  pub spad_follows : (side : Side) (i value : ℕ) → Follows devs plan k site (Spad k side i value) (spad_step site.pair side i value) (move_of devs state (Spad k side i value))
  spad_follows side i value = spad_at side i value (is_up site.pair.link.state) refl

  -- Raw bytes

  poke_place : (side : Side) (window offset : ℕ) (bytes : List ℕ) → IsPoke plan side window offset bytes → window * (side_plan plan (other_side side)).cap + offset + length bytes ≤ memory_size plan (other_side side)
  poke_place A window offset bytes fits = in_window window plan.b.windows plan.b.cap offset (length bytes) fits.windows.1 (omega (arith, fits.within))
  poke_place B window offset bytes fits = in_window window plan.a.windows plan.a.cap offset (length bytes) fits.windows.0 (omega (arith, fits.within))

  poke_at : (side : Side) (window offset : ℕ) (bytes : List ℕ) (up : Bool) → IsPoke plan side window offset bytes → is_up site.pair.link.state ≡ up
      → Follows devs plan k site (Poke k side window offset bytes)
      (record {
        answer = Done;
        after =
            if up
            then with_side_part site.pair side
            (record (side_of site.pair side) { flight = (side_of site.pair side).flight ++ Raw window offset (length bytes) ∷ []; poked = (side_of site.pair side).poked ++ bytes ∷ [] })
            else site.pair;
      })
      (record { answer = Done; after = record state { bridge = if up then with_posted state.bridge side (memory_write (Raw window offset (length bytes)) window offset bytes) else state.bridge } })
  poke_at side window offset bytes false fits is = (refl, record { bridge = refl; link = link; sides = sides })
  poke_at side window offset bytes true fits is = (
    refl,
    posts_with (record { bridge = refl; link = link; sides = sides }) is side (Raw window offset (length bytes)) (bytes ∷ []) (flying_of plan side (memory_write (Raw window offset (length bytes)) window offset bytes)) _ refl tt
        (poke_place side window offset bytes fits) tt,
  )

  pub poke_follows : (side : Side) (window offset : ℕ) (bytes : List ℕ) → IsPoke plan side window offset bytes
      → Follows devs plan k site (Poke k side window offset bytes) (poke_step site.pair side window offset bytes) (move_of devs state (Poke k side window offset bytes))
  poke_follows side window offset bytes fits = poke_at side window offset bytes (is_up site.pair.link.state) fits refl

  -- What is shown

  pub show_mem_follows : (side : Side) (at len : ℕ) → IsShown (side_plan plan side) at len
      → Follows devs plan k site (ShowMem k side at len) (show_mem_step site.pair (bytes_of_site site side at len)) (move_of devs state (ShowMem k side at len))
  show_mem_follows A at len shown = (ap Mem (read_inside site.stores.a (memory_size plan A) at len shown.within), record { bridge = refl; link = link; sides = sides })
  show_mem_follows B at len shown = (ap Mem (read_inside site.stores.b (memory_size plan B) at len shown.within), record { bridge = refl; link = link; sides = sides })

  label_at : (side : Side) (sent : ℕ → List Entry) (flight : List Label) (poked : List (List ℕ)) (place : ℕ) → QueueShown (length (writes_labelled plan side sent flight poked)) (option_map (λ (flying : Flying). flying.label) (slice_get (writes_labelled plan side sent flight poked) place)) ≡ QueueShown (length flight) (slice_get flight place)
  label_at side sent flight poked place =
      ap (λ n. QueueShown n (option_map (λ (flying : Flying). flying.label) (slice_get (writes_labelled plan side sent flight poked) place))) (length-writes plan side sent flight poked)
      ∙ ap (QueueShown (length flight)) (sym (slice_get-map (λ (flying : Flying). flying.label) (writes_labelled plan side sent flight poked) place) ∙ ap (λ labels. slice_get labels place) (labels-writes plan side sent flight poked))

  pub show_queue_follows : (side : Side) (place : ℕ) → Follows devs plan k site (ShowQueue k side place) (show_queue_step site.pair side place) (move_of devs state (ShowQueue k side place))
  show_queue_follows A place = (label_at A (sent_of site.pair.lanes.a) site.pair.sides.a.flight site.pair.sides.a.poked place, record { bridge = refl; link = link; sides = sides })
  show_queue_follows B place = (label_at B (sent_of site.pair.lanes.b) site.pair.sides.b.flight site.pair.sides.b.poked place, record { bridge = refl; link = link; sides = sides })
