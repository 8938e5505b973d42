-- What the ledger makes sure of in each item of a log. A drop comes while the link isn't up, a queue's write has the
-- queue's class, and a write that lands stands at its place in flight.
use Rattle.std.proofs.Common.{◌≡◌, ℕ, ◌==◌, Bool, true, false, not, None, Option, Some, List, ◌∷◌, length, map, refl, sym, ap, ◌∙◌}
use Rattle.std.specs.Prelude.{slice_get, slice_index_or}
use Rattle.std.specs.List.{list_all}
use Rattle.std.proofs.lemmas.Bool.{and_parts, eqb-true, false≢true}
use Rattle.step_kinds.specs.Sides.{same_side}
use Rattle.step_kinds.specs.declared.names.Side.{Side}
use Rattle.step_kinds.specs.declared.names.Side.TheVariants.{A, B}
use Rattle.step_kinds.specs.declared.plan.PairPlan.{PairPlan}
use Rattle.step_kinds.specs.declared.plan.Plan.{Plan}
use Rattle.step_kinds.specs.declared.steps.Answer.{Answer}
use Rattle.step_kinds.specs.declared.steps.Answer.TheVariants.{Ok as Done, Blocked, Landed}
use Rattle.step_kinds.specs.declared.steps.Label.{Label}
use Rattle.step_kinds.specs.declared.steps.Label.TheVariants.{Chunk, Len, Ver, Flag, Down, Bell}
use Rattle.step_kinds.specs.declared.steps.Step.{Step}
use Rattle.step_kinds.specs.declared.steps.Step.TheVariants.{DropDone, Land, Post}
use Rattle.order_rules.specs.Order.{may_land}
use Rattle.pair_model.specs.Link.{is_closing, is_up, refused_where}
use Rattle.pair_model.specs.Orders.{class_of, order_of}
use Rattle.pair_model.specs.declared.LinkRefusal.TheVariants.{NotClosing}
use Rattle.pair_model.specs.declared.LinkState.{LinkState}
use Rattle.pair_model.specs.declared.LinkState.TheVariants.{Closing, Down as IsDown, Up as IsUp}
use Rattle.pair_model.specs.Headers.{Bytes}
use Rattle.ledger_model.specs.Labels.{labels_of}
use Rattle.ledger_model.specs.Ledger.{PairPart, lane_of, link_up, side_of}
use Rattle.ledger_model.specs.Log.{Answered}
use Rattle.ledger_model.specs.Next.{pair_next}
use Rattle.ledger_model.specs.Outcome.{Outcome, decided, refuse_if}
use Rattle.ledger_model.specs.Reading.{reading_of}
use Rattle.ledger_model.specs.Receiving.{land_found, land_step, lands_on, taken_out}
use Rattle.ledger_laws.specs.Flights.{Outbox}
use Rattle.ledger_laws.proofs.Facade.{OwnTodos, drop_cases, land_cases, on_queue, on_queue-labels, post_cases, refuses}
use Rattle.trace_command.proofs.NumbersOfItems.{Fits}

-- Drops and posts

queue_class : (classes : List ℕ) (q : ℕ) (label : Label) → on_queue q label ≡ true → class_of classes label ≡ slice_index_or classes q 0
queue_class classes q (Chunk p n part) on = ap (λ k. slice_index_or classes k 0) (eqb-true p q on)
queue_class classes q (Len p n) on = ap (λ k. slice_index_or classes k 0) (eqb-true p q on)
queue_class classes q (Ver p n) on = ap (λ k. slice_index_or classes k 0) (eqb-true p q on)
queue_class classes q (Flag p n) on = ap (λ k. slice_index_or classes k 0) (eqb-true p q on)
queue_class classes q (Down p n) on = ap (λ k. slice_index_or classes k 0) (eqb-true p q on)
queue_class classes q (Bell p) on = ap (λ k. slice_index_or classes k 0) (eqb-true p q on)
queue_class classes q label on = absurd (false≢true on)

closing_down : (state : LinkState) → refused_where (not (is_closing state)) NotClosing None ≡ None → is_up state ≡ false
closing_down IsDown none = refl
closing_down IsUp none = absurd (cc)
closing_down Closing none = refl

first_on : (q : ℕ) (labels rest : List Label) (label : Label) → labels ≡ label ∷ rest → list_all (on_queue q) labels ≡ true → on_queue q label ≡ true
first_on q labels rest label is on = (and_parts (on_queue q label) (list_all (on_queue q) rest) (ap (list_all (on_queue q)) (sym is) ∙ on)).0

module _ (plan : Plan) (pair : ℕ) (now : Outbox) where
  refused_fits : (p : ℕ) (r : Answer) → refuses r ≡ true → Fits plan pair now (record { step = DropDone p; answer = r })
  refused_fits p Done is = absurd (false≢true is)
  refused_fits p r is = tt

  -- the answer to a step on a pair, if the writes left to post are their lanes', and the outbox says whether this pair
  -- is up
  pub answer_fits : (own : PairPlan) (bytes : Bytes) (part : PairPart) (step : Step) → OwnTodos part
      → ((p : ℕ) → step ≡ DropDone p → p == pair ≡ true → now.up ≡ link_up part)
      → Fits plan pair now (record { step = step; answer = (pair_next plan.devs own bytes part step).answer })
  answer_fits own bytes part (DropDone p) todos up =
      drop_cases (λ (o : Outcome). Fits plan pair now (record { step = DropDone p; answer = o.answer })) part (λ r no. refused_fits p r no.is)
      (λ none here. up p refl here ∙ closing_down part.link.state none)
  answer_fits own bytes part (Post p s queue) todos up =
      post_cases (reading_of own bytes part) (λ (o : Outcome). Fits plan pair now (record { step = Post p s queue; answer = o.answer })) part s queue tt
      (λ label rest is. queue_class _ queue label (first_on queue (lane_of part s queue).todo rest label is (todos s queue)))
      (λ entry others label rest idle waits is.
      queue_class _ queue label (first_on queue (labels_of queue (length (lane_of part s queue).sent) entry) rest label is (on_queue-labels queue (length (lane_of part s queue).sent) entry)))
  answer_fits own bytes part step todos up = tt

-- Landings

-- a write that lands on a side stands at its place in flight
abbrev pub LandsThere : ℕ → Side → List Label → Answered → Type 0
LandsThere pair side flight made = there made.step made.answer where
  there : Step → Answer → Type 0
  there (Land p s place) (Landed label) = p == pair ≡ true → same_side s side ≡ true → slice_get flight place ≡ Some label
  there step answer = Unit {0}

module _ (pair : ℕ) (side : Side) (flight : List Label) where
  refused_there : (p : ℕ) (s : Side) (place : ℕ) (r : Answer) → refuses r ≡ true → LandsThere pair side flight (record { step = Land p s place; answer = r })
  refused_there p s place (Landed label) is = absurd (false≢true is)
  refused_there p s place r is = tt

  of_side : (part : PairPart) (s : Side) (place : ℕ) (label : Label) → (side_of part side).flight ≡ flight → slice_get (side_of part s).flight place ≡ Some label
      → same_side s side ≡ true → slice_get flight place ≡ Some label
  of_side part s place label in_flight at same = go s side same at in_flight
    where
      go : (s side : Side) → same_side s side ≡ true → slice_get (side_of part s).flight place ≡ Some label → (side_of part side).flight ≡ flight → slice_get flight place ≡ Some label
      go A A same at is = ap (λ labels. slice_get labels place) (sym is) ∙ at
      go B B same at is = ap (λ labels. slice_get labels place) (sym is) ∙ at
      go A B same at is = absurd (false≢true same)
      go B A same at is = absurd (false≢true same)

  -- the answer to a step on a pair whose side has this in flight
  pub answer_lands : (plan : Plan) (own : PairPlan) (bytes : Bytes) (part : PairPart) (step : Step)
      → ((p : ℕ) (s : Side) (place : ℕ) → step ≡ Land p s place → p == pair ≡ true → (side_of part side).flight ≡ flight)
      → LandsThere pair side flight (record { step = step; answer = (pair_next plan.devs own bytes part step).answer })
  answer_lands plan own bytes part (Land p s place) in_flight =
      land_cases (λ (o : Outcome). LandsThere pair side flight (record { step = Land p s place; answer = o.answer })) own part s place (λ r no. refused_there p s place r no.is)
      (λ label at may here same. of_side part s place label (in_flight p s place refl here) at same)
  answer_lands plan own bytes part step in_flight = tt

-- a landing that is blocked: a write is at its place, and may not land
pub record IsBlocked (plan : PairPlan) (side : Side) (flight : List Label) (place : ℕ) : Type 0 where
  pub label : Label
  pub at : slice_get flight place ≡ Some label
  pub may_not : may_land (map (order_of plan side) flight) place ≡ false

-- what `blocked` says
pub blocked_there : (plan : PairPlan) (part : PairPart) (side : Side) (place : ℕ) → (land_step plan part side place).answer ≡ Blocked → IsBlocked plan side (side_of part side).flight place
blocked_there plan part side place is = found (slice_get (side_of part side).flight place) refl is
  where
    by_order : (label : Label) → slice_get (side_of part side).flight place ≡ Some label → (may : Bool) → may_land (map (order_of plan side) (side_of part side).flight) place ≡ may
        → (decided part (refuse_if (not may) Blocked None) (Landed label) (lands_on (taken_out part side place label) side label)).answer ≡ Blocked
        → IsBlocked plan side (side_of part side).flight place
    by_order label at true may is = absurd (cc)
    by_order label at false may is = record { label = label; at = at; may_not = may }

    found : (there : Option Label) → slice_get (side_of part side).flight place ≡ there → (land_found plan part side place there).answer ≡ Blocked
        → IsBlocked plan side (side_of part side).flight place
    found None e is = absurd (cc)
    found (Some label) e is = by_order label e _ refl is
