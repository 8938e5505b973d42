-- Each item of a log keeps the writes of a side in step with what it has in flight.
use Rattle.std.proofs.Common.{◌≡◌, ℕ, ◌+◌, ◌==◌, ◌&&◌, ◌||◌, Bool, true, false, not, List, [], length, refl, sym, ap, subst}
use Rattle.std.specs.Prelude.{if◌then◌else◌, remove, slice_index_or}
use Rattle.std.proofs.lemmas.Bool.{eqb-true, false≢true}
use Rattle.step_kinds.specs.Sides.{same_side}
use Rattle.step_kinds.specs.Bits.{with_bit}
use Rattle.step_kinds.specs.declared.names.Side.{Side}
use Rattle.step_kinds.specs.declared.names.Side.TheVariants.{A, B}
use Rattle.step_kinds.specs.declared.plan.PairPlan.{PairPlan}
use Rattle.step_kinds.specs.declared.plan.Plan.{Plan}
use Rattle.step_kinds.specs.declared.steps.Answer.{Answer}
use Rattle.step_kinds.specs.declared.steps.Answer.TheVariants.{Ok as Done, OkSession, Offered, Posted, Blocked, Landed, Acked}
use Rattle.step_kinds.specs.declared.steps.Label.{Label}
use Rattle.step_kinds.specs.declared.steps.Label.TheVariants.{Index, Pad, Raw}
use Rattle.step_kinds.specs.declared.steps.Step.{Step}
use Rattle.step_kinds.specs.declared.steps.Step.TheVariants.{Train, Break, DropDone, Clean, Offer, Ready, Post, Land, Ack, Spad, Poke}
use Rattle.pair_model.specs.Both.{Both, at_side}
use Rattle.pair_model.specs.Orders.{class_of, classes_of}
use Rattle.pair_model.specs.Pads.{links_pad, offers}
use Rattle.pair_model.specs.Plans.{pair_plan, side_plan}
use Rattle.ledger_model.specs.Log.{Answered}
use Rattle.ledger_laws.specs.Flights.{Outbox, goes_out, outbox_next}
use Rattle.ledger_laws.proofs.Facade.{is_pad, offer-is_pad}
use Rattle.trace_command.specs.Writes.{PairWrites, SideWrites, class_on, goes_through, pair_after, queue_posts}
use Rattle.trace_command.specs.declared.changes.Change.TheVariants.{Trains, Breaks, Drops, Posts, Loses, Lands, Waits, Nothing}
use Rattle.trace_command.specs.Laws.{is_lost, takes_out, with_item}
use Rattle.trace_command.proofs.FlyingLabels.{flying_next}
use Rattle.trace_command.proofs.NumbersInStep.{SideInStep, dropped_in_step, landed_in_step, posted_in_step}

-- what the ledger makes sure of in an item of a log: a drop comes while the link isn't up, and a write of a queue has
-- the queue's class
abbrev pub Fits : Plan → ℕ → Outbox → Answered → Type 0
Fits plan pair now made = fits made.step made.answer where
  fits : Step → Answer → Type 0
  fits (DropDone p) Done = p == pair ≡ true → now.up ≡ false
  fits (Post p s queue) (Posted label) = class_of (classes_of (pair_plan plan pair) s) label ≡ class_on (pair_plan plan pair) s queue
  fits step answer = Unit {0}

-- a pair's writes, a side's outbox after the same log, and its outbox after the log without landings and drops
pub record InStep (plan : PairPlan) (side : Side) (writes : PairWrites) (now all : Outbox) : Type 0 where
  pub same : all ≡ record now { flight = all.flight }
  pub link : writes.up ≡ now.up
  pub own : SideInStep (classes_of plan side) (at_side writes.sides side) now.flight all.flight

pad_class : (classes : List ℕ) (label : Label) → is_pad label ≡ true → class_of classes label ≡ 0
pad_class classes (Pad i value) is = refl
pad_class classes label is = absurd (false≢true is)

-- Each kind of change

module _ (plan : PairPlan) (session : ℕ) (sides : Both SideWrites) where
  -- the pair's writes with a link that is up or not
  abbrev With : Bool → PairWrites
  With up = record { up = up; session = session; sides = sides }

  abbrev Held : Side → Outbox → List Label → Type 0
  Held side now labels = SideInStep (classes_of plan side) (at_side sides side) now.flight labels

  kept : (b : Bool) (side : Side) (now : Outbox) (labels : List Label) → Held side now labels
      → InStep plan side (pair_after (With now.up) (if b then Nothing else Nothing)) now (record now { flight = labels })
  kept true side now labels own = record { same = refl; link = refl; own = own }
  kept false side now labels own = record { same = refl; link = refl; own = own }

  trained : (b : Bool) (n : ℕ) (side : Side) (now : Outbox) (labels : List Label) → Held side now labels
      → InStep plan side (pair_after (With now.up) (if b then Trains n else Nothing)) (if b then record now { up = true } else now)
      (if b then record now { up = true; flight = labels } else record now { flight = labels })
  trained true n side now labels own = record { same = refl; link = refl; own = own }
  trained false n side now labels own = record { same = refl; link = refl; own = own }

  broken : (b : Bool) (side : Side) (now : Outbox) (labels : List Label) → Held side now labels
      → InStep plan side (pair_after (With now.up) (if b then Breaks else Nothing)) (if b then record now { up = false } else now)
      (if b then record now { up = false; flight = labels } else record now { flight = labels })
  broken true side now labels own = record { same = refl; link = refl; own = own }
  broken false side now labels own = record { same = refl; link = refl; own = own }

  dropped : (b : Bool) (side : Side) (now : Outbox) (labels : List Label) → (b ≡ true → now.up ≡ false) → Held side now labels
      → InStep plan side (pair_after (With now.up) (if b then Drops else Nothing)) (if b then record now { up = false; flight = [] } else now) (record now { flight = labels })
  dropped true A now labels down own = record {
    same = ap (λ up. record now { up = up; flight = labels }) (down refl);
    link = refl;
    own = dropped_in_step (classes_of plan A) sides.a now.flight labels own;
  }
  dropped true B now labels down own = record {
    same = ap (λ up. record now { up = up; flight = labels }) (down refl);
    link = refl;
    own = dropped_in_step (classes_of plan B) sides.b now.flight labels own;
  }
  dropped false side now labels down own = record { same = refl; link = refl; own = own }

  cleaned : (b : Bool) (s side : Side) (now : Outbox) (labels : List Label) → Held side now labels
      → InStep plan side (pair_after (With now.up) (if b then Nothing else Nothing)) (if b && same_side s side then record now { offered = 0; ready = 0 } else now)
      (if b && same_side s side then record now { offered = 0; ready = 0; flight = labels } else record now { flight = labels })
  cleaned true A A now labels own = record { same = refl; link = refl; own = own }
  cleaned true B B now labels own = record { same = refl; link = refl; own = own }
  cleaned true A B now labels own = record { same = refl; link = refl; own = own }
  cleaned true B A now labels own = record { same = refl; link = refl; own = own }
  cleaned false s side now labels own = record { same = refl; link = refl; own = own }

  -- a side posts a write, with which it has offered and readied so much
  posted : (b : Bool) (s side : Side) (class : ℕ) (label : Label) (up : Bool) (offered ready offered_then ready_then : ℕ) (flight labels : List Label)
      → class_of (classes_of plan s) label ≡ class → SideInStep (classes_of plan side) (at_side sides side) flight labels
      → InStep plan side (pair_after (With up) (if b then Posts s class else Nothing))
      (if b && same_side s side then goes_out (record { up = up; offered = offered_then; ready = ready_then; flight = flight }) label else record { up = up; offered = offered; ready = ready; flight = flight })
      (if b && same_side s side then goes_out (record { up = up; offered = offered_then; ready = ready_then; flight = labels }) label else record { up = up; offered = offered; ready = ready; flight = labels })
  posted true A A class label true offered ready offered_then ready_then flight labels is own =
      record { same = refl; link = refl; own = posted_in_step (classes_of plan A) sides.a flight labels own class label is }
  posted true B B class label true offered ready offered_then ready_then flight labels is own =
      record { same = refl; link = refl; own = posted_in_step (classes_of plan B) sides.b flight labels own class label is }
  posted true A A class label false offered ready offered_then ready_then flight labels is own = record { same = refl; link = refl; own = own }
  posted true B B class label false offered ready offered_then ready_then flight labels is own = record { same = refl; link = refl; own = own }
  posted true A B class label true offered ready offered_then ready_then flight labels is own = record { same = refl; link = refl; own = own }
  posted true B A class label true offered ready offered_then ready_then flight labels is own = record { same = refl; link = refl; own = own }
  posted true A B class label false offered ready offered_then ready_then flight labels is own = record { same = refl; link = refl; own = own }
  posted true B A class label false offered ready offered_then ready_then flight labels is own = record { same = refl; link = refl; own = own }
  posted false s side class label up offered ready offered_then ready_then flight labels is own = record { same = refl; link = refl; own = own }

  -- a write of a queue, which is lost where it doesn't go through
  through : (b g : Bool) (s side : Side) (class : ℕ) (label : Label) (now : Outbox) (labels : List Label)
      → class_of (classes_of plan s) label ≡ class → Held side now labels
      → InStep plan side (pair_after (With now.up) (if b then (if g then Posts s class else Loses) else Nothing))
      (if not (not g) then (if b && same_side s side then goes_out now label else now) else now)
      (if not (not g || false) then (if b && same_side s side then goes_out (record now { flight = labels }) label else record now { flight = labels }) else record now { flight = labels })
  through true true s side class label now labels is own = posted true s side class label now.up now.offered now.ready now.offered now.ready now.flight labels is own
  through false true s side class label now labels is own = record { same = refl; link = refl; own = own }
  through true false s side class label now labels is own = record { same = refl; link = refl; own = own }
  through false false s side class label now labels is own = record { same = refl; link = refl; own = own }

  landed : (b : Bool) (s side : Side) (place : ℕ) (now : Outbox) (labels : List Label) → Held side now labels
      → InStep plan side (pair_after (With now.up) (if b then Lands s place else Nothing)) (if b && same_side s side then record now { flight = remove now.flight place } else now)
      (record now { flight = labels })
  landed true A A place now labels own = record { same = refl; link = refl; own = landed_in_step (classes_of plan A) sides.a now.flight labels own place }
  landed true B B place now labels own = record { same = refl; link = refl; own = landed_in_step (classes_of plan B) sides.b now.flight labels own place }
  landed true A B place now labels own = record { same = refl; link = refl; own = own }
  landed true B A place now labels own = record { same = refl; link = refl; own = own }
  landed false s side place now labels own = record { same = refl; link = refl; own = own }

  waits : (b : Bool) (s side : Side) (place : ℕ) (now : Outbox) (labels : List Label) → Held side now labels
      → InStep plan side (pair_after (With now.up) (if b then Waits s place else Nothing)) now (record now { flight = labels })
  waits true s side place now labels own = record { same = refl; link = refl; own = own }
  waits false s side place now labels own = record { same = refl; link = refl; own = own }

-- Each item

module _ (plan : Plan) (pair : ℕ) (side : Side) where
  abbrev Own : PairPlan
  Own = pair_plan plan pair

  -- the outbox that neither landings nor drops change
  abbrev pub all_next : Outbox → Answered → Outbox
  all_next all made = if not (is_lost plan made || takes_out made) then outbox_next plan pair side all made else all

  abbrev After : PairWrites → Outbox → List Label → Step → Answer → Type 0
  After writes now labels step answer =
      InStep Own side (with_item plan pair writes (record { step = step; answer = answer })) (flying_next plan pair side now (record { step = step; answer = answer }))
      (all_next (record now { flight = labels }) (record { step = step; answer = answer }))

  module _ (session : ℕ) (sides : Both SideWrites) (now : Outbox) (labels : List Label) (own : SideInStep (classes_of Own side) (at_side sides side) now.flight labels) where
    abbrev Writes : PairWrites
    Writes = record { up = now.up; session = session; sides = sides }

    -- a write of a queue: where it is on this pair, it goes through by this pair's plan
    queue_posted : (p : ℕ) (s : Side) (queue : ℕ) (label : Label) → class_of (classes_of Own s) label ≡ class_on Own s queue
        → InStep Own side (pair_after Writes (if p == pair then queue_posts Own s queue label else Nothing))
        (if not (not (goes_through (pair_plan plan p) s label)) then (if (p == pair) && same_side s side then goes_out now label else now) else now)
        (if not (not (goes_through (pair_plan plan p) s label) || false) then (if (p == pair) && same_side s side then goes_out (record now { flight = labels }) label else record now { flight = labels }) else record now { flight = labels })
    queue_posted p s queue label is = go (p == pair) (goes_through (pair_plan plan p) s label) (λ here. ap (λ k. goes_through (pair_plan plan k) s label) (eqb-true p pair here))
      where
        go : (b g : Bool) → (b ≡ true → g ≡ goes_through Own s label)
            → InStep Own side (pair_after Writes (if b then queue_posts Own s queue label else Nothing))
            (if not (not g) then (if b && same_side s side then goes_out now label else now) else now)
            (if not (not g || false) then (if b && same_side s side then goes_out (record now { flight = labels }) label else record now { flight = labels }) else record now { flight = labels })
        go true g here =
            subst
            (λ own_goes.
            InStep Own side (pair_after Writes (if own_goes then Posts s (class_on Own s queue) else Loses))
            (if not (not g) then (if same_side s side then goes_out now label else now) else now)
            (if not (not g || false) then (if same_side s side then goes_out (record now { flight = labels }) label else record now { flight = labels }) else record now { flight = labels }))
            (here refl) (through Own session sides true g s side (class_on Own s queue) label now labels is own)
        go false g here = through Own session sides false g s side (class_on Own s queue) label now labels is own

    each : (step : Step) (answer : Answer) → Fits plan pair now (record { step = step; answer = answer }) → After Writes now labels step answer
    each (Train p) (OkSession n) fits = trained Own session sides (p == pair) n side now labels own
    each (Break p) Done fits = broken Own session sides (p == pair) side now labels own
    each (DropDone p) Done fits = dropped Own session sides (p == pair) side now labels fits own
    each (Clean p s) Done fits = cleaned Own session sides (p == pair) s side now labels own
    each (Offer p s) (Offered index) fits =
        let label : Label = slice_index_or (offers (side_plan Own side)) now.offered (Pad 0 0) in
        posted Own session sides (p == pair) s side 0 label now.up now.offered now.ready (now.offered + 1) now.ready now.flight labels
        (pad_class (classes_of Own s) label (offer-is_pad (side_plan Own side) now.offered)) own
    each (Ready p s queue) Done fits =
        posted Own session sides (p == pair) s side 0 (Pad links_pad (with_bit now.ready queue)) now.up now.offered now.ready now.offered (with_bit now.ready queue) now.flight labels refl own
    each (Post p s queue) (Posted label) fits = queue_posted p s queue label fits
    each (Ack p s queue) (Acked n) fits = queue_posted p s queue (Index queue n) refl
    each (Spad p s i value) Done fits = posted Own session sides (p == pair) s side 0 (Pad i value) now.up now.offered now.ready now.offered now.ready now.flight labels refl own
    each (Poke p s window offset bytes) Done fits =
        posted Own session sides (p == pair) s side 0 (Raw window offset (length bytes)) now.up now.offered now.ready now.offered now.ready now.flight labels refl own
    each (Land p s place) (Landed label) fits = landed Own session sides (p == pair) s side place now labels own
    each (Land p s place) Blocked fits = waits Own session sides (p == pair) s side place now labels own
    each step answer fits = kept Own session sides _ side now labels own

  -- an item keeps the writes in step
  pub item_in_step : (writes : PairWrites) (now all : Outbox) (made : Answered) → Fits plan pair now made → InStep Own side writes now all
      → InStep Own side (with_item plan pair writes made) (flying_next plan pair side now made) (all_next all made)
  item_in_step writes now all made fits in_step =
      subst (λ (whole : Outbox). InStep Own side (with_item plan pair writes made) (flying_next plan pair side now made) (all_next whole made)) (sym in_step.same)
      (subst (λ up. InStep Own side (with_item plan pair (record writes { up = up }) made) (flying_next plan pair side now made) (all_next (record now { flight = all.flight }) made)) (sym in_step.link)
      (each writes.session writes.sides now all.flight in_step.own made.step made.answer fits))
