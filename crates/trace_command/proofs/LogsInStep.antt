-- After every log the writes of a side are in step with what it has in flight.
use Rattle.std.proofs.Common.{◌≡◌, ℕ, ◌==◌, ◌&&◌, ◌||◌, Bool, true, false, not, List, [], ◌∷◌, ◌++◌, refl, sym, ap, ◌∙◌, subst}
use Rattle.std.specs.Prelude.{filter, if◌then◌else◌}
use Rattle.std.specs.List.{fold}
use Rattle.std.proofs.lemmas.Bool.{cond_both, eqb-true}
use Rattle.std.proofs.lemmas.List.Sums.{fold-append}
use Rattle.step_kinds.specs.Sides.{same_side}
use Rattle.step_kinds.specs.Subject.{subject_of}
use Rattle.step_kinds.specs.declared.names.Side.{Side}
use Rattle.step_kinds.specs.declared.names.Side.TheVariants.{A, B}
use Rattle.step_kinds.specs.declared.plan.Plan.{Plan}
use Rattle.step_kinds.specs.declared.steps.Answer.{Answer}
use Rattle.step_kinds.specs.declared.steps.Answer.TheVariants.{Ok as Done, OkSession, Offered, Posted, Landed, Acked}
use Rattle.step_kinds.specs.declared.steps.Label.{Label}
use Rattle.step_kinds.specs.declared.steps.Label.TheVariants.{Index}
use Rattle.step_kinds.specs.declared.steps.Step.{Step}
use Rattle.step_kinds.specs.declared.steps.Step.TheVariants.{Train, Break, DropDone, Clean, Offer, Ready, Post, Land, Ack, Spad, Poke}
use Rattle.pair_model.specs.Plans.{pair_plan}
use Rattle.ledger_model.specs.Ledger.{link_up, side_of}
use Rattle.ledger_model.specs.Log.{Answered, Memories, answered, ledger_of, log_of, up_at}
use Rattle.ledger_laws.specs.Flights.{Outbox, goes_out, outbox_next, outbox_start}
use Rattle.ledger_laws.proofs.Facade.{log_of-last, own_todos, up_after-last, up_known, up_step}
use Rattle.pair_model.specs.Both.{at_side, both_of}
use Rattle.pair_model.specs.Orders.{classes_of}
use Rattle.trace_command.specs.Writes.{PairWrites, goes_through, no_writes, pair_start}
use Rattle.trace_command.specs.Laws.{is_lost, pair_writes, takes_out, with_item}
use Rattle.trace_command.proofs.AnswersFit.{LandsThere, answer_fits, answer_lands}
use Rattle.trace_command.proofs.FlyingLabels.{flight_is, flying-last, flying_after, flying_next}
use Rattle.trace_command.proofs.NumbersInStep.{SideInStep, each_longer, fold_filter-last}
use Rattle.trace_command.proofs.NumbersOfItems.{Fits, InStep, all_next, item_in_step}

-- the writes of a pair with an item more
pub writes-last : (plan : Plan) (pair : ℕ) (log : List Answered) (made : Answered) → pair_writes plan (log ++ made ∷ []) pair ≡ with_item plan pair (pair_writes plan log pair) made
writes-last plan pair log made = fold-append (with_item plan pair) (pair_start (pair_plan plan pair)) log (made ∷ [])

-- Whether the link is up

module _ (plan : Plan) (pair : ℕ) (side : Side) where
  same_up : (b : Bool) (s : Side) (now new : Outbox) → new.up ≡ now.up → (if b && same_side s side then new else now).up ≡ now.up
  same_up b s now new e = cond_both (b && same_side s side) new now (λ (after : Outbox). after.up ≡ now.up) (λ _. e) (λ _. refl)

  -- so it is where a write may be lost
  through_up : (g b : Bool) (s : Side) (label : Label) (now : Outbox) → (if g then (if b && same_side s side then goes_out now label else now) else now).up ≡ now.up
  through_up true b s label now = same_up b s now (goes_out now label) refl
  through_up false b s label now = refl

  -- a side's outbox is up where the log says so
  up_next : (now : Outbox) (step : Step) (answer : Answer) → Fits plan pair now (record { step = step; answer = answer })
      → (flying_next plan pair side now (record { step = step; answer = answer })).up ≡ up_step pair (record { step = step; answer = answer }) now.up
  up_next now (Train p) (OkSession n) fits = go (p == pair)
    where
      go : (b : Bool) → (if b then record now { up = true } else now).up ≡ (if b then true else now.up)
      go true = refl
      go false = refl
  up_next now (Break p) Done fits = go (p == pair)
    where
      go : (b : Bool) → (if b then record now { up = false } else now).up ≡ (if b then false else now.up)
      go true = refl
      go false = refl
  up_next now (DropDone p) Done fits = go (p == pair) fits
    where
      go : (b : Bool) → (b ≡ true → now.up ≡ false) → (if b then record now { up = false; flight = [] } else now).up ≡ now.up
      go true down = sym (down refl)
      go false down = refl
  up_next now (Clean p s) Done fits = same_up (p == pair) s now _ refl
  up_next now (Offer p s) (Offered index) fits = same_up (p == pair) s now _ refl
  up_next now (Ready p s queue) Done fits = same_up (p == pair) s now _ refl
  up_next now (Post p s queue) (Posted label) fits = through_up (not (not (goes_through (pair_plan plan p) s label))) (p == pair) s label now
  up_next now (Ack p s queue) (Acked n) fits = through_up (not (not (goes_through (pair_plan plan p) s (Index queue n)))) (p == pair) s (Index queue n) now
  up_next now (Spad p s i value) Done fits = same_up (p == pair) s now _ refl
  up_next now (Poke p s window offset bytes) Done fits = same_up (p == pair) s now _ refl
  up_next now (Land p s place) (Landed label) fits = same_up (p == pair) s now _ refl
  up_next now step answer fits = refl

  -- Logs

  -- the outbox after a log without its landings and drops
  abbrev pub all_after : List Answered → Outbox
  all_after log = fold (outbox_next plan pair side) (outbox_start plan pair side) (filter (λ made. not (is_lost plan made || takes_out made)) log)

  all-last : (log : List Answered) (made : Answered) → all_after (log ++ made ∷ []) ≡ all_next plan pair side (all_after log) made
  all-last log made = fold_filter-last (outbox_next plan pair side) (outbox_start plan pair side) (λ made. not (is_lost plan made || takes_out made)) log made

  -- what is so after each log
  pub record RunInStep (log : List Answered) : Type 0 where
    pub in_step : InStep (pair_plan plan pair) side (pair_writes plan log pair) (flying_after plan pair side log) (all_after log)
    pub up : (flying_after plan pair side log).up ≡ up_at plan pair log

  run_fresh : RunInStep []
  run_fresh = record { in_step = record { same = refl; link = refl; own = go side }; up = refl }
    where
      go : (side : Side) → SideInStep (classes_of (pair_plan plan pair) side) (at_side (both_of no_writes) side) [] []
      go A = record { posted = refl; numbers = refl; classes_there = refl }
      go B = record { posted = refl; numbers = refl; classes_there = refl }

  -- with an item more
  run_more : (log : List Answered) (made : Answered) → Fits plan pair (flying_after plan pair side log) made → RunInStep log → RunInStep (log ++ made ∷ [])
  run_more log made fits run = record {
    in_step =
        subst (λ (writes : PairWrites). InStep (pair_plan plan pair) side writes (flying_after plan pair side (log ++ made ∷ [])) (all_after (log ++ made ∷ []))) (sym (writes-last plan pair log made))
        (subst (λ (now : Outbox). InStep (pair_plan plan pair) side (with_item plan pair (pair_writes plan log pair) made) now (all_after (log ++ made ∷ []))) (sym next)
        (subst (λ (all : Outbox). InStep (pair_plan plan pair) side (with_item plan pair (pair_writes plan log pair) made) (flying_next plan pair side (flying_after plan pair side log) made) all) (sym (all-last log made))
        (item_in_step plan pair side (pair_writes plan log pair) (flying_after plan pair side log) (all_after log) made fits run.in_step)));
    up =
        ap (λ (now : Outbox). now.up) next ∙ up_next (flying_after plan pair side log) made.step made.answer fits ∙ ap (up_step pair made) run.up
        ∙ sym (up_after-last pair (pair_plan plan pair).up log made);
  }
    where
      next : flying_after plan pair side (log ++ made ∷ []) ≡ flying_next plan pair side (flying_after plan pair side log) made
      next = flying-last plan pair side log made

  module _ (memories : Memories) where
    abbrev LogOf : List Step → List Answered
    LogOf steps = log_of plan memories steps

    -- the item by which the log of one step more is longer
    abbrev pub made_next : List Step → Step → Answered
    made_next steps step = answered plan (memories (LogOf steps)) (ledger_of plan memories steps) step

    next_fits : (steps : List Step) (step : Step) → RunInStep (LogOf steps) → Fits plan pair (flying_after plan pair side (LogOf steps)) (made_next steps step)
    next_fits steps step run =
        answer_fits plan pair (flying_after plan pair side (LogOf steps)) (pair_plan plan (subject_of step)) (memories (LogOf steps) (subject_of step)) (ledger_of plan memories steps (subject_of step)) step
        (own_todos plan memories steps (subject_of step))
        (λ p is here.
        run.up ∙ up_known plan memories steps pair
        ∙ ap (λ k. link_up (ledger_of plan memories steps k)) (sym (eqb-true p pair here) ∙ sym (ap subject_of is)))

    -- after each list of steps
    pub run_in_step : (steps : List Step) → RunInStep (LogOf steps)
    run_in_step steps = each_longer (λ done. RunInStep (LogOf done)) run_fresh next steps
      where
        next : (done : List Step) (step : Step) → RunInStep (LogOf done) → RunInStep (LogOf (done ++ step ∷ []))
        next done step run = subst RunInStep (sym (log_of-last plan memories done step)) (run_more (LogOf done) (made_next done step) (next_fits done step run) run)

    -- what lands stands in flight
    pub next_lands : (steps : List Step) (step : Step) → LandsThere pair side (flying_after plan pair side (LogOf steps)).flight (made_next steps step)
    next_lands steps step =
        answer_lands pair side (flying_after plan pair side (LogOf steps)).flight plan (pair_plan plan (subject_of step)) (memories (LogOf steps) (subject_of step)) (ledger_of plan memories steps (subject_of step)) step
        (λ p s place is here.
        ap (λ k. (side_of (ledger_of plan memories steps k) side).flight) (ap subject_of is ∙ eqb-true p pair here)
        ∙ flight_is plan pair side memories steps)
