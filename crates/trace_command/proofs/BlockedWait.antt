-- A landing that is blocked names an earlier write in flight which the one at its place may not pass.
use Rattle.std.proofs.Common.{◌≡◌, ℕ, zero, suc, ◌+◌, ◌<◌, ◌≤◌, ◌==◌, ◌&&◌, ◌||◌, Bool, true, false, not, Some, List, [], ◌∷◌, length, map, take, refl, sym, ap, ◌∙◌, subst, arith}
use Rattle.std.specs.Prelude.{if◌then◌else◌, slice_get, slice_index_or}
use Rattle.std.specs.List.{list_all}
use Rattle.std.proofs.lemmas.Bool.{true≢false}
use Rattle.std.proofs.lemmas.Bool.Decides.{nat_tests}
use Rattle.std.proofs.lemmas.List.{length-map}
use Rattle.std.proofs.lemmas.List.Folds.{list_all_more}
use Rattle.std.proofs.lemmas.List.Sums.{fold_more}
use Rattle.std.proofs.lemmas.Option.{get_or_from_slice_get, slice_get-get_or, slice_get_within}
use Rattle.step_kinds.specs.declared.names.Side.{Side}
use Rattle.step_kinds.specs.declared.plan.PairPlan.{PairPlan}
use Rattle.step_kinds.specs.declared.steps.Answer.TheVariants.{Blocked}
use Rattle.step_kinds.specs.declared.steps.Label.{Label}
use Rattle.step_kinds.specs.declared.steps.Label.TheVariants.{Pad}
use Rattle.step_kinds.specs.declared.steps.Step.TheVariants.{Land}
use Rattle.order_rules.specs.Order.{passes, relaxed}
use Rattle.posted_queue.proofs.Facade.{may_land-map}
use Rattle.pair_model.specs.Orders.{class_of, classes_of, kind_of, order_of}
use Rattle.pair_model.specs.Plans.{pair_plan}
use Rattle.ledger_model.specs.Log.{ledger_of, log_of}
use Rattle.ledger_laws.proofs.Facade.{answer_of}
use Rattle.trace_command.specs.Writes.{last_of_class, no_write, trace_number_at, write_at}
use Rattle.trace_command.specs.declared.writes.FlyingWrite.{FlyingWrite}
use Rattle.trace_command.specs.Laws.{BlockedLandingsWait, flying_labels, side_writes}
use Rattle.trace_command.proofs.AnswersFit.{IsBlocked, blocked_there}
use Rattle.trace_command.proofs.FlyingLabels.{flight_is}
use Rattle.trace_command.proofs.LogsInStep.{all_after, run_in_step}
use Rattle.trace_command.proofs.NumbersInStep.{SideInStep}

-- Lists

all_pass : (passing : Bool) (others : Label → Bool) (before : List Label) → passing ≡ true → list_all (λ label. passing || others label) before ≡ true
all_pass true others [] is = refl
all_pass true others (x ∷ before) is = all_pass true others before is
all_pass false others before is = absurd (true≢false (sym is))

left_false : (a b : Bool) → (a && b) ≡ false → b ≡ true → a ≡ false
left_false true b both right = sym right ∙ both
left_false false b both right = refl

eqb-swap : (a b : ℕ) → (a == b) ≡ (b == a)
eqb-swap a b = grind (arith, nat_tests)

-- the class of the write at a place is that of its label
class_there : (classes : List ℕ) (writes : List FlyingWrite) (flight : List Label) (place : ℕ) (label : Label)
    → map (λ (w : FlyingWrite). w.class) writes ≡ map (class_of classes) flight → slice_get flight place ≡ Some label
    → (slice_index_or writes place (record { number = 0; class = 0 })).class ≡ class_of classes label
class_there classes [] [] place label e at = absurd (cc)
class_there classes [] (x ∷ flight) place label e at = absurd (cc)
class_there classes (w ∷ writes) [] place label e at = absurd (cc)
class_there classes (w ∷ writes) (x ∷ flight) zero label e at =
    let first : w.class ≡ class_of classes x = cc in
    let is : x ≡ label = cc in
    first ∙ ap (class_of classes) is
class_there classes (w ∷ writes) (x ∷ flight) (suc place) label e at =
    let rest : map (λ (w : FlyingWrite). w.class) writes ≡ map (class_of classes) flight = cc in
    class_there classes writes flight place label rest at

-- whether none of these labels has a class
abbrev none_has : List ℕ → ℕ → List Label → Bool
none_has classes class labels = list_all (λ label. not (class == class_of classes label)) labels

-- the last write of a class before a place
record LastOf (classes : List ℕ) (class : ℕ) (writes : List FlyingWrite) (flight : List Label) (place : ℕ) : Type 0 where
  earlier : ℕ
  before : earlier < place
  named : trace_number_at writes earlier ≡ last_of_class class (take place writes)
  same : class == class_of classes (slice_index_or flight earlier (Pad 0 0)) ≡ true

last_found : (classes : List ℕ) (class : ℕ) (writes : List FlyingWrite) (flight : List Label) (place : ℕ)
    → map (λ (w : FlyingWrite). w.class) writes ≡ map (class_of classes) flight → place ≤ length flight
    → none_has classes class (take place flight) ≡ false
    → LastOf classes class writes flight place
last_found classes class writes flight zero e within some = absurd (true≢false some)
last_found classes class writes flight (suc place) e within some =
    go (class == class_of classes here) refl (last_found classes class writes flight place e (omega arith)) (sym more ∙ some)
  where
    here : Label
    here = slice_index_or flight place (Pad 0 0)

    on : suc place ≡ place + 1
    on = omega arith

    there_too : place < length writes
    there_too = let long = sym (length-map writes (λ (w : FlyingWrite). w.class)) ∙ ap length e ∙ length-map flight (class_of classes) in omega arith

    more : none_has classes class (take (suc place) flight) ≡ (none_has classes class (take place flight) && not (class == class_of classes here))
    more =
        ap (λ n. none_has classes class (take n flight)) on
        ∙ list_all_more (λ earlier. not (class == class_of classes earlier)) flight place (Pad 0 0) (omega arith)

    test : (write_at writes place).class == class ≡ (class == class_of classes here)
    test =
        ap (λ c. c == class) (class_there classes writes flight place here e (slice_get-get_or flight place (Pad 0 0) (omega arith)))
        ∙ eqb-swap (class_of classes here) class

    named : last_of_class class (take (suc place) writes) ≡ (if class == class_of classes here then trace_number_at writes place else last_of_class class (take place writes))
    named =
        ap (λ n. last_of_class class (take n writes)) on
        ∙ fold_more (λ (found : ℕ) (write : FlyingWrite). if write.class == class then write.number else found) 0 writes place no_write there_too
        ∙ ap (λ b. if b then trace_number_at writes place else last_of_class class (take place writes)) test

    go : (b : Bool) → class == class_of classes here ≡ b
        → (none_has classes class (take place flight) ≡ false → LastOf classes class writes flight place)
        → (none_has classes class (take place flight) && not (class == class_of classes here)) ≡ false
        → LastOf classes class writes flight (suc place)
    go true is found some = record {
      earlier = place;
      before = omega arith;
      named = sym (named ∙ ap (λ b. if b then trace_number_at writes place else last_of_class class (take place writes)) is);
      same = is;
    }
    go false is found some =
        let there = found (left_false _ _ some (ap not is)) in
        record {
          earlier = there.earlier;
          before = omega (arith, there.before);
          named = there.named ∙ sym (named ∙ ap (λ b. if b then trace_number_at writes place else last_of_class class (take place writes)) is);
          same = there.same;
        }

-- a write that may not land is strict, and one before it has its class
module _ (plan : PairPlan) (side : Side) (flight : List Label) (place : ℕ) (blocked : IsBlocked plan side flight place) where
  abbrev Classes : List ℕ
  Classes = classes_of plan side

  abbrev Kind : ℕ
  Kind = kind_of plan.strict blocked.label

  others_false : list_all (λ earlier. Kind == relaxed || not (class_of Classes blocked.label == class_of Classes earlier)) (take place flight) ≡ false
  others_false = sym (may_land-map (order_of plan side) flight place blocked.label blocked.at) ∙ blocked.may_not

  is_strict : Kind == relaxed ≡ false
  is_strict = go (Kind == relaxed) refl
    where
      go : (b : Bool) → Kind == relaxed ≡ b → b ≡ false
      go true is =
          absurd (true≢false (sym (all_pass (Kind == relaxed) (λ earlier. not (class_of Classes blocked.label == class_of Classes earlier)) (take place flight) is) ∙ others_false))
      go false is = refl

  same_class_before : none_has Classes (class_of Classes blocked.label) (take place flight) ≡ false
  same_class_before =
      ap (λ b. list_all (λ earlier. b || not (class_of Classes blocked.label == class_of Classes earlier)) (take place flight)) (sym is_strict) ∙ others_false

-- a blocked landing names an earlier write that the one at its place may not pass
pub blocked_landings_wait : BlockedLandingsWait
blocked_landings_wait plan memories steps pair side place goes = record {
  earlier = last.earlier;
  before = last.before;
  named = last.named ∙ ap (λ class. last_of_class class (take place writes)) (sym (class_there classes writes flight place blocked.label run.classes_there blocked.at));
  may_not_pass =
      ap (λ (label : Label). passes (order_of own side label) (order_of own side (slice_index_or flight last.earlier (Pad 0 0)))) (get_or_from_slice_get flight place blocked.label (Pad 0 0) blocked.at)
      ∙ (λ i. is_strict own side flight place blocked i || not (last.same i));
}
  where
    own : PairPlan
    own = pair_plan plan pair

    classes : List ℕ
    classes = classes_of own side

    writes : List FlyingWrite
    writes = (side_writes plan (log_of plan memories steps) pair side).flight

    flight : List Label
    flight = flying_labels plan (log_of plan memories steps) pair side

    run : SideInStep classes (side_writes plan (log_of plan memories steps) pair side) flight (all_after plan pair side (log_of plan memories steps)).flight
    run = (run_in_step plan pair side memories steps).in_step.own

    blocked : IsBlocked own side flight place
    blocked =
        subst (λ labels. IsBlocked own side labels place) (flight_is plan pair side memories steps)
        (blocked_there own (ledger_of plan memories steps pair) side place (sym (answer_of plan memories steps (Land pair side place) Blocked goes)))

    last : LastOf classes (class_of classes blocked.label) writes flight place
    last =
        last_found classes (class_of classes blocked.label) writes flight place run.classes_there (let within = slice_get_within flight place blocked.label blocked.at in omega arith)
        (same_class_before own side flight place blocked)
