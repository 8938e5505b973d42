-- A step that is refused changes no write in flight, so its line repeats.
use Rattle.std.proofs.Common.{◌≡◌, ◌∙◌, ℕ, zero, suc, ◌+◌, List, [], ◌∷◌, ◌++◌, false, refl, sym, ap, replicate}
use Rattle.std.specs.Prelude.{slice_index_or, slice_set}
use Rattle.std.specs.List.{fold}
use Rattle.step_kinds.specs.Subject.{subject_of}
use Rattle.step_kinds.specs.declared.plan.PairPlan.{PairPlan}
use Rattle.step_kinds.specs.declared.steps.Answer.{Answer}
use Rattle.step_kinds.specs.declared.steps.Answer.TheVariants.{Ok as Done, OkSession, Offered, Posted, Blocked, Landed, Acked}
use Rattle.step_kinds.specs.declared.steps.Step.{Step}
use Rattle.step_kinds.specs.declared.steps.Step.TheVariants.{Train, Break, DropDone, Offer, Ready, Post, Land, Ack, Spad, Poke}
use Rattle.step_kinds.specs.Answers.{is_made}
use Rattle.pair_model.specs.Plans.{no_pair}
use Rattle.step_kinds.specs.AnsweredSteps.{AnsweredStep}
use Rattle.trace_command.specs.Lines.{trace_step_line}
use Rattle.trace_command.specs.Writes.{PairWrites, change_by, pair_after, pair_in, pair_start, writes_after}
use Rattle.step_kinds.specs.declared.plan.LineAnswer.{LineAnswer}
use Rattle.step_kinds.specs.declared.plan.Plan.{Plan}
use Rattle.cluster_core.proofs.Facade.{fold_more}
use Rattle.trace_command.specs.Trace.{Traced, with_line}

unchanged_pair : (plan : PairPlan) (now : PairWrites) (step : Step) (answer : Answer) → is_made answer ≡ false → pair_after now (change_by plan step answer) ≡ now
unchanged_pair plan now (Train pair) (OkSession session) refused = absurd (cc refused)
unchanged_pair plan now (Break pair) Done refused = absurd (cc refused)
unchanged_pair plan now (DropDone pair) Done refused = absurd (cc refused)
unchanged_pair plan now (Offer pair side) (Offered index) refused = absurd (cc refused)
unchanged_pair plan now (Ready pair side queue) Done refused = absurd (cc refused)
unchanged_pair plan now (Post pair side queue) (Posted label) refused = absurd (cc refused)
unchanged_pair plan now (Ack pair side queue) (Acked n) refused = absurd (cc refused)
unchanged_pair plan now (Spad pair side index value) Done refused = absurd (cc refused)
unchanged_pair plan now (Poke pair side window offset bytes) Done refused = absurd (cc refused)
unchanged_pair plan now (Land pair side place) (Landed label) refused = absurd (cc refused)
unchanged_pair plan now (Land pair side place) Blocked refused = refl
unchanged_pair plan now step answer refused = refl

set_same : {X : Type 0} (xs : List X) (k : ℕ) (d : X) → slice_set xs k (slice_index_or xs k d) ≡ xs
set_same [] k d = refl
set_same (x ∷ xs) zero d = refl
set_same (x ∷ xs) (suc k) d = ap (λ rest. x ∷ rest) (set_same xs k d)

-- A step that isn't made leaves all writes of all pairs, with their numbers, as they were.
pub unchanged_writes : (pairs : List PairPlan) (writes : List PairWrites) (step : Step) (answer : Answer) → is_made answer ≡ false → writes_after pairs writes step answer ≡ writes
unchanged_writes pairs writes step answer refused =
    let k = subject_of step in
    ap (slice_set writes k) (unchanged_pair (slice_index_or pairs k no_pair) (pair_in writes k) step answer refused) ∙ set_same writes k (pair_start no_pair)

-- this many lines of it leave the numbers as they were
pub unchanged_by_lines : (traced : Traced) (answered : AnsweredStep) (count : ℕ) → is_made answered.made.answer ≡ false →
    (fold with_line traced (replicate count answered)).writes ≡ traced.writes
unchanged_by_lines traced answered zero refused = refl
unchanged_by_lines traced answered (suc count) refused =
    unchanged_by_lines (with_line traced answered) answered count refused
    ∙ unchanged_writes traced.plan.pairs traced.writes answered.step answered.made.answer refused

-- a line that is put together apart
pub line_apart : (inside traced : Traced) (step : Step) (made : LineAnswer) (cleared line : List ℕ) → inside ≡ traced → cleared ≡ [] →
    line ≡ cleared ++ trace_step_line inside.plan inside.writes step made → line ≡ trace_step_line traced.plan traced.writes step made
line_apart inside traced step made cleared line same none is =
    is
    ∙ ap (λ (before : List ℕ). before ++ trace_step_line inside.plan inside.writes step made) none
    ∙ ap (λ (seen : Traced). trace_step_line seen.plan seen.writes step made) same

same_plan : (traced : Traced) (answered : AnsweredStep) (count : ℕ) → (fold with_line traced (replicate count answered)).plan ≡ traced.plan
same_plan traced answered zero = refl
same_plan traced answered (suc count) = same_plan (with_line traced answered) answered count

-- one line more is the line of the first
pub line_more : (traced : Traced) (answered : AnsweredStep) (count : ℕ) (text : List ℕ) → is_made answered.made.answer ≡ false →
    text ≡ (fold with_line traced (replicate count answered)).text →
    text ++ trace_step_line traced.plan traced.writes answered.step answered.made ≡ (fold with_line traced (replicate (count + 1) answered)).text
line_more traced answered count text refused is =
    let so_far : Traced = fold with_line traced (replicate count answered) in
    ap (λ (before : List ℕ). before ++ trace_step_line traced.plan traced.writes answered.step answered.made) is
    ∙ ap (λ (plan : Plan). so_far.text ++ trace_step_line plan traced.writes answered.step answered.made) (sym (same_plan traced answered count))
    ∙ ap (λ (writes : List PairWrites). so_far.text ++ trace_step_line so_far.plan writes answered.step answered.made) (sym (unchanged_by_lines traced answered count refused))
    ∙ ap (λ (all : Traced). all.text) (sym (fold_more with_line traced count answered))

-- what is kept after this many lines, by its parts
pub traced_is : (traced : Traced) (answered : AnsweredStep) (count : ℕ) (plan : Plan) (writes : List PairWrites) (text : List ℕ) →
    is_made answered.made.answer ≡ false → plan ≡ traced.plan → writes ≡ traced.writes → text ≡ (fold with_line traced (replicate count answered)).text →
    record { plan = plan; writes = writes; text = text } ≡ fold with_line traced (replicate count answered)
traced_is traced answered count plan writes text refused of_plan of_writes of_text =
    let all : Traced = fold with_line traced (replicate count answered) in
    let made : Plan → List PairWrites → List ℕ → Traced = λ p w t. record { plan = p; writes = w; text = t } in
    ap (λ (p : Plan). made p writes text) (of_plan ∙ sym (same_plan traced answered count))
    ∙ ap (λ (w : List PairWrites). made all.plan w text) (of_writes ∙ sym (unchanged_by_lines traced answered count refused))
    ∙ ap (λ (t : List ℕ). made all.plan all.writes t) of_text
