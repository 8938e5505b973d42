-- The lines so far declare a whole plan, and so does a script.
use Rattle.std.proofs.Common.{◌≡◌, ℕ, zero, suc, ◌+◌, ◌<◌, ◌≤◌, ◌==◌, true, false, not, ◌&&◌, cond, inl, inr, Result, Ok, Err, List, [], ◌∷◌, ◌++◌, length, get_or, map, slice_set, refl, sym, ◌∙◌, ap, subst, arith}
use Rattle.std.proofs.Math.Seq.{get_or-append_seam}
use Rattle.std.proofs.lemmas.Bool.{eq-eqb, and_from, or_parts, both_ways, cases_lt}
use Rattle.std.proofs.lemmas.List.{append-nil, get_or_append_left, length-append, length-map}
use Rattle.std.proofs.lemmas.List.Concat.{flat_map-append}
use Rattle.std.proofs.lemmas.List.Elements.{All-push, All-set, All-weaker, All-nil, All-map, All-append, All-from_get_or}
use Rattle.std.proofs.lemmas.List.Sums.{sum_by-append}
use Rattle.std.specs.List.{All, AllPairs, list_any, slice_split}
use Rattle.step_kinds.specs.Sides.{same_side}
use Rattle.step_kinds.specs.declared.names.Side.{Side}
use Rattle.step_kinds.specs.declared.names.Side.TheVariants.{A, B}
use Rattle.step_kinds.specs.declared.plan.PairPlan.{PairPlan}
use Rattle.step_kinds.specs.declared.plan.DevPlan.{DevPlan}
use Rattle.step_kinds.specs.declared.plan.Line.{Line}
use Rattle.step_kinds.specs.declared.plan.SwitchPlan.{SwitchPlan}
use Rattle.step_kinds.specs.declared.plan.Plan.{Plan}
use Rattle.step_kinds.specs.declared.plan.Traffic.{Traffic}
use Rattle.step_kinds.specs.declared.plan.Traffic.TheVariants.{Send, Break as LinkLoss}
use Rattle.step_kinds.specs.declared.steps.Step.{Step}
use Rattle.pair_model.specs.DeclaredPlans.{IsPair, IsDevice, IsDeclared, SameQueue}
use Rattle.pair_model.proofs.Facade.{with_lists, queue_of_other, switches_of_other, makeable_by_other}
use Rattle.pair_model.specs.Plans.{pair_plan, dev_plan, ports_in, no_pair, no_dev}
use Rattle.pair_model.specs.Switches.{AreSwitches, IsMakeable, IsSwitch}
use Rattle.pair_model.specs.TrafficPlans.{frames_in, traffic_bytes_in, is_break_of, IsTraffic, IsWhole}
use Rattle.script_words.specs.Before.{Before, nothing_before, with_given, with_class, Given, Nothing, Host, APair, ADevice, AClass, ASwitch, StepsBegin, TrafficBegins, MoreSteps, MoreTraffic}
use Rattle.script_words.specs.Declarations.{sits_on}
use Rattle.script_words.specs.Tests.{whole}
use Rattle.script_words.specs.Words.{lines_of, words_of, is_skipped, is_text}
use Rattle.script_words.specs.declared.fault.LineFault.{LineFault}
use Rattle.script_words.specs.declared.fault.Cause.TheVariants.{NotText, BadHeader}
use Rattle.script_words.specs.declared.fault.ScriptFault.{ScriptFault}
use Rattle.script_words.specs.declared.parts.Part.{Part}
use Rattle.script_words.specs.declared.parts.Part.TheVariants.{Declarations, Steps, Traffic as TrafficPart}
use Rattle.script_words.specs.declared.parts.PairHosts.{PairHosts}
use Rattle.script_words.specs.declared.parts.QueueName.{QueueName}
use Rattle.script_plan.proofs.Facade.{length-set_pairs, sum-map-append, device_stays, queue_stays, switch_stays, class_fits, queue_classed}
use Rattle.script_text.specs.SoundLines.{Held, Filled}
use Rattle.script_text.specs.ParseClauses.{after_line}
use Rattle.script_text.specs.Script.{header_line, is_header, words_line, line_gives, read_lines, plan_of, script_of}
use Rattle.script_text.proofs.DeclarationFits.{declaration_fits}
use Rattle.script_text.proofs.Fits.{Fits, AddsPair, AddsDevice, AddsClass, AddsSwitch, AddsSteps, AddsTraffic}
use Rattle.script_text.proofs.Gives.{Gives, gives_ok, gives_then, gives_passed, gives_if}
use Rattle.script_text.proofs.LinesRead.{then_lines, next_line}
use Rattle.script_text.proofs.StepFits.{step_fits}
use Rattle.script_text.proofs.TrafficFits.{traffic_fits}
use Rattle.script_text.proofs.WordFacts.{filter_filled}

-- Other switches, steps and traffic beside the same pairs and devices

module _ (plan : Plan) (switches : List SwitchPlan) (steps : List Line) (traffic : List Traffic) where
  traffic_in : (item : Traffic) → IsTraffic plan item → IsTraffic (with_lists plan switches steps traffic) item
  traffic_in (Send lane frame) h = (record { declared = h.0.declared; may = h.0.may; among = h.0.among; short = h.0.short }, h.1, h.2)
  traffic_in (LinkLoss pair) h = h

  declared_in : IsDeclared plan → IsDeclared (with_lists plan switches steps traffic)
  declared_in h = record {
    few_pairs = h.few_pairs;
    pairs = h.pairs;
    few_devices = h.few_devices;
    devices = λ k lt. device_stays plan (with_lists plan switches steps traffic) (queue_of_other plan switches steps traffic) (dev_plan plan.devs k) (h.devices k lt);
    one_on_a_queue = h.one_on_a_queue;
  }

-- A line of each kind

no_steps : (plan : Plan) (steps : List Line) → steps ≡ [] → All (λ line. IsMakeable plan line.step) steps
no_steps plan steps e = let P : List Line → Type 0 = All (λ line. IsMakeable plan line.step) in subst P (sym e) (All-nil (λ line. IsMakeable plan line.step))

no_traffic : (plan : Plan) (traffic : List Traffic) → traffic ≡ [] → All (IsTraffic plan) traffic
no_traffic plan traffic e = let P : List Traffic → Type 0 = All (IsTraffic plan) in subst P (sym e) (All-nil (IsTraffic plan))

-- Declarations beside the lines so far, none of which is a step or traffic

abbrev with_declared : Plan → List PairPlan → List DevPlan → Plan
with_declared plan pairs devs = record plan { pairs = pairs; devs = devs }

switches_beside : (plan : Plan) (pairs : List PairPlan) (devs : List DevPlan) → length plan.devs ≤ length devs → AreSwitches plan → AreSwitches (with_declared plan pairs devs)
switches_beside plan pairs devs more are =
    let next : Plan = with_declared plan pairs devs in
    record { few = are.few; each = All-weaker (IsSwitch plan) (IsSwitch next) (switch_stays plan next more) plan.switches are.each; apart = are.apart }

declared_more : (before : Before) (pairs : List PairPlan) (devs : List DevPlan) → Held before → before.part ≡ Declarations → length before.plan.devs ≤ length devs
    → IsDeclared (with_declared before.plan pairs devs) → IsWhole (with_declared before.plan pairs devs)
declared_more before pairs devs held part more declared =
    let none = held.declarations_first part in
    record {
      declared = declared;
      switches = switches_beside before.plan pairs devs more held.whole.switches;
      steps = no_steps (with_declared before.plan pairs devs) before.plan.steps none.0;
      few_steps = held.whole.few_steps;
      traffic = no_traffic (with_declared before.plan pairs devs) before.plan.traffic none.1;
      few_frames = held.whole.few_frames;
      few_bytes = held.whole.few_bytes;
      few_breaks = held.whole.few_breaks;
    }

pair_kept : (n : ℕ) (before : Before) (pair : PairPlan) (hosts : PairHosts) → Held before → AddsPair before pair → Held (with_given n before (APair pair hosts))
pair_kept n before pair hosts held fits =
    let plan : Plan = before.plan in
    let next : Plan = record before.plan { pairs = before.plan.pairs ++ pair ∷ [] } in
    let whole : IsWhole before.plan = held.whole in
    let all : All IsPair (before.plan.pairs ++ pair ∷ []) =
    All-push IsPair before.plan.pairs pair (All-from_get_or IsPair before.plan.pairs no_pair whole.declared.pairs) fits.fits in
    record {
      whole = declared_more before (before.plan.pairs ++ pair ∷ []) before.plan.devs held fits.part (omega arith) (record {
        few_pairs = let long = length-append before.plan.pairs (pair ∷ []) in let room = fits.few in omega arith;
        pairs = λ k lt. all k no_pair lt;
        few_devices = whole.declared.few_devices;
        devices = λ k lt. device_stays plan next (queue_stays plan pair) (dev_plan plan.devs k) (whole.declared.devices k lt);
        one_on_a_queue = whole.declared.one_on_a_queue;
      });
      declarations_first = held.declarations_first;
    }

same_side-refl : (side : Side) → same_side side side ≡ true
same_side-refl A = refl
same_side-refl B = refl

sits_there : (one other : DevPlan) → SameQueue one other → sits_on other.pair other.side other.queue one ≡ true
sits_there one other (p, s, q) =
    let side : same_side one.side other.side ≡ true = rw s (same_side-refl other.side) in
    and_from (one.pair == other.pair) (same_side one.side other.side && (one.queue == other.queue)) (eq-eqb one.pair other.pair p)
    (and_from (same_side one.side other.side) (one.queue == other.queue) side (eq-eqb one.queue other.queue q))

nobody_sits : (devs : List DevPlan) (dev : DevPlan) (k : ℕ) → list_any (sits_on dev.pair dev.side dev.queue) devs ≡ false → k < length devs → SameQueue (dev_plan devs k) dev → ⊥
nobody_sits [] dev k free lt same = absurd (omega arith)
nobody_sits (d ∷ devs) dev zero free lt same =
    both_ways (sits_on dev.pair dev.side dev.queue d) (or_parts (sits_on dev.pair dev.side dev.queue d) (list_any (sits_on dev.pair dev.side dev.queue) devs) free).0 (sits_there d dev same)
nobody_sits (d ∷ devs) dev (suc k) free lt same =
    nobody_sits devs dev k (or_parts (sits_on dev.pair dev.side dev.queue d) (list_any (sits_on dev.pair dev.side dev.queue) devs) free).1 (omega arith) same

flipped : (one other : DevPlan) → SameQueue one other → SameQueue other one
flipped one other (p, s, q) = (sym p, sym s, sym q)

one_each : (devs : List DevPlan) (dev : DevPlan) → ((j k : ℕ) → j < length devs → k < length devs → SameQueue (dev_plan devs j) (dev_plan devs k) → j ≡ k)
    → list_any (sits_on dev.pair dev.side dev.queue) devs ≡ false
    → (j k : ℕ) → j < length (devs ++ dev ∷ []) → k < length (devs ++ dev ∷ []) → SameQueue (dev_plan (devs ++ dev ∷ []) j) (dev_plan (devs ++ dev ∷ []) k) → j ≡ k
one_each devs dev alone free j k j_in k_in same =
    elim (cases_lt j (length devs)) [
      | inl j_old ↦ elim (cases_lt k (length devs)) [
        | inl k_old ↦ alone j k j_old k_old (subst (λ d. SameQueue (dev_plan devs j) d) (old k k_old) (subst (λ d. SameQueue d (dev_plan all k)) (old j j_old) same))
        | inr k_new ↦ absurd (nobody_sits devs dev j free j_old (subst (λ d. SameQueue (dev_plan devs j) d) (last k k_new k_in) (subst (λ d. SameQueue d (dev_plan all k)) (old j j_old) same)))
      ]
      | inr j_new ↦ elim (cases_lt k (length devs)) [
        | inl k_old ↦ absurd (nobody_sits devs dev k free k_old
            (flipped dev (dev_plan devs k) (subst (λ d. SameQueue dev d) (old k k_old) (subst (λ d. SameQueue d (dev_plan all k)) (last j j_new j_in) same))))
        | inr k_new ↦ let long = length-append devs (dev ∷ []) in omega arith
      ]
    ]
  where
    all : List DevPlan
    all = devs ++ dev ∷ []

    old : (i : ℕ) → i < length devs → dev_plan (devs ++ dev ∷ []) i ≡ dev_plan devs i
    old i lt = get_or_append_left devs (dev ∷ []) no_dev i lt

    last : (i : ℕ) → length devs ≤ i → i < length (devs ++ dev ∷ []) → dev_plan (devs ++ dev ∷ []) i ≡ dev
    last i above within =
        let long = length-append devs (dev ∷ []) in
        let here : i ≡ length devs = omega arith in
        ap (dev_plan (devs ++ dev ∷ [])) here ∙ get_or-append_seam devs dev [] no_dev

device_kept : (n : ℕ) (before : Before) (dev : DevPlan) → Held before → AddsDevice before dev → Held (with_given n before (ADevice dev))
device_kept n before dev held fits =
    let plan : Plan = before.plan in
    let next : Plan = record before.plan { devs = before.plan.devs ++ dev ∷ [] } in
    let whole : IsWhole before.plan = held.whole in
    let stays : (d : DevPlan) → IsDevice plan d → IsDevice next d = device_stays plan next (λ k side queue h. record { declared = h.declared; among = h.among }) in
    let all : All (IsDevice next) (before.plan.devs ++ dev ∷ []) =
    All-push (IsDevice next) before.plan.devs dev (All-weaker (IsDevice plan) (IsDevice next) stays before.plan.devs (All-from_get_or (IsDevice plan) before.plan.devs no_dev whole.declared.devices)) (stays dev fits.fits) in
    record {
      whole = declared_more before before.plan.pairs (before.plan.devs ++ dev ∷ []) held fits.part (let long = length-append before.plan.devs (dev ∷ []) in omega arith) (record {
        few_pairs = whole.declared.few_pairs;
        pairs = whole.declared.pairs;
        few_devices = let long = length-append before.plan.devs (dev ∷ []) in let room = fits.few in omega arith;
        devices = λ k lt. all k no_dev lt;
        one_on_a_queue = one_each before.plan.devs dev whole.declared.one_on_a_queue fits.free;
      });
      declarations_first = held.declarations_first;
    }

class_kept : (n : ℕ) (before : Before) (name : QueueName) (class : ℕ) → Held before → AddsClass before name class → Held (with_given n before (AClass name class))
class_kept n before name class held fits =
    let plan : Plan = before.plan in
    let now : PairPlan = with_class (pair_plan before.plan name.pair) name.side name.queue class in
    let next : Plan = record before.plan { pairs = slice_set before.plan.pairs name.pair now } in
    let whole : IsWhole before.plan = held.whole in
    let same = length-set_pairs before.plan.pairs name.pair now in
    let all : All IsPair (slice_set before.plan.pairs name.pair now) =
    All-set IsPair before.plan.pairs name.pair now (class_fits (pair_plan before.plan name.pair) name.side name.queue class (whole.declared.pairs name.pair fits.queue.declared) fits.small)
    (All-from_get_or IsPair before.plan.pairs no_pair whole.declared.pairs) in
    record {
      whole = declared_more before (slice_set before.plan.pairs name.pair now) before.plan.devs held fits.part (omega arith) (record {
        few_pairs = let few = whole.declared.few_pairs in omega arith;
        pairs = λ k lt. all k no_pair lt;
        few_devices = whole.declared.few_devices;
        devices = λ k lt. device_stays plan next (queue_classed plan name.pair name.side name.queue class) (dev_plan plan.devs k) (whole.declared.devices k lt);
        one_on_a_queue = whole.declared.one_on_a_queue;
      });
      declarations_first = held.declarations_first;
    }

ports_of_more : (switches : List SwitchPlan) (switch : SwitchPlan) → ports_in (switches ++ switch ∷ []) ≡ ports_in switches ++ switch.ports
ports_of_more switches switch = flat_map-append (λ s. s.ports) switches (switch ∷ []) ∙ ap (λ ports. ports_in switches ++ ports) (append-nil switch.ports)

switch_kept : (n : ℕ) (before : Before) (switch : SwitchPlan) → Held before → AddsSwitch before switch → Held (with_given n before (ASwitch switch))
switch_kept n before switch held fits =
    let plan : Plan = before.plan in
    let more : List SwitchPlan = before.plan.switches ++ switch ∷ [] in
    let next : Plan = with_lists plan more before.plan.steps before.plan.traffic in
    let whole : IsWhole before.plan = held.whole in
    let none = held.declarations_first fits.part in
    record {
      whole = record {
        declared = declared_in plan more before.plan.steps before.plan.traffic whole.declared;
        switches = record {
          few = let long = length-append before.plan.switches (switch ∷ []) in let room = fits.few in omega arith;
          each = All-push (IsSwitch next) before.plan.switches switch
              (All-weaker (IsSwitch plan) (IsSwitch next) (switch_stays plan next (omega arith)) before.plan.switches whole.switches.each) (switch_stays plan next (omega arith) switch fits.fits);
          apart = subst (AllPairs (λ (one other : ℕ). one ≡ other → ⊥)) (sym (ports_of_more before.plan.switches switch)) fits.ports.apart;
        };
        steps = no_steps next before.plan.steps none.0;
        few_steps = whole.few_steps;
        traffic = no_traffic next before.plan.traffic none.1;
        few_frames = whole.few_frames;
        few_bytes = whole.few_bytes;
        few_breaks = whole.few_breaks;
      };
      declarations_first = held.declarations_first;
    }

steps_kept : (n : ℕ) (before : Before) (steps : List Step) → Held before → AddsSteps before steps → Held (with_given n before (MoreSteps steps))
steps_kept n before steps held fits =
    let plan : Plan = before.plan in
    let whole : IsWhole before.plan = held.whole in
    let lines : List Line = map (λ step. record { line = n; step = step }) steps in
    let more : List Line = before.plan.steps ++ lines in
    let next : Plan = with_lists plan plan.switches more before.plan.traffic in
    let P : Line → Type 0 = λ line. IsMakeable next line.step in
    let long : length more ≡ length before.plan.steps + length lines = length-append before.plan.steps lines in
    let same : length lines ≡ length steps = length-map steps (λ step. record { line = n; step = step }) in
    record {
      whole = record {
        declared = declared_in plan plan.switches more before.plan.traffic whole.declared;
        switches = switches_of_other plan more before.plan.traffic whole.switches;
        steps = All-append P before.plan.steps lines
            (All-weaker (λ line. IsMakeable plan line.step) P (λ line h. makeable_by_other plan more before.plan.traffic line.step h) before.plan.steps whole.steps)
            (All-map P (λ step. record { line = n; step = step }) steps (λ k d lt. makeable_by_other plan more before.plan.traffic (get_or steps k d) (fits.makeable k d lt)));
        few_steps = let few = fits.few in omega arith;
        traffic = All-weaker (IsTraffic plan) (IsTraffic next) (traffic_in plan plan.switches more before.plan.traffic) before.plan.traffic whole.traffic;
        few_frames = whole.few_frames;
        few_bytes = whole.few_bytes;
        few_breaks = whole.few_breaks;
      };
      declarations_first = λ e. absurd (fits.part e);
    }

traffic_kept : (n : ℕ) (before : Before) (traffic : List Traffic) → Held before → AddsTraffic before traffic → Held (with_given n before (MoreTraffic traffic))
traffic_kept n before traffic held fits =
    let plan : Plan = before.plan in
    let whole : IsWhole before.plan = held.whole in
    let more : List Traffic = before.plan.traffic ++ traffic in
    let next : Plan = with_lists plan plan.switches before.plan.steps more in
    let stays : (item : Traffic) → IsTraffic plan item → IsTraffic next item = traffic_in plan plan.switches before.plan.steps more in
    record {
      whole = record {
        declared = declared_in plan plan.switches before.plan.steps more whole.declared;
        switches = switches_of_other plan before.plan.steps more whole.switches;
        steps = All-weaker (λ line. IsMakeable plan line.step) (λ line. IsMakeable next line.step) (λ line h. makeable_by_other plan before.plan.steps more line.step h) before.plan.steps whole.steps;
        few_steps = whole.few_steps;
        traffic = All-append (IsTraffic next) before.plan.traffic traffic
            (All-weaker (IsTraffic plan) (IsTraffic next) stays before.plan.traffic whole.traffic) (All-weaker (IsTraffic plan) (IsTraffic next) stays traffic fits.items);
        few_frames = let parts = sum-map-append frames_in before.plan.traffic traffic in let few = fits.few_frames in omega arith;
        few_bytes = let parts = sum-map-append traffic_bytes_in before.plan.traffic traffic in let few = fits.few_bytes in omega arith;
        few_breaks = λ pair. let parts = sum_by-append (λ x. cond (is_break_of pair x) 1 0) before.plan.traffic traffic in let few = fits.few_breaks pair in omega arith;
      };
      declarations_first = λ e. absurd (fits.part e);
    }

-- Lines that declare a whole plan still declare one with what a further line gives, if it fits beside them.
pub kept : (n : ℕ) (before : Before) (given : Given) → Held before → Fits before given → Held (with_given n before given)
kept n before Nothing held fits = held
kept n before (Host name) held fits = record { whole = held.whole; declarations_first = held.declarations_first }
kept n before (APair pair hosts) held fits = pair_kept n before pair hosts held fits
kept n before (ADevice dev) held fits = device_kept n before dev held fits
kept n before (AClass name class) held fits = class_kept n before name class held fits
kept n before (ASwitch switch) held fits = switch_kept n before switch held fits
kept n before StepsBegin held fits = record { whole = held.whole; declarations_first = λ e. cc e }
kept n before TrafficBegins held fits = record { whole = held.whole; declarations_first = λ e. cc e }
kept n before (MoreSteps steps) held fits = steps_kept n before steps held fits
kept n before (MoreTraffic traffic) held fits = traffic_kept n before traffic held fits

-- Before any line is read the plan is whole, and has neither steps nor traffic.
pub nothing_held : Held nothing_before
nothing_held = record {
  whole = record {
    declared = record { few_pairs = omega arith; pairs = λ k lt. absurd (omega arith); few_devices = omega arith; devices = λ k lt. absurd (omega arith); one_on_a_queue = λ j k lt. absurd (omega arith) };
    switches = record { few = omega arith; each = All-nil (IsSwitch nothing_before.plan); apart = λ i j d lt below. absurd (omega arith) };
    steps = All-nil (λ line. IsMakeable nothing_before.plan line.step);
    few_steps = omega arith;
    traffic = All-nil (IsTraffic nothing_before.plan);
    few_frames = omega arith;
    few_bytes = omega arith;
    few_breaks = λ pair. omega arith;
  };
  declarations_first = λ e. (refl, refl);
}

-- Each line

all_devices : (before : Before) → Held before → All (IsDevice before.plan) before.plan.devs
all_devices before held = All-from_get_or (IsDevice before.plan) before.plan.devs no_dev held.whole.declared.devices

-- What the words of a line give fits beside the lines before it, if these declare a whole plan.
pub words_fit : (before : Before) → Held before → (part : Part) → before.part ≡ part → (words : List (List ℕ)) → Filled words → Gives (Fits before) (words_line before part words)
words_fit before held Declarations is [] h = gives_ok (Fits before) Nothing tt
words_fit before held Steps is [] h = gives_ok (Fits before) Nothing tt
words_fit before held TrafficPart is [] h = gives_ok (Fits before) Nothing tt
words_fit before held Declarations is (word ∷ words) h = declaration_fits before is held.whole.switches.apart word words
words_fit before held Steps is (word ∷ words) h = step_fits before (λ e. cc (sym is ∙ e)) (all_devices before held) held.whole.switches.each word words h.1
words_fit before held TrafficPart is (word ∷ words) h =
    traffic_fits before (λ e. cc (sym is ∙ e)) held.whole.few_breaks held.whole.few_frames held.whole.few_bytes word words h.1

header_fits : (before : Before) (line : List ℕ) → Gives (Fits before) (header_line line)
header_fits before line =
    gives_then _ _ _ (gives_passed (not (is_text line)) (whole NotText)) (λ _ _.
    gives_then _ _ _ (gives_passed (not (is_header (words_of line))) (whole BadHeader)) (λ _ _. gives_ok (Fits before) Nothing tt))

-- What a line gives, be it header, comment or any other, fits beside lines before it that declare a whole plan.
pub line_fits : (n : ℕ) (before : Before) (line : List ℕ) → Held before → Gives (Fits before) (line_gives n before line)
line_fits n before line held =
    gives_if _ (n == 1) _ _ (header_fits before line)
    (gives_if _ (is_skipped line) _ _ (gives_ok (Fits before) Nothing tt)
    (gives_then _ _ _ (gives_passed (not (is_text line)) (whole NotText)) (λ _ _.
    words_fit before held before.part refl (words_of line) (filter_filled (slice_split (λ b. b == 32) line)))))

-- Lines that declare a whole plan declare one with any further line that has no fault.
pub after_held : (n : ℕ) (before : Before) (line : List ℕ) → Held before → Gives Held (after_line n before (line_gives n before line))
after_held n before line held = by (line_gives n before line) (line_fits n before line held)
  where
    by : (r : Result Given LineFault) → Gives (Fits before) r → Gives Held (after_line n before r)
    by (Ok given) fits = gives_ok Held (with_given n before given) (kept n before given held (fits.holds given refl))
    by (Err cause) fits = record { holds = λ x e. cc e }

then_held : (n : ℕ) (lines : List (List ℕ)) (r : Result Before ScriptFault) → ((before : Before) → Held before → Gives Held (read_lines (n + 1) before lines)) → Gives Held r → Gives Held (then_lines n lines r)
then_held n lines (Ok before) next h = next before (h.holds before refl)
then_held n lines (Err fault) next h = record { holds = λ x e. cc e }

read_held : (n : ℕ) (before : Before) (lines : List (List ℕ)) → Held before → Gives Held (read_lines n before lines)
read_held n before [] held = gives_ok Held before held
read_held n before (line ∷ lines) held =
    let P : Result Before ScriptFault → Type 0 = Gives Held in
    subst P (sym (next_line n before line lines))
    (then_held n lines (after_line n before (line_gives n before line)) (λ more h. read_held (n + 1) more lines h) (after_held n before line held))

whole_of : (r : Result Before ScriptFault) (plan : Plan) → Gives Held r → plan_of r ≡ Ok plan → IsWhole plan
whole_of (Ok before) plan h e = let same : before.plan ≡ plan = cc in subst IsWhole same (h.holds before refl).whole
whole_of (Err fault) plan h e = cc e

-- A script's plan is whole: pairs, devices, switches, steps and traffic are as a script can declare them.
pub plan_is_whole : (bytes : List ℕ) (plan : Plan) → script_of bytes ≡ Ok plan → IsWhole plan
plan_is_whole bytes plan e = whole_of (read_lines 1 nothing_before (lines_of bytes)) plan (read_held 1 nothing_before (lines_of bytes) nothing_held) e
