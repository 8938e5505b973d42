-- What a line gives keeps what holds of the lines so far.
use Rattle.std.proofs.Common.{◌≡◌, ℕ, zero, suc, ◌+◌, ◌<◌, ◌≤◌, List, [], ◌∷◌, ◌++◌, length, slice_index, slice_index_or, slice_set, refl, sym, ◌∙◌, ap, subst, arith}
use Rattle.std.specs.List.{All}
use Rattle.std.proofs.lemmas.List.{get_or_append_left, length-append, length-map}
use Rattle.std.proofs.lemmas.List.Elements.{All-push, All-set, All-weaker}
use Rattle.step_kinds.specs.Limits.{IsClass, most_pairs, most_steps}
use Rattle.step_kinds.specs.declared.names.Side.{Side}
use Rattle.step_kinds.specs.declared.names.Side.TheVariants.{A, B}
use Rattle.step_kinds.specs.declared.plan.PairPlan.{PairPlan}
use Rattle.step_kinds.specs.declared.plan.DevPlan.{DevPlan}
use Rattle.step_kinds.specs.declared.plan.Line.{Line}
use Rattle.step_kinds.specs.declared.plan.SwitchPlan.{SwitchPlan}
use Rattle.step_kinds.specs.declared.plan.Plan.{Plan}
use Rattle.step_kinds.specs.declared.plan.Traffic.{Traffic}
use Rattle.step_kinds.specs.declared.steps.Step.{Step}
use Rattle.pair_model.specs.DeclaredPlans.{IsPair, IsDevice, IsQueueOf, AreClasses}
use Rattle.pair_model.specs.Plans.{side_plan, pair_plan, no_pair}
use Rattle.pair_model.specs.Switches.{IsSwitch}
use Rattle.script_words.specs.Before.{Before, with_class}
use Rattle.step_list.specs.Compact.{lines_with}
use Rattle.script_words.specs.declared.parts.PairHosts.{PairHosts}
use Rattle.script_words.specs.declared.parts.Part.{Part}
use Rattle.script_words.specs.declared.parts.QueueName.{QueueName}
use Rattle.script_plan.specs.Sound.{IsSound, IsScriptKept}
use Rattle.script_plan.proofs.Classes.{length-set_pairs}

-- A device stays one where the queues do.
pub device_stays : (p q : Plan) → ((k : ℕ) (side : Side) (queue : ℕ) → IsQueueOf p k side queue → IsQueueOf q k side queue) → (dev : DevPlan) → IsDevice p dev → IsDevice q dev
device_stays p q stays dev h = record { queue = stays dev.pair dev.side dev.queue h.queue; address = h.address; thresholds = h.thresholds }

-- a queue of a declared pair stays one where there is one more pair
pub queue_stays : (plan : Plan) (pair : PairPlan) (k : ℕ) (side : Side) (queue : ℕ) → IsQueueOf plan k side queue → IsQueueOf (record plan { pairs = plan.pairs ++ pair ∷ [] }) k side queue
queue_stays plan pair k side queue h =
    let P : PairPlan → Type 0 = λ p. queue < (side_plan p side).queues in
    record {
      declared = let long = length-append plan.pairs (pair ∷ []) in let before = h.declared in omega arith;
      among = subst P (sym (get_or_append_left plan.pairs (pair ∷ []) no_pair k h.declared)) h.among;
    }

-- A switch stays one where no device goes.
pub switch_stays : (p q : Plan) → length p.devs ≤ length q.devs → (switch : SwitchPlan) → IsSwitch p switch → IsSwitch q switch
switch_stays p q more switch is = record { ports = is.ports; declared = λ k d lt. let was = is.declared k d lt in omega arith }

-- so do all
switches_stay : (p q : Plan) → length p.devs ≤ length q.devs → (switches : List SwitchPlan) → All (IsSwitch p) switches → All (IsSwitch q) switches
switches_stay p q more switches are = All-weaker (IsSwitch p) (IsSwitch q) (switch_stays p q more) switches are

-- one more pair
added_pair : (before : Before) (pair : PairPlan) (hosts : PairHosts) → IsSound before → IsPair pair → length before.plan.pairs < most_pairs
    → IsSound (record before { plan = record before.plan { pairs = before.plan.pairs ++ pair ∷ [] }; pair_hosts = before.pair_hosts ++ hosts ∷ [] })
added_pair before pair hosts sound fits few =
    let plan : Plan = record before.plan { pairs = before.plan.pairs ++ pair ∷ [] } in
    let pairs = length-append before.plan.pairs (pair ∷ []) in
    let all_hosts = length-append before.pair_hosts (hosts ∷ []) in
    let each = sound.hosts in
    record {
      pairs = All-push IsPair before.plan.pairs pair sound.pairs fits;
      few_pairs = omega arith;
      devices = All-weaker (IsDevice before.plan) (IsDevice plan) (device_stays before.plan plan (queue_stays before.plan pair)) before.plan.devs sound.devices;
      switches = switches_stay before.plan plan (omega arith) before.plan.switches sound.switches;
      hosts = omega arith;
      few_steps = sound.few_steps;
    }

-- Sound lines of a script stay sound with one more pair that can be declared, while pairs are fewer than the most.
pub pair_added : (before : Before) (more : List PairPlan) (more_hosts : List PairHosts) (pair : PairPlan) (hosts : PairHosts) → IsSound before → IsPair pair → length before.plan.pairs < most_pairs
    → more ≡ before.plan.pairs ++ pair ∷ [] → more_hosts ≡ before.pair_hosts ++ hosts ∷ [] → IsSound (record before { plan = record before.plan { pairs = more }; pair_hosts = more_hosts })
pair_added before more more_hosts pair hosts sound fits few e e_hosts =
    subst (λ pairs. IsSound (record before { plan = record before.plan { pairs = pairs }; pair_hosts = more_hosts })) (sym e)
    (subst (λ all. IsSound (record before { plan = record before.plan { pairs = before.plan.pairs ++ pair ∷ [] }; pair_hosts = all })) (sym e_hosts) (added_pair before pair hosts sound fits few))

-- one more device
pub device_added : (before : Before) (more : List DevPlan) (dev : DevPlan) → IsSound before → IsDevice before.plan dev → more ≡ before.plan.devs ++ dev ∷ []
    → IsSound (record before { plan = record before.plan { devs = more } })
device_added before more dev sound fits e =
    let plan : Plan = record before.plan { devs = more } in
    let stays : (d : DevPlan) → IsDevice before.plan d → IsDevice plan d = device_stays before.plan plan (λ k side queue h. record { declared = h.declared; among = h.among }) in
    let long : length more ≡ length before.plan.devs + length (dev ∷ []) = ap length e ∙ length-append before.plan.devs (dev ∷ []) in
    record {
      pairs = sound.pairs;
      few_pairs = sound.few_pairs;
      devices = subst (All (IsDevice plan)) (sym e) (All-push (IsDevice plan) before.plan.devs dev (All-weaker (IsDevice before.plan) (IsDevice plan) stays before.plan.devs sound.devices) (stays dev fits));
      switches = switches_stay before.plan plan (omega arith) before.plan.switches sound.switches;
      hosts = sound.hosts;
      few_steps = sound.few_steps;
    }

-- one more switch
pub switch_added : (before : Before) (more : List SwitchPlan) (switch : SwitchPlan) → IsSound before → IsSwitch before.plan switch → more ≡ before.plan.switches ++ switch ∷ []
    → IsSound (record before { plan = record before.plan { switches = more } })
switch_added before more switch sound fits e =
    let plan : Plan = record before.plan { switches = more } in
    record {
      pairs = sound.pairs;
      few_pairs = sound.few_pairs;
      devices = All-weaker (IsDevice before.plan) (IsDevice plan)
          (device_stays before.plan plan (λ k side queue h. record { declared = h.declared; among = h.among })) before.plan.devs sound.devices;
      switches = subst (All (IsSwitch plan)) (sym e)
          (All-push (IsSwitch plan) before.plan.switches switch (switches_stay before.plan plan (omega arith) before.plan.switches sound.switches) (switch_stays before.plan plan (omega arith) switch fits));
      hosts = sound.hosts;
      few_steps = sound.few_steps;
    }

-- the classes of a side with one more
classes_set : (classes : List ℕ) (queue class k : ℕ) → AreClasses classes → IsClass class → slice_index (slice_set classes queue class) k < 8
classes_set [] queue class k h small = h k
classes_set (x ∷ classes) zero class zero h small = small
classes_set (x ∷ classes) zero class (suc k) h small = h (suc k)
classes_set (x ∷ classes) (suc queue) class zero h small = h 0
classes_set (x ∷ classes) (suc queue) class (suc k) h small = classes_set classes queue class k (λ j. h (suc j)) small

-- a pair with other classes
abbrev with_classes : PairPlan → List ℕ → List ℕ → PairPlan
with_classes pair a b = record pair { class_a = a; class_b = b }

classes_fit : (pair : PairPlan) (a b : List ℕ) → IsPair pair → AreClasses a → AreClasses b → IsPair (with_classes pair a b)
classes_fit pair a b h are_a are_b = record {
  side_a = h.side_a;
  side_b = h.side_b;
  known_transport = h.known_transport;
  mtu = h.mtu;
  long_header = h.long_header;
  classes_a = are_a;
  classes_b = are_b;
  up = λ t. let agree = h.up t in record { versions = agree.versions; queues = agree.queues; windows = agree.windows; sizes = agree.sizes };
  raw = h.raw;
}

-- A pair that a script can declare still is one when one of its queues gets a class from 0 to 7.
pub class_fits : (pair : PairPlan) (side : Side) (queue class : ℕ) → IsPair pair → IsClass class → IsPair (with_class pair side queue class)
class_fits pair A queue class h small =
    classes_fit pair (slice_set pair.class_a queue class) pair.class_b h (λ k. classes_set pair.class_a queue class k h.classes_a small) h.classes_b
class_fits pair B queue class h small =
    classes_fit pair pair.class_a (slice_set pair.class_b queue class) h h.classes_a (λ k. classes_set pair.class_b queue class k h.classes_b small)

-- a class leaves the sides of a pair
sides_stay : (pair : PairPlan) (side own : Side) (queue class : ℕ) → side_plan (with_class pair side queue class) own ≡ side_plan pair own
sides_stay pair A A queue class = refl
sides_stay pair A B queue class = refl
sides_stay pair B A queue class = refl
sides_stay pair B B queue class = refl

-- one pair among others with another that has the same sides
among_set : (pairs : List PairPlan) (k j : ℕ) (now : PairPlan) (own : Side) → side_plan now own ≡ side_plan (slice_index_or pairs k no_pair) own
    → side_plan (slice_index_or (slice_set pairs k now) j no_pair) own ≡ side_plan (slice_index_or pairs j no_pair) own
among_set [] k j now own e = refl
among_set (p ∷ pairs) zero zero now own e = e
among_set (p ∷ pairs) zero (suc j) now own e = refl
among_set (p ∷ pairs) (suc k) zero now own e = refl
among_set (p ∷ pairs) (suc k) (suc j) now own e = among_set pairs k j now own e

-- A queue of a plan's pair still is one when a queue of any pair of the plan gets a traffic class.
pub queue_classed : (plan : Plan) (pair : ℕ) (whose : Side) (among class : ℕ) (k : ℕ) (side : Side) (queue : ℕ) → IsQueueOf plan k side queue
    → IsQueueOf (record plan { pairs = slice_set plan.pairs pair (with_class (pair_plan plan pair) whose among class) }) k side queue
queue_classed plan pair whose among class k side queue h =
    let now : PairPlan = with_class (pair_plan plan pair) whose among class in
    record {
      declared = let same = length-set_pairs plan.pairs pair now in let before = h.declared in omega arith;
      among = subst (λ own. queue < own.queues) (sym (among_set plan.pairs pair k now side (sides_stay (pair_plan plan pair) whose side among class))) h.among;
    }

-- Sound lines of a script stay sound when a queue of one of their pairs gets a class from 0 to 7.
pub class_added : (before : Before) (more : List PairPlan) (classed : List QueueName) (pair : ℕ) (side : Side) (queue class : ℕ) → IsSound before → pair < length before.plan.pairs → IsClass class
    → more ≡ slice_set before.plan.pairs pair (with_class (pair_plan before.plan pair) side queue class) → IsSound (record before { plan = record before.plan { pairs = more }; classed = classed })
class_added before more classed pair side queue class sound lt small e =
    let now : PairPlan = with_class (pair_plan before.plan pair) side queue class in
    let set : List PairPlan = slice_set before.plan.pairs pair now in
    let plan : Plan = record before.plan { pairs = set } in
    let all : IsSound (record before { plan = plan; classed = classed }) = record {
      pairs = All-set IsPair before.plan.pairs pair now (class_fits (pair_plan before.plan pair) side queue class (sound.pairs pair no_pair lt) small) sound.pairs;
      few_pairs = let same = length-set_pairs before.plan.pairs pair now in let few = sound.few_pairs in omega arith;
      devices = All-weaker (IsDevice before.plan) (IsDevice plan) (device_stays before.plan plan (queue_classed before.plan pair side queue class)) before.plan.devs sound.devices;
      switches = switches_stay before.plan plan (omega arith) before.plan.switches sound.switches;
      hosts = let same = length-set_pairs before.plan.pairs pair now in let each = sound.hosts in omega arith;
      few_steps = sound.few_steps;
    } in
    subst (λ pairs. IsSound (record before { plan = record before.plan { pairs = pairs }; classed = classed })) (sym e) all

-- more steps, counted
pub steps_added : (before : Before) (more : List Line) (line count : ℕ) (steps : List Step) (n : ℕ) → IsScriptKept count before → n ≡ length steps
    → length before.plan.steps + length steps ≤ most_steps → more ≡ before.plan.steps ++ lines_with line steps → IsScriptKept (count + n) (record before { plan = record before.plan { steps = more } })
steps_added before more line count steps n kept own few e =
    let plan : Plan = record before.plan { steps = more } in
    let sound = kept.sound in
    let long : length more ≡ length before.plan.steps + length (lines_with line steps) = ap length e ∙ length-append before.plan.steps (lines_with line steps) in
    let same : length (lines_with line steps) ≡ length steps = length-map steps (λ step. record { line = line; step = step }) in
    record {
      sound = record {
        pairs = sound.pairs;
        few_pairs = sound.few_pairs;
        devices = All-weaker (IsDevice before.plan) (IsDevice plan)
            (device_stays before.plan plan (λ k side queue h. record { declared = h.declared; among = h.among })) before.plan.devs sound.devices;
        switches = switches_stay before.plan plan (omega arith) before.plan.switches sound.switches;
        hosts = sound.hosts;
        few_steps = omega arith;
      };
      counted = let counted = kept.counted in omega arith;
    }

-- the lines so far are kept where their part, their hosts or their traffic are others
pub kept_beside : (before : Before) (count : ℕ) (part : Part) (hosts : List (List ℕ)) (traffic : List Traffic) → IsScriptKept count before → IsScriptKept count (record before { part = part; hosts = hosts; plan = record before.plan { traffic = traffic } })
kept_beside before count part hosts traffic kept =
    let plan : Plan = record before.plan { traffic = traffic } in
    let sound = kept.sound in
    record {
      sound = record {
        pairs = sound.pairs;
        few_pairs = sound.few_pairs;
        devices = All-weaker (IsDevice before.plan) (IsDevice plan)
            (device_stays before.plan plan (λ k side queue h. record { declared = h.declared; among = h.among })) before.plan.devs sound.devices;
        switches = switches_stay before.plan plan (omega arith) before.plan.switches sound.switches;
        hosts = sound.hosts;
        few_steps = sound.few_steps;
      };
      counted = kept.counted;
    }
