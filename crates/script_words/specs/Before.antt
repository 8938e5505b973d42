-- What the lines before a line gave, and what one line gives.
use Rattle.std.specs.Prelude.{ℕ, ◌+◌, Bool, Option, Some, None, Result, Ok, List, [], ◌∷◌, ◌++◌, map, slice_set, nat_lt, not, if◌then◌else◌}
use Rattle.std.specs.List.{list_any}
use Rattle.std.specs.Option.{option_map}
use Rattle.std.specs.Str.{bytes_eq}
use Rattle.step_kinds.specs.declared.names.Side.{Side}
use Rattle.step_kinds.specs.declared.names.Side.TheVariants.{A, B}
use Rattle.step_kinds.specs.declared.plan.PairPlan.{PairPlan}
use Rattle.step_kinds.specs.declared.plan.DevPlan.{DevPlan}
use Rattle.step_kinds.specs.declared.plan.SwitchPlan.{SwitchPlan}
use Rattle.step_kinds.specs.declared.plan.Plan.{Plan}
use Rattle.step_kinds.specs.declared.plan.Traffic.{Traffic}
use Rattle.step_kinds.specs.declared.steps.Step.{Step}
use Rattle.pair_model.specs.Plans.{side_plan, pair_plan}
use Rattle.script_words.specs.Tests.{◌>>=◌, fault_if, found_or, at}
use Rattle.script_words.specs.Words.{name_word, side_word, number_word}
use Rattle.script_words.specs.declared.parts.Part.{Part}
use Rattle.script_words.specs.declared.parts.Part.TheVariants.{Declarations, Steps, Traffic as TrafficPart}
use Rattle.script_words.specs.declared.parts.PairHosts.{PairHosts}
use Rattle.script_words.specs.declared.parts.SideName.{SideName}
use Rattle.script_words.specs.declared.parts.QueueName.{QueueName}
use Rattle.script_words.specs.declared.fault.Cause.{Cause}
use Rattle.script_words.specs.declared.fault.Cause.TheVariants.{UnknownName}
use Rattle.script_words.specs.declared.fault.LineFault.{LineFault}

-- The part that the next line stands in, the names of the hosts, the plan so far, the hosts of its pairs, and the
-- queues whose class was declared.
pub record Before : Type 0 where
  pub part : Part
  pub hosts : List (List ℕ)
  pub plan : Plan
  pub pair_hosts : List PairHosts
  pub classed : List QueueName

abbrev pub nothing_before : Before
nothing_before = record { part = Declarations; hosts = []; plan = record { pairs = []; devs = []; switches = []; steps = []; traffic = [] }; pair_hosts = []; classed = [] }

-- What one line gives.
pub data Given : Type 0 where
  Nothing : Given
  Host : (name : List ℕ) → Given
  APair : (pair : PairPlan) (hosts : PairHosts) → Given
  ADevice : (dev : DevPlan) → Given
  AClass : (queue : QueueName) (class : ℕ) → Given
  ASwitch : (switch : SwitchPlan) → Given
  StepsBegin : Given
  TrafficBegins : Given
  MoreSteps : (steps : List Step) → Given
  MoreTraffic : (traffic : List Traffic) → Given

-- the pair with a class for one queue of a side
abbrev pub with_class : PairPlan → Side → ℕ → ℕ → PairPlan
with_class pair A queue class = record pair { class_a = slice_set pair.class_a queue class }
with_class pair B queue class = record pair { class_b = slice_set pair.class_b queue class }

-- what is given by the lines up to this one, whose number is n
abbrev pub with_given : ℕ → Before → Given → Before
with_given n before Nothing = before
with_given n before (Host name) = record before { hosts = before.hosts ++ name ∷ [] }
with_given n before (APair pair hosts) =
    record before { plan = record before.plan { pairs = before.plan.pairs ++ pair ∷ [] }; pair_hosts = before.pair_hosts ++ hosts ∷ [] }
with_given n before (ADevice dev) = record before { plan = record before.plan { devs = before.plan.devs ++ dev ∷ [] } }
with_given n before (AClass name class) =
    record before {
      plan =
          record before.plan {
            pairs = slice_set before.plan.pairs name.pair (with_class (pair_plan before.plan name.pair) name.side name.queue class);
          };
      classed = before.classed ++ name ∷ [];
    }
with_given n before (ASwitch switch) = record before { plan = record before.plan { switches = before.plan.switches ++ switch ∷ [] } }
with_given n before StepsBegin = record before { part = Steps }
with_given n before TrafficBegins = record before { part = TrafficPart }
with_given n before (MoreSteps steps) =
    record before { plan = record before.plan { steps = before.plan.steps ++ map (λ step. record { line = n; step = step }) steps } }
with_given n before (MoreTraffic traffic) = record before { plan = record before.plan { traffic = before.plan.traffic ++ traffic } }

-- Names that are declared

-- the number of a name among those of its kind, in the order of their declaration
abbrev pub number_named : List (List ℕ) → List ℕ → Option ℕ
number_named [] name = None
number_named (first ∷ names) name = if bytes_eq first name then Some 0 else option_map (λ n. n + 1) (number_named names name)

abbrev pub has_name : List (List ℕ) → List ℕ → Bool
has_name names name = list_any (λ other. bytes_eq other name) names

abbrev pub pair_names : Before → List (List ℕ)
pair_names before = map (λ pair. pair.name) before.plan.pairs

abbrev pub dev_names : Before → List (List ℕ)
dev_names before = map (λ dev. dev.name) before.plan.devs

abbrev pub switch_names : Before → List (List ℕ)
switch_names before = map (λ switch. switch.name) before.plan.switches

-- the number of the pair that a word names
abbrev pub pair_word : Before → List ℕ → Result ℕ Cause
pair_word before word = do
  name ← name_word word
  found_or (number_named (pair_names before) name) UnknownName

-- the number of the device that a word names
abbrev pub dev_word : Before → List ℕ → Result ℕ Cause
dev_word before word = do
  name ← name_word word
  found_or (number_named (dev_names before) name) UnknownName

-- the number of the switch that a word names
abbrev pub switch_word : Before → List ℕ → Result ℕ Cause
switch_word before word = do
  name ← name_word word
  found_or (number_named (switch_names before) name) UnknownName

-- the queue of a side that a word names
abbrev pub queue_word : Before → ℕ → Side → List ℕ → Result ℕ Cause
queue_word before pair side word = do
  queue ← number_word word
  _ ← fault_if (not (nat_lt queue (side_plan (pair_plan before.plan pair) side).queues)) UnknownName
  Ok queue

-- the side of a pair that two words name, the first of which is word n of the line
abbrev pub named_side : Before → ℕ → List ℕ → List ℕ → Result SideName LineFault
named_side before n pair_text side_text = do
  pair ← at n (pair_word before pair_text)
  side ← at (n + 1) (side_word side_text)
  Ok (record { pair = pair; side = side })

-- the queue of a side of a pair that three words name, the first of which is word n of the line
abbrev pub named_queue : Before → ℕ → List ℕ → List ℕ → List ℕ → Result QueueName LineFault
named_queue before n pair_text side_text queue_text = do
  name ← named_side before n pair_text side_text
  queue ← at (n + 2) (queue_word before name.pair name.side queue_text)
  Ok (record { pair = name.pair; side = name.side; queue = queue })
