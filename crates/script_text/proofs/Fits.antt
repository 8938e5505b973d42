-- What a line gives beside the lines so far: it is new where it has a name, is as a script can declare it, and passes
-- no limit.
use Rattle.std.proofs.Common.{◌≡◌, ℕ, ◌+◌, ◌<◌, ◌≤◌, false, List, ◌++◌, length, map, sum, count_by}
use Rattle.std.specs.List.{All, AllPairs, list_any}
use Rattle.step_kinds.specs.Limits.{most_hosts, most_pairs, most_devices, most_switches, most_steps, most_traffic_frames, most_traffic_bytes, most_breaks, IsClass}
use Rattle.step_kinds.specs.declared.plan.PairPlan.{PairPlan}
use Rattle.step_kinds.specs.declared.plan.DevPlan.{DevPlan}
use Rattle.step_kinds.specs.declared.plan.SwitchPlan.{SwitchPlan}
use Rattle.step_kinds.specs.declared.plan.Traffic.{Traffic}
use Rattle.step_kinds.specs.declared.steps.Step.{Step}
use Rattle.pair_model.specs.DeclaredPlans.{IsPair, IsDevice, IsQueueOf}
use Rattle.pair_model.specs.Plans.{ports_in}
use Rattle.pair_model.specs.Switches.{IsMakeable, IsSwitch}
use Rattle.pair_model.specs.TrafficPlans.{frames_in, traffic_bytes_in, is_break_of, IsTraffic}
use Rattle.script_words.specs.Before.{Before, Given, Nothing, Host, APair, ADevice, AClass, ASwitch, StepsBegin, TrafficBegins, MoreSteps, MoreTraffic, has_name, pair_names, dev_names, switch_names}
use Rattle.script_words.specs.Declarations.{sits_on}
use Rattle.script_words.specs.declared.parts.Part.TheVariants.{Declarations}
use Rattle.script_words.specs.declared.parts.QueueName.{QueueName}

pub record AddsHost (before : Before) (name : List ℕ) : Type 0 where
  pub is_new : has_name before.hosts name ≡ false
  pub few : length before.hosts < most_hosts

pub record AddsPair (before : Before) (pair : PairPlan) : Type 0 where
  pub part : before.part ≡ Declarations
  pub is_new : has_name (pair_names before) pair.name ≡ false
  pub few : length before.plan.pairs < most_pairs
  pub fits : IsPair pair

pub record AddsDevice (before : Before) (dev : DevPlan) : Type 0 where
  pub is_new : has_name (dev_names before) dev.name ≡ false
  pub few : length before.plan.devs < most_devices
  pub fits : IsDevice before.plan dev
  pub free : list_any (sits_on dev.pair dev.side dev.queue) before.plan.devs ≡ false
  pub part : before.part ≡ Declarations

pub record AddsClass (before : Before) (name : QueueName) (class : ℕ) : Type 0 where
  pub part : before.part ≡ Declarations
  pub queue : IsQueueOf before.plan name.pair name.side name.queue
  pub small : IsClass class

-- ports: devices that are declared, none of which is a port yet or stands there twice
pub record AddsPorts (before : Before) (devs : List ℕ) : Type 0 where
  pub declared : All (λ dev. dev < length before.plan.devs) devs
  pub apart : AllPairs (λ one other. one ≡ other → ⊥) (ports_in before.plan.switches ++ devs)

pub record AddsSwitch (before : Before) (switch : SwitchPlan) : Type 0 where
  pub part : before.part ≡ Declarations
  pub is_new : has_name (switch_names before) switch.name ≡ false
  pub few : length before.plan.switches < most_switches
  pub fits : IsSwitch before.plan switch
  pub ports : AddsPorts before switch.ports

pub record AddsSteps (before : Before) (steps : List Step) : Type 0 where
  pub part : before.part ≡ Declarations → ⊥
  pub few : length before.plan.steps + length steps ≤ most_steps
  pub makeable : All (IsMakeable before.plan) steps

pub record AddsTraffic (before : Before) (traffic : List Traffic) : Type 0 where
  pub part : before.part ≡ Declarations → ⊥
  pub items : All (IsTraffic before.plan) traffic
  pub few_frames : sum (map frames_in before.plan.traffic) + sum (map frames_in traffic) ≤ most_traffic_frames
  pub few_bytes : sum (map traffic_bytes_in before.plan.traffic) + sum (map traffic_bytes_in traffic) ≤ most_traffic_bytes
  pub few_breaks : (pair : ℕ) → count_by (is_break_of pair) before.plan.traffic + count_by (is_break_of pair) traffic ≤ most_breaks

abbrev pub Fits : Before → Given → Type 0
Fits before Nothing = Unit {0}
Fits before (Host name) = AddsHost before name
Fits before (APair pair hosts) = AddsPair before pair
Fits before (ADevice dev) = AddsDevice before dev
Fits before (AClass name class) = AddsClass before name class
Fits before (ASwitch switch) = AddsSwitch before switch
Fits before StepsBegin = Unit {0}
Fits before TrafficBegins = Unit {0}
Fits before (MoreSteps steps) = AddsSteps before steps
Fits before (MoreTraffic traffic) = AddsTraffic before traffic
