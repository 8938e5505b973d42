-- The lines so far by their parts.
use Rattle.std.specs.Prelude.{ℕ, List}
use Rattle.step_kinds.specs.declared.plan.PairPlan.{PairPlan}
use Rattle.step_kinds.specs.declared.plan.DevPlan.{DevPlan}
use Rattle.step_kinds.specs.declared.plan.SwitchPlan.{SwitchPlan}
use Rattle.step_kinds.specs.declared.plan.Line.{Line}
use Rattle.step_kinds.specs.declared.plan.Traffic.{Traffic}
use Rattle.script_words.specs.Before.{Before}
use Rattle.script_words.specs.declared.parts.Part.{Part}
use Rattle.script_words.specs.declared.parts.PairHosts.{PairHosts}
use Rattle.script_words.specs.declared.parts.QueueName.{QueueName}

abbrev pub before_with : Part → List (List ℕ) → List PairPlan → List DevPlan → List SwitchPlan → List Line → List Traffic → List PairHosts → List QueueName → Before
before_with part hosts pairs devs switches steps traffic pair_hosts classed =
    record {
      part = part;
      hosts = hosts;
      plan = record { pairs = pairs; devs = devs; switches = switches; steps = steps; traffic = traffic };
      pair_hosts = pair_hosts;
      classed = classed;
    }
