use Rattle.std.proofs.Common.{◌∙◌}
use Rattle.ledger_model.specs.PlanLog.{device_counts, lane_counts, log_of_plan}
use Rattle.cluster_core.specs.Counts.{filled}
use Rattle.script_plan.specs.Scripts.{plan_in}
use Rattle.trace_command.proofs.WholeTraces.{ending_same}
use Rattle.trace_command.proofs.trace.push_counts.Goals as goal

pub returns : goal.returns
returns c =
    let script = c.args.script.now in
    let plan = plan_in script in
    ending_same script.declared c.deref.result.now (filled (lane_counts plan (log_of_plan plan))) c.deref-2.result.now (device_counts plan (log_of_plan plan))
    c.args.text.now.items c.push_ending.new.text.items c.push_ending.result
    (c.deref.ensures.value ∙ c.in_ok-lanes.ensures plan script.steps c.requires.made) (c.deref-2.ensures.value ∙ c.in_ok-devs.ensures plan script.steps c.requires.made)
    c.push_ending.ensures
