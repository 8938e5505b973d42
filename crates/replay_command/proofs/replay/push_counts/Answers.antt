use Rattle.std.proofs.Common.{◌∙◌}
use Rattle.script_plan.specs.Scripts.{plan_in}
use Rattle.replay_command.proofs.Reports.{devices_known, ending_added, lanes_known}
use Rattle.replay_command.proofs.replay.push_counts.Goals as goal

pub push_ending-requires : goal.push_ending-requires
push_ending-requires c =
    let plan = plan_in c.args.script.now in
    record {
      known_pairs = lanes_known plan _ (c.deref.ensures.value ∙ c.in_ok-lanes.ensures plan plan.steps c.requires.made);
      all_devices = devices_known plan _ (c.deref-2.ensures.value ∙ c.in_ok-devs.ensures plan plan.steps c.requires.made);
    }

pub returns : goal.returns
returns c =
    let plan = plan_in c.args.script.now in
    ending_added plan c.deref.result.now c.deref-2.result.now c.args.text.now.items c.push_ending.new.text.items c.push_ending.result
    (c.deref.ensures.value ∙ c.in_ok-lanes.ensures plan plan.steps c.requires.made) (c.deref-2.ensures.value ∙ c.in_ok-devs.ensures plan plan.steps c.requires.made)
    c.push_ending.ensures
