use Rattle.std.proofs.Common.{◌≡◌, ◌+◌, ◌≤◌, length, ap, arith}
use Rattle.step_kinds.specs.Limits.{most_steps}
use Rattle.script_words.specs.Before.{Before}
use Rattle.step_list.specs.Compact.{line_steps_of}
use Rattle.script_plan.specs.LinesSoFar.{before_with}
use Rattle.script_plan.proofs.Soundness.{steps_added}
use Rattle.script_plan.proofs.reader.Reader.add_steps.Goals as goal

pub invariant_of-self-2 : goal.invariant_of-self-2
invariant_of-self-2 c =
    let i = c.self.inside in
    let b : Before = before_with i.part i.hosts i.pairs i.devs i.switches i.steps i.traffic i.pair_hosts.items i.classed.items in
    let seen : length b.plan.steps ≡ length c.args.self.now.plan.steps = ap (λ before. length before.plan.steps) c.self.view_is in
    let few : length b.plan.steps + length (line_steps_of c.args.more) ≤ most_steps = let room = c.requires in omega arith in
    steps_added b c.push.new.self c.args.line i.step_count (line_steps_of c.args.more) c.count-count.result c.self.invariant c.count-count.ensures.value few c.in_ok-push.ensures.ok
