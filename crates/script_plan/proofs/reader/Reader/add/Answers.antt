use Rattle.script_plan.specs.LinesSoFar.{before_with}
use Rattle.script_plan.proofs.Soundness.{kept_beside}
use Rattle.script_words.specs.declared.parts.Part.TheVariants.{Steps, Traffic}
use Rattle.script_plan.proofs.reader.Reader.add.Goals as goal

pub invariant_of-self : goal.invariant_of-self
invariant_of-self c =
    let i = c.self.inside in
    kept_beside (before_with i.part i.hosts i.pairs i.devs i.switches i.steps i.traffic i.pair_hosts.items i.classed.items) i.step_count i.part c.push.new.self i.traffic c.self.invariant

pub invariant_of-self-in_err-push-in-Host : goal.invariant_of-self-in_err-push-in-Host
invariant_of-self-in_err-push-in-Host c =
    let i = c.self.inside in
    kept_beside (before_with i.part i.hosts i.pairs i.devs i.switches i.steps i.traffic i.pair_hosts.items i.classed.items) i.step_count i.part c.push.new.self i.traffic c.self.invariant

pub invariant_of-self-in-StepsBegin : goal.invariant_of-self-in-StepsBegin
invariant_of-self-in-StepsBegin c =
    let i = c.self-in-StepsBegin.inside in
    kept_beside (before_with i.part i.hosts i.pairs i.devs i.switches i.steps i.traffic i.pair_hosts.items i.classed.items) i.step_count Steps i.hosts i.traffic c.self-in-StepsBegin.invariant

pub invariant_of-self-in-TrafficBegins : goal.invariant_of-self-in-TrafficBegins
invariant_of-self-in-TrafficBegins c =
    let i = c.self-in-TrafficBegins.inside in
    kept_beside (before_with i.part i.hosts i.pairs i.devs i.switches i.steps i.traffic i.pair_hosts.items i.classed.items) i.step_count Traffic i.hosts i.traffic c.self-in-TrafficBegins.invariant

pub invariant_of-self-in-Continue-branch-6 : goal.invariant_of-self-in-Continue-branch-6
invariant_of-self-in-Continue-branch-6 c =
    let i = c.self-in-Frame.inside in
    kept_beside (before_with i.part i.hosts i.pairs i.devs i.switches i.steps i.traffic i.pair_hosts.items i.classed.items) i.step_count i.part i.hosts c.push_frame.new.self c.self-in-Frame.invariant

pub invariant_of-self-in_err-push_frame-in-Frame : goal.invariant_of-self-in_err-push_frame-in-Frame
invariant_of-self-in_err-push_frame-in-Frame c =
    let i = c.self-in-Frame.inside in
    kept_beside (before_with i.part i.hosts i.pairs i.devs i.switches i.steps i.traffic i.pair_hosts.items i.classed.items) i.step_count i.part i.hosts c.push_frame.new.self c.self-in-Frame.invariant

pub invariant_of-self-in-Continue-branch-7 : goal.invariant_of-self-in-Continue-branch-7
invariant_of-self-in-Continue-branch-7 c =
    let i = c.self-in-Flood.inside in
    kept_beside (before_with i.part i.hosts i.pairs i.devs i.switches i.steps i.traffic i.pair_hosts.items i.classed.items) i.step_count i.part i.hosts c.push_flood.new.self c.self-in-Flood.invariant

pub invariant_of-self-in_err-push_flood-in-Flood : goal.invariant_of-self-in_err-push_flood-in-Flood
invariant_of-self-in_err-push_flood-in-Flood c =
    let i = c.self-in-Flood.inside in
    kept_beside (before_with i.part i.hosts i.pairs i.devs i.switches i.steps i.traffic i.pair_hosts.items i.classed.items) i.step_count i.part i.hosts c.push_flood.new.self c.self-in-Flood.invariant

pub invariant_of-self-in-Continue-branch-8 : goal.invariant_of-self-in-Continue-branch-8
invariant_of-self-in-Continue-branch-8 c =
    let i = c.self-in-Break.inside in
    kept_beside (before_with i.part i.hosts i.pairs i.devs i.switches i.steps i.traffic i.pair_hosts.items i.classed.items) i.step_count i.part i.hosts c.push_break.new.self c.self-in-Break.invariant

pub invariant_of-self-in_err-push_break-in-Break : goal.invariant_of-self-in_err-push_break-in-Break
invariant_of-self-in_err-push_break-in-Break c =
    let i = c.self-in-Break.inside in
    kept_beside (before_with i.part i.hosts i.pairs i.devs i.switches i.steps i.traffic i.pair_hosts.items i.classed.items) i.step_count i.part i.hosts c.push_break.new.self c.self-in-Break.invariant
