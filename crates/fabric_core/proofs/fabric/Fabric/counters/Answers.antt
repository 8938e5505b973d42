use Rattle.std.proofs.Common.{◌≡◌, ◌∙◌, ap, get_or}
use Rattle.std.proofs.lemmas.List.{get_or_default}
use Rattle.step_kinds.specs.declared.plan.DevPlan.{DevPlan}
use Rattle.pair_model.specs.Plans.{dev_plan, no_dev}
use Rattle.fabric_rule.specs.Parts.{QueuePart, queue_of}
use Rattle.fabric_core.specs.Fabric.{FabricState, pair_of}
use Rattle.fabric_core.proofs.LogCounts.{counters_counted}
use Rattle.fabric_core.proofs.fabric.Fabric.counters.Goals as goal

pub returns : goal.returns
returns c = λ plan steps made.
    let devs : c.self.inside.devs.items ≡ c.args.self.now.devs = ap (λ (fabric : FabricState). fabric.devs) c.self.view_is in
    let there : c.index-device.result.now ≡ dev_plan c.args.self.now.devs c.args.dev =
    c.index-device.ensures ∙ ap (λ devs. get_or devs c.args.dev c.index-device.result.now) devs
    ∙ get_or_default c.args.self.now.devs c.args.dev c.index-device.result.now no_dev c.requires in
    c.counters.ensures ∙ ap (λ (part : QueuePart). part.counters) c.queue.ensures
    ∙ ap (λ (dev : DevPlan). (queue_of (pair_of c.args.self.now dev.pair) dev.side dev.queue).counters) there ∙ counters_counted plan steps c.args.self.now made c.args.dev c.requires
