use Rattle.std.proofs.Common.{◌≡◌, ◌<◌, List, [], ◌∷◌, ◌++◌, length, ◌∙◌, ap, arith}
use Rattle.step_kinds.specs.Limits.{most_pairs}
use Rattle.script_words.specs.Before.{Before}
use Rattle.script_words.specs.declared.parts.PairHosts.{PairHosts}
use Rattle.script_plan.specs.LinesSoFar.{before_with}
use Rattle.script_plan.proofs.Soundness.{pair_added}
use Rattle.script_plan.proofs.reader.Reader.add_pair.Goals as goal

pub invariant_of-self-2 : goal.invariant_of-self-2
invariant_of-self-2 c =
    let i = c.self.inside in
    let b : Before = before_with i.part i.hosts i.pairs i.devs i.switches i.steps i.traffic i.pair_hosts.items i.classed.items in
    let seen : length b.plan.pairs ≡ length c.args.self.now.plan.pairs = ap (λ before. length before.plan.pairs) c.self.view_is in
    let few : length b.plan.pairs < most_pairs = let room = c.requires.few in omega arith in
    record { sound = pair_added b c.push.new.self _ c.args.pair c.args.hosts c.self.invariant.sound c.requires.fits few c.in_ok-push.ensures.ok (c.push_reserved.ensures.items ∙ ap (λ (hosts : List PairHosts). hosts ++ c.args.hosts ∷ []) c.reserve.ensures.items); counted = c.self.invariant.counted }
