use Rattle.std.proofs.Common.{subst, sym}
use Rattle.bridge_pair.proofs.Facade.{link_steps_keep_promises}
use Rattle.bridge_pair.specs.Bridge.{Bridge}
use Rattle.bridge_pair.specs.Laws.{KeepsPromises}
use Rattle.step_kinds.specs.declared.names.Side.TheVariants.{A, B}
use Rattle.fabric_core.specs.PairBoxes.{pair_seen}
use Rattle.fabric_core.proofs.CleanedPairs.{can_forget, forgot_a, forgot_b}
use Rattle.fabric_core.proofs.Whole.{side_whole}
use Rattle.fabric_core.proofs.pairs.PairBox.clean.Goals as goal

pub forget_all-requires : goal.forget_all-requires
forget_all-requires c =
    let keeps = subst (λ (bridge : Bridge). KeepsPromises c.self.inside.pair bridge) (sym c.clean.ensures.after) (link_steps_keep_promises.clean c.self.inside.pair c.args.side) in
    can_forget c.self.inside.pair c.clean.new.self A c.self.inside.queues_a.items keeps (side_whole (pair_seen c.self.inside) A c.self.invariant)

pub invariant_of-self : goal.invariant_of-self
invariant_of-self c =
    let keeps = subst (λ (bridge : Bridge). KeepsPromises c.self.inside.pair bridge) (sym c.clean.ensures.after) (link_steps_keep_promises.clean c.self.inside.pair c.args.side) in
    forgot_a c.self.inside.pair c.clean.new.self c.forget_all.new.pair c.self.inside.queues_a.items c.self.inside.queues_b.items c.forget_all.new.queues.items c.self.invariant keeps
    c.forget_all.ensures.bridge c.forget_all.ensures.room c.forget_all.ensures.queues

pub forget_all-requires-in-B : goal.forget_all-requires-in-B
forget_all-requires-in-B c =
    let keeps = subst (λ (bridge : Bridge). KeepsPromises c.self.inside.pair bridge) (sym c.clean.ensures.after) (link_steps_keep_promises.clean c.self.inside.pair c.args.side) in
    can_forget c.self.inside.pair c.clean.new.self B c.self.inside.queues_b.items keeps (side_whole (pair_seen c.self.inside) B c.self.invariant)

pub invariant_of-self-in-B : goal.invariant_of-self-in-B
invariant_of-self-in-B c =
    let keeps = subst (λ (bridge : Bridge). KeepsPromises c.self.inside.pair bridge) (sym c.clean.ensures.after) (link_steps_keep_promises.clean c.self.inside.pair c.args.side) in
    forgot_b c.self.inside.pair c.clean.new.self c.forget_all-in-B.new.pair c.self.inside.queues_a.items c.self.inside.queues_b.items c.forget_all-in-B.new.queues.items c.self.invariant keeps
    c.forget_all-in-B.ensures.bridge c.forget_all-in-B.ensures.room c.forget_all-in-B.ensures.queues
