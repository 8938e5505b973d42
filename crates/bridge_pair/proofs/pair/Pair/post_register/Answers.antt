use Rattle.bridge_pair.proofs.Places.{register_has_place}
use Rattle.bridge_pair.proofs.pair.Pair.post_register.Goals as goal

pub post-requires-clause-place : goal.post-requires-clause-place
post-requires-clause-place c =
    rw c.new-write.ensures (register_has_place c.self.inside.b.memory c.args.arrival c.requires.register)

pub post-requires-in-B-clause-place : goal.post-requires-in-B-clause-place
post-requires-in-B-clause-place c =
    rw c.new-write.ensures (register_has_place c.self.inside.a.memory c.args.arrival c.requires.register)
