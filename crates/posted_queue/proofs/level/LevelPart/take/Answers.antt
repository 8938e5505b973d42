use Rattle.posted_queue.proofs.LevelLemmas.{level-taken}
use Rattle.posted_queue.proofs.level.LevelPart.take.Goals as goal

pub invariant_of-self-2 : goal.invariant_of-self-2
invariant_of-self-2 g c =
    level-taken c.self.inside.row.items c.take_from.new.row.items c.self.inside.last c.self.inside.room c.args.place c.in_ok-write.field-0.part c.self.invariant c.in_ok-write.ensures.taken
