use Rattle.posted_queue.proofs.LevelLemmas.{level-taken}
use Rattle.posted_queue.proofs.level.LevelPart.take_first.Goals as goal

pub invariant_of-self : goal.invariant_of-self
invariant_of-self g c =
    level-taken c.self.inside.row.items c.take_first_from-write.new.row.items c.self.inside.last c.self.inside.room 0 c.take_first_from-write.result.part c.self.invariant c.take_first_from-write.ensures.taken
