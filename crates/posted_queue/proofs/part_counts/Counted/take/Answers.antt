use Rattle.posted_queue.proofs.CountLemmas.{counted-taken, counted-remove}
use Rattle.posted_queue.proofs.part_counts.Counted.take.Goals as goal

pub overflow_sub-self-2 : goal.overflow_sub-self-2
overflow_sub-self-2 g c =
    let class_is = c.class-class.ensures.value in
    rw class_is
    (counted-taken g.W.Ordered.order (g.P.Part.state c.self.inside.part).writes c.self.inside.len c.self.inside.tally c.args.place c.in_ok-write.write c.self.invariant c.in_ok-write.ensures.write (rw (← class_is) c.class-class.ensures.small))

pub invariant_of-self-2 : goal.invariant_of-self-2
invariant_of-self-2 g c =
    let class_is = c.class-class.ensures.value in
    rw (class_is, c.in_ok-write.ensures.writes)
    (counted-remove g.W.Ordered.order (g.P.Part.state c.self.inside.part).writes c.self.inside.len c.self.inside.tally c.args.place c.in_ok-write.write c.self.invariant c.in_ok-write.ensures.write (rw (← class_is) c.class-class.ensures.small))
